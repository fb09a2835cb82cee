use Rattle.std.proofs.Common.{◌∙◌, arith}
use Rattle.std.proofs.lemmas.List.{take_all}
use Rattle.aes_cts.proofs.forward.ForwardKey.new256.Goals as goal

pub returns : goal.returns
returns c = c.expanded.ensures ∙ take_all 32 c.args.key.now (omega arith)
