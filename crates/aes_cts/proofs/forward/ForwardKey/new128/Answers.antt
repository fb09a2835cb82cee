use Rattle.std.proofs.Common.{◌∙◌}
use Rattle.std.proofs.lemmas.List.{take_at}
use Rattle.aes_cts.proofs.forward.ForwardKey.new128.Goals as goal

pub returns : goal.returns
returns c = c.expanded.ensures ∙ rw c.copy_from_slice.ensures.after (take_at c.args.key.now _ 16 c.told-key)
