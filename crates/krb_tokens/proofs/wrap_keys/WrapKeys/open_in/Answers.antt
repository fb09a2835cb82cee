use mathlib.Core.Sum.{⊎_set}
use Rattle.std.proofs.Math.Logic.{∥∥₁_elim}
use Rattle.std.proofs.Props.{props}
use Rattle.krb_tokens.proofs.wrap_keys.WrapKeys.open_in.Goals as goal

pub returns : goal.returns
returns c = ∥∥₁_elim c.args.self.now.other_usage (hlevel (props, ⊎_set)) (λ kept. c.open_in.ensures.value _ _ kept)
