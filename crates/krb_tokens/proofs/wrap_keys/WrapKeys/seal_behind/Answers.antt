use mathlib.Core.Sum.{⊎_set}
use Rattle.std.proofs.Math.Logic.{∥∥₁_elim}
use Rattle.std.proofs.Props.{props}
use Rattle.krb_tokens.proofs.wrap_keys.WrapKeys.seal_behind.Goals as goal

pub returns-clause-value : goal.returns-clause-value
returns-clause-value c = ∥∥₁_elim c.args.self.now.own_usage (search props) (λ kept. c.seal_behind.ensures.value _ _ kept)

pub returns-clause-opens : goal.returns-clause-opens
returns-clause-opens c = ∥∥₁_elim c.args.self.now.own_usage (hlevel (props, ⊎_set)) (λ kept. c.seal_behind.ensures.opens _ _ kept)
