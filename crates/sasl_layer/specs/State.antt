-- An end under a layer.
use Rattle.std.specs.Prelude.{ℕ}
use Rattle.krb_tokens.specs.declared.end.Side.{Side}
use Rattle.sasl_layer.specs.declared.facts.LayerFacts.{LayerFacts}

-- what both ends agreed on, the side of this one, the number of its next message, and the one of
-- the other end's next message
pub record LayerState : Type 0 where
  pub facts : LayerFacts
  pub side : Side
  pub sends : ℕ
  pub takes : ℕ
