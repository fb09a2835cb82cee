-- Laws of a layer.
use Rattle.std.specs.Prelude.{◌≡◌, ℕ, List, length}
use Rattle.sasl_layer.specs.State.{LayerState}
use Rattle.sasl_layer.specs.Layered.{size_carried, carried}
use Rattle.sasl_layer.specs.Lines.{NextLaw, FirstLaw}
use Rattle.sasl_layer.specs.Runs.{FrontLaw}

-- what is proved of a layer: how long its messages are, and what is read of them
pub record Laws : Type 0 where
  pub long : (l : LayerState) (confounder octets : List ℕ) → length confounder ≡ 16
      → length (carried l confounder octets) ≡ size_carried l.facts.layer (length octets)
  pub next : NextLaw
  pub first : FirstLaw
  -- what an end read under a layer is a front of what the other sent
  pub front : FrontLaw
