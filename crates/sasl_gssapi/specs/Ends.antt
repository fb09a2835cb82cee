-- What a client's end and its steps are, however the object lies in memory: `says` is what an
-- object is.
use Rattle.std.specs.Prelude.{ℕ, ◌≤◌, Bool, true, List, length}
use Rattle.std.specs.declared.dyn_box.DynBox.{DynBox}
use Rattle.std.specs.declared.alloc.Global.{Global}
use Rattle.mech_objects.specs.Meaning.{MechSays}
use Rattle.sasl_layer.specs.declared.layer.Wish.{Wish}
use Rattle.sasl_layer.specs.State.{LayerState}
use Rattle.sasl_gssapi.specs.declared.steps.Agreed.{Agreed}
use Rattle.sasl_gssapi.specs.declared.init.SaslInit.{SaslInit}
use Rattle.sasl_gssapi.specs.declared.init.SaslInit.TheVariants as ends
use Rattle.sasl_gssapi.specs.declared.init.SaslStep.{SaslStep}
use Rattle.sasl_gssapi.specs.declared.init.SaslStep.TheVariants as steps
use Rattle.sasl_gssapi.specs.Objects.{is_waiting}
use Rattle.sasl_layer.specs.Layered.{IsNew}
use Rattle.sasl_gssapi.specs.Choosing.{most}

-- a client's end, by what is due next: a token of Kerberos, or the offer
pub data InitMeans : Type 0 where
  Asks : (wish : Wish) → (mech : MechSays) → InitMeans
  Waits : (agreed : Agreed) → InitMeans

-- what comes of a step
pub data StepMeans : Type 0 where
  More : (end : InitMeans) → (message : List ℕ) → StepMeans
  Done : (end : LayerState) → (message : List ℕ) → StepMeans

-- the same of the program's own
abbrev pub init_means : {X : Type 0} → {D : X → Type 0} → (DynBox X Global D → MechSays)
    → SaslInit X D → InitMeans
init_means says (ends.Asks asking) = Asks asking.wish (says asking.mech)
init_means says (ends.Waits agreed) = Waits agreed

abbrev pub step_means : {X : Type 0} → {D : X → Type 0} → (DynBox X Global D → MechSays)
    → SaslStep X D → StepMeans
step_means says (steps.More end message) = More (init_means says end) message
step_means says (steps.Done end message) = Done end message

-- the message is no longer than one may be, and an end that is done sent and read nothing yet
abbrev pub IsNewStep : StepMeans → Type 0
IsNewStep (More end message) = length message ≤ most
IsNewStep (Done end message) = IsNew end × (length message ≤ most)

-- ---- the same for crates above, where an object is its table and its value

-- what a box is, by what its table and its value are
abbrev pub boxed : {X : Type 0} → {D : X → Type 0} → ((x : X) × D x → MechSays)
    → DynBox X Global D → MechSays
boxed says b = says (b.vtable, b.value)

-- what the code's end is
abbrev pub init_by : {X : Type 0} → {D : X → Type 0} → SaslInit X D → ((x : X) × D x → MechSays)
    → InitMeans
init_by end says = init_means (boxed says) end

-- what the code's step comes to
abbrev pub step_by : {X : Type 0} → {D : X → Type 0} → SaslStep X D → ((x : X) × D x → MechSays)
    → StepMeans
step_by step says = step_means (boxed says) step

-- ---- how far the object is

-- the object waits
abbrev pub holds : InitMeans → Bool
holds (Asks wish mech) = is_waiting mech.stage
holds (Waits agreed) = true

abbrev pub holds_after : StepMeans → Bool
holds_after (More end message) = holds end
holds_after (Done end message) = true
