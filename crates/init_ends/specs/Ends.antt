-- What an initiator over objects is begun with, and what its end and its steps are, however the
-- objects lie in memory: `says` is what an object is.
use Rattle.std.specs.Prelude.{ℕ, Bool, true, false, ◌&&◌, List, [], ◌∷◌, map}
use Rattle.std.specs.declared.dyn_box.DynBox.{DynBox}
use Rattle.std.specs.declared.alloc.Global.{Global}
use Rattle.spnego_core.specs.EndSteps.{StepOf, More, Done}
use Rattle.spnego_core.specs.Sizes.{IsShort}
use Rattle.mech_objects.specs.declared.ask.MechAsk.{MechAsk}
use Rattle.mech_objects.specs.Meaning.{MechSays}
use Rattle.init_ends.specs.declared.ends.InitSetup.{InitSetup}
use Rattle.init_ends.specs.declared.ends.InitSetup.TheVariants as setups
use Rattle.init_ends.specs.declared.ends.Opening.{Opening}
use Rattle.init_ends.specs.declared.ends.Talk.{Talk}
use Rattle.init_ends.specs.declared.ends.Talking.{Talking}
use Rattle.init_ends.specs.declared.ends.Signed.{Signed as SignedEnd}
use Rattle.init_ends.specs.declared.ends.InitEnd.{InitEnd}
use Rattle.init_ends.specs.declared.ends.InitEnd.TheVariants as ends
use Rattle.init_ends.specs.declared.ends.InitStep.{InitStep}
use Rattle.init_ends.specs.declared.ends.InitStep.TheVariants as steps
use Rattle.init_ends.specs.Objects.{is_waiting, all_fresh}

-- what an initiator is begun with: its objects, the preferred first, what each of them is begun
-- with, and whether it negotiates
pub record SetupMeans : Type 0 where
  pub list : List MechSays
  pub ask : MechAsk
  pub negotiates : Bool

-- it sent its first token: the list, the first object, which waits, those behind it, and whether it
-- negotiates
pub record OpeningMeans : Type 0 where
  pub list : List (List ℕ)
  pub ask : MechAsk
  pub mech : MechSays
  pub others : List MechSays
  pub negotiates : Bool

-- the chosen mechanism isn't done
pub record TalkingMeans : Type 0 where
  pub talk : Talk
  pub mech : MechSays

-- what an initiator's end over objects is, by what was done last
pub data EndMeans : Type 0 where
  -- its first token was sent
  Opens : OpeningMeans → EndMeans
  -- a further token of the mechanism was sent
  Talks : TalkingMeans → EndMeans
  -- the own MIC was sent
  Signed : SignedEnd → EndMeans

-- the step of an end over objects
abbrev pub StepMeans : Type 0
StepMeans = StepOf EndMeans

-- ---- the same of the program's own

-- what the code's setup is
abbrev pub setup_means : {X : Type 0} → {D : X → Type 0} → (DynBox X Global D → MechSays)
    → InitSetup X D → SetupMeans
setup_means says (setups.Negotiating list ask) =
    record { list = map says list.items; ask = ask; negotiates = true }
setup_means says (setups.Bare mech ask) =
    record { list = says mech ∷ []; ask = ask; negotiates = false }

-- what the code's end is that sent its first token
abbrev pub opening_means : {X : Type 0} → {D : X → Type 0} → (DynBox X Global D → MechSays)
    → Opening X D → OpeningMeans
opening_means says opening = record {
  list = opening.list;
  ask = opening.ask;
  mech = says opening.mech;
  others = map says opening.others.items;
  negotiates = opening.negotiates;
}

-- what the code's end is whose mechanism isn't done
abbrev pub talking_means : {X : Type 0} → {D : X → Type 0} → (DynBox X Global D → MechSays)
    → Talking X D → TalkingMeans
talking_means says talking = record { talk = talking.talk; mech = says talking.mech }

-- what the code's end is
abbrev pub end_means : {X : Type 0} → {D : X → Type 0} → (DynBox X Global D → MechSays)
    → InitEnd X D → EndMeans
end_means says (ends.Opens opening) = Opens (opening_means says opening)
end_means says (ends.Talks talking) = Talks (talking_means says talking)
end_means says (ends.Signed signed) = Signed signed

-- what the code's step comes to
abbrev pub step_means : {X : Type 0} → {D : X → Type 0} → (DynBox X Global D → MechSays)
    → InitStep X D → StepMeans
step_means says (steps.More end token) = More (end_means says end) token
step_means says (steps.Done outcome) = Done outcome

-- ---- the same for crates above, where an object is its table and its value

-- what a box is, by what its table and its value are
abbrev pub boxed : {X : Type 0} → {D : X → Type 0} → ((x : X) × D x → MechSays)
    → DynBox X Global D → MechSays
boxed says b = says (b.vtable, b.value)

-- what the code's setup is
abbrev pub setup_by : {X : Type 0} → {D : X → Type 0} → InitSetup X D
    → ((x : X) × D x → MechSays) → SetupMeans
setup_by setup says = setup_means (boxed says) setup

-- what the code's end is
abbrev pub end_by : {X : Type 0} → {D : X → Type 0} → InitEnd X D → ((x : X) × D x → MechSays)
    → EndMeans
end_by end says = end_means (boxed says) end

-- what the code's step comes to
abbrev pub step_by : {X : Type 0} → {D : X → Type 0} → InitStep X D → ((x : X) × D x → MechSays)
    → StepMeans
step_by step says = step_means (boxed says) step

-- ---- how far the objects are

-- the first object waits, and those behind it are fresh
abbrev pub holds_opening : OpeningMeans → Bool
holds_opening opening = is_waiting opening.mech.stage && all_fresh opening.others

-- the object that goes on waits, and those that may begin are fresh
abbrev pub holds : EndMeans → Bool
holds (Opens opening) = holds_opening opening
holds (Talks talking) = is_waiting talking.mech.stage
holds (Signed signed) = true

-- the same of the end after a step, where it goes on
abbrev pub holds_after : StepMeans → Bool
holds_after (More end token) = holds end
holds_after (Done outcome) = true

-- the token of a step is short, where it has one
abbrev pub ShortStep : StepMeans → Type 0
ShortStep (More end token) = IsShort token
ShortStep (Done outcome) = Unit {0}
