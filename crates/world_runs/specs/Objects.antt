-- Where an initiator over objects is, and where one by credentials is then.
-- It isn't needed to read the headline.
use Rattle.std.specs.Prelude.{◌≡◌, ℕ, Bool, true, List, [], ◌∷◌, Option, Some, None}
use Rattle.spnego_core.specs.Ends.{PlainSetup, EndSays}
use Rattle.mech_objects.specs.Meaning.{MechSays}
use Rattle.init_ends.specs.Ends.{SetupMeans, EndMeans, setup_by, end_by, holds}
use Rattle.init_ends.specs.Objects.{is_own_list}
use Rattle.init_ends.specs.Plain.{objects_of, StandsAs, plain_of}
use Rattle.gss_client.specs.Session.{SessionState}
use Rattle.world_runs.specs.declared.stage.Stage.{Stage}
use Rattle.world_runs.specs.declared.stage.Stage.TheVariants as stages
use Rattle.world_laws.specs.Stages.{StageSays}
use Rattle.world_laws.specs.Stages as plain_stages

-- where an initiator over objects is
pub data StageMeans : Type 0 where
  -- it wasn't started
  Ready : SetupMeans → StageMeans
  -- a creation call of this transaction number was handed out, whose reply is due
  Asks : ℕ → EndMeans → StageMeans
  -- its context stands
  Stands : SessionState → StageMeans
  -- its context stood, and it has ended since
  Left : SessionState → StageMeans
  -- it ended before its context stood
  Over : StageMeans

-- where the code's initiator is, by what its objects are
abbrev pub stage_means : {X : Type 0} → {D : X → Type 0} → Stage X D
    → ((x : X) × D x → MechSays) → StageMeans
stage_means (stages.Ready own) says = Ready (setup_by own says)
stage_means (stages.Asks xid end) says = Asks xid (end_by end says)
stage_means (stages.Stands session) says = Stands session
stage_means (stages.Left session) says = Left session
stage_means stages.Over says = Over

-- its objects are as far as its next event needs them
abbrev pub may_go : StageMeans → Bool
may_go (Ready setup) = is_own_list setup.list
may_go (Asks xid end) = holds end
may_go (Stands session) = true
may_go (Left session) = true
may_go Over = true

-- ---- an initiator over objects, and one by credentials

-- the reply to the same call is due, and both ends stand alike
pub record AsksAs (stage : StageMeans) (xid : ℕ) (plain : EndSays) : Type 0 where
  pub end : EndMeans
  pub stage_is : stage ≡ Asks xid end
  pub stands : StandsAs end plain

-- an initiator over the objects of Kerberos and SCRAM is where one by their credentials is
abbrev pub StageAs : StageMeans → StageSays → Type 0
StageAs stage (plain_stages.Ready own) = stage ≡ Ready (objects_of own)
StageAs stage (plain_stages.Asks xid end) = AsksAs stage xid end
StageAs stage (plain_stages.Stands session) = stage ≡ Stands session
StageAs stage (plain_stages.Left session) = stage ≡ Left session
StageAs stage plain_stages.Over = stage ≡ Over

-- each of these is where the one of that place is, and there are as many
abbrev pub StagesAs : List StageMeans → List StageSays → Type 0
StagesAs [] [] = Unit {0}
StagesAs [] (plain ∷ rest) = ⊥
StagesAs (stage ∷ rest) [] = ⊥
StagesAs (stage ∷ rest) (plain ∷ plains) = StageAs stage plain × StagesAs rest plains

-- ---- the same as functions of what the initiators were begun with

-- it asks, where its end over objects has a plain one
abbrev pub plain_asks : ℕ → Option EndSays → StageSays
plain_asks xid None = plain_stages.Over
plain_asks xid (Some end) = plain_stages.Asks xid end

-- where an initiator by credentials is that was begun with this
abbrev pub plain_stage : PlainSetup → StageMeans → StageSays
plain_stage own (Ready setup) = plain_stages.Ready own
plain_stage own (Asks xid end) = plain_asks xid (plain_of own end)
plain_stage own (Stands session) = plain_stages.Stands session
plain_stage own (Left session) = plain_stages.Left session
plain_stage own Over = plain_stages.Over

-- the same of initiators in their order
abbrev pub plain_list : List PlainSetup → List StageMeans → List StageSays
plain_list facts [] = []
plain_list [] (stage ∷ rest) = []
plain_list (own ∷ facts) (stage ∷ rest) = plain_stage own stage ∷ plain_list facts rest
