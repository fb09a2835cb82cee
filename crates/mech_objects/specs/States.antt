-- What the objects of Kerberos and SCRAM keep in memory, as the definitions say it.
use Rattle.std.specs.Prelude.{ℕ, List, [], ◌∷◌, ◌++◌, Option}
use Rattle.gss_base.specs.declared.mech.MechName.{MechName}
use Rattle.gss_base.specs.Mech.{oid_named, kind_named}
use Rattle.spnego_core.specs.declared.setup.MechCred.{MechCred}
use Rattle.spnego_core.specs.MechStates.{InitMech}
use Rattle.spnego_core.specs.MechStates as mechs
use Rattle.spnego_core.specs.Sizes.{FitsBeside}
use Rattle.mech_objects.specs.declared.state.MechState.{MechState}
use Rattle.mech_objects.specs.declared.state.MechState.TheVariants as states
use Rattle.mech_objects.specs.declared.state.StateAnswer.{StateAnswer}
use Rattle.mech_objects.specs.declared.state.StateAnswer.TheVariants as answers
use Rattle.mech_objects.specs.declared.ask.MechAsk.{MechAsk}
use Rattle.mech_objects.specs.declared.ask.Stage.{Stage}
use Rattle.mech_objects.specs.declared.ask.Stage.TheVariants.{Waiting, Over}
use Rattle.mech_objects.specs.Meaning.{MechSays}
use Rattle.mech_objects.specs.Standard.{Answered, GoesOn, Ends, standard}

-- the state
abbrev pub mech_in : MechState → InitMech
mech_in (states.Kerberos end) = mechs.Kerberos end
mech_in (states.Scram end) = mechs.Scram end
mech_in (states.Proof end) = mechs.Proof end

-- a state and the token that is said with it
abbrev pub begun_in : MechState × List ℕ → InitMech × List ℕ
begun_in b = (mech_in b.0, b.1)

-- an answer
abbrev pub answered_in : StateAnswer → Answered
answered_in (answers.More state token) = GoesOn (mech_in state) token
answered_in (answers.Done done) = Ends done

-- the token of an answer leaves room for the negotiation's, where it has one
abbrev pub FitsAnswer : StateAnswer → Type 0
FitsAnswer (answers.More state token) = FitsBeside token
FitsAnswer (answers.Done done) = Unit {0}

-- what an object of Kerberos or SCRAM keeps: all of what it is but its mechanism and identifier,
-- which its name gives, and what it says, which the credential gives
pub record Kept : Type 0 where
  pub name : MechName
  pub cred : Option MechCred
  pub ask : Option MechAsk
  pub sent : List (List ℕ)
  pub taken : List (List ℕ)
  pub stage : Stage

-- the object
abbrev pub object_of : Kept → MechSays
object_of k = record {
  kind = kind_named k.name;
  oid = oid_named k.name;
  says = standard;
  cred = k.cred;
  ask = k.ask;
  sent = k.sent;
  taken = k.taken;
  stage = k.stage;
}

-- with a token that it took and one that it said
abbrev pub kept : Kept → List ℕ → List ℕ → Kept
kept k token octets = record k { sent = k.sent ++ octets ∷ []; taken = k.taken ++ token ∷ [] }

-- once it took a token and said another: it waits for a further one
abbrev pub goes_on : Kept → List ℕ → List ℕ → Kept
goes_on k token octets = record k {
  sent = k.sent ++ octets ∷ [];
  taken = k.taken ++ token ∷ [];
  stage = Waiting;
}

-- once it took a token and is done
abbrev pub finished : Kept → List ℕ → Kept
finished k token = record k { taken = k.taken ++ token ∷ []; stage = Over }
