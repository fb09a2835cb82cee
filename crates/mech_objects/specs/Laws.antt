-- What holds of the objects of Kerberos and SCRAM.
use Rattle.std.specs.Prelude.{◌≡◌, ℕ, List, [], ◌∷◌, ◌++◌, Some, Result, Ok, Err}
use Rattle.gss_base.specs.declared.mech.MechKind.{MechKind}
use Rattle.gss_base.specs.declared.mech.MechKind.TheVariants as kinds
use Rattle.spnego_core.specs.MechStates.{InitAnswer}
use Rattle.spnego_core.specs.MechStates as answers
use Rattle.spnego_core.specs.MechStates.{InitMech}
use Rattle.spnego_core.specs.declared.refusal.MechRefusal.{MechRefusal}
use Rattle.spnego_core.specs.declared.refusal.NegRefusal.{NegRefusal}
use Rattle.spnego_core.specs.declared.refusal.NegRefusal.TheVariants.{Mech}
use Rattle.spnego_core.specs.declared.setup.MechCred.{MechCred}
use Rattle.spnego_core.specs.Outcome.{outcome_of}
use Rattle.spnego_core.specs.InitMech.{init_taken, replied}
use Rattle.mech_objects.specs.declared.ask.MechAsk.{MechAsk}
use Rattle.mech_objects.specs.declared.ask.MechMove.TheVariants.{Token}
use Rattle.mech_objects.specs.Meaning.{MechSays, as_end, starts, started, takes, took}
use Rattle.mech_objects.specs.Standard.{Answered, GoesOn, Ends, begun, state_begun, answered}
use Rattle.mech_objects.specs.Standard.{token_begun, move_answered, state_after, state_of}
use Rattle.mech_objects.specs.Standard.{object_state, standard}

-- the mechanism of a state
abbrev pub kind_in : InitMech → MechKind
kind_in (answers.Kerberos end) = kinds.Kerberos
kind_in (answers.Scram end) = kinds.Scram
kind_in (answers.Proof end) = kinds.Scram

-- an answer as the negotiating end gives it: with the outcome of what the exchange gives
abbrev pub outcome_said : MechKind → Answered → InitAnswer
outcome_said kind (GoesOn state token) = answers.More state token
outcome_said kind (Ends done) = answers.Done (outcome_of kind done)

-- the same of an answer that may be refused
abbrev pub outcome_answered : MechKind → Result Answered MechRefusal → Result InitAnswer NegRefusal
outcome_answered kind (Ok answered) = Ok (outcome_said kind answered)
outcome_answered kind (Err refusal) = Err (Mech refusal)

-- the states of these objects, and what they answer
pub record StandardLaws : Type 0 where
  -- what an object that has a credential begins with is what its mechanism begins with
  pub starts_by : (m : MechSays) (cred : MechCred) (ask : MechAsk)
      → m.says ≡ standard → m.cred ≡ Some cred
      → starts m ask ≡ as_end (token_begun (begun cred ask))
  -- an object that started is in the state of its beginning
  pub begins : (m : MechSays) (cred : MechCred) (ask : MechAsk) (token : List ℕ)
      → m.cred ≡ Some cred
      → object_state (started m ask (Ok token)) ≡ state_begun (begun cred ask)
  -- one that took a token is in the state behind it
  pub goes_on : (m : MechSays) (token octets : List ℕ)
      → object_state (took m token (Ok (Token octets))) ≡ state_after (object_state m) token
  -- the same by the credential, the ask and the tokens alone
  pub takes_on : (cred : MechCred) (ask : MechAsk) (taken : List (List ℕ)) (token : List ℕ)
      → state_of cred ask (taken ++ token ∷ []) ≡ state_after (state_of cred ask taken) token
  -- what an object in a state makes of a token is what the state answers
  pub takes_by : (m : MechSays) (state : InitMech) (token : List ℕ)
      → m.says ≡ standard → object_state m ≡ Some state
      → takes m token ≡ as_end (move_answered (answered state token))
  -- what a state answers is what the negotiating end makes of the token, the outcome in its place
  pub answers : (state : InitMech) (token : List ℕ)
      → replied (init_taken state token) ≡ outcome_answered (kind_in state) (answered state token)
