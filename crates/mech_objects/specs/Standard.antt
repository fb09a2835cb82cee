-- What Kerberos (RFC 4121) and SCRAM (RFC 5802) say as objects: their first token by the credential
-- and the ask, and their answer to a token by the state that those before it lead to.
use Rattle.std.specs.Prelude.{ℕ, List, [], ◌∷◌, map, Option, Some, None, Result, Ok, Err}
use Rattle.gss_base.specs.declared.mech.MechName.{MechName}
use Rattle.gss_base.specs.Mech.{oid_named, kind_named}
use Rattle.krb_tokens.specs.declared.done.MechDone.{MechDone}
use Rattle.ap_exchange.specs.declared.refusal.ApRefusal.{ApRefusal}
use Rattle.ap_exchange.specs.declared.refusal.ApRefusal.TheVariants.{Kind}
use Rattle.ap_exchange.specs.Draws.{drawn_nonce}
use Rattle.ap_exchange.specs.Request.{request_of, request_makes}
use Rattle.ap_exchange.specs.Reply.{reply_taken}
use Rattle.scram_mech.specs.declared.refusal.ScramRefusal.{ScramRefusal}
use Rattle.scram_mech.specs.MechMaking.{typed}
use Rattle.scram_mech.specs.Initiator.{InitAnswered, InitFinished, init_started, init_answered}
use Rattle.scram_mech.specs.Initiator.{init_finished}
use Rattle.spnego_core.specs.MechStates.{InitMech}
use Rattle.spnego_core.specs.MechStates as mechs
use Rattle.spnego_core.specs.declared.refusal.MechRefusal.{MechRefusal}
use Rattle.spnego_core.specs.declared.refusal.MechRefusal.TheVariants.{Ap, Scram}
use Rattle.spnego_core.specs.declared.setup.MechCred.{MechCred}
use Rattle.spnego_core.specs.declared.setup.MechCred.TheVariants as creds
use Rattle.spnego_core.specs.InitMech.{MechBegun, request_begun, text_begun}
use Rattle.mech_objects.specs.declared.ask.MechAsk.{MechAsk}
use Rattle.mech_objects.specs.declared.ask.MechMove.{MechMove}
use Rattle.mech_objects.specs.declared.ask.MechMove.TheVariants.{Token, Done}
use Rattle.mech_objects.specs.Meaning.{MechTalk, MechSays, blank}

-- ---- the first token

-- Kerberos begins with its request (RFC 4121 section 4.1), SCRAM with the client-first-message
-- (RFC 5802 section 5), by the credential
unfoldable pub begun : MechCred → MechAsk → Result MechBegun MechRefusal
begun (creds.Kerberos name credential) ask =
    request_begun (map typed (request_makes credential ask.stamp ask.draws ask.bindings))
    (request_of credential ask.stamp ask.draws ask.bindings)
begun (creds.Scram user password) ask =
    text_begun (init_started user password (drawn_nonce ask.draws) ask.bindings)

-- the token alone
abbrev pub token_begun : Result MechBegun MechRefusal → Result (List ℕ) MechRefusal
token_begun (Ok begun) = Ok begun.token
token_begun (Err refusal) = Err refusal

-- the state alone, none where nothing was begun
abbrev pub state_begun : Result MechBegun MechRefusal → Option InitMech
state_begun (Ok begun) = Some begun.mech
state_begun (Err refusal) = None

-- ---- a further token

-- what a mechanism makes of a token: it goes on in this state and says a token, or it is done
pub data Answered : Type 0 where
  GoesOn : (state : InitMech) → (token : List ℕ) → Answered
  Ends : (done : MechDone) → Answered

-- Kerberos is done with the acceptor's reply, RFC 4120 section 3.2.5
abbrev pub reply_answered : Result MechDone ApRefusal → Result Answered MechRefusal
reply_answered (Ok done) = Ok (Ends done)
reply_answered (Err refusal) = Err (Ap refusal)

-- SCRAM answers the server-first-message with its proof, RFC 5802 section 5
abbrev pub text_answered : Result InitAnswered ScramRefusal → Result Answered MechRefusal
text_answered (Ok answered) = Ok (GoesOn (mechs.Proof answered.end) answered.token)
text_answered (Err refusal) = Err (Scram refusal)

-- it is done with the server-final-message, whose signature was verified, RFC 5802 section 5
abbrev pub final_answered : Result InitFinished ScramRefusal → Result Answered MechRefusal
final_answered (Ok finished) = Ok (Ends finished.done)
final_answered (Err refusal) = Err (Scram refusal)

-- what a mechanism makes of the acceptor's token, by its state
unfoldable pub answered : InitMech → List ℕ → Result Answered MechRefusal
answered (mechs.Kerberos end) token = reply_answered (reply_taken end token)
answered (mechs.Scram end) token = text_answered (init_answered end token)
answered (mechs.Proof end) token = final_answered (init_finished end token)

-- what it says: a token, or what the exchange gives
abbrev pub move_said : Answered → MechMove
move_said (GoesOn state token) = Token token
move_said (Ends done) = Done done

-- the same of an answer that may be refused
abbrev pub move_answered : Result Answered MechRefusal → Result MechMove MechRefusal
move_answered (Ok answered) = Ok (move_said answered)
move_answered (Err refusal) = Err refusal

-- the state behind an answer, none where nothing follows
abbrev pub state_answered : Result Answered MechRefusal → Option InitMech
state_answered (Ok (GoesOn state token)) = Some state
state_answered (Ok (Ends done)) = None
state_answered (Err refusal) = None

-- ---- the state, as it comes of the credential, the ask and the tokens taken

-- behind one more token
abbrev pub state_after : Option InitMech → List ℕ → Option InitMech
state_after None token = None
state_after (Some state) token = state_answered (answered state token)

-- behind these tokens, in their order
abbrev pub state_after_all : Option InitMech → List (List ℕ) → Option InitMech
state_after_all state [] = state
state_after_all state (token ∷ rest) = state_after_all (state_after state token) rest

-- the state of a mechanism that began so and took these tokens, none where it is done or refused
unfoldable pub state_of : MechCred → MechAsk → List (List ℕ) → Option InitMech
state_of cred ask taken = state_after_all (state_begun (begun cred ask)) taken

-- the same where there may be no credential yet, or nothing was asked
abbrev pub state_by : Option MechCred → Option MechAsk → List (List ℕ) → Option InitMech
state_by None ask taken = None
state_by (Some cred) None taken = None
state_by (Some cred) (Some ask) taken = state_of cred ask taken

-- the state of an object of Kerberos or SCRAM
abbrev pub object_state : MechSays → Option InitMech
object_state m = state_by m.cred m.ask m.taken

-- ---- the talk

-- what a state says to a token; where nothing is due, each token is one of a kind that isn't due
abbrev pub move_by : Option InitMech → List ℕ → Result MechMove MechRefusal
move_by None token = Err (Ap Kind)
move_by (Some state) token = move_answered (answered state token)

-- what Kerberos and SCRAM say with a credential
abbrev pub standard : MechCred → MechTalk
standard cred = record {
  first = λ ask. token_begun (begun cred ask);
  next = λ ask taken token. move_by (state_of cred ask taken) token;
}

-- an object of Kerberos or SCRAM that has no credential yet, under a name of its mechanism
abbrev pub blank_of : MechName → MechSays
blank_of name = blank (kind_named name) (oid_named name) standard
