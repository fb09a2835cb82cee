-- What a mechanism makes of a reply at the initiator, and how it begins.
use Rattle.std.specs.Prelude.{ℕ, Bool, true, false, if◌then◌else◌, List, [], ◌∷◌, map}
use Rattle.std.specs.Prelude.{Option, Some, None, Result, Ok, Err}
use Rattle.std.specs.List.{list_any}
use Rattle.gss_base.specs.declared.mech.MechKind.{MechKind}
use Rattle.gss_base.specs.declared.mech.MechKind.TheVariants as kinds
use Rattle.gss_base.specs.declared.mech.KerberosName.TheVariants.{Standard}
use Rattle.gss_base.specs.declared.mech.MechName.{MechName}
use Rattle.gss_base.specs.declared.mech.MechName.TheVariants as names
use Rattle.gss_base.specs.Mech.{oid_named}
use Rattle.krb_files.specs.Granted.{Granted}
use Rattle.krb_tokens.specs.declared.done.MechDone.{MechDone}
use Rattle.ap_exchange.specs.declared.refusal.ApRefusal.{ApRefusal}
use Rattle.ap_exchange.specs.declared.request.ApInit.{ApInit}
use Rattle.ap_exchange.specs.Request.{request_of, request_makes}
use Rattle.ap_exchange.specs.Reply.{reply_taken, reply_found}
use Rattle.ap_exchange.specs.Draws.{drawn_nonce}
use Rattle.scram_mech.specs.declared.refusal.ScramRefusal.{ScramRefusal}
use Rattle.scram_mech.specs.MechMaking.{MechMaking, typed}
use Rattle.scram_mech.specs.Initiator.{InitStarted, InitAnswered, InitFinished, init_started}
use Rattle.scram_mech.specs.Initiator.{init_answered, init_finished}
use Rattle.spnego_core.specs.declared.refusal.NegRefusal.{NegRefusal}
use Rattle.spnego_core.specs.declared.refusal.NegRefusal.TheVariants.{Mech}
use Rattle.spnego_core.specs.declared.refusal.MechRefusal.{MechRefusal}
use Rattle.spnego_core.specs.declared.refusal.MechRefusal.TheVariants.{Ap, Scram}
use Rattle.spnego_core.specs.declared.setup.MechCred.{MechCred}
use Rattle.spnego_core.specs.declared.setup.MechCred.TheVariants as creds
use Rattle.spnego_core.specs.MechStates.{InitMech}
use Rattle.spnego_core.specs.MechStates as mechs
use Rattle.spnego_core.specs.MechStates.{InitAnswer}
use Rattle.spnego_core.specs.MechStates.{More, Done}
use Rattle.spnego_core.specs.Ends.{PlainSetup}
use Rattle.spnego_core.specs.Outcome.{outcome_of}
use Rattle.spnego_core.specs.Choice.{same_kind, are_few}

-- ---- credentials

-- the mechanism of a credential
abbrev pub kind_of : MechCred → MechKind
kind_of (creds.Kerberos name credential) = kinds.Kerberos
kind_of (creds.Scram user password) = kinds.Scram

-- the name under which it stands in the list
abbrev pub name_of : MechCred → MechName
name_of (creds.Kerberos name credential) = names.Kerberos name
name_of (creds.Scram user password) = names.Scram

-- the object identifier under which it stands there
abbrev pub oid_listed : MechCred → List ℕ
oid_listed cred = oid_named (name_of cred)

-- the mechanisms of an initiator, in its order
abbrev pub kinds_of : List MechCred → List MechKind
kinds_of list = map kind_of list

-- one to three credentials, with different object identifiers
abbrev pub is_own_list : List MechCred → Bool
is_own_list list = are_few (map oid_listed list)

-- what the list of an initiator is that doesn't negotiate: one credential of Kerberos, under its
-- own name, which the frame of its request has
abbrev pub is_bare_list : List MechCred → Bool
is_bare_list (creds.Kerberos Standard credential ∷ []) = true
is_bare_list list = false

-- there is a credential of this mechanism
abbrev pub is_own : List MechCred → MechKind → Bool
is_own list kind = list_any (λ cred. same_kind (kind_of cred) kind) list

-- the credential by which a mechanism begins: the first one of it
abbrev pub cred_for : List MechCred → MechKind → Option MechCred
cred_for [] kind = None
cred_for (cred ∷ rest) kind =
    if same_kind (kind_of cred) kind then Some cred else cred_for rest kind

-- the ticket of a credential, where there is one of Kerberos
abbrev pub ticket_of : Option MechCred → Option Granted
ticket_of None = None
ticket_of (Some (creds.Kerberos name credential)) = Some credential
ticket_of (Some (creds.Scram user password)) = None

-- the ticket by which Kerberos begins: of the first of its credentials
abbrev pub ticket_for : List MechCred → Option Granted
ticket_for list = ticket_of (cred_for list kinds.Kerberos)

-- ---- a mechanism begins

-- the end, and its first token; what is handed out with that
pub record MechBegun : Type 0 where
  pub mech : InitMech
  pub token : List ℕ
  pub makes : List MechMaking

-- Kerberos begins with its request
abbrev pub request_begun : List MechMaking → Result (ApInit × List ℕ) ApRefusal
    → Result MechBegun MechRefusal
request_begun makes (Ok sent) =
    Ok (record { mech = mechs.Kerberos sent.0; token = sent.1; makes = makes })
request_begun makes (Err refusal) = Err (Ap refusal)

-- SCRAM hands out nothing that was made with a key
abbrev pub text_begun : Result InitStarted ScramRefusal → Result MechBegun MechRefusal
text_begun (Ok started) =
    Ok (record { mech = mechs.Scram started.end; token = started.token; makes = [] })
text_begun (Err refusal) = Err (Scram refusal)

-- a mechanism begins, by its credential
unfoldable pub init_begun : PlainSetup → MechCred → Result MechBegun MechRefusal
init_begun own (creds.Kerberos name credential) =
    request_begun (map typed (request_makes credential own.stamp own.draws own.bindings))
    (request_of credential own.stamp own.draws own.bindings)
init_begun own (creds.Scram user password) =
    text_begun (init_started user password (drawn_nonce own.draws) own.bindings)

-- the end and the token alone; a mechanism's refusal is the end's
abbrev pub begun_with : Result MechBegun MechRefusal → Result (InitMech × List ℕ) NegRefusal
begun_with (Ok begun) = Ok (begun.mech, begun.token)
begun_with (Err refusal) = Err (Mech refusal)

-- ---- a mechanism takes a token

-- the answer; what is handed out with it, and what was found verified in the token
pub record MechReplied : Type 0 where
  pub answer : InitAnswer
  pub makes : List MechMaking
  pub found : List MechMaking

-- Kerberos is done with the acceptor's reply
abbrev pub reply_answered : List MechMaking → Result MechDone ApRefusal
    → Result MechReplied MechRefusal
reply_answered found (Ok made) =
    Ok (record { answer = Done (outcome_of kinds.Kerberos made); makes = []; found = found })
reply_answered found (Err refusal) = Err (Ap refusal)

-- SCRAM answers the acceptor's first text with the proof
abbrev pub text_answered : Result InitAnswered ScramRefusal → Result MechReplied MechRefusal
text_answered (Ok answered) = Ok (record
    { answer = More (mechs.Proof answered.end) answered.token; makes = answered.makes; found = [] })
text_answered (Err refusal) = Err (Scram refusal)

-- it is done with the signature
abbrev pub final_answered : Result InitFinished ScramRefusal → Result MechReplied MechRefusal
final_answered (Ok finished) = Ok (record
    { answer = Done (outcome_of kinds.Scram finished.done); makes = []; found = finished.found })
final_answered (Err refusal) = Err (Scram refusal)

-- what a mechanism makes of the acceptor's token, by its state
unfoldable pub init_taken : InitMech → List ℕ → Result MechReplied MechRefusal
init_taken (mechs.Kerberos end) token =
    reply_answered (map typed (reply_found end token)) (reply_taken end token)
init_taken (mechs.Scram end) token = text_answered (init_answered end token)
init_taken (mechs.Proof end) token = final_answered (init_finished end token)

-- the answer alone; a mechanism's refusal is the end's
abbrev pub replied : Result MechReplied MechRefusal → Result InitAnswer NegRefusal
replied (Ok taken) = Ok taken.answer
replied (Err refusal) = Err (Mech refusal)
