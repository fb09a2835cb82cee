-- What the laws over runs rest on: which keys are guarded, that nothing is forged under them, and
-- that what is drawn is fresh.
use Rattle.std.specs.Prelude.{◌≡◌, ◌≢◌, ◌⊎◌, ℕ, Bool, true, List, [], ◌∷◌, length, slice_get}
use Rattle.std.specs.Prelude.{Option, Some, None, Ok}
use Rattle.gss_base.specs.Name.{Name}
use Rattle.gss_base.specs.declared.mech.MechKind.{MechKind}
use Rattle.gss_base.specs.declared.mech.MechKind.TheVariants as kinds
use Rattle.krb_derive.specs.declared.key.Etype.{Etype}
use Rattle.krb_derive.specs.declared.key.Key.{Key}
use Rattle.krb_files.specs.Granted.{Granted}
use Rattle.krb_files.specs.Keytab.{found}
use Rattle.krb_tokens.specs.declared.end.Side.TheVariants.{Acceptor}
use Rattle.krb_tokens.specs.Makings.{mic_making}
use Rattle.ap_exchange.specs.declared.judged.Judged.{Judged}
use Rattle.ap_exchange.specs.Draws.{drawn_nonce}
use Rattle.scram_mech.specs.declared.verifiers.Verifier.{Verifier}
use Rattle.scram_mech.specs.Acceptor.{AcceptModel, auth_with}
use Rattle.scram_mech.specs.AuthParts.{AuthParts, auth_parts}
use Rattle.scram_mech.specs.Base64.{encoded}
use Rattle.scram_mech.specs.Judging.{are_rounds}
use Rattle.scram_bindings.specs.Carried.{data_of}
use Rattle.scram_mech.specs.MechMaking.{TagKey, OfType, OfPassword, MechMaking, AmongMakings, typed}
use Rattle.scram_mech.specs.MechMaking.{proof_making}
use Rattle.scram_mech.specs.Secrets.{stored_key, server_key, proof_of}
use Rattle.scram_mech.specs.ThirdText.{Third, third_of}
use Rattle.spnego_core.specs.declared.outcome.Outcome.{Outcome}
use Rattle.spnego_core.specs.declared.setup.MechCred.TheVariants as creds
use Rattle.spnego_core.specs.Ends.{PlainSetup}
use Rattle.spnego_core.specs.AcceptMech.{Basis, ByRequest, ByProof}
use Rattle.spnego_core.specs.InitMech.{cred_for, ticket_for}
use Rattle.spnego_core.specs.Outcome.{token_end}
use Rattle.accept_core.specs.declared.entry.Entry.{Entry}
use Rattle.accept_core.specs.declared.entry.Entry.TheVariants.{Settled}
use Rattle.accept_core.specs.History.{entry_at}
use Rattle.gss_client.specs.Session.{SessionState}
use Rattle.world_laws.specs.declared.event.WorldEvent.{WorldEvent}
use Rattle.world_laws.specs.Stages.{StageSays}
use Rattle.world_laws.specs.Stages as stages
use Rattle.world_laws.specs.Deeds.{Opened, Deed}
use Rattle.world_laws.specs.State.{Context, World}
use Rattle.world_laws.specs.Events.{Run}

-- ---- the marking, which the reader chooses

-- a ticket that was issued: to whom and for whom, under which key of the service, with which
-- session key
pub record Ticket : Type 0 where
  pub client : Name
  pub server : Name
  pub service : Key
  pub session : Key
  pub marked : Bool

-- a user of SCRAM with its password
pub record Account : Type 0 where
  pub user : List ℕ
  pub password : List ℕ

-- all tickets that were issued, of which the marked ones are those whose parties are honest; and
-- the marked users
pub record Marking : Type 0 where
  pub tickets : List Ticket
  pub accounts : List Account

-- it stands in the list
pub record Listed {A : Type 0} (list : List A) (value : A) : Type 0 where
  pub place : ℕ
  pub there : slice_get list place ≡ Some value

-- ---- guarded keys

-- the session key of a marked ticket
pub record GuardedSession (marking : Marking) (key : Key) : Type 0 where
  pub ticket : Ticket
  pub issued : Listed marking.tickets ticket
  pub marked : ticket.marked ≡ true
  pub session : ticket.session ≡ key

-- StoredKey or ServerKey of a marked user's password, with any salt and any rounds that may be
pub record GuardedSecret (marking : Marking) (key : List ℕ) : Type 0 where
  pub account : Account
  pub marked : Listed marking.accounts account
  pub salt : List ℕ
  pub rounds : ℕ
  pub ranged : are_rounds rounds ≡ true
  pub is_key : (key
      ≡ stored_key (record { password = account.password; salt = salt; rounds = rounds }))
      ⊎ (key ≡ server_key (record { password = account.password; salt = salt; rounds = rounds }))

-- the line is a marked user's, and its rounds may be
pub record MarkedLine (marking : Marking) (line : Verifier) : Type 0 where
  pub account : Account
  pub marked : Listed marking.accounts account
  pub named : line.name ≡ account.user
  pub ranged : are_rounds line.rounds ≡ true

-- what a context was built on: the session key of a marked ticket, or a marked user's line
abbrev pub GuardedBasis : Marking → Basis → Type 0
GuardedBasis marking (ByRequest request) = GuardedSession marking request.session
GuardedBasis marking (ByProof end text) = MarkedLine marking end.line

-- the key of a context that was fixed and is built on a guarded key
pub record BuiltKey (marking : Marking) (fixed : List Context) (key : Key) : Type 0 where
  pub context : Context
  pub listed : Listed fixed context
  pub guarded : GuardedBasis marking context.fixed.basis
  pub is_key : context.fixed.outcome.key ≡ key

-- a guarded key: a session key of a marked ticket, the key of a context that is built on a guarded
-- key, or StoredKey or ServerKey of a marked user
abbrev pub Guarded : Marking → List Context → TagKey → Type 0
Guarded marking fixed (OfType key) = GuardedSession marking key ⊎ BuiltKey marking fixed key
Guarded marking fixed (OfPassword key) = GuardedSecret marking key

-- ---- what an initiator is built on

-- its credential of a mechanism has the session key of a marked ticket, or is a marked user's name
-- and password
pub record OnTicket (marking : Marking) (own : PlainSetup) : Type 0 where
  pub credential : Granted
  pub is_own : ticket_for own.list ≡ Some credential
  pub guarded : GuardedSession marking credential.session

-- the same by SCRAM: its credential is a marked user's name and password
pub record OnAccount (marking : Marking) (own : PlainSetup) : Type 0 where
  pub account : Account
  pub marked : Listed marking.accounts account
  pub is_own : cred_for own.list kinds.Scram ≡ Some (creds.Scram account.user account.password)

-- the same by the mechanism: what the initiator has for it is guarded
abbrev pub OnGuarded : Marking → PlainSetup → MechKind → Type 0
OnGuarded marking own kinds.Kerberos = OnTicket marking own
OnGuarded marking own kinds.Scram = OnAccount marking own

-- ---- nothing is forged

-- the log says that the context was settled
pub record WasSettled (history : List Entry) (id : ℕ) : Type 0 where
  pub place : ℕ
  pub mech : MechKind
  pub names : List ℕ
  pub ends : ℕ
  pub at : ℕ
  pub entry : entry_at place history ≡ Some (Settled id mech names ends at)

-- the acceptor's MIC of a word of four octets, under the key of a context that was complete: of
-- every word, with every number
pub record IsWordMic (w : World) (making : MechMaking) : Type 0 where
  pub context : Context
  pub listed : Listed w.fixed context
  pub settled : WasSettled w.book.core.history context.id
  pub word : List ℕ
  pub four : length word ≡ 4
  pub number : ℕ
  pub is_mic : making ≡ typed (mic_making (token_end context.fixed.outcome Acceptor) number word)

-- it stands among what was handed out
abbrev pub WasMade : World → MechMaking → Type 0
WasMade w making = AmongMakings w.makings making ⊎ IsWordMic w making

-- a ticket that was opened under a key of the acceptor's was issued, with this client and session
-- key
pub record WasIssued (marking : Marking) (opened : Opened) : Type 0 where
  pub ticket : Ticket
  pub issued : Listed marking.tickets ticket
  pub service : ticket.service ≡ opened.service
  pub client : ticket.client ≡ opened.client
  pub session : ticket.session ≡ opened.session

-- what an event found verified under a guarded key was handed out before, and a ticket that it
-- opened was issued
pub record Unforged (marking : Marking) (w : World) (deed : Deed) : Type 0 where
  pub made : (making : MechMaking) → AmongMakings deed.found making
      → Guarded marking w.fixed making.key → WasMade w making
  pub issued : (opened : Opened) → deed.opened ≡ Some opened → WasIssued marking opened

-- what the events of a run found verified under guarded keys was handed out before, and each
-- ticket that they opened was issued
abbrev pub NoForgery : Marking → (old : World) → (events : List WorldEvent) → (new : World)
    → Run old events new → Type 0
NoForgery marking old [] new run = Unit {0}
NoForgery marking old (event ∷ later) new run =
    Unforged marking old run.0.deed × NoForgery marking run.0.world later new run.1

-- ---- what is drawn is fresh: said of a world, of all that was used of it up to then

-- a context on this request, and on a proof over this AuthMessage
pub record OnRequest (context : Context) (request : Judged) : Type 0 where
  pub basis : context.fixed.basis ≡ ByRequest request

-- the AuthMessage of an acceptor's end and the text with the proof
pub record HasAuth (end : AcceptModel) (text auth : List ℕ) : Type 0 where
  pub third : Third
  pub read : third_of text ≡ Ok third
  pub auth_is : auth ≡ auth_with end third.bare

-- the context is built on a proof over this AuthMessage, which this acceptor's end took
pub record OnProof (context : Context) (end : AcceptModel) (auth : List ℕ) : Type 0 where
  pub text : List ℕ
  pub basis : context.fixed.basis ≡ ByProof end text
  pub has_auth : HasAuth end text auth

-- the initiator of this place has a Kerberos credential, or SCRAM's
pub record HasTicket (w : World) (i : ℕ) (own : PlainSetup) (credential : Granted) : Type 0 where
  pub there : slice_get w.facts i ≡ Some own
  pub is_own : ticket_for own.list ≡ Some credential

-- the same of SCRAM: it has this user and password
pub record HasAccount (w : World) (i : ℕ) (own : PlainSetup) (user password : List ℕ) : Type 0 where
  pub there : slice_get w.facts i ≡ Some own
  pub is_own : cred_for own.list kinds.Scram ≡ Some (creds.Scram user password)

-- the outcome of an initiator that completed, which stays after it ended
abbrev pub session_in : StageSays → Option SessionState
session_in (stages.Ready own) = None
session_in (stages.Asks xid end) = None
session_in (stages.Stands s) = Some s
session_in (stages.Left s) = Some s
session_in stages.Over = None

-- the initiator of this place completed with this outcome; it may have ended since
pub record Completed (w : World) (i : ℕ) (own : PlainSetup) (outcome : Outcome) : Type 0 where
  pub there : slice_get w.facts i ≡ Some own
  pub stage : StageSays
  pub stands : slice_get w.stages i ≡ Some stage
  pub session : SessionState
  pub in_session : session_in stage ≡ Some session
  pub outcome_is : session.outcome ≡ outcome

-- the initiator handed out a proof over this AuthMessage, which has its name, its nonce and its
-- binding data
pub record Proved (w : World) (own : PlainSetup) (auth : List ℕ) : Type 0 where
  pub user : List ℕ
  pub password : List ℕ
  pub is_own : cred_for own.list kinds.Scram ≡ Some (creds.Scram user password)
  pub parts : AuthParts
  pub reads : auth_parts auth ≡ Some parts
  pub name : parts.name ≡ user
  pub nonce : parts.client ≡ encoded (drawn_nonce own.draws)
  pub binding : parts.binding ≡ data_of own.bindings
  pub handed_out : AmongMakings w.makings (proof_making
      (stored_key (record { password = password; salt = parts.salt; rounds = parts.rounds })) auth
      (proof_of (record { password = password; salt = parts.salt; rounds = parts.rounds }) auth))

-- the initiator of this place completed by SCRAM with this key, and handed out a proof over this
-- AuthMessage
pub record AtInitiator (w : World) (key : Key) (auth : List ℕ) : Type 0 where
  pub i : ℕ
  pub own : PlainSetup
  pub outcome : Outcome
  pub completed : Completed w i own outcome
  pub by_proof : outcome.mech ≡ kinds.Scram
  pub proved : Proved w own auth
  pub key_is : outcome.key ≡ key

-- draws, stamps and keys differ where they have to; tickets and users' lines are what they are said
-- to be; and no subkey is told to others
pub record Fresh (marking : Marking) (w : World) : Type 0 where
  -- a credential with an issued ticket's session key names the ticket's client and server
  pub credential : (i : ℕ) (own : PlainSetup) (credential : Granted) (t : Ticket)
      → HasTicket w i own credential → Listed marking.tickets t → t.session ≡ credential.session
      → (t.client ≡ credential.client) × (t.server ≡ credential.server)
  -- and a ticket under a key of the acceptor's own name names the acceptor
  pub server : (t : Ticket) (number : Option ℕ) (etype : Etype) → Listed marking.tickets t
      → found w.book.setup.keytab w.book.setup.own number etype ≡ Some t.service
      → t.server ≡ w.book.setup.own
  -- two initiators with one session key have different stamps
  pub stamps : (i j : ℕ) (own other : PlainSetup) (c d : Granted) → HasTicket w i own c
      → HasTicket w j other d → c.session ≡ d.session → own.stamp ≡ other.stamp → i ≡ j
  -- no two subkeys are equal, of contexts on requests
  pub subkeys : (i j : ℕ) (x y : Context) (a b : Judged)
      → slice_get w.fixed i ≡ Some x → slice_get w.fixed j ≡ Some y → OnRequest x a → OnRequest y b
      → x.fixed.outcome.key ≡ y.fixed.outcome.key → i ≡ j
  -- no two nonces of SCRAM are equal, of initiators and of acceptors
  pub nonces : (i j : ℕ) (own other : PlainSetup) (a p b q : List ℕ) → HasAccount w i own a p
      → HasAccount w j other b q → drawn_nonce own.draws ≡ drawn_nonce other.draws → i ≡ j
  pub own_nonces : (i j : ℕ) (x y : Context) (end next : AcceptModel) (auth last : List ℕ)
      → slice_get w.fixed i ≡ Some x → slice_get w.fixed j ≡ Some y
      → OnProof x end auth → OnProof y next last → end.own ≡ next.own → i ≡ j
  -- a marked user's line has the StoredKey of its password
  pub lines : (account : Account) (line : Verifier) → Listed marking.accounts account
      → Listed w.book.setup.verifiers line → line.name ≡ account.user → line.stored
      ≡ stored_key (record { password = account.password; salt = line.salt; rounds = line.rounds })
  -- an initiator that completed by SCRAM on the key of a context on a marked user's line has the
  -- context's AuthMessage
  pub proof_keys : (x : Context) (end : AcceptModel) (auth last : List ℕ) → Listed w.fixed x
      → GuardedBasis marking x.fixed.basis → OnProof x end auth
      → AtInitiator w x.fixed.outcome.key last → auth ≡ last
  -- and the key of a SCRAM exchange is no subkey that was drawn, where a context on either is on a
  -- guarded key: of a context, or of an initiator that completed by SCRAM
  pub proof_subkeys : (x y : Context) (request : Judged) (end : AcceptModel) (auth : List ℕ)
      → Listed w.fixed x → Listed w.fixed y → OnRequest x request → OnProof y end auth
      → GuardedBasis marking x.fixed.basis ⊎ GuardedBasis marking y.fixed.basis
      → x.fixed.outcome.key ≢ y.fixed.outcome.key
  pub own_proofs : (x : Context) (request : Judged) (last : List ℕ) → Listed w.fixed x
      → GuardedBasis marking x.fixed.basis → OnRequest x request
      → AtInitiator w x.fixed.outcome.key last → ⊥
  -- who completed by Kerberos on the key of a context that is built on a guarded key has a guarded
  -- session key
  pub untold : (i : ℕ) (own : PlainSetup) (c : Granted) (outcome : Outcome) → HasTicket w i own c
      → Completed w i own outcome → outcome.mech ≡ kinds.Kerberos
      → BuiltKey marking w.fixed outcome.key → GuardedSession marking c.session
