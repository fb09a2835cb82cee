-- Agreement: who completed on a guarded key has one partner, and both have one outcome.
use Rattle.std.specs.Prelude.{◌≡◌, ◌≢◌, ℕ, ◌≤◌, List, [], length, slice_get, Some}
use Rattle.gss_base.specs.Bindings.{hash_of}
use Rattle.gss_base.specs.declared.mech.MechKind.{MechKind}
use Rattle.gss_base.specs.declared.mech.MechKind.TheVariants as kinds
use Rattle.krb_files.specs.Granted.{Granted}
use Rattle.ap_exchange.specs.declared.judged.Judged.{Judged}
use Rattle.ap_exchange.specs.Judging.{judged_mark}
use Rattle.ap_exchange.specs.Request.{label_of, request_making}
use Rattle.scram_mech.specs.Acceptor.{AcceptModel}
use Rattle.scram_mech.specs.MechMaking.{AmongMakings, typed}
use Rattle.spnego_core.specs.declared.outcome.Outcome.{Outcome}
use Rattle.spnego_core.specs.declared.setup.MechCred.TheVariants as creds
use Rattle.spnego_core.specs.declared.accept_end.AcceptEnd.{AcceptEnd}
use Rattle.spnego_core.specs.Ends.{PlainSetup}
use Rattle.spnego_core.specs.AcceptMech.{Basis, ByRequest, ByProof}
use Rattle.spnego_core.specs.Choice.{best}
use Rattle.spnego_core.specs.InitMech.{cred_for, ticket_for}
use Rattle.spnego_core.specs.Initiating.{own_list}
use Rattle.context_table.specs.declared.slot.SlotState.TheVariants.{Complete}
use Rattle.context_table.specs.Places.{slot_at}
use Rattle.accept_core.specs.declared.entry.Entry.{Entry}
use Rattle.accept_core.specs.declared.entry.Entry.TheVariants.{Opened, Auth, Settled}
use Rattle.accept_book.specs.Booking.{names_of}
use Rattle.accept_book.specs.BookLaws.{fixed_in}
use Rattle.accept_core.specs.History.{entry_at}
use Rattle.accept_core.specs.Stepping.{Context as Slot, context_of}
use Rattle.world_laws.specs.declared.event.WorldEvent.{WorldEvent}
use Rattle.world_laws.specs.Stages.{Ready}
use Rattle.world_laws.specs.State.{Context, World}
use Rattle.world_laws.specs.Events.{Run, Begins}
use Rattle.world_laws.specs.Premises.{Marking, GuardedBasis, OnGuarded, NoForgery, Fresh, Completed}
use Rattle.world_laws.specs.Premises.{Proved, HasAuth}

-- ---- partners

-- the context took the initiator's authenticator: the session key and the stamp are its own
pub record TookRequest (own : PlainSetup) (request : Judged) : Type 0 where
  pub credential : Granted
  pub is_own : ticket_for own.list ≡ Some credential
  pub session : request.session ≡ credential.session
  pub stamp : request.stamp ≡ own.stamp

-- the context took the initiator's proof: both have one AuthMessage
pub record TookProof (w : World) (own : PlainSetup) (end : AcceptModel) (text : List ℕ) : Type 0
  where
    pub auth : List ℕ
    pub taken : HasAuth end text auth
    pub proved : Proved w own auth

-- the initiator handed out the authenticator of its request
pub record AskedOut (w : World) (own : PlainSetup) : Type 0 where
  pub credential : Granted
  pub is_own : ticket_for own.list ≡ Some credential
  pub handed_out : AmongMakings w.makings (typed (request_making credential own.stamp own.draws
      own.bindings))

-- the initiator's partner: a context that is built on this took its authenticator or its proof
abbrev pub Partner : World → PlainSetup → Basis → Type 0
Partner w own (ByRequest request) = TookRequest own request
Partner w own (ByProof end text) = TookProof w own end text

-- what a context on this took was handed out by the initiator: the authenticator of its request, or
-- its proof
abbrev pub HandedOut : World → PlainSetup → Basis → Type 0
HandedOut w own (ByRequest request) = AskedOut w own
HandedOut w own (ByProof end text) = (auth : List ℕ) × Proved w own auth

-- a context at this place of what was fixed is the initiator's partner, and they agree: on the
-- mechanism, both names, the key and whose it is, and the hash of the bindings
pub record HasPartner (w : World) (own : PlainSetup) (outcome : Outcome) : Type 0 where
  pub place : ℕ
  pub context : Context
  pub there : slice_get w.fixed place ≡ Some context
  pub partner : Partner w own context.fixed.basis
  pub agree : outcome ≡ context.fixed.outcome

-- ---- a context's initiator

-- a context has an initiator whose authenticator or proof it took; its facts give the context's
-- names and hash
pub record NamesByTicket (own : PlainSetup) (outcome : Outcome) : Type 0 where
  pub credential : Granted
  pub is_own : ticket_for own.list ≡ Some credential
  pub initiator : outcome.initiator ≡ label_of credential.client
  pub acceptor : outcome.acceptor ≡ label_of credential.server

-- the same by SCRAM: the initiator is the account's user, and the acceptor has no name
pub record NamesByAccount (own : PlainSetup) (outcome : Outcome) : Type 0 where
  pub user : List ℕ
  pub password : List ℕ
  pub is_own : cred_for own.list kinds.Scram ≡ Some (creds.Scram user password)
  pub initiator : outcome.initiator ≡ user
  pub acceptor : outcome.acceptor ≡ []

-- the outcome's names are those of the initiator's own credential of this mechanism
abbrev pub NamesBy : MechKind → PlainSetup → Outcome → Type 0
NamesBy kinds.Kerberos own outcome = NamesByTicket own outcome
NamesBy kinds.Scram own outcome = NamesByAccount own outcome

-- the context is the partner of one initiator alone, which was started and handed out what the
-- context took, and whose facts give its names and hash
pub record HasInitiator (w : World) (context : Context) : Type 0 where
  pub initiator : ℕ
  pub own : PlainSetup
  pub there : slice_get w.facts initiator ≡ Some own
  pub ran : (setup : PlainSetup) → slice_get w.stages initiator ≢ Some (Ready setup)
  pub partner : Partner w own context.fixed.basis
  pub handed_out : HandedOut w own context.fixed.basis
  pub names : NamesBy context.fixed.outcome.mech own context.fixed.outcome
  pub hash : context.fixed.outcome.hash ≡ hash_of own.bindings
  -- nobody else's
  pub only : (other : ℕ) (next : PlainSetup) → slice_get w.facts other ≡ Some next
      → Partner w next context.fixed.basis → other ≡ initiator

-- ---- an initiator's partner

-- it has a partner on a guarded key, and each partner on a guarded key, of whatever mechanism, is
-- this one; the mechanism is the first of the own list that the acceptor offers
pub record HasOne (marking : Marking) (w : World) (own : PlainSetup) (outcome : Outcome) : Type 0
  where
    pub has : HasPartner w own outcome
    pub guarded : GuardedBasis marking has.context.fixed.basis
    pub best_is : best w.book.setup.offer (own_list own) ≡ Some outcome.mech
    pub only : (other : ℕ) (x : Context) → slice_get w.fixed other ≡ Some x
        → Partner w own x.fixed.basis → GuardedBasis marking x.fixed.basis → other ≡ has.place

-- where the context's initiator completed on a guarded key, both outcomes agree
pub record Meets (marking : Marking) (w : World) (context : Context) : Type 0 where
  pub has : HasInitiator w context
  pub agree : (outcome : Outcome) → Completed w has.initiator has.own outcome
      → OnGuarded marking has.own outcome.mech → outcome ≡ context.fixed.outcome

-- ---- the book

-- a context was fixed with this id, outcome and end
pub record FixedAs (w : World) (id : ℕ) (outcome : Outcome) (ends : ℕ) : Type 0 where
  pub place : ℕ
  pub context : Context
  pub there : slice_get w.fixed place ≡ Some context
  pub id_is : context.id ≡ id
  pub outcome_is : context.fixed.outcome ≡ outcome
  pub ends_is : context.fixed.lasts ≡ ends

-- the log says that this id was opened
pub record WasOpened (history : List Entry) (id : ℕ) : Type 0 where
  pub place : ℕ
  pub at : ℕ
  pub entry : entry_at place history ≡ Some (Opened id at)

-- the log has the authenticator of the request that the context is on
pub record HasAuthEntry (w : World) (context : Context) (request : Judged) : Type 0 where
  pub place : ℕ
  pub at : ℕ
  pub entry : entry_at place w.book.core.history ≡ Some (Auth context.id (judged_mark request) at)

-- the acceptor's name by a mechanism: its own by Kerberos, none by SCRAM
abbrev pub acceptor_by : MechKind → World → List ℕ
acceptor_by kinds.Kerberos w = label_of w.book.setup.own
acceptor_by kinds.Scram w = []

-- a context that was fixed is one of the book's, by the book's own facts
pub record IsBooks (w : World) (place : ℕ) (x : Context) : Type 0 where
  -- its id was opened, and is no other's
  pub opened : WasOpened w.book.core.history x.id
  pub alone : (other : ℕ) (y : Context) → slice_get w.fixed other ≡ Some y → y.id ≡ x.id
      → other ≡ place
  -- the log has its authenticator, by Kerberos; by SCRAM there is none
  pub auth : (request : Judged) → x.fixed.basis ≡ ByRequest request → HasAuthEntry w x request
  -- while it lives, it has this outcome and end
  pub live : (slot : Slot AcceptEnd Outcome) → context_of (slot_at w.book.core.table x.id)
      ≡ Some slot
      → fixed_in (Some slot) ≡ Some (record { outcome = x.fixed.outcome; ends = x.fixed.lasts })
  -- the acceptor's name is its own, and where it has bindings, the hash is theirs
  pub named : x.fixed.outcome.acceptor ≡ acceptor_by x.fixed.outcome.mech w
  pub bound : (application : List ℕ) → w.book.setup.bindings ≡ Some application
      → 1 ≤ length application → x.fixed.outcome.hash ≡ hash_of (Some application)

-- what holds of initiators that completed on guarded keys, of contexts that are built on such,
-- and of what stands in the acceptor's log and table
pub record Agreement (marking : Marking) (w : World) : Type 0 where
  pub initiators : (i : ℕ) (own : PlainSetup) (outcome : Outcome) → Completed w i own outcome
      → OnGuarded marking own outcome.mech → HasOne marking w own outcome
  -- no two share one
  pub apart : (i j : ℕ) (own other : PlainSetup) (place : ℕ) (x : Context)
      → slice_get w.facts i ≡ Some own → slice_get w.facts j ≡ Some other
      → slice_get w.fixed place ≡ Some x → GuardedBasis marking x.fixed.basis
      → Partner w own x.fixed.basis → Partner w other x.fixed.basis → i ≡ j
  pub contexts : (place : ℕ) (x : Context) → slice_get w.fixed place ≡ Some x
      → GuardedBasis marking x.fixed.basis → Meets marking w x
  -- each context that was fixed, on whatever key, is one of the book's
  pub books : (place : ℕ) (x : Context) → slice_get w.fixed place ≡ Some x → IsBooks w place x
  -- what the log says was settled was fixed, with the mechanism, the names and the end in the log;
  -- and what a complete context has was fixed
  pub settled : (place id : ℕ) (mech : MechKind) (names : List ℕ) (ends at : ℕ)
      → entry_at place w.book.core.history ≡ Some (Settled id mech names ends at)
      → (outcome : Outcome) × FixedAs w id outcome ends × (outcome.mech ≡ mech)
      × (names_of outcome ≡ names)
  pub complete : (id : ℕ) (outcome : Outcome) (ends : ℕ) → context_of (slot_at w.book.core.table id)
      ≡ Some (record { state = Complete outcome; ends = ends }) → FixedAs w id outcome ends

-- agreement holds after every run, for every marking, if nothing is forged and draws are fresh
abbrev pub AgreementLaw : Type 0
AgreementLaw = (marking : Marking) (old : World) (events : List WorldEvent) (new : World)
    (run : Run old events new)
    → Begins old → NoForgery marking old events new run → Fresh marking new → Agreement marking new
