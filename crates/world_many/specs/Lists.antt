-- That what is listed pairwise different in a world is fresh: a law of every run, whatever
-- initiators, contexts and mechanisms it has.
use Rattle.std.specs.Prelude.{◌≡◌, ◌≢◌, ℕ, List, [], ◌∷◌, map, slice_get, Option, None, Some}
use Rattle.std.specs.Prelude.{option_map}
use Rattle.gss_base.specs.declared.mech.MechKind.TheVariants as kinds
use Rattle.krb_derive.specs.declared.key.Etype.{Etype}
use Rattle.krb_derive.specs.declared.key.Key.{Key}
use Rattle.krb_files.specs.Granted.{Granted}
use Rattle.krb_files.specs.Keytab.{found}
use Rattle.ap_exchange.specs.Draws.{drawn_nonce}
use Rattle.scram_mech.specs.declared.verifiers.Verifier.{Verifier}
use Rattle.scram_mech.specs.Secrets.{stored_key}
use Rattle.spnego_core.specs.declared.outcome.Outcome.{Outcome}
use Rattle.spnego_core.specs.declared.setup.MechCred.{MechCred}
use Rattle.spnego_core.specs.declared.setup.MechCred.TheVariants as creds
use Rattle.spnego_core.specs.Ends.{PlainSetup}
use Rattle.spnego_core.specs.AcceptMech.{Basis, ByRequest, ByProof}
use Rattle.spnego_core.specs.InitMech.{cred_for, ticket_for}
use Rattle.world_laws.specs.declared.event.WorldEvent.{WorldEvent}
use Rattle.world_laws.specs.Agreement.{HasPartner}
use Rattle.world_laws.specs.Deeds.{Opened}
use Rattle.world_laws.specs.Events.{Run, Begins}
use Rattle.world_laws.specs.KnownList.{Finished}
use Rattle.world_laws.specs.Premises.{Marking, Ticket, Account, Listed, WasIssued, HasTicket}
use Rattle.world_laws.specs.Premises.{HasAccount, Completed, Fresh}
use Rattle.world_laws.specs.Stages.{Over}
use Rattle.world_laws.specs.State.{Context, World}

-- ---- lists of which no two are equal

-- no two places of the list have one value; places without a value may be many
abbrev pub Apart : {A : Type 0} → List (Option A) → Type 0
Apart {A} list = (i j : ℕ) (value : A) → slice_get list i ≡ Some (Some value)
    → slice_get list j ≡ Some (Some value) → i ≡ j

-- a session key, and the moment with which it is used
pub record Stamp : Type 0 where
  pub session : Key
  pub at : ℕ

-- an initiator's session key and stamp, where it has a ticket
abbrev pub stamp_of : PlainSetup → Option Stamp
stamp_of own = option_map (λ (c : Granted). record { session = c.session; at = own.stamp })
    (ticket_for own.list)

-- its nonce of SCRAM, where it has an account
abbrev pub nonce_by : PlainSetup → Option MechCred → Option (List ℕ)
nonce_by own None = None
nonce_by own (Some (creds.Kerberos name credential)) = None
nonce_by own (Some (creds.Scram user password)) = Some (drawn_nonce own.draws)

abbrev pub nonce_of : PlainSetup → Option (List ℕ)
nonce_of own = nonce_by own (cred_for own.list kinds.Scram)

-- a context's key
abbrev pub key_of : Context → Option Key
key_of x = Some x.fixed.outcome.key

-- the acceptor's nonce, where the context is on a proof
abbrev pub own_nonce_on : Basis → Option (List ℕ)
own_nonce_on (ByRequest request) = None
own_nonce_on (ByProof end text) = Some end.own

abbrev pub own_nonce_of : Context → Option (List ℕ)
own_nonce_of x = own_nonce_on x.fixed.basis

-- the lists of a world: session keys with their stamps, and nonces, of its initiators; keys and
-- the acceptor's nonces, of what was fixed
pub record AreApart (w : World) : Type 0 where
  pub stamps : Apart (map stamp_of w.facts)
  pub nonces : Apart (map nonce_of w.facts)
  pub keys : Apart (map key_of w.fixed)
  pub own_nonces : Apart (map own_nonce_of w.fixed)

-- ---- what the files say

-- tickets name their client and server, and a marked user's line has its password's StoredKey
pub record AreMade (marking : Marking) (w : World) : Type 0 where
  pub credential : (i : ℕ) (own : PlainSetup) (credential : Granted) (t : Ticket)
      → HasTicket w i own credential → Listed marking.tickets t → t.session ≡ credential.session
      → (t.client ≡ credential.client) × (t.server ≡ credential.server)
  pub server : (t : Ticket) (number : Option ℕ) (etype : Etype) → Listed marking.tickets t
      → found w.book.setup.keytab w.book.setup.own number etype ≡ Some t.service
      → t.server ≡ w.book.setup.own
  pub lines : (account : Account) (line : Verifier) → Listed marking.accounts account
      → Listed w.book.setup.verifiers line → line.name ≡ account.user → line.stored
      ≡ stored_key (record { password = account.password; salt = line.salt; rounds = line.rounds })

-- ---- the law

-- each ticket that the events of a run opened was issued
abbrev pub AllIssued : Marking → (old : World) → (events : List WorldEvent) → (new : World)
    → Run old events new → Type 0
AllIssued marking old [] new run = Unit {0}
AllIssued marking old (event ∷ later) new run =
    ((opened : Opened) → run.0.deed.opened ≡ Some opened → WasIssued marking opened)
    × AllIssued marking run.0.world later new run.1

-- each initiator that completed has a partner among what was fixed, with its outcome
abbrev pub AreMatched : World → Type 0
AreMatched w = (i : ℕ) (own : PlainSetup) (outcome : Outcome) → Completed w i own outcome
    → HasPartner w own outcome

-- where the lists of the world after a run are apart, and all that completed is matched, all is
-- fresh: for every marking of tickets that were issued and of users, of as many initiators and
-- contexts as there are
abbrev pub FreshByListsLaw : Type 0
FreshByListsLaw = (marking : Marking) (old : World) (events : List WorldEvent) (new : World)
    (run : Run old events new) → Begins old → AllIssued marking old events new run
    → AreMade marking new → AreApart new → AreMatched new → Fresh marking new

-- ---- what the law of an acceptor's list asks beside these

-- the same of each initiator whose mechanism is done, also before it completes; none ended before
-- its context stood; and who has a marked user's name has its password
pub record AreDone (marking : Marking) (w : World) : Type 0 where
  pub matched : (i : ℕ) (own : PlainSetup) (outcome : Outcome) → Finished w i own outcome
      → HasPartner w own outcome
  pub lasting : (i : ℕ) → slice_get w.stages i ≢ Some Over
  pub passwords : (i : ℕ) (own : PlainSetup) (user password : List ℕ) (account : Account)
      → HasAccount w i own user password → Listed marking.accounts account → account.user ≡ user
      → account.password ≡ password
