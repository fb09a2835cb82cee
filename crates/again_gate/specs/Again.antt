-- A gate over another, where a call that is sent again acts once.
--
-- A client that hears nothing may send its call again, with the same transaction number (RFC 5531,
-- 4) and a new number of its context (RFC 2203, 5.3.3.1); it is to act at most once.
use Rattle.std.specs.Prelude.{◌≡◌, ℕ, Bool, true, false, not, ◌&&◌, ◌==◌, nat_eq, List, [], ◌∷◌}
use Rattle.std.specs.Prelude.{Option, None, Some, Result, Ok, Err, replicate}
use lib.Pointwise.{pointwise}
use Rattle.sha1.specs.Sha1.{sha1}
use Rattle.again_calls.specs.declared.outcome.KeptOutcome.{KeptOutcome}
use Rattle.again_calls.specs.declared.outcome.KeptOutcome.TheVariants as kepts
use Rattle.again_calls.specs.declared.place.Act.{Act}
use Rattle.again_calls.specs.Kept.{PlaceOf, no_place, given_to, added_to, act_of}
use Rattle.again_calls.specs.Outcomes.{IsKept, IsAgain}
use Rattle.accept_core.specs.declared.answer.AdmitRefusal.{AdmitRefusal}
use Rattle.accept_core.specs.declared.answer.AdmitRefusal.TheVariants.{Repeat}
use Rattle.accept_core.specs.declared.entry.Entry.{Entry}
use Rattle.accept_core.specs.declared.entry.Entry.TheVariants.{Opened, Auth, Went, Settled, Call}
use Rattle.accept_core.specs.declared.entry.Entry.TheVariants.{Ended}
use Rattle.accept_core.specs.declared.entry.Receipt.{Receipt}
use Rattle.accept_core.specs.Entering.{given}
use Rattle.accept_book.specs.declared.book_answer.Admitted.{Admitted}
use Rattle.accept_book.specs.declared.book_answer.Lease.{Lease}
use Rattle.accept_book.specs.RecordShown.{Asked, AskedStep, AskedLook, AskedAdmit, AskedEnd}
use Rattle.accept_book.specs.RecordShown.{with_ok}
use Rattle.rpc_program.specs.Programs.{NONE, IsShort}
use Rattle.rpc_program.specs.declared.outcome.Outcome.{Outcome}
use Rattle.rpcsec_bodies.specs.declared.service.Service.{Service}
use Rattle.gss_server.specs.Programs.{passed}
use Rattle.again_gate.specs.declared.again.Seen.{Seen}
use Rattle.again_gate.specs.declared.again.Seen.TheVariants.{New, Again, Other}

-- the gate below, the transaction number of the next call, the last acting calls of each context,
-- and how many octets of a result are kept at most
pub record AgainOf (S : Type 0) : Type 0 where
  pub gate : S
  pub xid : ℕ
  pub places : List PlaceOf
  pub most : ℕ

-- as it is made
abbrev pub opened_gate : {S : Type 0} → S → ℕ → ℕ → ℕ → AgainOf S
opened_gate gate contexts width most =
    record { gate = gate; xid = 0; places = replicate contexts (no_place width); most = most }

-- the next call has this transaction number
abbrev pub with_xid : {S : Type 0} → ℕ → AgainOf S → AgainOf S
with_xid xid a = record { gate = a.gate; xid = xid; places = a.places; most = a.most }

-- an entry opens a context, which is given a place, or ends one, which gives its own back
abbrev pub placed : Entry → List PlaceOf → List PlaceOf
placed (Opened id at) ps = given_to None (Some id) ps
placed (Auth id mark at) ps = ps
placed (Went id at) ps = ps
placed (Settled id mech names ends at) ps = ps
placed (Call id seq procedure args) ps = ps
placed (Ended id cause) ps = given_to (Some id) None ps

-- the same of receipts, in order
abbrev pub placed_all : List Receipt → List PlaceOf → List PlaceOf
placed_all [] ps = ps
placed_all (receipt ∷ receipts) ps = placed_all receipts (placed receipt.entry ps)

-- the kept call has this procedure, and arguments with this digest
abbrev pub is_act : Act → ℕ → List ℕ → Bool
is_act act procedure digest = act.procedure == procedure && pointwise nat_eq act.args digest

-- its result was longer than is kept
abbrev pub is_long : KeptOutcome → Bool
is_long kepts.Args = false
is_long (kepts.Done kept) = false
is_long (kepts.Refused why) = false
is_long (kepts.Mismatch low high) = false
is_long kepts.Gone = false
is_long kepts.NoMemory = false
is_long kepts.Long = true

-- what became of the kept call is told again: it is the call that is asked for, and it was kept
abbrev pub is_told : Act → ℕ → List ℕ → Bool
is_told act procedure digest = is_act act procedure digest && not (is_long act.outcome)

-- a call was looked for by its transaction number: none such is kept; or it is told again what
-- became of it; or that isn't told
abbrev pub IsSeen : Option Act → ℕ → List ℕ → Seen → Type 0
IsSeen None procedure digest New = Unit {0}
IsSeen None procedure digest (Again outcome) = ⊥
IsSeen None procedure digest Other = ⊥
IsSeen (Some act) procedure digest New = ⊥
IsSeen (Some act) procedure digest (Again outcome) =
    (is_told act procedure digest ≡ true) × IsAgain act.outcome (Some outcome) × IsShort outcome
IsSeen (Some act) procedure digest Other = is_told act procedure digest ≡ false

-- the call as it is kept
abbrev pub act_as : ℕ → ℕ → List ℕ → KeptOutcome → Act
act_as xid procedure digest outcome =
    record { xid = xid; procedure = procedure; args = digest; outcome = outcome }

-- an admitted call was kept
pub record KeepsCall (most xid id procedure : ℕ) (digest : List ℕ) (admitted : Admitted)
    (old new : List PlaceOf) : Type 0 where
  pub outcome : KeptOutcome
  pub kept : IsKept most admitted.outcome outcome
  pub added : new ≡ added_to id (act_as xid procedure digest outcome) old

-- exactly an admitted call is kept
abbrev pub Keeps : ℕ → ℕ → ℕ → ℕ → List ℕ → Result Admitted AdmitRefusal → List PlaceOf
    → List PlaceOf → Type 0
Keeps most xid id procedure digest (Ok admitted) old new =
    KeepsCall most xid id procedure digest admitted old new
Keeps most xid id procedure digest (Err refusal) old new = new ≡ old

-- the context's place is given back where it ended
abbrev pub ended_after : ℕ → Result Receipt AdmitRefusal → List PlaceOf → List PlaceOf
ended_after id (Ok receipt) ps = given_to (Some id) None ps
ended_after id (Err refusal) ps = ps

-- the gate below was asked this, and the places are these
pub record Passes {S : Type 0} (Answers : S → Asked Admitted → S → Type 0) (old : AgainOf S)
    (one : Asked Admitted) (new : AgainOf S) (kept : List PlaceOf) : Type 0 where
  pub answers : Answers old.gate one new.gate
  pub xid : new.xid ≡ old.xid
  pub most : new.most ≡ old.most
  pub places : new.places ≡ kept

-- a call whose transaction number isn't kept: the gate below is asked the same, and the call is
-- kept where it was admitted
pub record Acts {S : Type 0} (Answers : S → Asked Admitted → S → Type 0) (old : AgainOf S)
    (lease : Lease) (seq : ℕ) (service : Service) (procedure : ℕ) (args : List ℕ)
    (answer : Result Admitted AdmitRefusal) (new : AgainOf S) : Type 0 where
  pub answers : Answers old.gate (AskedAdmit lease seq service procedure args answer) new.gate
  pub xid : new.xid ≡ old.xid
  pub most : new.most ≡ old.most
  pub keeps : Keeps old.most old.xid lease.id procedure (sha1 args) answer old.places new.places

-- a number that was taken is answered with this outcome
abbrev pub told_with : Outcome → Result Receipt AdmitRefusal → Result Admitted AdmitRefusal
told_with outcome inner =
    with_ok (λ receipt. record { receipt = receipt; outcome = outcome }) inner

-- a call that acted before: the gate below is asked to take its number alone, and what became of
-- the call is told again
pub record Repeats {S : Type 0} (Answers : S → Asked Admitted → S → Type 0) (act : Act)
    (old : AgainOf S) (lease : Lease) (seq : ℕ) (service : Service) (args : List ℕ)
    (answer : Result Admitted AdmitRefusal) (new : AgainOf S) : Type 0 where
  pub inner : Result Receipt AdmitRefusal
  pub passes : Passes Answers old (AskedAdmit lease seq service NONE args (passed inner)) new
      old.places
  pub outcome : Outcome
  pub again : IsAgain act.outcome (Some outcome)
  pub is : answer ≡ told_with outcome inner

-- by whether that is told again: with another call's transaction number, and of a result that
-- wasn't kept, the answer is Repeat, and nothing is asked
abbrev pub AdmitsSame : {S : Type 0} → (S → Asked Admitted → S → Type 0) → Bool → Act → AgainOf S
    → Lease → ℕ → Service → List ℕ → Result Admitted AdmitRefusal → AgainOf S → Type 0
AdmitsSame Answers true act old lease seq service args answer new =
    Repeats Answers act old lease seq service args answer new
AdmitsSame Answers false act old lease seq service args answer new =
    (answer ≡ Err Repeat) × (new ≡ old)

-- by the kept call with the transaction number
abbrev pub AdmitsBy : {S : Type 0} → (S → Asked Admitted → S → Type 0) → Option Act → AgainOf S
    → Lease → ℕ → Service → ℕ → List ℕ → Result Admitted AdmitRefusal → AgainOf S → Type 0
AdmitsBy Answers None old lease seq service procedure args answer new =
    Acts Answers old lease seq service procedure args answer new
AdmitsBy Answers (Some act) old lease seq service procedure args answer new =
    AdmitsSame Answers (is_told act procedure (sha1 args)) act old lease seq service args answer new

-- by whether it is a call of no procedure: such a one takes a number, and nothing is kept of it
abbrev pub Admits : {S : Type 0} → (S → Asked Admitted → S → Type 0) → Bool → AgainOf S → Lease
    → ℕ → Service → ℕ → List ℕ → Result Admitted AdmitRefusal → AgainOf S → Type 0
Admits Answers true old lease seq service procedure args answer new =
    Passes Answers old (AskedAdmit lease seq service procedure args answer) new old.places
Admits Answers false old lease seq service procedure args answer new =
    AdmitsBy Answers (act_of lease.id old.xid old.places) old lease seq service procedure args
    answer new

-- what it may answer to a question, by what the gate below may
abbrev pub AgainAnswers : {S : Type 0} → (S → Asked Admitted → S → Type 0) → AgainOf S
    → Asked Admitted → AgainOf S → Type 0
AgainAnswers Answers old (AskedStep id token now draws answer) new =
    Passes Answers old (AskedStep id token now draws answer) new
    (placed_all (given answer.receipts) old.places)
AgainAnswers Answers old (AskedLook id now answer) new =
    Passes Answers old (AskedLook id now answer) new old.places
AgainAnswers Answers old (AskedAdmit lease seq service procedure args answer) new =
    Admits Answers (procedure == NONE) old lease seq service procedure args answer new
AgainAnswers Answers old (AskedEnd lease seq answer) new =
    Passes Answers old (AskedEnd lease seq answer) new (ended_after lease.id answer old.places)
