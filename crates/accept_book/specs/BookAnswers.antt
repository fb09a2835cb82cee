-- What a book's calls answer, and what each leaves of the book.
use Rattle.std.specs.Prelude.{◌≡◌, ◌≢◌, ◌↔◌, ℕ, List, length, Option, None, Result, OnErr, IfOk}
use Rattle.std.specs.Prelude.{IsOk}
use Rattle.context_table.specs.Places.{slot_at, live_of, HasValue, Marks, KeepsOthers}
use Rattle.accept_core.specs.History.{standing, living}
use Rattle.accept_core.specs.Answers.{or_refused, after, receipt_of}
use Rattle.accept_core.specs.Entering.{given, gained}
use Rattle.accept_core.specs.Replays.{Accepting, Keeps}
use Rattle.accept_book.specs.Looking.{IsLooked}
use Rattle.accept_core.specs.Stepping.{SameWindows, IsNext}
use Rattle.accept_book.specs.Booking.{BookOf, Stands, Outcomes, spends, negotiated, raised, Changed}
use Rattle.accept_book.specs.Booking.{NotesMoment, LeasedBy, lease_refused, FreeFor}
use Rattle.accept_core.specs.declared.answer.AdmitRefusal.{AdmitRefusal}
use Rattle.accept_core.specs.declared.answer.LookRefusal.{LookRefusal}
use Rattle.accept_book.specs.declared.book_answer.Lease.{Lease}
use Rattle.accept_book.specs.declared.book_answer.Negotiated.{Negotiated}
use Rattle.accept_book.specs.declared.book_answer.NegAnswer.TheVariants.{NoMemory}
use Rattle.accept_core.specs.declared.entry.EndCause.TheVariants.{Destroyed}
use Rattle.accept_core.specs.declared.entry.Entry.TheVariants.{Call, Ended}
use Rattle.accept_core.specs.declared.entry.Receipt.{Receipt}
use Rattle.spnego_core.specs.declared.accept_end.AcceptEnd.{AcceptEnd}
use Rattle.spnego_core.specs.declared.outcome.Outcome.{Outcome}

-- ---- a token

-- this came of a token: its answer, the history after it, and what became of the contexts
pub record IsOutcome
    (book : Stands) (outcome : Outcomes) (result : Negotiated)
    (new : Accepting AcceptEnd Outcome) : Type 0 where
  pub answer : result.answer ≡ outcome.answer
  pub history : new.history ≡ outcome.history
  pub contexts : Changed book.table outcome.change new.table

-- what a book comes to by a token, from how it stood: unless memory was wanted, to this outcome by
-- the next context that gives its place, where one does, which a first token alone asks for. Where
-- memory was wanted, a later token's context ends, and a first token's isn't opened
pub record ComesTo
    (book : Stands) (id : Option ℕ) (comes : Option ℕ → Outcomes) (result : Negotiated)
    (new : Accepting AcceptEnd Outcome) : Type 0 where
  pub outcome : (past : Option ℕ) → (id ≡ None → IsNext book.table book.greatest past)
      → result.answer ≢ NoMemory → IsOutcome book (comes past) result new
  pub memory : result.answer ≡ NoMemory
      → IsOutcome book (spends id book.history NoMemory) result new
  -- the entries that were added, each with its place
  pub receipts : given result.receipts ≡ gained (length book.history) new.history
  pub windows : SameWindows book.table new.table

-- `negotiate`: the moment is taken note of, and then the token is taken
pub record BookStepped
    (old new : BookOf) (id : Option ℕ) (token : List ℕ) (now : ℕ) (draws : List ℕ)
    (result : Negotiated) : Type 0 where
  pub comes : ComesTo (raised old.core now) id
      (λ past. negotiated old.setup (raised old.core now) id past token now draws) result new.core
  pub notes : NotesMoment old new now
  -- as many contexts live as the log says
  pub lives : live_of new.core.table ≡ living new.core.history

-- ---- a look, and what takes a number

-- `look`: what the log says of the id, with the value that the context keeps; the moment is taken
-- note of, and all else stays
pub record BookLooked
    (old new : BookOf) (id now : ℕ) (result : Result Lease LookRefusal) : Type 0 where
  pub answer : LeasedBy (standing id old.core.history) id now result
  pub value : IfOk result (λ lease. HasValue (slot_at old.core.table id) lease.outcome lease.ends)
  pub looked : IsLooked old.core now new.core
  pub setup : new.setup ≡ old.setup

-- `admit`: the first refusal there is, or the call's entry; the number is marked in the window of
-- the lease's context, and every other context stays
pub record BookAdmitted
    (old new : BookOf) (lease : Lease) (seq procedure : ℕ) (args : List ℕ)
    (result : Result Receipt AdmitRefusal) : Type 0 where
  pub answer : result ≡ or_refused (lease_refused old.core lease seq)
      (receipt_of old.core.history (Call lease.id seq procedure args))
  pub history : new.core.history
      ≡ after (lease_refused old.core lease seq) (Call lease.id seq procedure args) old.core.history
  pub exactly : IsOk result ↔ FreeFor old.core lease seq
  pub slot : IsOk result
      → Marks (slot_at old.core.table lease.id) (slot_at new.core.table lease.id) seq
  pub others : KeepsOthers old.core.table new.core.table lease.id
  -- as many contexts live as the log says
  pub lives : live_of new.core.table ≡ living new.core.history
  pub unchanged : OnErr result (new ≡ old)
  pub keeps : Keeps old.core new.core
  pub setup : new.setup ≡ old.setup

-- `end`: the first refusal there is, or the entry of the end; the lease's context is gone, and
-- every other one stays
pub record BookEnded
    (old new : BookOf) (lease : Lease) (seq : ℕ) (result : Result Receipt AdmitRefusal)
    : Type 0 where
  pub answer : result ≡ or_refused (lease_refused old.core lease seq)
      (receipt_of old.core.history (Ended lease.id (Destroyed seq)))
  pub history : new.core.history
      ≡ after (lease_refused old.core lease seq) (Ended lease.id (Destroyed seq)) old.core.history
  pub exactly : IsOk result ↔ FreeFor old.core lease seq
  pub gone : IsOk result → slot_at new.core.table lease.id ≡ None
  pub others : KeepsOthers old.core.table new.core.table lease.id
  -- as many contexts live as the log says
  pub lives : live_of new.core.table ≡ living new.core.history
  pub unchanged : OnErr result (new ≡ old)
  pub keeps : Keeps old.core new.core
  pub setup : new.setup ≡ old.setup
