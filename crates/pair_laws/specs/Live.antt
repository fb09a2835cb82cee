-- A context of a book that is complete, with the number from which on none was called, and what the
-- book answers of it.
use Rattle.std.specs.Prelude.{◌≡◌, ◌<◌, ℕ, ◌+◌, List, ◌∷◌, None, Result, Ok}
use Rattle.seq_window.specs.Marks.{greatest}
use Rattle.context_table.specs.Places.{slot_at, HasValue}
use Rattle.spnego_core.specs.declared.accept_end.AcceptEnd.{AcceptEnd}
use Rattle.spnego_core.specs.declared.outcome.Outcome.{Outcome}
use Rattle.accept_core.specs.History.{Whole, standing, numbers}
use Rattle.accept_core.specs.Answers.{receipt_of}
use Rattle.accept_book.specs.Booking.{BookOf, names_of}
use Rattle.accept_core.specs.Replays.{Accepting}
use Rattle.accept_core.specs.declared.answer.AdmitRefusal.{AdmitRefusal}
use Rattle.accept_core.specs.declared.answer.LookRefusal.{LookRefusal}
use Rattle.accept_book.specs.declared.book_answer.Lease.{Lease}
use Rattle.accept_core.specs.declared.entry.Receipt.{Receipt}
use Rattle.accept_core.specs.declared.entry.Entry.TheVariants.{Call, Ended}
use Rattle.accept_core.specs.declared.entry.EndCause.TheVariants.{Destroyed}

-- what a look at a context shows: its id, its outcome and its end
abbrev pub lease_on : ℕ → Outcome → ℕ → Lease
lease_on id outcome lasts = record { id = id; outcome = outcome; ends = lasts }

-- the context of a lease is complete with its outcome and its end, in the log and in the table
pub record IsWhole (core : Accepting AcceptEnd Outcome) (lease : Lease) : Type 0 where
  pub stands : standing lease.id core.history
      ≡ Whole lease.outcome.mech (names_of lease.outcome) lease.ends
  pub value : HasValue (slot_at core.table lease.id) lease.outcome lease.ends

-- it is complete, the windows have a width, and all numbers that were called of it are less than
-- the next
pub record IsLiveAt (book : BookOf) (lease : Lease) (next : ℕ) : Type 0 where
  pub whole : IsWhole book.core lease
  pub called : greatest (numbers lease.id book.core.history) < next
  pub wide : 0 < book.core.width

-- a look shows it
pub record IsSeen (old new : BookOf) (lease : Lease) (next : ℕ)
    (result : Result Lease LookRefusal) : Type 0 where
  pub shown : result ≡ Ok lease
  pub live : IsLiveAt new lease next
  pub history : new.core.history ≡ old.core.history

-- its next number is admitted, and the log has the call
pub record IsCalled (old new : BookOf) (lease : Lease) (next procedure : ℕ) (args : List ℕ)
    (result : Result Receipt AdmitRefusal) : Type 0 where
  pub answer : result ≡ Ok (receipt_of old.core.history (Call lease.id next procedure args))
  pub live : IsLiveAt new lease (next + 1)
  pub history : new.core.history ≡ Call lease.id next procedure args ∷ old.core.history

-- its end is taken, the log has it, and the context is gone
pub record IsOver (old new : BookOf) (lease : Lease) (next : ℕ)
    (result : Result Receipt AdmitRefusal) : Type 0 where
  pub answer : result ≡ Ok (receipt_of old.core.history (Ended lease.id (Destroyed next)))
  pub gone : slot_at new.core.table lease.id ≡ None
  pub history : new.core.history ≡ Ended lease.id (Destroyed next) ∷ old.core.history
