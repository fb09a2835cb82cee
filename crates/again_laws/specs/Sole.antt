-- A gate that nobody else asks, and its history.
use Rattle.std.specs.Prelude.{◌≡◌, ℕ, ◌≤◌, List, [], ◌∷◌, Some, Result, Ok, Err}
use Rattle.accept_core.specs.declared.answer.AdmitRefusal.{AdmitRefusal}
use Rattle.accept_core.specs.declared.entry.EndCause.TheVariants.{Destroyed}
use Rattle.accept_core.specs.declared.entry.Entry.{Entry}
use Rattle.accept_core.specs.declared.entry.Entry.TheVariants.{Call, Ended}
use Rattle.accept_core.specs.declared.entry.Receipt.{Receipt}
use Rattle.accept_core.specs.History.{living}
use Rattle.accept_book.specs.declared.book_answer.Admitted.{Admitted}
use Rattle.accept_book.specs.declared.book_answer.Lease.{Lease}
use Rattle.sha1.specs.Sha1.{sha1}
use Rattle.accept_book.specs.RecordShown.{Asked, AskedStep, AskedLook, AskedAdmit, AskedEnd}
use Rattle.accept_core.specs.Entering.{given}
use Rattle.gss_server.specs.Receipts.{of_call, of_end}

-- the receipts that an answer has
abbrev pub receipts_in : Asked Admitted → List Receipt
receipts_in (AskedStep id token now draws answer) = given answer.receipts
receipts_in (AskedLook id now answer) = []
receipts_in (AskedAdmit lease seq service procedure args answer) = of_call (Some answer)
receipts_in (AskedEnd lease seq answer) = of_end (Some answer)

-- a history with the entries of receipts on top, in order
abbrev pub onto : List Receipt → List Entry → List Entry
onto [] h = h
onto (receipt ∷ receipts) h = onto receipts (receipt.entry ∷ h)

-- an admission's answer has the entry of the call
abbrev pub IsCall : Lease → ℕ → ℕ → List ℕ → Result Admitted AdmitRefusal → Type 0
IsCall lease seq procedure args (Ok admitted) =
    admitted.receipt.entry ≡ Call lease.id seq procedure (sha1 args)
IsCall lease seq procedure args (Err refusal) = Unit {0}

-- an end's answer has the entry of the end
abbrev pub IsEnd : Lease → ℕ → Result Receipt AdmitRefusal → Type 0
IsEnd lease seq (Ok receipt) = receipt.entry ≡ Ended lease.id (Destroyed seq)
IsEnd lease seq (Err refusal) = Unit {0}

-- an answer has the entry of its question
abbrev pub IsOwn : Asked Admitted → Type 0
IsOwn (AskedStep id token now draws answer) = Unit {0}
IsOwn (AskedLook id now answer) = Unit {0}
IsOwn (AskedAdmit lease seq service procedure args answer) = IsCall lease seq procedure args answer
IsOwn (AskedEnd lease seq answer) = IsEnd lease seq answer

-- whoever asks this gate alone sees its history: each answer makes it longer by exactly the entries
-- of its receipts, and an admission's entry is that of the call
pub record IsSole {S : Type 0} (Answers : S → Asked Admitted → S → Type 0)
    (history : S → List Entry) : Type 0 where
  pub grows : (old : S) (one : Asked Admitted) (new : S) → Answers old one new
      → history new ≡ onto (receipts_in one) (history old)
  pub own : (old : S) (one : Asked Admitted) (new : S) → Answers old one new → IsOwn one

-- at no time more contexts lived than this
abbrev pub Within : ℕ → List Entry → Type 0
Within contexts [] = Unit {0}
Within contexts (entry ∷ h) = (living (entry ∷ h) ≤ contexts) × Within contexts h
