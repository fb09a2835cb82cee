-- The history of a book that several desks ask, and of the program beside it: each question with
-- its answer and the number of the desk that asked it, in the order in which they were answered.
use Rattle.std.specs.Prelude.{◌≡◌, ℕ, ◌==◌, if◌then◌else◌, List, [], ◌∷◌, ◌++◌, map}
use Rattle.accept_core.specs.declared.entry.Receipt.{Receipt}
use Rattle.accept_book.specs.RecordShown.{Asked, with_answer}
use Rattle.gss_server.specs.Programs.{Taken}

-- a question with its answer, as it stands in the history: of an admission it has the receipt, and
-- what entering the call gave, where it was entered
abbrev pub Noted : Type 0 → Type 0
Noted T = Asked (Taken T)

-- the same as the book has it: of an admission the receipt alone
abbrev pub receipted : {T : Type 0} → Noted T → Asked Receipt
receipted one = with_answer (λ taken. taken.0) one

-- the number of a desk, counted from 0, and a question with its answer
abbrev pub Note : Type 0 → Type 0
Note T = ℕ × Noted T

-- what one desk asked, in order
abbrev pub noted_by : {T : Type 0} → ℕ → List (Note T) → List (Noted T)
noted_by desk [] = []
noted_by desk (note ∷ notes) =
    if note.0 == desk then note.1 ∷ noted_by desk notes else noted_by desk notes

-- what all desks asked, in order
abbrev pub noted_in : {T : Type 0} → List (Note T) → List (Noted T)
noted_in notes = map (λ note. note.1) notes

-- what one desk asked the book, in order
abbrev pub asked_by : {T : Type 0} → ℕ → List (Note T) → List (Asked Receipt)
asked_by desk notes = map receipted (noted_by desk notes)

-- what all desks asked the book, in order
abbrev pub questions_of : {T : Type 0} → List (Note T) → List (Asked Receipt)
questions_of notes = map receipted (noted_in notes)

-- a history begins with this one
abbrev pub StartsWith : {T : Type 0} → List (Note T) → List (Note T) → Type 0
StartsWith {T} notes seen = (rest : List (Note T)) × (notes ≡ seen ++ rest)
