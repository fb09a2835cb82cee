-- What the shared state is asked, one question after another, and what a book answers.
use Rattle.std.specs.Prelude.{◌≡◌, ℕ, Bool, List, [], ◌∷◌, map}
use Rattle.accept_book.specs.Booking.{BookOf}
use Rattle.accept_book.specs.BookAnswers.{BookStepped, BookLooked, BookAdmitted, BookEnded}
use Rattle.accept_book.specs.RecordShown.{Asked, AskedStep, AskedLook, AskedAdmit, AskedEnd}
use Rattle.accept_core.specs.declared.entry.Receipt.{Receipt}
use Rattle.accept_book.specs.declared.book_answer.Admitted.{Admitted}
use Rattle.sha1.specs.Sha1.{sha1}
use Rattle.gss_server.specs.Telling.{GainsWith, told_of}
use Rattle.gss_server.specs.declared.told.Told.{Told}

-- these questions were asked, in order, each with its answer: from one state to another, by what a
-- state may answer
abbrev pub Asking : {S Q : Type 0} → (S → Q → S → Type 0) → S → List Q → S → Type 0
Asking Answers old [] new = new ≡ old
Asking {S} Answers old (one ∷ more) new =
    (middle : S) × Answers old one middle × Asking Answers middle more new

-- the same of a gate, which told them where it tells and has room for so many
pub record IsAsked
    {S : Type 0} (Answers : S → Asked Admitted → S → Type 0) (tells : S → Bool) (room : S → ℕ)
    (told : S → List Told) (least : ℕ) (old new : S) (asked : List (Asked Admitted)) : Type
    0 where
  pub answers : Asking Answers old asked new
  pub telling :
      GainsWith (tells old) least (room old) (room new) (told old) (told new) (map told_of asked)

-- ---- a book: as the contracts of its calls say

-- what a book may answer to a question, and what it is afterwards; of arguments it has the digest
abbrev pub BookAnswers : BookOf → Asked Receipt → BookOf → Type 0
BookAnswers old (AskedStep id token now draws answer) new =
    BookStepped old new id token now draws answer
BookAnswers old (AskedLook id now answer) new = BookLooked old new id now answer
BookAnswers old (AskedAdmit lease seq service procedure args answer) new =
    BookAdmitted old new lease seq procedure (sha1 args) answer
BookAnswers old (AskedEnd lease seq answer) new = BookEnded old new lease seq answer
