-- What a desk tells of what the book and the program answered.
use Rattle.std.specs.Prelude.{◌≡◌, List, [], ◌∷◌, ◌++◌, Result}
use Rattle.accept_core.specs.declared.answer.AdmitRefusal.{AdmitRefusal}
use Rattle.accept_book.specs.RecordShown.{Asked, AskedStep, AskedLook, AskedAdmit, AskedEnd}
use Rattle.accept_book.specs.declared.book_answer.Admitted.{Admitted}
use Rattle.gss_server.specs.Asking.{Asking}
use Rattle.gss_server.specs.Programs.{SpeltTaken}
use Rattle.rpc_program.specs.declared.program.Program as programs
use Rattle.rpc_program.specs.declared.program.Speller as spellers
use Rattle.book_seats.specs.Both.{BothOf}
use Rattle.book_seats.specs.Histories.{AnsweredBy}
use Rattle.book_seats.specs.Notes.{Noted, noted_by}
use Rattle.book_seats.specs.Views.{ClerkOf}

-- ---- one question

-- a question is told as it stands in the history; an admission is told with the outcome that is
-- spelled from the ticket of its own entry, once
abbrev pub ToldFrom : {S T : Type 0} → spellers.Ghosts S T → S → Noted T → Asked Admitted → S
    → Type 0
ToldFrom spelling old (AskedStep id token now draws answer) one new =
    (one ≡ AskedStep id token now draws answer) × (new ≡ old)
ToldFrom spelling old (AskedLook id now answer) one new =
    (one ≡ AskedLook id now answer) × (new ≡ old)
ToldFrom spelling old (AskedAdmit lease seq service procedure args taken) one new =
    (answer : Result Admitted AdmitRefusal)
    × (one ≡ AskedAdmit lease seq service procedure args answer)
    × SpeltTaken spelling.spells old lease service procedure args taken answer new
ToldFrom spelling old (AskedEnd lease seq answer) one new =
    (one ≡ AskedEnd lease seq answer) × (new ≡ old)

-- a seat answered a question, from what its clerk had seen and its speller was: the one book and
-- program did, and it was told from what they answered
pub record SeatAnswers {P T S : Type 0} (served : programs.Ghosts P T)
    (spelling : spellers.Ghosts S T) (begins : BothOf P → Type 0) (old : ClerkOf T) (before : S)
    (one : Asked Admitted) (new : ClerkOf T) (after : S) : Type 0 where
  pub noted : Noted T
  pub asked : AnsweredBy served begins old noted new
  pub told : ToldFrom spelling before noted one after

-- ---- all questions of a desk

-- these questions were told, one after the other
abbrev pub AllTold : {S T : Type 0} → spellers.Ghosts S T → S → List (Noted T)
    → List (Asked Admitted) → S → Type 0
AllTold spelling old [] [] new = new ≡ old
AllTold spelling old [] (one ∷ more) new = ⊥
AllTold spelling old (noted ∷ rest) [] new = ⊥
AllTold {S} spelling old (noted ∷ rest) (one ∷ more) new = (middle : S)
    × ToldFrom spelling old noted one middle × AllTold spelling middle rest more new

-- a desk's clerk, and who spells for it
pub record AtSeat (T S : Type 0) : Type 0 where
  pub clerk : ClerkOf T
  pub speller : S

-- a seat answers a question
abbrev pub Answers : {P T S : Type 0} → programs.Ghosts P T → spellers.Ghosts S T
    → (BothOf P → Type 0) → AtSeat T S → Asked Admitted → AtSeat T S → Type 0
Answers served spelling begins old one new =
    SeatAnswers served spelling begins old.clerk old.speller one new.clerk new.speller

-- a desk's questions of the history since then are those that it was told, all of them, in order,
-- and each outcome was spelled from the ticket of its own call's entry, once, in the same order
pub record DeskTold {T S : Type 0} (spelling : spellers.Ghosts S T) (old : AtSeat T S)
    (asked : List (Asked Admitted)) (new : AtSeat T S) : Type 0 where
  pub noted : List (Noted T)
  pub desk : new.clerk.desk ≡ old.clerk.desk
  pub own : noted_by old.clerk.desk new.clerk.seen
      ≡ noted_by old.clerk.desk old.clerk.seen ++ noted
  pub told : AllTold spelling old.speller noted asked new.speller

-- so it is of all that a seat answered
abbrev pub DeskToldLaw : {P T S : Type 0} → programs.Ghosts P T → spellers.Ghosts S T
    → (BothOf P → Type 0) → Type 0
DeskToldLaw {P} {T} {S} served spelling begins = (old new : AtSeat T S)
    (asked : List (Asked Admitted)) → Asking (Answers served spelling begins) old asked new
    → DeskTold spelling old asked new
