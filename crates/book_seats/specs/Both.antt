-- A book, and the program beside it that admitted calls are entered into.
use Rattle.std.specs.Prelude.{◌≡◌}
use Rattle.accept_book.specs.Booking.{BookOf}
use Rattle.accept_book.specs.RecordShown.{AskedStep, AskedLook, AskedAdmit, AskedEnd}
use Rattle.gss_server.specs.Asking.{BookAnswers}
use Rattle.gss_server.specs.Programs.{EntersTaken}
use Rattle.rpc_program.specs.declared.program.Program as programs
use Rattle.book_seats.specs.Notes.{Noted, receipted}

-- a book, and the program beside it
pub record BothOf (P : Type 0) : Type 0 where
  pub book : BookOf
  pub program : P

-- what a question makes of the program: exactly an admitted call is entered, once
abbrev pub ProgramAnswers : {P T : Type 0} → programs.Ghosts P T → P → Noted T → P → Type 0
ProgramAnswers served old (AskedStep id token now draws answer) new = new ≡ old
ProgramAnswers served old (AskedLook id now answer) new = new ≡ old
ProgramAnswers served old (AskedAdmit lease seq service procedure args answer) new =
    EntersTaken served.says served.enters old lease service procedure args answer new
ProgramAnswers served old (AskedEnd lease seq answer) new = new ≡ old

-- the book answers a question, and the program enters it where it is an admitted call
abbrev pub BothAnswer : {P T : Type 0} → programs.Ghosts P T → BothOf P → Noted T → BothOf P
    → Type 0
BothAnswer served old one new = BookAnswers old.book (receipted one) new.book
    × ProgramAnswers served old.program one new.program
