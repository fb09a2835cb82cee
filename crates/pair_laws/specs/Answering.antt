-- A server whose results are by its log: what it answers to a question.
use Rattle.std.specs.Prelude.{◌≡◌, ℕ, true, List, Ok, Err}
use Rattle.rpc_program.specs.Programs.{Serving, Gives}
use Rattle.accept_core.specs.declared.entry.Entry.{Entry}
use Rattle.accept_book.specs.Booking.{BookOf}
use Rattle.accept_book.specs.RecordShown.{Asked, AskedStep, AskedLook, AskedAdmit, AskedEnd, booked}
use Rattle.accept_book.specs.declared.book_answer.Admitted.{Admitted}
use Rattle.gss_server.specs.Asking.{BookAnswers}

-- what is served, and the result of each call: by its caller's name, its procedure, its arguments,
-- and the log up to its entry, newest first. Each run whose calls come to results has such a
-- function, since a call's place in the log is its own.
pub record Server : Type 0 where
  pub serving : Serving
  pub results : List ℕ → ℕ → List ℕ → List Entry → List ℕ

-- what an admitted call of a procedure that the program has came to is the server's result by this
-- log, unless memory was wanted for it
abbrev pub CameBy : Server → Asked Admitted → List Entry → Type 0
CameBy serves (AskedStep id token now draws answer) log = Unit {0}
CameBy serves (AskedLook id now answer) log = Unit {0}
CameBy serves (AskedAdmit lease seq service procedure args (Ok admitted)) log =
    serves.serving.program.has procedure ≡ true
    → Gives args (serves.results lease.outcome.initiator procedure args log) admitted.outcome
CameBy serves (AskedAdmit lease seq service procedure args (Err refusal)) log = Unit {0}
CameBy serves (AskedEnd lease seq answer) log = Unit {0}

-- a book gives its answer, and what became of an admitted call is by its log
pub record AnswersBy (serves : Server) (old : BookOf) (asked : Asked Admitted) (new : BookOf)
    : Type 0 where
  pub book : BookAnswers old (booked asked) new
  pub came : CameBy serves asked new.core.history
