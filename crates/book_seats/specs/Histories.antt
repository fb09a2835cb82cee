-- What one book, and one program beside it, answered to several desks.
use Rattle.std.specs.Prelude.{◌≡◌, ℕ, List, [], ◌∷◌, ◌++◌}
use Rattle.accept_core.specs.Legal.{Legal}
use Rattle.accept_book.specs.Booking.{BookOf}
use Rattle.gss_server.specs.Asking.{Asking}
use Rattle.rpc_program.specs.declared.program.Program as programs
use Rattle.book_seats.specs.Acts.{ActsOnce}
use Rattle.book_seats.specs.Both.{BothOf, BothAnswer}
use Rattle.book_seats.specs.Notes.{Note, Noted, StartsWith, noted_by, noted_in}
use Rattle.book_seats.specs.Views.{WriterOf, ClerkOf}

-- the book's log is legal
abbrev pub IsLegal : BookOf → Type 0
IsLegal book = Legal book.core.width book.core.history

-- one book, with one program, answered all these questions, in order, from a beginning on, and is
-- this book with this program now; its log is legal
abbrev pub Begun : {P T : Type 0} → programs.Ghosts P T → (BothOf P → Type 0) → List (Note T)
    → BothOf P → Type 0
Begun {P} served begins all both = (first : BothOf P) × begins first
    × Asking (BothAnswer served) first (noted_in all) both × IsLegal both.book

-- the one book and program answered a question of a desk: after all that the desk had seen, and
-- after what other desks had asked since; the book's log is legal before and after
pub record AnsweredBy {P T : Type 0} (served : programs.Ghosts P T) (begins : BothOf P → Type 0)
    (old : ClerkOf T) (one : Noted T) (new : ClerkOf T) : Type 0 where
  pub between : List (Note T)
  pub others : noted_by old.desk between ≡ []
  pub seen :
      new ≡ record { desk = old.desk; seen = (old.seen ++ between) ++ (old.desk, one) ∷ [] }
  pub before : BothOf P
  pub after : BothOf P
  pub began : Begun served begins (old.seen ++ between) before
  pub answer : BothAnswer served before one after
  pub legal : IsLegal after.book

-- a book and a program began as they were to begin, and answered all these questions, in order. So
-- the log gained the calls whose number was taken, and the program is what it was with each of
-- those that it has entered, once, in the log's order. The log is legal
pub record EndedOnce {P T : Type 0} (served : programs.Ghosts P T) (begins : BothOf P → Type 0)
    (all : List (Note T)) (last : BothOf P) : Type 0 where
  pub first : BothOf P
  pub began : begins first
  pub chain : Asking (BothAnswer served) first (noted_in all) last
  pub once : ActsOnce served first (noted_in all) last
  pub legal : IsLegal last.book

-- a book and a program with the history of all that they were asked, and how many desks there are
pub record SharedOf (P T : Type 0) : Type 0 where
  pub both : BothOf P
  pub made : ℕ
  pub all : List (Note T)

-- the writer noted a question of a clerk's desk, which had seen a front of the history with all of
-- its own questions
pub record NotesOne {T : Type 0} (old : WriterOf T) (asking : ClerkOf T) (one : Noted T)
    (new : WriterOf T) (asked : ClerkOf T) : Type 0 where
  pub writer : new ≡ record { made = old.made; all = old.all ++ (asking.desk, one) ∷ [] }
  pub clerk : asked ≡ record { desk = asking.desk; seen = old.all ++ (asking.desk, one) ∷ [] }
  pub prefix : StartsWith old.all asking.seen
  pub others : noted_by asking.desk old.all ≡ noted_by asking.desk asking.seen
