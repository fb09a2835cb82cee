-- Each answer of a seat is what the log before it says: by whoever holds the seat, across its
-- questions.
use Rattle.std.specs.Prelude.{◌≡◌, List, ◌∷◌, ◌++◌, map}
use Rattle.accept_book.specs.Booking.{BookOf}
use Rattle.accept_book.specs.RecordShown.{Asked, booked}
use Rattle.accept_book.specs.declared.book_answer.Admitted.{Admitted}
use Rattle.rpc_program.specs.declared.program.Program as programs
use Rattle.rpc_program.specs.declared.program.Speller as spellers
use Rattle.gss_server.specs.Asking.{Asking}
use Rattle.gss_server.specs.Programs.{OwnAnswers}
use Rattle.gss_server.specs.Telling.{limits_of}
use Rattle.book_seats.specs.Both.{BothOf}
use Rattle.book_seats.specs.Notes.{Note, StartsWith, asked_by, questions_of}
use Rattle.book_seats.specs.Telling.{AtSeat, Answers}
use Rattle.book_seats.specs.Views.{ClerkOf}
use Rattle.history_laws.specs.Before.{before_of}
use Rattle.history_laws.specs.Seen.{Seen, AllSeen, IsEmpty}

-- ---- a book with one seat of its own

-- a book of one owner, its program, and who spells the program's results
pub record OwnOf (P S : Type 0) : Type 0 where
  pub book : BookOf
  pub program : P
  pub speller : S

-- what a gate over these may answer to a question, and what they are afterwards
abbrev pub OwnSays : {P T S : Type 0} → programs.Ghosts P T → spellers.Ghosts S T → OwnOf P S
    → Asked Admitted → OwnOf P S → Type 0
OwnSays served spelling old one new = OwnAnswers served.says served.enters spelling.spells old.book
    new.book old.program new.program old.speller new.speller one

-- since its book had no entries and no contexts, all that this gate answered is seen
abbrev pub OwnSeen : {P T S : Type 0} → programs.Ghosts P T → spellers.Ghosts S T → OwnOf P S
    → Type 0
OwnSeen {P} {T} {S} served spelling last = (first : OwnOf P S) (asked : List (Asked Admitted))
    → IsEmpty first.book → Asking (OwnSays served spelling) first asked last
    → AllSeen first.book.setup (limits_of first.book.core) first.book.core.cache.greatest
    (map booked asked)

-- ---- a book with a seat for each of several desks

-- a book that begins so has no entries and no contexts
abbrev pub BeginsEmpty : {P : Type 0} → (BothOf P → Type 0) → Type 0
BeginsEmpty {P} begins = (first : BothOf P) → begins first → IsEmpty first.book

-- a book that began so was asked these questions, by all desks, before this one of a clerk's desk.
-- They begin with what the clerk had seen at first, and the desk's own among them are those that it
-- had asked until then and these. The answer is what they and the log before it say
pub record SeatSees {P T : Type 0} (begins : BothOf P → Type 0) (at_first : ClerkOf T)
    (earlier : List (Asked Admitted)) (one : Asked Admitted) : Type 0 where
  pub first : BothOf P
  pub began : begins first
  pub all : List (Note T)
  pub longer : StartsWith all at_first.seen
  pub own : asked_by at_first.desk all
      ≡ asked_by at_first.desk at_first.seen ++ map booked earlier
  pub seen : Seen (before_of first.book.setup (limits_of first.book.core)
      first.book.core.cache.greatest (questions_of all)) (booked one)

-- a seat answered these questions one after the other, each as the one book and program answer it,
-- from what its clerk had seen at first: then each answer is seen
abbrev pub SeatSeenLaw : {P T S : Type 0} → programs.Ghosts P T → spellers.Ghosts S T
    → (BothOf P → Type 0) → Type 0
SeatSeenLaw {P} {T} {S} served spelling begins = (old new : AtSeat T S)
    (asked : List (Asked Admitted)) → BeginsEmpty begins
    → Asking (Answers served spelling begins) old asked new
    → (earlier : List (Asked Admitted)) (one : Asked Admitted) (later : List (Asked Admitted))
    → asked ≡ earlier ++ one ∷ later → SeatSees begins old.clerk earlier one
