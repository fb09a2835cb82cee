-- A chain of a book's answers is one of legal books, each as its log has it.
use Rattle.std.proofs.Common.{ap, map, sym, subst, List, [], ◌∷◌}
use Rattle.accept_core.specs.declared.entry.Receipt.{Receipt}
use Rattle.accept_book.specs.Booking.{BookOf}
use Rattle.accept_book.specs.declared.book_answer.Admitted.{Admitted}
use Rattle.accept_core.specs.Legal.{Legal}
use Rattle.accept_book.specs.RecordShown.{Asked, booked}
use Rattle.rpc_program.specs.Programs.{Serving}
use Rattle.gss_server.specs.Asking.{Asking, BookAnswers}
use Rattle.world_laws.specs.Events.{IsBook}
use Rattle.world_laws.specs.State.{InHand}
use Rattle.history_laws.proofs.Growth.{legal-before, legal-asking}
use Rattle.server_laws.specs.Served.{GateAnswers, LegalAnswers, AllAnswered, ruling_at}
use Rattle.server_laws.proofs.Canon.{book_as, Agrees, is-book, answers-as, answers-agree}

-- what a book may answer to its own question, and its log is legal afterwards
abbrev pub BookLegal : BookOf → Asked Receipt → BookOf → Type 0
BookLegal old one new = BookAnswers old one new × IsBook new

-- the questions of a gate, as the book has them
books-asked : (asked : List (Asked Admitted)) (old new : BookOf) → Asking GateAnswers old asked new → Asking BookAnswers old (map booked asked) new
books-asked [] old new same = same
books-asked (one ∷ more) old new a = (a.0, a.1.0, books-asked more a.0 new a.2)

-- ---- what is legal at the end was legal before

pub legal-all : (serves : Serving) (hands : List InHand) (old new : BookOf) → AllAnswered GateAnswers serves hands old new → Legal new.core.width new.core.history → Legal old.core.width old.core.history
legal-all serves [] old new same legal = subst (λ (b : BookOf). Legal b.core.width b.core.history) same legal
legal-all serves (hand ∷ more) old new a legal =
    legal-asking old a.0 (map booked (ruling_at serves hand).asked) (books-asked (ruling_at serves hand).asked old a.0 a.1.asked) (legal-all serves more a.0 new a.2 legal)

-- ---- the chain of legal books

pub record Goes (old : BookOf) (asked : List (Asked Receipt)) (new : BookOf) : Type 0 where
  pub answers : Asking BookLegal (book_as old) asked (book_as new)
  pub agrees : Agrees new.core

goes-more : (old middle new : BookOf) (one : Asked Receipt) (more : List (Asked Receipt)) → BookLegal (book_as old) one (book_as middle) → Goes middle more new → Goes old (one ∷ more) new
goes-more old middle new one more answer g = record { answers = (book_as middle, answer, g.answers); agrees = g.agrees }

pub goes-asking : (old new : BookOf) (asked : List (Asked Receipt)) → Asking BookAnswers old asked new → Legal new.core.width new.core.history → Agrees old.core → Goes old asked new
goes-asking old new [] same legal agrees = record { answers = ap book_as same; agrees = subst (λ (b : BookOf). Agrees b.core) (sym same) agrees }
goes-asking old new (one ∷ more) a legal agrees =
    let middle = legal-asking a.0 new more a.2 legal in
    let before = legal-before old a.0 one a.1 middle in
    let after = answers-agree old a.0 one before agrees a.1 in
    goes-more old a.0 new one more (answers-as old a.0 one before agrees a.1, is-book a.0 middle after) (goes-asking a.0 new more a.2 legal after)

-- the same of a gate's questions
record GateGoes (old : BookOf) (asked : List (Asked Admitted)) (new : BookOf) : Type 0 where
  answers : Asking LegalAnswers (book_as old) asked (book_as new)
  agrees : Agrees new.core

gate-more : (old middle new : BookOf) (one : Asked Admitted) (more : List (Asked Admitted)) → LegalAnswers (book_as old) one (book_as middle) → GateGoes middle more new → GateGoes old (one ∷ more) new
gate-more old middle new one more answer g = record { answers = (book_as middle, answer, g.answers); agrees = g.agrees }

gate-goes : (old new : BookOf) (asked : List (Asked Admitted)) → Asking GateAnswers old asked new → Legal new.core.width new.core.history → Agrees old.core → GateGoes old asked new
gate-goes old new [] same legal agrees = record { answers = ap book_as same; agrees = subst (λ (b : BookOf). Agrees b.core) (sym same) agrees }
gate-goes old new (one ∷ more) a legal agrees =
    let middle = legal-asking a.0 new (map booked more) (books-asked more a.0 new a.2) legal in
    let before = legal-before old a.0 (booked one) a.1.0 middle in
    let after = answers-agree old a.0 (booked one) before agrees a.1.0 in
    gate-more old a.0 new one more ((answers-as old a.0 (booked one) before agrees a.1.0, a.1.1), is-book a.0 middle after) (gate-goes a.0 new more a.2 legal after)

pub all-goes : (serves : Serving) (hands : List InHand) (old new : BookOf) → AllAnswered GateAnswers serves hands old new → Legal new.core.width new.core.history → Agrees old.core
    → AllAnswered LegalAnswers serves hands (book_as old) (book_as new)
all-goes serves [] old new same legal agrees = ap book_as same
all-goes serves (hand ∷ more) old new a legal agrees =
    let middle = legal-all serves more a.0 new a.2 legal in
    let g = gate-goes old a.0 (ruling_at serves hand).asked a.1.asked middle agrees in
    (book_as a.0, record { drawn = a.1.drawn; over = a.1.over; asked = g.answers }, all-goes serves more a.0 new a.2 legal g.agrees)
