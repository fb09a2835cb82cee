-- What the book alone was asked of what a book and a program were.
use Rattle.std.proofs.Common.{◌≡◌, ℕ, List, [], ◌∷◌, map, refl, ap, ◌∙◌, Result, Ok, Err}
use Rattle.accept_core.specs.declared.answer.AdmitRefusal.{AdmitRefusal}
use Rattle.accept_core.specs.declared.entry.Receipt.{Receipt}
use Rattle.accept_book.specs.RecordShown.{Asked, AskedStep, AskedLook, AskedAdmit, AskedEnd, booked, with_ok}
use Rattle.accept_book.specs.declared.book_answer.Admitted.{Admitted}
use Rattle.accept_book.specs.declared.book_answer.Lease.{Lease}
use Rattle.rpcsec_bodies.specs.declared.service.Service.{Service}
use Rattle.gss_server.specs.Asking.{Asking, BookAnswers}
use Rattle.gss_server.specs.Programs.{Taken, SpeltTaken}
use Rattle.rpc_program.specs.declared.program.Program as programs
use Rattle.rpc_program.specs.declared.program.Speller as spellers
use Rattle.book_seats.specs.Both.{BothOf, BothAnswer}
use Rattle.book_seats.specs.Notes.{Noted, receipted}
use Rattle.book_seats.specs.Telling.{ToldFrom, AllTold}

-- the book answered its questions, one after the other
pub books-asked : {P T : Type 0} (served : programs.Ghosts P T) (notes : List (Noted T)) (old new : BothOf P) → Asking (BothAnswer served) old notes new → Asking BookAnswers old.book (map receipted notes) new.book
books-asked {P} served [] old new h = ap (λ (b : BothOf P). b.book) h
books-asked served (one ∷ more) old new h = (h.0.book, h.1.0, books-asked served more h.0 new h.2)

-- what was told of an admission has its receipt, or its refusal
told-answer : {S T : Type 0} (spelling : spellers.Ghosts S T) (old new : S) (lease : Lease) (service : Service) (procedure : ℕ) (args : List ℕ) (taken : Result (Taken T) AdmitRefusal) (answer : Result Admitted AdmitRefusal)
    → SpeltTaken spelling.spells old lease service procedure args taken answer new → with_ok (λ (admitted : Admitted). admitted.receipt) answer ≡ with_ok (λ (t : Taken T). t.0) taken
told-answer spelling old new lease service procedure args (Ok taken) (Ok admitted) h = ap (λ (r : Receipt). Ok r) h.0
told-answer spelling old new lease service procedure args (Ok taken) (Err refusal) h = absurd h
told-answer spelling old new lease service procedure args (Err refusal) (Ok admitted) h = absurd h
told-answer spelling old new lease service procedure args (Err refusal) (Err told) h = ap (λ (r : AdmitRefusal). Err r) h.0

-- what a desk was told is, of the book, what stands in the history
pub told-booked : {S T : Type 0} (spelling : spellers.Ghosts S T) (noted : Noted T) (one : Asked Admitted) (old new : S) → ToldFrom spelling old noted one new → booked one ≡ receipted noted
told-booked spelling (AskedStep id token now draws answer) one old new h = ap booked h.0
told-booked spelling (AskedLook id now answer) one old new h = ap booked h.0
told-booked spelling (AskedAdmit lease seq service procedure args taken) one old new h =
    ap booked h.1 ∙ ap (λ (a : Result Receipt AdmitRefusal). AskedAdmit lease seq service procedure args a) (told-answer spelling old new lease service procedure args taken h.0 h.2)
told-booked spelling (AskedEnd lease seq answer) one old new h = ap booked h.0

-- so it is of all that a desk was told
pub all-booked : {S T : Type 0} (spelling : spellers.Ghosts S T) (notes : List (Noted T)) (asked : List (Asked Admitted)) (old new : S) → AllTold spelling old notes asked new → map booked asked ≡ map receipted notes
all-booked spelling [] [] old new h = refl
all-booked spelling [] (one ∷ more) old new h = absurd h
all-booked spelling (noted ∷ rest) [] old new h = absurd h
all-booked spelling (noted ∷ rest) (one ∷ more) old new h = λ i. told-booked spelling noted one old h.0 h.1 i ∷ all-booked spelling rest more h.0 new h.2 i
