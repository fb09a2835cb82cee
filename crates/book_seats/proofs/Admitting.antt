-- An admission, as the book and the program answered it.
use Rattle.std.proofs.Common.{◌≡◌, ℕ, List, refl, sym, subst, Result, Ok, Err}
use Rattle.sha1.specs.Sha1.{sha1}
use Rattle.spnego_core.specs.declared.accept_end.AcceptEnd.{AcceptEnd}
use Rattle.spnego_core.specs.declared.outcome.Outcome.{Outcome}
use Rattle.spnego_core.specs.declared.setup.AcceptSetup.{AcceptSetup}
use Rattle.rpc_program.specs.Programs.{NONE}
use Rattle.rpc_program.specs.declared.program.Fault.{Fault}
use Rattle.rpc_program.specs.declared.program.Program as programs
use Rattle.rpcsec_bodies.specs.declared.service.Service.{Service}
use Rattle.accept_core.specs.Replays.{Accepting}
use Rattle.accept_core.specs.declared.answer.AdmitRefusal.{AdmitRefusal}
use Rattle.accept_core.specs.declared.entry.Receipt.{Receipt}
use Rattle.accept_book.specs.BookAnswers.{BookAdmitted}
use Rattle.accept_book.specs.Booking.{with_setup}
use Rattle.accept_book.specs.RecordShown.{AskedAdmit, with_ok}
use Rattle.accept_book.specs.declared.book_answer.Lease.{Lease}
use Rattle.gss_server.specs.Asking.{BookAnswers}
use Rattle.gss_server.specs.Programs.{Taken, EntersTaken}
use Rattle.book_seats.specs.Admitting.{entered_in, passed_in, EntersAdmitted}
use Rattle.book_seats.specs.Notes.{receipted}

receipt-passed : (T : Type 0) (given : Result Receipt AdmitRefusal) → with_ok (λ (t : Taken T). t.0) (passed_in given) ≡ given
receipt-passed T (Ok receipt) = refl
receipt-passed T (Err refusal) = refl

receipt-entered : {T : Type 0} (given : Result Receipt AdmitRefusal) (answer : Result (Receipt × Result T Fault) AdmitRefusal) → EntersAdmitted given answer → with_ok (λ (t : Taken T). t.0) (entered_in answer) ≡ given
receipt-entered given (Ok both) e = e
receipt-entered given (Err refusal) e = e

pub passed-book : (T : Type 0) (setup : AcceptSetup) (old new : Accepting AcceptEnd Outcome) (lease : Lease) (seq : ℕ) (args : List ℕ) (service : Service) (digest : List ℕ) (given : Result Receipt AdmitRefusal) → digest ≡ sha1 args
    → BookAdmitted (with_setup setup old) (with_setup setup new) lease seq NONE digest given → BookAnswers (with_setup setup old) (receipted {T = T} (AskedAdmit lease seq service NONE args (passed_in given))) (with_setup setup new)
passed-book T setup old new lease seq args service digest given same b =
    subst (λ (x : List ℕ × Result Receipt AdmitRefusal). BookAdmitted (with_setup setup old) (with_setup setup new) lease seq NONE x.0 x.1) (λ i. (same i, sym (receipt-passed T given) i)) b

pub passed-program : {P T : Type 0} (served : programs.Ghosts P T) (lease : Lease) (seq : ℕ) (args : List ℕ) (service : Service) (given : Result Receipt AdmitRefusal) (program : P) → EntersTaken served.says served.enters program lease service NONE args (passed_in given) program
passed-program served lease seq args service (Ok receipt) program = (refl, refl)
passed-program served lease seq args service (Err refusal) program = refl

pub entered-book : {T : Type 0} (setup : AcceptSetup) (old new : Accepting AcceptEnd Outcome) (lease : Lease) (seq procedure : ℕ) (args : List ℕ) (service : Service) (digest : List ℕ) (given : Result Receipt AdmitRefusal) (answer : Result (Receipt × Result T Fault) AdmitRefusal) → digest ≡ sha1 args → EntersAdmitted given answer
    → BookAdmitted (with_setup setup old) (with_setup setup new) lease seq procedure digest given → BookAnswers (with_setup setup old) (receipted (AskedAdmit lease seq service procedure args (entered_in answer))) (with_setup setup new)
entered-book setup old new lease seq procedure args service digest given answer same e b =
    subst (λ (x : List ℕ × Result Receipt AdmitRefusal). BookAdmitted (with_setup setup old) (with_setup setup new) lease seq procedure x.0 x.1) (λ i. (same i, sym (receipt-entered given answer e) i)) b
