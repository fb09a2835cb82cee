-- A call whose number is taken, and which isn't entered.
use Rattle.std.proofs.Common.{◌≡◌, ℕ, List, refl, None, Result, Ok, Err}
use Rattle.accept_core.specs.declared.answer.AdmitRefusal.{AdmitRefusal}
use Rattle.accept_core.specs.declared.entry.Receipt.{Receipt}
use Rattle.accept_book.specs.declared.book_answer.Lease.{Lease}
use Rattle.accept_book.specs.RecordShown.{AskedAdmit, with_ok}
use Rattle.rpc_program.specs.Programs.{ProgramSays, CallerOf, NONE}
use Rattle.rpc_program.specs.declared.outcome.Outcome.{Outcome}
use Rattle.rpc_program.specs.declared.program.Fault.{Fault}
use Rattle.rpcsec_bodies.specs.declared.service.Service.{Service}
use Rattle.gss_server.specs.Programs.{Acts, passed}

-- the receipt of what is answered is the book's
pub passed-receipt : (r : Result Receipt AdmitRefusal) → with_ok (λ admitted. admitted.receipt) (passed r) ≡ r
passed-receipt (Ok receipt) = refl
passed-receipt (Err refusal) = refl

pub passed-acts : {P S T : Type 0} (says : ProgramSays) (enters : P → CallerOf → ℕ → List ℕ → Result T Fault → P → Type 0) (spells : S → CallerOf → ℕ → List ℕ → T → Outcome → S → Type 0) (program : P) (speller : S) (lease : Lease) (seq : ℕ) (service : Service) (args : List ℕ) (r : Result Receipt AdmitRefusal) → Acts says enters spells program speller (AskedAdmit lease seq service NONE args (passed r)) program speller
passed-acts says enters spells program speller lease seq service args (Ok receipt) = (Ok (receipt, None), (refl, refl), (refl, (refl, refl)))
passed-acts says enters spells program speller lease seq service args (Err refusal) = (Err refusal, refl, (refl, refl))
