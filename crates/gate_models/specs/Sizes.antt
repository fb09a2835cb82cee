-- How long the result is that an answer to an admission has.
use Rattle.std.specs.Prelude.{ℕ, length, Result, Ok, Err}
use Rattle.rpc_program.specs.declared.outcome.Outcome.{Outcome}
use Rattle.rpc_program.specs.declared.outcome.Outcome.TheVariants as outcomes
use Rattle.accept_core.specs.declared.answer.AdmitRefusal.{AdmitRefusal}
use Rattle.accept_book.specs.declared.book_answer.Admitted.{Admitted}

-- the octets of a result that an outcome brings
abbrev pub outcome_size : Outcome → ℕ
outcome_size (outcomes.Done octets) = length octets
outcome_size outcome = 0

-- those of an answer
abbrev pub admission_size : Result Admitted AdmitRefusal → ℕ
admission_size (Ok admitted) = outcome_size admitted.outcome
admission_size (Err refusal) = 0
