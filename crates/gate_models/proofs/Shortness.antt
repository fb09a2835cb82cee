-- A result that has few octets fits into a reply.
use Rattle.std.proofs.Common.{◌≤◌, IfOk, Result, Ok, Err}
use Rattle.rpc_program.specs.Programs.{IsShort}
use Rattle.rpc_program.specs.declared.limits.TheConstants.{MOST}
use Rattle.rpc_program.specs.declared.outcome.Outcome.{Outcome}
use Rattle.rpc_program.specs.declared.outcome.Outcome.TheVariants as outcomes
use Rattle.accept_core.specs.declared.answer.AdmitRefusal.{AdmitRefusal}
use Rattle.accept_book.specs.declared.book_answer.Admitted.{Admitted}
use Rattle.gate_models.specs.Sizes.{outcome_size, admission_size}

short-outcome : (outcome : Outcome) → outcome_size outcome ≤ MOST → IsShort outcome
short-outcome outcomes.Args h = tt
short-outcome (outcomes.Done octets) h = h
short-outcome (outcomes.Refused why) h = tt
short-outcome (outcomes.Mismatch low high) h = tt
short-outcome outcomes.Gone h = tt
short-outcome outcomes.NoMemory h = tt

pub short_of : (answer : Result Admitted AdmitRefusal) → admission_size answer ≤ MOST → IfOk answer (λ admitted. IsShort admitted.outcome)
short_of (Ok admitted) h = short-outcome admitted.outcome h
short_of (Err refusal) h = tt
