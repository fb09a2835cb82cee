-- What a gate over a list answers: the next answer of the list, where it is one to the question;
-- else LogFull to a step, NoContext to a look, and Gone to an admission or an end. Whatever it was,
-- the next answer is used up.
use Rattle.std.specs.Prelude.{◌≡◌, ◌⊎◌, List, [], ◌∷◌, drop, Result, Err}
use Rattle.accept_core.specs.Entering.{given}
use Rattle.accept_book.specs.RecordShown.{Asked, AskedStep, AskedLook, AskedAdmit, AskedEnd}
use Rattle.accept_book.specs.RecordShown.{with_ok}
use Rattle.rpc_program.specs.Programs.{NONE}
use Rattle.gss_server.specs.Programs.{passed}
use Rattle.accept_core.specs.declared.answer.AdmitRefusal.{AdmitRefusal}
use Rattle.accept_core.specs.declared.answer.AdmitRefusal.TheVariants.{Gone}
use Rattle.accept_core.specs.declared.answer.LookRefusal.{LookRefusal}
use Rattle.accept_core.specs.declared.answer.LookRefusal.TheVariants.{NoContext}
use Rattle.accept_book.specs.declared.book_answer.BookRefusal.TheVariants.{LogFull}
use Rattle.accept_book.specs.declared.book_answer.Lease.{Lease}
use Rattle.accept_book.specs.declared.book_answer.NegAnswer.TheVariants.{Refused}
use Rattle.accept_book.specs.declared.book_answer.Negotiated.{Negotiated}
use Rattle.accept_book.specs.declared.book_answer.Admitted.{Admitted}
use Rattle.accept_core.specs.declared.entry.Receipt.{Receipt}
use Rattle.gate_models.specs.declared.gate_answer.GateAnswer.{GateAnswer}
use Rattle.gate_models.specs.declared.gate_answer.GateAnswer.TheVariants as answers

-- no step, for want of a place in the log
pub record IsFull (negotiated : Negotiated) : Type 0 where
  pub answer : negotiated.answer ≡ Refused LogFull
  pub receipts : given negotiated.receipts ≡ []

-- what a list answers to a step: its next answer if that is a step's, else that the log is full
abbrev pub StepNext : List GateAnswer → Negotiated → Type 0
StepNext [] negotiated = IsFull negotiated
StepNext (answers.Negotiated step ∷ more) negotiated = negotiated ≡ step.negotiated
StepNext (answers.Looked answer ∷ more) negotiated = IsFull negotiated
StepNext (answers.Admitted answer ∷ more) negotiated = IsFull negotiated
StepNext (answers.Ended answer ∷ more) negotiated = IsFull negotiated

-- what a list answers to a look: its next answer if that is a look's, else NoContext
abbrev pub look_next : List GateAnswer → Result Lease LookRefusal
look_next [] = Err NoContext
look_next (answers.Negotiated step ∷ more) = Err NoContext
look_next (answers.Looked answer ∷ more) = answer
look_next (answers.Admitted answer ∷ more) = Err NoContext
look_next (answers.Ended answer ∷ more) = Err NoContext

-- what a list answers to an admission: its next answer if that is one's, else Gone
abbrev pub admission_next : List GateAnswer → Result Admitted AdmitRefusal
admission_next [] = Err Gone
admission_next (answers.Negotiated step ∷ more) = Err Gone
admission_next (answers.Looked answer ∷ more) = Err Gone
admission_next (answers.Admitted call ∷ more) = call.answer
admission_next (answers.Ended answer ∷ more) = Err Gone

-- the same of a call whose number alone is taken: the receipt
abbrev pub receipt_next : List GateAnswer → Result Receipt AdmitRefusal
receipt_next list = with_ok (λ admitted. admitted.receipt) (admission_next list)

-- what a list answers to an end: its next answer if that is one's, else Gone
abbrev pub end_next : List GateAnswer → Result Receipt AdmitRefusal
end_next [] = Err Gone
end_next (answers.Negotiated step ∷ more) = Err Gone
end_next (answers.Looked answer ∷ more) = Err Gone
end_next (answers.Admitted answer ∷ more) = Err Gone
end_next (answers.Ended answer ∷ more) = answer

-- what a list answers to a question, and what is left of it
abbrev pub ListAnswers : List GateAnswer → Asked Admitted → List GateAnswer → Type 0
ListAnswers old (AskedStep id token now draws answer) new = StepNext old answer × (new ≡ drop 1 old)
ListAnswers old (AskedLook id now answer) new = (answer ≡ look_next old) × (new ≡ drop 1 old)
ListAnswers old (AskedAdmit lease seq service procedure args answer) new =
    ((answer ≡ admission_next old) ⊎ ((procedure ≡ NONE) × (answer ≡ passed (receipt_next old))))
    × (new ≡ drop 1 old)
ListAnswers old (AskedEnd lease seq answer) new = (answer ≡ end_next old) × (new ≡ drop 1 old)
