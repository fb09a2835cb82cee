-- What a gate over a list shows of itself.
use Rattle.std.specs.Prelude.{List}
use Rattle.gate_models.specs.declared.gate_answer.GateAnswer.{GateAnswer}
use Rattle.gate_models.specs.declared.list_gate.ListGate.{ListGate}

-- the answers that it has still to give, in order
abbrev pub answers_left : {T S : Type 0} → ListGate T S → List GateAnswer
answers_left gate = gate.answers.items
