-- The line of status 2.
use Rattle.std.proofs.Common.{◌≡◌, ◌≢◌, ℕ, false, List, arith}
use Rattle.cli_base.specs.Lines.{SaysLine}
use Rattle.files_command.specs.Running.{usage_line, Tells}

pub told_usage : (old new : List ℕ) (status : ℕ) → SaysLine old new status usage_line → (status ≢ 6 → status ≡ 2) → Tells old new status
told_usage old new status said always = record {
  none = λ e. absurd (let two = always (λ six. omega arith) in omega arith);
  usage = λ e. said.whole (λ six. omega arith);
  memory = λ e. absurd (let two = always (λ six. omega arith) in omega arith);
  front = λ e. let s = said.front e in (false, s.0, s.1);
}
