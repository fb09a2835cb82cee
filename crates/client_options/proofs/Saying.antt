-- The line of a known status is the line that is due.
use Rattle.std.proofs.Common.{◌≡◌, ◌≢◌, ℕ, List, true, false, sym, ◌∙◌, arith}
use Rattle.cli_base.specs.Lines.{SaysLine, Says, memory_line}

pub known-said : {old new : List ℕ} {status : ℕ} {line : List ℕ} (known : ℕ) → known ≢ 8 → (status ≢ 6 → status ≡ known) → SaysLine old new status line → Says old new status line
known-said {old} {new} {status} {line} known other same said = record {
  whole = λ n m. said.whole n;
  memory = λ e. absurd (let ne : status ≢ 6 = (λ q. omega arith) in other (sym (same ne) ∙ e));
  front = λ e. let f = said.front e in (false, f.0, f.1);
}

pub memory-said : {old new : List ℕ} {status : ℕ} {due : List ℕ} → (status ≢ 6 → status ≡ 8) → SaysLine old new status memory_line → Says old new status due
memory-said {old} {new} {status} {due} same said = record {
  whole = λ n m. absurd (m (same n));
  memory = λ e. said.whole (λ q. omega arith);
  front = λ e. let f = said.front e in (true, f.0, f.1);
}
