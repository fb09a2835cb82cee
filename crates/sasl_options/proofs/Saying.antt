-- The line of a known status is the line that is due.
use Rattle.std.proofs.Common.{◌≡◌, ◌≢◌, ℕ, List, false, sym, ◌∙◌, arith}
use Rattle.cli_base.specs.Lines.{SaysLine, Says}

pub known-said : {old new : List ℕ} {status : ℕ} {line : List ℕ} (known : ℕ) → known ≢ 8 → (status ≢ 6 → status ≡ known) → SaysLine old new status line → Says old new status line
known-said {old} {new} {status} {line} known other same said = record {
  whole = λ n m. said.whole n;
  memory = λ e. absurd (let ne : status ≢ 6 = (λ q. omega arith) in other (sym (same ne) ∙ e));
  front = λ e. let f = said.front e in (false, f.0, f.1);
}
