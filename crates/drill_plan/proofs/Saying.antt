-- What was said and printed, by the status.
use Rattle.std.proofs.Common.{◌≡◌, ◌≢◌, ◌<◌, ℕ, List, ◌++◌, length, false, sym, ap, ◌∙◌, arith}
use Rattle.std.proofs.lemmas.List.{take_all}
use Rattle.cli_base.specs.Lines.{SaysLine, Says}
use Rattle.drill_plan.specs.Lines.{Prints}

-- the line of a known status is the line that is due
pub known-said : {old new : List ℕ} {status : ℕ} {line : List ℕ} (known : ℕ) → known < 6 → (status ≢ 6 → status ≡ known) → SaysLine old new status line → Says old new status line
known-said {old} {new} {status} {line} known small same said = record {
  whole = λ n m. said.whole n;
  memory = λ e. absurd (let ne : status ≢ 6 = (λ q. omega arith) in let is : status ≡ known = same ne in omega arith);
  front = λ e. let f = said.front e in (false, f.0, f.1);
}

-- all was printed, whatever was said then
pub printed-all : (old new text : List ℕ) (status : ℕ) → new ≡ old ++ text → (status ≢ 6 → status ≡ 0) → Prints old new status text
printed-all old new text status e same = record {
  whole = λ z. e;
  front = λ six. (length text, e ∙ ap (λ (zs : List ℕ). old ++ zs) (sym (take_all (length text) text (omega arith))));
  nothing = λ some other. absurd (some (same other));
}
