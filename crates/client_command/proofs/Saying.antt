-- What is printed is what is due.
use Rattle.std.proofs.Common.{◌≡◌, ℕ, List, [], ◌++◌, length, Option, None, sym, ap, ◌∙◌, arith}
use Rattle.std.proofs.lemmas.List.{append-nil, take_all}
use Rattle.spnego_core.specs.declared.outcome.Outcome.{Outcome}
use Rattle.client_options.specs.declared.command.Command.{Command}
use Rattle.client_options.specs.Lines.{lines}
use Rattle.cli_base.specs.Lines.{SaysLine}

-- where nothing stood and nothing was answered, nothing is printed
pub unprinted : (old : List ℕ) {status : ℕ} (command : Command) {outcome : Option Outcome} {results : List (List ℕ)} → outcome ≡ None → results ≡ [] → SaysLine old old status (lines command outcome results)
unprinted old {status} command none empty = rw none (rw empty same)
  where
    same : SaysLine old old status []
    same = record { whole = λ n. sym (append-nil old); front = λ e. (0, sym (append-nil old)) }

-- a line that was written whole
pub wrote : {old new : List ℕ} {status : ℕ} (line : List ℕ) → new ≡ old ++ line → SaysLine old new status line
wrote {old} line whole = record {
  whole = λ n. whole;
  front = λ e. (length line, whole ∙ ap (λ (xs : List ℕ). old ++ xs) (sym (take_all (length line) line (omega arith))));
}
