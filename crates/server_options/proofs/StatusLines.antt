-- The line of a known status is the line that is due.
use Rattle.std.proofs.Common.{◌≡◌, ◌≢◌, ℕ, ◌<◌, List, true, false, refl, arith}
use Rattle.server_options.specs.Lines.{is_begun}
use Rattle.server_options.specs.Lines.{Named, line_of}
use Rattle.server_options.specs.declared.ending.Counts.{Counts}
use Rattle.server_options.specs.declared.ending.RunEnd.{RunEnd}
use Rattle.server_options.specs.declared.ending.RunEnd.TheVariants.{Usage, CannotLoad, Bad, NoKey, PortFault, NoMemory, Served}
use Rattle.cli_base.specs.Lines.{SaysLine, Says, memory_line}

pub known-said : {old new : List ℕ} {status : ℕ} {line : List ℕ} (known : ℕ) → known < 6 → (status ≢ 6 → status ≡ known) → SaysLine old new status line → Says old new status line
known-said {old} {new} {status} {line} known small same said = record {
  whole = λ n m. said.whole n;
  memory = λ e. absurd (let ne : status ≢ 6 = (λ q. omega arith) in let is : status ≡ known = same ne in omega arith);
  front = λ e. let f = said.front e in (false, f.0, f.1);
}

pub memory-said : {old new : List ℕ} {status : ℕ} {due : List ℕ} → (status ≢ 6 → status ≡ 8) → SaysLine old new status memory_line → Says old new status due
memory-said {old} {new} {status} {due} same said = record {
  whole = λ n m. absurd (m (same n));
  memory = λ e. said.whole (λ q. omega arith);
  front = λ e. let f = said.front e in (true, f.0, f.1);
}

false≢true : false ≡ true → ⊥
false≢true e = cc

-- behind the keys the line is one that speaks of no name
pub end-line : (end : RunEnd) (one other : Named) (counts : Counts) → (end ≢ NoMemory → is_begun end ≡ true) → line_of one counts end ≡ line_of other counts end
end-line Usage one other counts begun = absurd (false≢true (begun (λ e. cc)))
end-line (CannotLoad file) one other counts begun = absurd (false≢true (begun (λ e. cc)))
end-line (Bad file at) one other counts begun = absurd (false≢true (begun (λ e. cc)))
end-line NoKey one other counts begun = absurd (false≢true (begun (λ e. cc)))
end-line (PortFault desk) one other counts begun = refl
end-line NoMemory one other counts begun = refl
end-line Served one other counts begun = refl
