-- Words for what a call answers.
use Rattle.std.specs.Prelude.{◌≡◌, ◌≢◌, ◌<◌, ◌-◌, ◌^◌, ℕ, Result, Ok, Err}

-- the answer on models is given, want of memory aside: `free` is the refusal that stands for it,
-- `view` shows a value's model
abbrev pub Gives : {A B E : Type 0} → E → (A → B) → Result A E → Result B E → Type 0
Gives free view (Ok value) answer = answer ≡ Ok (view value)
Gives free view (Err refusal) answer = refusal ≢ free → answer ≡ Err refusal

-- a count rose, or stands at the last value of its type
abbrev pub Rose : ℕ → ℕ → Type 0
Rose old new = new < 2 ^ 64 - 1 → old < new
