-- What a run of the program leaves on its two streams.
use Rattle.std.specs.Prelude.{◌≡◌, ◌≢◌, ℕ, Bool, if◌then◌else◌, List, ◌++◌, take, codes, Result, Ok}
use Rattle.std.specs.Prelude.{Err}
use Rattle.cli_base.specs.Lines.{memory_line}
use Rattle.files_command.specs.declared.refusal.NoFile.{NoFile}

-- the line of status 2, which says what the words may be
abbrev pub usage_line : List ℕ
usage_line = codes "usage: gss_files keytab PRINCIPAL KVNO TYPE KEYHEX"
    ++ (codes " | ccache CLIENT SERVER KVNO TYPE KEYHEX HOURS"
    ++ codes " | verifier USER PASSWORD SALTHEX ROUNDS\n")

-- a file that is due was written
abbrev pub Whole : List ℕ → List ℕ → Result (List ℕ) NoFile → Type 0
Whole old new (Ok file) = new ≡ old ++ file
Whole old new (Err e) = ⊥

-- a front of a file that is due was written, which may be empty
abbrev pub Front : List ℕ → List ℕ → Result (List ℕ) NoFile → Type 0
Front old new (Ok file) = (count : ℕ) × (new ≡ old ++ take count file)
Front old new (Err e) = new ≡ old

-- what standard output gains: at status 0 the file that is due, at status 6 a front of it, else
-- nothing
pub record Writes (old new : List ℕ) (status : ℕ) (due : Result (List ℕ) NoFile) : Type 0 where
  pub whole : status ≡ 0 → Whole old new due
  pub front : status ≡ 6 → Front old new due
  pub none : status ≢ 0 → status ≢ 6 → new ≡ old

-- what standard error gains: nothing at status 0, the line of status 2 or 8, at status 6 a front of
-- one of them, which may be empty
pub record Tells (old new : List ℕ) (status : ℕ) : Type 0 where
  pub none : status ≡ 0 → new ≡ old
  pub usage : status ≡ 2 → new ≡ old ++ usage_line
  pub memory : status ≡ 8 → new ≡ old ++ memory_line
  pub front : status ≡ 6 → (memory : Bool) × (count : ℕ)
      × (new ≡ old ++ take count (if memory then memory_line else usage_line))
