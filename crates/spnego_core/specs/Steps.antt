-- Steps of a negotiating end, each of which may refuse.
use Rattle.std.specs.Prelude.{Bool, if◌then◌else◌, Option, Some, None, Result, Ok, Err}
use Rattle.spnego_core.specs.declared.refusal.NegRefusal.{NegRefusal}

-- the steps that follow, unless this one refuses
infixl 10 ◌>>=◌
-- the first step that refuses decides
abbrev pub ◌>>=◌ : {A B : Type 0} → Result A NegRefusal → (A → Result B NegRefusal)
    → Result B NegRefusal
(Ok x) >>= next = next x
(Err refusal) >>= next = Err refusal

-- the refusal exactly where the test doesn't hold
abbrev pub due : NegRefusal → Bool → Result (Unit {0}) NegRefusal
due refusal holds = if holds then Ok tt else Err refusal

-- what is there, else the refusal
abbrev pub or_refuse : {A : Type 0} → NegRefusal → Option A → Result A NegRefusal
or_refuse refusal (Some v) = Ok v
or_refuse refusal None = Err refusal
