-- Steps of an end, each of which may refuse.
use Rattle.std.specs.Prelude.{ℕ, ◌+◌, Bool, if◌then◌else◌, Option, Some, None, Result, Ok, Err}
use Rattle.der_core.specs.declared.refusal.DerRefusal.{DerRefusal}
use Rattle.ap_exchange.specs.declared.refusal.Part.{Part}
use Rattle.ap_exchange.specs.declared.refusal.ApRefusal.{ApRefusal}
use Rattle.ap_exchange.specs.declared.refusal.ApRefusal.TheVariants as refusals

-- the steps that follow, unless this one refuses
infixl 10 ◌>>=◌
-- the first step that refuses decides
abbrev pub ◌>>=◌ : {A B : Type 0} → Result A ApRefusal → (A → Result B ApRefusal)
    → Result B ApRefusal
(Ok x) >>= next = next x
(Err e) >>= next = Err e

-- what a part of the exchange says; a refused place counts from the part's first octet
abbrev pub der_in : {A : Type 0} → Part → Result A DerRefusal → Result A ApRefusal
der_in part (Ok v) = Ok v
der_in part (Err refusal) = Err (refusals.Der part refusal.at refusal.why)

-- the same where what was read begins behind so many octets of the part
abbrev pub der_behind : {A : Type 0} → Part → ℕ → Result A DerRefusal → Result A ApRefusal
der_behind part before (Ok v) = Ok v
der_behind part before (Err refusal) = Err (refusals.Der part (before + refusal.at) refusal.why)

-- what is there, else the refusal
abbrev pub or_refuse : {A : Type 0} → ApRefusal → Option A → Result A ApRefusal
or_refuse refusal (Some v) = Ok v
or_refuse refusal None = Err refusal

-- the refusal exactly where the test doesn't hold
abbrev pub due : ApRefusal → Bool → Result (Unit {0}) ApRefusal
due refusal holds = if holds then Ok tt else Err refusal
