-- What reading octets that were announced took of the stream, and where they stand.
use Rattle.std.specs.Prelude.{◌≡◌, ℕ, ◌<◌, ◌≤◌, Bool, true, false, List, ◌++◌, length, Result}
use Rattle.std.specs.Prelude.{Ok, Err}
use Rattle.sec_base.specs.Link.{Wire, HasTaken, IsOver}
use Rattle.sec_base.specs.declared.transfer.ContentRefusal.{ContentRefusal}
use Rattle.sec_base.specs.declared.transfer.ContentRefusal.TheVariants.{LinkFault, NoMemory}

-- these octets were read behind those that were there
pub record Grows (told : Bool) (old new : Wire) (before after part : List ℕ) : Type 0 where
  pub grown : after ≡ before ++ part
  pub took : HasTaken told old new part

-- at most so many octets were read, fewer only where the input ended
abbrev pub TakesPiece : Bool → Wire → Wire → List ℕ → List ℕ → ℕ → Result ℕ ContentRefusal → Type 0
TakesPiece told old new before after most (Ok count) = (part : List ℕ) × (length part ≡ count)
    × (count < most → IsOver told new) × Grows told old new before after part
TakesPiece told old new before after most (Err LinkFault) =
    (part : List ℕ) × (length part < most) × HasTaken told old new part
TakesPiece told old new before after most (Err NoMemory) =
    (part : List ℕ) × (length part ≤ most) × HasTaken told old new part

-- so many octets were read, or those up to the end of input where fewer came
abbrev pub TakesContent : Bool → Wire → Wire → List ℕ → List ℕ → ℕ → Result Bool ContentRefusal
    → Type 0
TakesContent told old new before after count (Ok true) =
    (part : List ℕ) × (length part ≡ count) × Grows told old new before after part
TakesContent told old new before after count (Ok false) =
    (part : List ℕ) × (length part < count) × IsOver told new × Grows told old new before after part
TakesContent told old new before after count (Err LinkFault) =
    (part : List ℕ) × (length part < count) × HasTaken told old new part
TakesContent told old new before after count (Err NoMemory) =
    (part : List ℕ) × (length part ≤ count) × HasTaken told old new part
