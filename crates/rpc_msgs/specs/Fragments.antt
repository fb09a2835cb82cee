-- What reading one fragment took of the stream.
use Rattle.std.specs.Prelude.{◌≡◌, ℕ, ◌+◌, ◌%◌, ◌<◌, ◌≤◌, ◌^◌, Bool, List, [], ◌++◌}
use Rattle.std.specs.Prelude.{length, Option, Some, None, Result, Ok, Err}
use Rattle.sec_base.specs.Link.{Wire, HasTaken, IsOver}
use Rattle.sec_base.specs.Contents.{Grows}
use Rattle.rpc_msgs.specs.Words.{word}
use Rattle.rpc_msgs.specs.Records.{more_fragment, last_fragment, frames, joined, IsPartial}
use Rattle.rpc_msgs.specs.declared.record.Fragment.{Fragment}
use Rattle.rpc_msgs.specs.declared.record.Fragment.TheVariants.{More, Last, End}
use Rattle.rpc_msgs.specs.declared.record.RecordRefusal.{RecordRefusal}
use Rattle.rpc_msgs.specs.declared.record.RecordRefusal.TheVariants.{LinkFault, TooLong}
use Rattle.rpc_msgs.specs.declared.record.RecordRefusal.TheVariants.{TooManyFragments, Torn}
use Rattle.rpc_msgs.specs.declared.record.RecordRefusal.TheVariants.{NoMemory}

-- a fragment was read whole behind those that were there
pub record Adds (told : Bool) (old new : Wire) (before after part framed : List ℕ) : Type 0 where
  pub grown : after ≡ before ++ part
  pub took : HasTaken told old new framed

-- a header was read
pub record Heads (told : Bool) (old new : Wire) (header : ℕ) : Type 0 where
  pub bound : header < 2 ^ 32
  pub took : HasTaken told old new (word header)

-- the header of the fragment of this number was read, or why it was not
abbrev pub TakesHeader : Bool → Wire → Wire → ℕ → Result (Option ℕ) RecordRefusal → Type 0
TakesHeader told old new number (Ok (Some header)) = Heads told old new header
TakesHeader told old new number (Ok None) =
    (number ≡ 0) × HasTaken told old new [] × IsOver told new
TakesHeader told old new number (Err LinkFault) =
    (part : List ℕ) × (length part < 4) × HasTaken told old new part
TakesHeader told old new number (Err TooLong) = ⊥
TakesHeader told old new number (Err TooManyFragments) = ⊥
TakesHeader told old new number (Err Torn) = (part : List ℕ) × (length part < 4)
    × (0 < number + length part) × HasTaken told old new part × IsOver told new
TakesHeader told old new number (Err NoMemory) = ⊥

-- a fragment of so many octets may come behind so many fragments and octets, or why it may not
abbrev pub Allows : ℕ → ℕ → ℕ → Result (Unit {0}) RecordRefusal → Type 0
Allows number held size (Ok _) = (number < 64) × (held + size ≤ 131072)
Allows number held size (Err LinkFault) = ⊥
Allows number held size (Err TooLong) = 131072 < held + size
Allows number held size (Err TooManyFragments) = (number ≡ 64) × (held + size ≤ 131072)
Allows number held size (Err Torn) = ⊥
Allows number held size (Err NoMemory) = ⊥

-- the octets that a header announces were read, or why they were not; so many fragments and octets
-- came before
abbrev pub TakesAnnounced : Bool → Wire → Wire → List ℕ → List ℕ → ℕ → ℕ
    → Result Fragment RecordRefusal → Type 0
TakesAnnounced told old new before after number header (Ok More) =
    (part : List ℕ) × (header ≡ length part) × Grows told old new before after part
TakesAnnounced told old new before after number header (Ok Last) =
    (part : List ℕ) × (header ≡ 2 ^ 31 + length part) × Grows told old new before after part
TakesAnnounced told old new before after number header (Ok End) = ⊥
TakesAnnounced told old new before after number header (Err LinkFault) =
    (part : List ℕ) × (number < 64) × (length before + header % 2 ^ 31 ≤ 131072)
    × (length part < header % 2 ^ 31) × HasTaken told old new part
TakesAnnounced told old new before after number header (Err TooLong) =
    (131072 < length before + header % 2 ^ 31) × HasTaken told old new []
TakesAnnounced told old new before after number header (Err TooManyFragments) =
    (number ≡ 64) × (length before + header % 2 ^ 31 ≤ 131072) × HasTaken told old new []
TakesAnnounced told old new before after number header (Err Torn) =
    (part : List ℕ) × (number < 64) × (length before + header % 2 ^ 31 ≤ 131072)
    × (length part < header % 2 ^ 31) × HasTaken told old new part × IsOver told new
TakesAnnounced told old new before after number header (Err NoMemory) =
    (part : List ℕ) × (number < 64) × (length before + header % 2 ^ 31 ≤ 131072)
    × (length part ≤ header % 2 ^ 31) × HasTaken told old new part

-- the fragment of this number was read, or why it was not
abbrev pub TakesFragment : Bool → Wire → Wire → List ℕ → List ℕ → ℕ
    → Result Fragment RecordRefusal → Type 0
TakesFragment told old new before after number (Ok More) =
    (part : List ℕ) × Adds told old new before after part (more_fragment part)
TakesFragment told old new before after number (Ok Last) =
    (part : List ℕ) × Adds told old new before after part (last_fragment part)
TakesFragment told old new before after number (Ok End) =
    (number ≡ 0) × HasTaken told old new [] × IsOver told new
TakesFragment told old new before after number (Err LinkFault) =
    (part : List ℕ) × IsPartial number (length before) part × HasTaken told old new part
TakesFragment told old new before after number (Err TooLong) =
    (header : ℕ) × (131072 < length before + header % 2 ^ 31) × Heads told old new header
TakesFragment told old new before after number (Err TooManyFragments) = (header : ℕ)
    × (number ≡ 64) × (length before + header % 2 ^ 31 ≤ 131072) × Heads told old new header
TakesFragment told old new before after number (Err Torn) = (part : List ℕ)
    × IsPartial number (length before) part × (0 < number + length part)
    × HasTaken told old new part × IsOver told new
TakesFragment told old new before after number (Err NoMemory) = (header : ℕ) × (part : List ℕ)
    × (number < 64) × (header < 2 ^ 32) × (length before + header % 2 ^ 31 ≤ 131072)
    × (length part ≤ header % 2 ^ 31) × HasTaken told old new (word header ++ part)

-- so many fragments were read
pub record Begins (told : Bool) (old new : Wire) (number : ℕ) (octets : List ℕ) : Type 0 where
  pub earlier : List (List ℕ)
  pub count : length earlier ≡ number
  pub held : octets ≡ joined earlier
  pub took : HasTaken told old new (frames earlier)
