-- Records of a stream, RFC 5531 section 11.
use Rattle.std.specs.Prelude.{◌≡◌, ◌⊎◌, ℕ, ◌+◌, ◌%◌, ◌<◌, ◌≤◌, ◌^◌, Bool, List, [], ◌++◌, length}
use Rattle.std.specs.Prelude.{Option, Some, None, Result, Ok, Err}
use Rattle.std.specs.List.{flat_map}
use Rattle.sec_base.specs.Link.{Wire, HasTaken, IsOver}
use Rattle.rpc_msgs.specs.Words.{word}
use Rattle.rpc_msgs.specs.declared.record.RecordRefusal.{RecordRefusal}
use Rattle.rpc_msgs.specs.declared.record.RecordRefusal.TheVariants.{LinkFault, TooLong}
use Rattle.rpc_msgs.specs.declared.record.RecordRefusal.TheVariants.{TooManyFragments, Torn}
use Rattle.rpc_msgs.specs.declared.record.RecordRefusal.TheVariants.{NoMemory}

-- a fragment: a word whose top bit marks the last of its record and whose other bits are the
-- length, then the octets
abbrev pub more_fragment : List ℕ → List ℕ
more_fragment octets = word (length octets) ++ octets

-- the last fragment of its record: the top bit is set
abbrev pub last_fragment : List ℕ → List ℕ
last_fragment octets = word (2 ^ 31 + length octets) ++ octets

-- fragments before the last as they stand in a stream
abbrev pub frames : List (List ℕ) → List ℕ
frames fragments = flat_map more_fragment fragments

-- the octets that fragments hold, in order
abbrev pub joined : List (List ℕ) → List ℕ
joined fragments = flat_map (λ octets. octets) fragments

-- a record as it was cut: the fragments before its last one, and the last
pub record Fragments : Type 0 where
  pub earlier : List (List ℕ)
  pub last : List ℕ

-- its octets
abbrev pub octets_in : Fragments → List ℕ
octets_in cut = joined cut.earlier ++ cut.last

-- as it stands in a stream
abbrev pub frame : Fragments → List ℕ
frame cut = frames cut.earlier ++ last_fragment cut.last

-- at most 64 fragments with at most 131,072 octets
pub record IsRecord (cut : Fragments) : Type 0 where
  pub few : length cut.earlier < 64
  pub size : length (octets_in cut) ≤ 131072

-- the front of a record that ends with the header that announces more octets than a record may have
pub record IsTooLong (octets : List ℕ) : Type 0 where
  pub earlier : List (List ℕ)
  pub header : ℕ
  pub bound : header < 2 ^ 32
  pub few : length earlier ≤ 64
  pub size : length (joined earlier) ≤ 131072
  pub announced : 131072 < length (joined earlier) + header % 2 ^ 31
  pub spelled : octets ≡ frames earlier ++ word header

-- the front of a record that ends with the header of a 65th fragment, whose octets would still fit
pub record IsTooMany (octets : List ℕ) : Type 0 where
  pub earlier : List (List ℕ)
  pub header : ℕ
  pub bound : header < 2 ^ 32
  pub full : length earlier ≡ 64
  pub announced : length (joined earlier) + header % 2 ^ 31 ≤ 131072
  pub spelled : octets ≡ frames earlier ++ word header

-- a fragment that ends inside its header or inside its octets, where so many fragments and octets
-- of the record came before
abbrev pub IsPartial : ℕ → ℕ → List ℕ → Type 0
IsPartial number size octets =
    (length octets < 4) ⊎ ((header : ℕ) × (rest : List ℕ) × (header < 2 ^ 32)
    × (number < 64) × (size + header % 2 ^ 31 ≤ 131072) × (octets ≡ word header ++ rest)
    × (length rest < header % 2 ^ 31))

-- a front of a record, which may be empty, that ends before the record's last octet
pub record IsFront (octets : List ℕ) : Type 0 where
  pub earlier : List (List ℕ)
  pub part : List ℕ
  pub few : length earlier ≤ 64
  pub size : length (joined earlier) ≤ 131072
  pub partial : IsPartial (length earlier) (length (joined earlier)) part
  pub spelled : octets ≡ frames earlier ++ part

-- a front that has an octet: the record was begun
pub record IsTorn (octets : List ℕ) : Type 0 where
  pub front : IsFront octets
  pub some : 0 < length octets

-- a whole record as it stands in a stream
pub record IsWhole (octets : List ℕ) : Type 0 where
  pub cut : Fragments
  pub is_record : IsRecord cut
  pub spelled : octets ≡ frame cut

-- what the call that reads the next record took of the stream; it ended where the call says so
abbrev pub TakesRecord : Bool → Wire → Wire → Result (Option (List ℕ)) RecordRefusal → Type 0
TakesRecord told old new (Ok (Some octets)) = (cut : Fragments) × IsRecord cut
    × (octets ≡ octets_in cut) × HasTaken told old new (frame cut)
TakesRecord told old new (Ok None) = HasTaken told old new [] × IsOver told new
TakesRecord told old new (Err LinkFault) =
    (octets : List ℕ) × IsFront octets × HasTaken told old new octets
TakesRecord told old new (Err TooLong) =
    (octets : List ℕ) × IsTooLong octets × HasTaken told old new octets
TakesRecord told old new (Err TooManyFragments) =
    (octets : List ℕ) × IsTooMany octets × HasTaken told old new octets
TakesRecord told old new (Err Torn) =
    (octets : List ℕ) × IsTorn octets × HasTaken told old new octets × IsOver told new
TakesRecord told old new (Err NoMemory) = (octets : List ℕ) × (IsFront octets ⊎ IsWhole octets)
    × HasTaken told old new octets
