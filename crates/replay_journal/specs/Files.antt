-- The file of a journal: eight octets, then a gate and a body for each record, and a gate at the
-- end.
use Rattle.std.specs.Prelude.{◌≡◌, ◌≢◌, ℕ, ◌+◌, ◌-◌, ◌*◌, ◌/◌, ◌%◌, zero, suc, max, Bool, true}
use Rattle.std.specs.Prelude.{◌&&◌, ◌==◌}
use Rattle.std.specs.Prelude.{not, nat_lt, nat_le, nat_eq, filter}
use Rattle.std.specs.Prelude.{List, [], ◌∷◌, ◌++◌, length, take, drop, slice_index_or}
use Rattle.std.specs.Prelude.{if◌then◌else◌}
use Rattle.std.specs.Int.{w32, w64, from_be_bytes, to_be_bytes}
use Rattle.std.specs.Cmp.Lexicographic.{pointwise}
use Rattle.gss_base.specs.declared.mark.Mark.{Mark}
use Rattle.replay_cache.specs.Taking.{skew}

-- the octets that a file begins with
abbrev pub head : List ℕ
head = 0x47 ∷ 0x53 ∷ 0x53 ∷ 0x53 ∷ 0x4a ∷ 0x4e ∷ 0x4c ∷ 0x31 ∷ []

-- a gate and a whole body stand here, and another gate behind them, and the first gate is open
abbrev pub starts_open : List ℕ → Bool
starts_open rest = (slice_index_or rest 0 0 == 0x4a) && nat_lt 45 (length rest)

-- the bodies of at most so many records, up to the first gate that is closed or the last gate
abbrev pub bodies : ℕ → List ℕ → List (List ℕ)
bodies zero rest = []
bodies (suc most) rest =
    if starts_open rest then take 44 (drop 1 rest) ∷ bodies most (drop 45 rest) else []

-- the bodies of the records that count
abbrev pub counted : List ℕ → List (List ℕ)
counted file = bodies (length file) (drop 8 file)

-- records with open gates
abbrev pub blocks : List (List ℕ) → List ℕ
blocks [] = []
blocks (body ∷ more) = 0x4a ∷ (body ++ blocks more)

-- what stands before the gate at the end
abbrev pub front : List (List ℕ) → List ℕ
front records = head ++ blocks records

-- each is 44 octets
abbrev pub Sized : List (List ℕ) → Type 0
Sized [] = Unit {0}
Sized (body ∷ more) = (length body ≡ 44) × Sized more

-- these octets stand behind the first gate of these records: all of theirs but that gate, and a
-- closed gate at the end
pub record AreBehind (records : List (List ℕ)) (octets : List ℕ) : Type 0 where
  pub inner : List ℕ
  pub first : 0x4a ∷ inner ≡ blocks records
  pub last : octets ≡ inner ++ 0 ∷ []
  pub sized : Sized records

-- the file has these records, and a closed gate behind them
pub record Rests (records : List (List ℕ)) (file : List ℕ) : Type 0 where
  pub gate : ℕ
  pub tail : List ℕ
  pub split : file ≡ front records ++ gate ∷ tail
  pub sized : Sized records
  pub shut : gate ≢ 0x4a

-- a moment as twelve octets
abbrev pub moment_octets : ℕ → List ℕ
moment_octets at = to_be_bytes w64 (at / 1000000) ++ to_be_bytes w32 (at % 1000000)

-- the body of a mark that was taken at this greatest moment
abbrev pub body_of : Mark → ℕ → List ℕ
body_of mark greatest = mark.who ++ moment_octets mark.at ++ moment_octets greatest

-- a moment of twelve octets
abbrev pub moment_at : List ℕ → ℕ
moment_at octets = from_be_bytes w64 (take 8 octets) * 1000000 + from_be_bytes w32 (take 4
    (drop 8 octets))

-- the mark in a body, and the greatest moment in it
abbrev pub mark_in : List ℕ → Mark
mark_in body = record { who = take 20 body; at = moment_at (drop 20 body) }

abbrev pub greatest_in : List ℕ → ℕ
greatest_in body = moment_at (drop 32 body)

-- these twelve octets are a moment: no later than the end of 9999, and less than a second of
-- microseconds
abbrev pub is_moment : List ℕ → Bool
is_moment octets = nat_le (from_be_bytes w64 (take 8 octets)) 253402300799
    && nat_lt (from_be_bytes w32 (take 4 (drop 8 octets))) 1000000

-- a record as a run writes it: both moments are moments, and the mark's lies at most the skew
-- ahead of the greatest
abbrev pub is_genuine : List ℕ → Bool
is_genuine body = (is_moment (drop 20 body) && is_moment (drop 32 body))
    && nat_le (mark_in body).at (greatest_in body + skew)

abbrev pub all_genuine : List (List ℕ) → Bool
all_genuine [] = true
all_genuine (body ∷ more) = is_genuine body && all_genuine more

-- the greatest moment that a start and records tell
abbrev pub greatest_of : ℕ → List (List ℕ) → ℕ
greatest_of start [] = start
greatest_of start (body ∷ more) = greatest_of (max start (greatest_in body)) more

-- a file begins as a journal does
abbrev pub begins : List ℕ → Bool
begins file = pointwise nat_eq (take 8 file) head

-- no journal left this file
abbrev pub is_bad : List ℕ → Bool
is_bad file = nat_lt 9 (length file) && not (begins file && all_genuine (counted file))

-- the mark that nobody has, at the start of 1970
abbrev pub no_mark : Mark
no_mark = record {
  who = 0 ∷ 0 ∷ 0 ∷ 0 ∷ 0 ∷ 0 ∷ 0 ∷ 0 ∷ 0 ∷ 0 ∷ 0 ∷ 0 ∷ 0 ∷ 0 ∷ 0 ∷ 0 ∷ 0 ∷ 0 ∷ 0 ∷ 0 ∷ [];
  at = 0;
}

-- a mark that is older than the skew at this moment is forgotten
abbrev pub is_recent_body : ℕ → List ℕ → Bool
is_recent_body greatest body = nat_le (greatest - (mark_in body).at) skew

-- the records of a file that is made anew: one that tells the greatest moment, and the recent ones
abbrev pub renewed : ℕ → List (List ℕ) → List (List ℕ)
renewed greatest records = body_of no_mark greatest ∷ filter (is_recent_body greatest) records
