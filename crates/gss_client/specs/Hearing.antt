-- The next record of a stream, RFC 5531 section 11.
use Rattle.std.specs.Prelude.{ℕ, zero, suc, ◌+◌, ◌%◌, ◌^◌, nat_lt, if◌then◌else◌, List, [], ◌++◌}
use Rattle.std.specs.Prelude.{length, take, drop}
use Rattle.std.specs.Int.{w32, from_be_bytes}

-- what a stream begins with
pub data Heard : Type 0 where
  -- a record, and what follows it
  whole : (octets rest : List ℕ) → Heard
  -- it ends before a record is whole
  ended : Heard
  -- fragments that announce more than 131,072 octets, or the header of a 65th
  unfit : Heard

-- a fragment's header: its top bit marks the last fragment of a record, the others are the length
abbrev pub header_at : List ℕ → ℕ
header_at stream = from_be_bytes w32 (take 4 stream)

-- how many octets the fragment has by its header
abbrev pub announced : List ℕ → ℕ
announced stream = header_at stream % 2 ^ 31

-- the fragment's octets, as far as they have come
abbrev pub fragment_at : List ℕ → List ℕ
fragment_at stream = take (announced stream) (drop 4 stream)

-- what follows the fragment
abbrev pub behind_fragment : List ℕ → List ℕ
behind_fragment stream = drop (4 + announced stream) stream

-- a record of which so many fragments may still come, and whose earlier ones held these octets
unfoldable pub record_from : ℕ → List ℕ → List ℕ → Heard
record_from zero before stream = if nat_lt (length stream) 4 then ended else unfit
record_from (suc left) before stream =
    if nat_lt (length stream) 4 then ended
    else (if nat_lt 131072 (length before + announced stream) then unfit
    else (if nat_lt (length stream) (4 + announced stream) then ended
    else (if nat_lt (header_at stream) (2 ^ 31)
    then record_from left (before ++ fragment_at stream) (behind_fragment stream)
    else whole (before ++ fragment_at stream) (behind_fragment stream))))

-- the next record of a stream, which has at most 64 fragments
abbrev pub next_of : List ℕ → Heard
next_of stream = record_from 64 [] stream
