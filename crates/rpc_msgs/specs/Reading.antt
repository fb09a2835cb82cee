-- How a stream begins, RFC 5531 section 11: its one reading, from its front.
use Rattle.std.specs.Prelude.{◌≡◌, ℕ, zero, suc, ◌+◌, ◌%◌, ◌^◌, List, [], ◌∷◌, ◌++◌, length, take}
use Rattle.std.specs.Prelude.{drop, nat_lt, nat_le, Bool, if◌then◌else◌, Option, Some, None}
use Rattle.std.specs.Prelude.{Result, Ok, Err}
use Rattle.std.specs.Int.{w32, from_be_bytes}
use Rattle.rpc_msgs.specs.declared.record.RecordRefusal.{RecordRefusal}
use Rattle.rpc_msgs.specs.declared.record.RecordRefusal.TheVariants.{LinkFault, TooLong}
use Rattle.rpc_msgs.specs.declared.record.RecordRefusal.TheVariants.{TooManyFragments, Torn}
use Rattle.rpc_msgs.specs.declared.record.RecordRefusal.TheVariants.{NoMemory}

-- how a stream begins: with nothing; with a record that it cuts short, that announces more than
-- 131,072 octets, or that has a 65th fragment; or with a whole record, of these octets, and then
-- these others
pub data First : Type 0 where
  nothing : First
  short : First
  long : First
  many : First
  whole : (octets more : List ℕ) → First

-- the header that octets begin with
unfoldable pub header_at : List ℕ → ℕ
header_at octets = from_be_bytes w32 (take 4 octets)

-- how many octets it announces
unfoldable pub announced_at : List ℕ → ℕ
announced_at octets = header_at octets % 2 ^ 31

-- whether it is that of the last fragment of its record: the top bit is set
abbrev pub is_last : List ℕ → Bool
is_last octets = nat_le (2 ^ 31) (header_at octets)

-- the octets of the fragment that octets begin with
abbrev pub fragment_at : List ℕ → List ℕ
fragment_at octets = take (announced_at octets) (drop 4 octets)

-- what stands behind it
abbrev pub behind_fragment : List ℕ → List ℕ
behind_fragment octets = drop (4 + announced_at octets) octets

-- how octets go on with a record that may have so many fragments more, and of which these octets
-- were read: a header is judged by what it announces before its octets are looked for
unfoldable pub record_from : ℕ → List ℕ → List ℕ → First
record_from zero held octets =
    if nat_lt (length octets) 4 then short
    else if nat_lt 131072 (length held + announced_at octets) then long
    else many
record_from (suc left) held octets =
    if nat_lt (length octets) 4 then short
    else if nat_lt 131072 (length held + announced_at octets) then long
    else if nat_lt (length octets) (4 + announced_at octets) then short
    else if is_last octets then whole (held ++ fragment_at octets) (behind_fragment octets)
    else record_from left (held ++ fragment_at octets) (behind_fragment octets)

-- how a stream begins
unfoldable pub first_record : List ℕ → First
first_record [] = nothing
first_record (octet ∷ octets) = record_from 64 [] (octet ∷ octets)

-- the answer to the call for the next record is how the stream begins, and what is left is what
-- stands behind a whole one; a fault of the link and want of memory say nothing of the stream
abbrev pub Finds : First → Result (Option (List ℕ)) RecordRefusal → List ℕ → Type 0
Finds first (Ok (Some octets)) left = first ≡ whole octets left
Finds first (Ok None) left = first ≡ nothing
Finds first (Err LinkFault) left = Unit {0}
Finds first (Err TooLong) left = first ≡ long
Finds first (Err TooManyFragments) left = first ≡ many
Finds first (Err Torn) left = first ≡ short
Finds first (Err NoMemory) left = Unit {0}
