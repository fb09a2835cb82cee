-- n-fold, RFC 3961 section 5.1. Octets and bits are counted from 0, the most significant first.
use Rattle.std.specs.Prelude.{ℕ, zero, suc, ◌+◌, ◌-◌, ◌*◌, ◌/◌, ◌%◌, ◌^◌, min, ◌==◌, ◌&&◌, nat_lt}
use Rattle.std.specs.Prelude.{List, [], ◌∷◌, length, slice_index, if◌then◌else◌}

-- the greatest number up to a bound that divides both
unfoldable pub divisor_up_to : ℕ → ℕ → ℕ → ℕ
divisor_up_to zero a b = 0
divisor_up_to (suc k) a b =
    if (a % suc k == 0) && (b % suc k == 0) then suc k else divisor_up_to k a b

-- the greatest common divisor of two numbers that aren't 0
abbrev pub greatest_common_divisor : ℕ → ℕ → ℕ
greatest_common_divisor a b = divisor_up_to (min a b) a b

-- the eight bits of a list of octets from one bit on; behind the last bit stands the first again
unfoldable pub octet_around : List ℕ → ℕ → ℕ
octet_around octets bit =
    (256 * slice_index octets (bit / 8) + slice_index octets ((bit / 8 + 1) % length octets)) / 2 ^
    (8 - bit % 8) % 256

-- the bit with which an octet of the copies in a row begins: each copy is turned right by 13 bits
-- more than the one before, so its first bit is one that stands 13 bits earlier, read around
unfoldable pub bit_of_copies : ℕ → ℕ → ℕ
bit_of_copies size at = (8 * (at % size) + (8 * size - 13 * (at / size) % (8 * size))) % (8 * size)

-- an octet of the copies in a row
abbrev pub octet_of_copies : List ℕ → ℕ → ℕ
octet_of_copies octets at = octet_around octets (bit_of_copies (length octets) at)

-- some octets of the copies in a row
unfoldable pub part_of_copies : List ℕ → ℕ → ℕ → List ℕ
part_of_copies octets at zero = []
part_of_copies octets at (suc count) =
    octet_of_copies octets at ∷ part_of_copies octets (at + 1) count

-- octets as a number, and that many octets of a number
unfoldable pub number_of : List ℕ → ℕ
number_of [] = 0
number_of (octet ∷ octets) = octet * 256 ^ length octets + number_of octets

-- the last octets of a number, so many of them, the most significant first
unfoldable pub octets_of : ℕ → ℕ → List ℕ
octets_of zero number = []
octets_of (suc count) number = number / 256 ^ count % 256 ∷ octets_of count number

-- the sum of two numbers of that many octets, the carry added at the other end
unfoldable pub add_around : ℕ → ℕ → ℕ → ℕ
add_around count a b = if nat_lt (a + b) (256 ^ count) then a + b else a + b - 256 ^ count + 1

-- the sum of the first pieces of that many octets into which the copies are cut
unfoldable pub sum_of_pieces : List ℕ → ℕ → ℕ → ℕ
sum_of_pieces octets count zero = 0
sum_of_pieces octets count (suc n) = add_around count (sum_of_pieces octets count n)
    (number_of (part_of_copies octets (count * n) count))

-- the copies go on to the least common multiple of both lengths
unfoldable pub n_fold : ℕ → List ℕ → List ℕ
n_fold count octets = octets_of count
    (sum_of_pieces octets count (length octets / greatest_common_divisor (length octets) count))
