use Rattle.std.proofs.Common.{◌≡◌, ℕ, ◌+◌, ◌-◌, ◌*◌, ◌^◌, ◌<◌, ◌≤◌, length, drop, get_or}
use Rattle.krb_derive.specs.Fold.{number_of, part_of_copies}
use Rattle.krb_derive.proofs.fold.add_piece.Given as goal

abbrev pub invariant-octets : goal.invariant-octets
invariant-octets l =
    (length l.sum ≡ length l.fn.sum)
    × ((k : ℕ) → k < l.i → get_or l.sum k 0 ≡ get_or l.fn.sum k 0)
    × (number_of (drop l.i l.sum) + l.carry * 256 ^ (length l.fn.sum - l.i)
    ≡ number_of (drop l.i l.fn.sum) + number_of (part_of_copies l.octets (length l.fn.sum * l.piece + l.i) (length l.fn.sum - l.i)))
    × (l.carry < 2)
    × ((k : ℕ) → l.i ≤ k → get_or l.sum k 0 < 256)
