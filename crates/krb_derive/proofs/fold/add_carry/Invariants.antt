use Rattle.std.proofs.Common.{◌≡◌, ℕ, ◌+◌, ◌-◌, ◌*◌, ◌^◌, ◌<◌, ◌≤◌, length, drop, get_or}
use Rattle.krb_derive.specs.Fold.{number_of}
use Rattle.krb_derive.proofs.fold.add_carry.Given as goal

abbrev pub invariant-octets : goal.invariant-octets
invariant-octets l =
    (length l.sum ≡ length l.fn.sum)
    × ((k : ℕ) → k < l.i → get_or l.sum k 0 ≡ get_or l.fn.sum k 0)
    × (number_of (drop l.i l.sum) + l.rest * 256 ^ (length l.fn.sum - l.i) ≡ number_of (drop l.i l.fn.sum) + l.carry)
    × (l.rest < 2)
    × ((k : ℕ) → l.i ≤ k → get_or l.sum k 0 < 256)
