use Rattle.std.proofs.Common.{◌≡◌, ℕ, ◌<◌, ◌≤◌, get_or}
use Rattle.std.specs.Int.Bits.{bit_xor}
use Rattle.aes_cts.proofs.stealing.add_to.Given as goal

-- the octets before i are added, the others as they were
abbrev pub invariant-octets : goal.invariant-octets
invariant-octets l =
    ((k : ℕ) → k < l.i → get_or l.bytes k 0 ≡ bit_xor (get_or l.fn.bytes k 0) (get_or l.other k 0))
    × ((k : ℕ) → l.i ≤ k → get_or l.bytes k 0 ≡ get_or l.fn.bytes k 0)
