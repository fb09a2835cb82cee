-- A piece of a list, taken at a place.
use Rattle.std.proofs.Common.{◌≡◌, ℕ, ◌+◌, ◌-◌, List, [], ◌++◌, length, take, drop, sym, arith}
use Rattle.std.proofs.Math.Seq.{take-add}
use Rattle.std.proofs.lemmas.List.{take-append-drop, drop-drop}
use Rattle.std.proofs.lemmas.Grind.{common_steps}

-- a copy of the next octets goes on what was taken
pub given-taken : (input copied : List ℕ) (at count : ℕ) → copied ≡ take count (drop at input) → take (at + count) input ≡ take at input ++ copied
given-taken input copied at count e = rw (take-add at count input, e)

pub given-coming : (input copied : List ℕ) (at count : ℕ) → copied ≡ take count (drop at input) → drop at input ≡ copied ++ drop (at + count) input
given-coming input copied at count e =
    rw (e, ← drop-drop count at input) (sym (take-append-drop count (drop at input)))

pub given-ended : (input : List ℕ) (at : ℕ) → length input - at ≡ 0 → drop at input ≡ []
given-ended input at h = grind (arith, common_steps)

-- the pieces behind the next one
pub pieces-behind : (pieces : List ℕ) (number : ℕ) → drop (number + 1) pieces ≡ drop 1 (drop number pieces)
pieces-behind pieces number = sym (drop-drop 1 number pieces)
