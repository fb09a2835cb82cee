-- What a source of octets in memory gives.
use Rattle.std.specs.Prelude.{ℕ, zero, suc, ◌-◌, ◌%◌, List, [], ◌∷◌, ◌++◌, length, take}
use Rattle.sec_base.specs.declared.mem_draw.MemDraw.{MemDraw}

-- the octets that a source was made with
abbrev pub stated_octets : MemDraw → List ℕ
stated_octets draw = draw.octets.items

-- `count` octets that count upwards from `start`, modulo 256
abbrev pub counting : ℕ → ℕ → List ℕ
counting start zero = []
counting start (suc count) = (start % 256) ∷ counting (suc start) count

-- the first `count` octets that are given: those of the list, and then 0, 1, 2 and so on, modulo
-- 256
abbrev pub octets_given : List ℕ → ℕ → List ℕ
octets_given octets count = take count octets ++ counting 0 (count - length octets)
