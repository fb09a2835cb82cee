-- What lists weigh, by a weight of each of their things.
use Rattle.std.specs.Prelude.{ℕ, zero, suc, ◌+◌, List, [], ◌∷◌}

-- the weights of all things of a list
abbrev pub weigh : {A : Type 0} → (A → ℕ) → List A → ℕ
weigh weight [] = 0
weigh weight (x ∷ xs) = weight x + weigh weight xs

-- the sum over so many numbers, from 0 on
abbrev pub total : ℕ → (ℕ → ℕ) → ℕ
total zero of_number = 0
total (suc n) of_number = of_number n + total n of_number
