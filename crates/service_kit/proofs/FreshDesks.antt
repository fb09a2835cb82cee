-- One more desk that has served nothing.
use Rattle.std.proofs.Common.{List, [], ◌∷◌, ◌++◌}
use Rattle.std.specs.List.{AllByRecursion}

pub pushed : {A : Type 0} (Holds : A → Type 0) (xs : List A) (x : A) → AllByRecursion Holds xs → Holds x → AllByRecursion Holds (xs ++ x ∷ [])
pushed Holds [] x all h = (h, tt)
pushed Holds (y ∷ xs) x all h = (all.0, pushed Holds xs x all.1 h)
