use Rattle.std.specs.Prelude.{ℕ, List}

-- a principal as contracts see it: its realm and its parts, each the octets of a text
pub record Name : Type 0 where
  pub realm : List ℕ
  pub parts : List (List ℕ)
