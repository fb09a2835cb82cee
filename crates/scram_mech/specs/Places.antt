-- The place of a refusal: the end of the longest front of a text with which some text of the format
-- begins.
use Rattle.std.specs.Prelude.{◌≡◌, ℕ, List, ◌∷◌, ◌++◌, length, Ok}
use Rattle.scram_mech.specs.Formats.{Segment, pieces_of}

-- `at` is the end of the longest front of the text with which some text of the format begins
pub record LongestFront (format : List Segment) (text : List ℕ) (at : ℕ) : Type 0 where
  pub front : List ℕ
  pub back : List ℕ
  pub same : text ≡ front ++ back
  pub place : length front ≡ at
  -- some text of the format begins so
  pub more : List ℕ
  pub values : List (List ℕ)
  pub reaches : pieces_of format (front ++ more) ≡ Ok values
  -- and none goes on with the octet that stands there, if one does
  pub ends : (octet : ℕ) (others : List ℕ) → back ≡ octet ∷ others
      → (rest : List ℕ) (read : List (List ℕ)) → pieces_of format (front ++ octet ∷ rest) ≡ Ok read
      → ⊥
