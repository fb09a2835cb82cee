-- The place of a refusal by the grammar: the end of the longest front of a text with which some
-- text of the grammar begins.
use Rattle.std.specs.Prelude.{◌≡◌, ◌⊎◌, ℕ, List, ◌∷◌, ◌++◌, length}
use Rattle.scram_mech.specs.FirstText.{First}
use Rattle.scram_mech.specs.SecondText.{Second}
use Rattle.scram_mech.specs.ThirdText.{Third}
use Rattle.scram_mech.specs.Grammar.{SpellsFirst, SpellsSecond, SpellsThird, SpellsFinal}
use Rattle.scram_mech.specs.Grammar.{SpellsError}

-- a text of each kind, whatever it says
abbrev pub IsFirst : List ℕ → Type 0
IsFirst text = (first : First) × SpellsFirst first text

-- the same for the acceptor's first text
abbrev pub IsSecond : List ℕ → Type 0
IsSecond text = (second : Second) × SpellsSecond second text

-- the same for the initiator's final text
abbrev pub IsThird : List ℕ → Type 0
IsThird text = (third : Third) × SpellsThird third text

-- the same for the acceptor's final text, with a signature or with an error
abbrev pub IsFinal : List ℕ → Type 0
IsFinal text = ((signature : List ℕ) × SpellsFinal signature text) ⊎ SpellsError text

-- `at` is the end of the longest front of the text with which some text of the kind begins
pub record LongestOf (Is : List ℕ → Type 0) (text : List ℕ) (at : ℕ) : Type 0 where
  pub front : List ℕ
  pub back : List ℕ
  pub same : text ≡ front ++ back
  pub place : length front ≡ at
  -- some text begins so
  pub more : List ℕ
  pub reaches : Is (front ++ more)
  -- and none goes on with the octet that stands there, if one does
  pub ends : (octet : ℕ) (others : List ℕ) → back ≡ octet ∷ others → (rest : List ℕ)
      → Is (front ++ octet ∷ rest) → ⊥
