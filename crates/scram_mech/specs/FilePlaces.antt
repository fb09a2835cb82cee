-- The line that a verifier file is refused at.
use Rattle.std.specs.Prelude.{◌≡◌, ℕ, ◌+◌, ◌≤◌, List, [], ◌∷◌, ◌++◌, length}
use Rattle.scram_mech.specs.declared.verifiers.Verifier.{Verifier}
use Rattle.scram_mech.specs.Verifiers.{line_text}
use Rattle.scram_mech.specs.VerifierFile.{IsLine, AreLines, NotNamed, NamedOnce, lines_text}

-- the file begins with good lines, and what is behind them begins with none; lines are counted from
-- 1
pub record BadLine (octets : List ℕ) (number : ℕ) : Type 0 where
  pub lines : List Verifier
  pub rest : List ℕ
  pub each : AreLines lines
  pub same : octets ≡ lines_text lines ++ rest
  pub some : 1 ≤ length rest
  pub bad : (line : Verifier) (back : List ℕ) → IsLine line → rest ≡ line_text line ++ back → ⊥
  pub place : length lines + 1 ≡ number

-- all lines are good, and this one is the first whose name stands in a line before it
pub record NamedTwice (octets : List ℕ) (number : ℕ) : Type 0 where
  pub before : List Verifier
  pub line : Verifier
  pub others : List Verifier
  pub each : AreLines (before ++ line ∷ others)
  pub same : octets ≡ lines_text (before ++ line ∷ others)
  pub single : NamedOnce [] before
  pub again : NotNamed line.name before → ⊥
  pub place : length before + 1 ≡ number
