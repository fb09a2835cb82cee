-- Verifier files by their lines, apart from how they are read.
use Rattle.std.specs.Prelude.{◌≡◌, ◌≢◌, ℕ, true, List, [], ◌∷◌, ◌++◌}
use Rattle.scram_mech.specs.declared.verifiers.Verifier.{Verifier}
use Rattle.scram_mech.specs.Run.{IsLineName}
use Rattle.scram_mech.specs.Judging.{are_rounds}
use Rattle.scram_mech.specs.Grammar.{AreOctets}
use Rattle.scram_mech.specs.Verifiers.{line_text}

-- a line that a file may have: a name, rounds within the limits, a salt, and two keys of 20 octets
pub record IsLine (line : Verifier) : Type 0 where
  pub named : IsLineName line.name
  pub ranged : are_rounds line.rounds ≡ true
  pub salted : AreOctets 1 64 line.salt
  pub stored : AreOctets 20 20 line.stored
  pub server : AreOctets 20 20 line.server

-- each is a line that a file may have
abbrev pub AreLines : List Verifier → Type 0
AreLines [] = Unit {0}
AreLines (line ∷ lines) = IsLine line × AreLines lines

-- no line has this name
abbrev pub NotNamed : List ℕ → List Verifier → Type 0
NotNamed name [] = Unit {0}
NotNamed name (line ∷ lines) = (line.name ≢ name) × NotNamed name lines

-- the names are all different, and none is one of the lines before
abbrev pub NamedOnce : List Verifier → List Verifier → Type 0
NamedOnce before [] = Unit {0}
NamedOnce before (line ∷ lines) = NotNamed line.name before × NamedOnce (before ++ line ∷ []) lines

-- the lines `name:rounds:salt:stored:server` one behind the other, each ended by a line feed
abbrev pub lines_text : List Verifier → List ℕ
lines_text [] = []
lines_text (line ∷ lines) = line_text line ++ lines_text lines

-- the octets are these lines
pub record SpellsFile (lines : List Verifier) (octets : List ℕ) : Type 0 where
  pub each : AreLines lines
  pub single : NamedOnce [] lines
  pub same : octets ≡ lines_text lines
