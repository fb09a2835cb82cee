-- Texts as words and values one behind the other.
use Rattle.std.specs.Prelude.{ℕ, Bool, false, ◌==◌, ◌&&◌, List, [], ◌∷◌, slice_index_or, Result, Ok}
use Rattle.std.specs.Prelude.{Err, if◌then◌else◌}
use Rattle.scram_mech.specs.declared.refusal.Stuck.{Stuck}
use Rattle.scram_mech.specs.declared.refusal.ScramRefusal.{ScramRefusal}
use Rattle.scram_mech.specs.declared.refusal.ScramRefusal.TheVariants as refusals
use Rattle.scram_mech.specs.declared.state.State.{State}
use Rattle.scram_mech.specs.Reading.{◌>>=◌, in_text, word_at, end_at}
use Rattle.scram_mech.specs.Values.{value_at}

-- a piece of a format: a word that stands so, a value by what is due of it, or the end of the text
pub data Segment : Type 0 where
  Word : List ℕ → Segment
  Value : State → Segment
  End : Segment

-- the values at the front, and what is left behind them
unfoldable pub pieces : List Segment → List ℕ → Result (List (List ℕ) × List ℕ) Stuck
pieces [] octets = Ok ([], octets)
pieces (Word word ∷ format) octets = do
  word ← word_at word octets
  pieces format word.1
pieces (Value start ∷ format) octets = do
  value ← value_at start octets
  others ← pieces format value.1
  Ok (value.0 ∷ others.0, others.1)
pieces (End ∷ format) octets = do
  end ← end_at octets
  pieces format end.1

-- the values of a whole text
unfoldable pub pieces_of : List Segment → List ℕ → Result (List (List ℕ)) Stuck
pieces_of format text = do
  values ← pieces format text
  Ok values.0

-- a word, and the value behind it
unfoldable pub value_behind : List ℕ → State → List ℕ → Result (List ℕ × List ℕ) Stuck
value_behind word start octets = do
  word ← word_at word octets
  value_at start word.1

-- the same values and the same rest as `pieces` gives, where a word and the value behind it are one
-- step
unfoldable pub steps : List Segment → List ℕ → Result (List (List ℕ) × List ℕ) Stuck
steps [] octets = Ok ([], octets)
steps (Word word ∷ []) octets = do
  word ← word_at word octets
  steps [] word.1
steps (Word word ∷ Word next ∷ format) octets = do
  word ← word_at word octets
  steps (Word next ∷ format) word.1
steps (Word word ∷ Value start ∷ format) octets = do
  value ← value_behind word start octets
  others ← steps format value.1
  Ok (value.0 ∷ others.0, others.1)
steps (Word word ∷ End ∷ format) octets = do
  word ← word_at word octets
  steps (End ∷ format) word.1
steps (Value start ∷ format) octets = do
  value ← value_at start octets
  others ← steps format value.1
  Ok (value.0 ∷ others.0, others.1)
steps (End ∷ format) octets = do
  end ← end_at octets
  steps format end.1

-- the same values as `pieces_of` gives
unfoldable pub steps_of : List Segment → List ℕ → Result (List (List ℕ)) Stuck
steps_of format text = do
  values ← steps format text
  Ok values.0

-- the value at a place
abbrev pub piece : List (List ℕ) → ℕ → List ℕ
piece values at = slice_index_or values at []

-- the text begins `m=`, RFC 5802 section 5.1
abbrev pub is_mandatory : List ℕ → Bool
is_mandatory [] = false
is_mandatory (a ∷ []) = false
is_mandatory (a ∷ b ∷ octets) = (a == 109) && (b == 61)

-- the values of a text of an exchange: a mandatory extension is judged first
unfoldable pub values_of : List Segment → List ℕ → Result (List (List ℕ)) ScramRefusal
values_of format text =
    if is_mandatory text then Err refusals.Mandatory else in_text text (pieces_of format text)
