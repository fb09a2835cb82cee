-- The words of a key schedule, made one after the other.
use Rattle.std.proofs.Common.{◌≡◌, ◌≢◌, ℕ, zero, suc, ◌+◌, ◌-◌, ◌*◌, ◌<◌, ◌≤◌, refl, sym, ◌∙◌, arith, List, [], ◌∷◌, ◌++◌, length, get_or, take, inl, inr}
use Rattle.std.specs.Int.Bits.{bit_xor}
use Rattle.std.proofs.lemmas.Bool.{cases_lt}
use Rattle.std.proofs.lemmas.List.{get_or-take, get_or-set_same, get_or-set_other, length-append, get_or_push, get_or_append_left}
use Rattle.std.proofs.Math.ListN.{set}
use Rattle.aes_cts.specs.State.{Column, column_of, column_from}
use Rattle.aes_cts.specs.Schedule.{words_of, rounds_of, first_columns, column_at, turned, next_column, expanded, key_schedule}
use Rattle.aes_cts.proofs.Octets.{column_of-xor}
use Rattle.aes_cts.proofs.Rounds.{Holds}

nothing : Column
nothing = record { row0 = 0; row1 = 0; row2 = 0; row3 = 0 }

push_last : (words : List Column) (x : Column) (i : ℕ) → length words ≡ i → column_at (words ++ x ∷ []) i ≡ x
unfolding column_at
push_last words x i e = get_or_push words x (record { row0 = 0; row1 = 0; row2 = 0; row3 = 0 }) i e

push_before : (words : List Column) (x : Column) (i : ℕ) → i < length words → column_at (words ++ x ∷ []) i ≡ column_at words i
unfolding column_at
push_before words x i h = get_or_append_left words (x ∷ []) (record { row0 = 0; row1 = 0; row2 = 0; row3 = 0 }) i h

pub length-first_columns : (n : ℕ) (octets : List ℕ) → length (first_columns n octets) ≡ n
unfolding first_columns
length-first_columns zero octets = refl
length-first_columns (suc n) octets =
    omega (arith, length-append (first_columns n octets) (column_from octets (4 * n) ∷ []), length-first_columns n octets)

pub first_columns-at : (n : ℕ) (octets : List ℕ) (i : ℕ) → i < n → column_at (first_columns n octets) i ≡ column_from octets (4 * i)
unfolding first_columns
first_columns-at zero octets i h = absurd (omega arith)
first_columns-at (suc n) octets i h = elim (cases_lt i n) [
  | inl a ↦
      push_before (first_columns n octets) (column_from octets (4 * n)) i (omega (arith, length-first_columns n octets))
      ∙ first_columns-at n octets i a
  | inr b ↦
      let e : i ≡ n = omega arith in
      rw e (push_last (first_columns n octets) (column_from octets (4 * n)) n (length-first_columns n octets))
]

pub length-expanded : (size : ℕ) (key : List ℕ) (n : ℕ) → length (expanded size key n) ≡ size + n
unfolding expanded
length-expanded size key zero = length-first_columns size key ∙ omega arith
length-expanded size key (suc n) =
    omega (arith, length-append (expanded size key n) (next_column size (expanded size key n) (size + n) ∷ []), length-expanded size key n)

-- the octets that are read stand in the front of the list
pub column_from-take : (octets : List ℕ) (n at : ℕ) → at + 4 ≤ n → column_from (take n octets) at ≡ column_from octets at
unfolding column_from
column_from-take octets n at h =
    rw (
      get_or-take n octets at 0 (omega arith),
      get_or-take n octets (at + 1) 0 (omega arith),
      get_or-take n octets (at + 2) 0 (omega arith),
      get_or-take n octets (at + 3) 0 (omega arith),
    ) refl

-- the key's own words
pub Holds-own : (words key : List ℕ) (size n : ℕ) → n ≤ size → ((i : ℕ) → i < n → column_of (get_or words i 0) ≡ column_from key (4 * i))
    → Holds words (first_columns size (take (4 * size) key)) n
Holds-own words key size n within own i h =
    own i h ∙ sym (first_columns-at size (take (4 * size) key) i (omega arith) ∙ column_from-take key (4 * size) (4 * i) (omega arith))

-- one word more
pub Holds-more : (words key : List ℕ) (size i t : ℕ) → Holds words (expanded size key (i - size)) i → 0 < size → size ≤ i → i < length words
    → column_of t ≡ turned size i (column_of (get_or words (i - 1) 0))
    → Holds (set words i (bit_xor (get_or words (i - size) 0) t)) (expanded size key (i + 1 - size)) (i + 1)
unfolding expanded next_column
Holds-more words key size i t holds some own within turn k h =
    let n : ℕ = i - size in
    let at : size + n ≡ i = omega arith in
    let more : i + 1 - size ≡ suc n = omega arith in
    let before : List Column = expanded size key n in
    let long : length before ≡ i = length-expanded size key n ∙ at in
    let made : column_of (bit_xor (get_or words (i - size) 0) t) ≡ next_column size before i =
    column_of-xor (get_or words (i - size) 0) t ∙ rw (turn, holds (i - size) (omega arith), holds (i - 1) (omega arith)) refl in
    elim (cases_lt k i) [
      | inl a ↦
          let ne : k ≢ i = omega arith in
          rw (more, at, get_or-set_other words i k (bit_xor (get_or words (i - size) 0) t) 0 ne)
          (holds k a ∙ sym (push_before before (next_column size before i) k (omega arith)))
      | inr b ↦
          let e : k ≡ i = omega arith in
          rw (more, at, e, get_or-set_same words i (bit_xor (get_or words (i - size) 0) t) 0 within)
          (made ∙ sym (push_last before (next_column size before i) i long))
    ]

-- all words of a key of that many words
pub key_schedule-is : (key : List ℕ) (size : ℕ) → length key ≡ 4 * size → key_schedule key ≡ expanded size key (3 * size + 28)
unfolding key_schedule
key_schedule-is key size e =
    let s : words_of key ≡ size = omega arith in
    let n : 4 * (rounds_of key + 1) - words_of key ≡ 3 * size + 28 = omega arith in
    rw n (rw s refl)
