-- The key expansion of FIPS 197, section 5.2, for keys of 16 and 32 octets.
use Rattle.std.specs.Prelude.{ℕ, zero, suc, ◌+◌, ◌-◌, ◌*◌, ◌/◌, ◌%◌, ◌==◌, nat_lt, List, [], ◌∷◌}
use Rattle.std.specs.Prelude.{◌++◌, length, slice_index_or, if◌then◌else◌}
use Rattle.aes_cts.specs.Field.{times_x}
use Rattle.aes_cts.specs.State.{Column, State, column_from, add_column, sub_column, rotate_column}

-- Nk, the number of words of a key, and Nr, the number of rounds (section 5)
abbrev pub words_of : List ℕ → ℕ
words_of key = length key / 4

-- Nr: 10 for a key of 16 octets, 14 for one of 32
abbrev pub rounds_of : List ℕ → ℕ
rounds_of key = words_of key + 6

-- x to the power i
unfoldable pub x_power : ℕ → ℕ
x_power zero = 1
x_power (suc i) = times_x (x_power i)

-- Rcon (section 5.2)
unfoldable pub round_constant : ℕ → Column
round_constant i = record { row0 = x_power (i - 1); row1 = 0; row2 = 0; row3 = 0 }

-- the first words of a list of octets
unfoldable pub first_columns : ℕ → List ℕ → List Column
first_columns zero octets = []
first_columns (suc n) octets = first_columns n octets ++ column_from octets (4 * n) ∷ []

-- a word among these
unfoldable pub column_at : List Column → ℕ → Column
column_at words i = slice_index_or words i (record { row0 = 0; row1 = 0; row2 = 0; row3 = 0 })

-- what is added to the word size places back to make word i, where `before` is the word before it
unfoldable pub turned : ℕ → ℕ → Column → Column
turned size i before =
    if i % size == 0 then add_column (sub_column (rotate_column before)) (round_constant (i / size))
    else if nat_lt 6 size then (if i % size == 4 then sub_column before else before)
    else before

-- word i, made of the words before it
unfoldable pub next_column : ℕ → List Column → ℕ → Column
next_column size words i =
    add_column (column_at words (i - size)) (turned size i (column_at words (i - 1)))

-- the key's words and that many further ones
unfoldable pub expanded : ℕ → List ℕ → ℕ → List Column
expanded size key zero = first_columns size key
expanded size key (suc n) =
    expanded size key n ++ next_column size (expanded size key n) (size + n) ∷ []

-- w, the words of the round keys of a key: four for each round and four before the first
unfoldable pub key_schedule : List ℕ → List Column
key_schedule key = expanded (words_of key) key (4 * (rounds_of key + 1) - words_of key)

-- the four words of a round
unfoldable pub round_key : List Column → ℕ → State
round_key words round = record {
  column0 = column_at words (4 * round);
  column1 = column_at words (4 * round + 1);
  column2 = column_at words (4 * round + 2);
  column3 = column_at words (4 * round + 3);
}
