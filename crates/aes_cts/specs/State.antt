-- The state of FIPS 197, section 3.4, four columns of four octets, and the maps on it, sections 5.1
-- and 5.3.
use Rattle.std.specs.Prelude.{ℕ, ◌+◌, ◌/◌, ◌%◌, ◌^◌, List, [], ◌∷◌, slice_index, bit_xor}
use Rattle.aes_cts.specs.Field.{times, sbox, inverse_sbox}

-- a column: four octets, from row 0 to row 3. A word of the key schedule is one too.
pub record Column : Type 0 where
  pub row0 : ℕ
  pub row1 : ℕ
  pub row2 : ℕ
  pub row3 : ℕ

-- a state: four columns, the first of them column 0
pub record State : Type 0 where
  pub column0 : Column
  pub column1 : Column
  pub column2 : Column
  pub column3 : Column

-- ---- octets and words as columns

-- the octet of a word of 32 bits that begins at that bit
abbrev pub octet_of : ℕ → ℕ → ℕ
octet_of word shift = word / 2 ^ shift % 2 ^ 8

-- the octets of a word, the most significant in row 0
unfoldable pub column_of : ℕ → Column
column_of word = record {
  row0 = octet_of word 24;
  row1 = octet_of word 16;
  row2 =
      octet_of word 8;
  row3 = octet_of word 0;
}

-- four octets of a list from that place on
unfoldable pub column_from : List ℕ → ℕ → Column
column_from octets at = record {
  row0 = slice_index octets at;
  row1 = slice_index octets (at + 1);
  row2 = slice_index octets (at + 2);
  row3 = slice_index octets (at + 3);
}

-- the state of 16 octets: they fill the columns one by one (section 3.4)
unfoldable pub state_from : List ℕ → State
state_from octets = record {
  column0 = column_from octets 0;
  column1 = column_from octets 4;
  column2 = column_from octets 8;
  column3 = column_from octets 12;
}

-- the 16 octets of a state
unfoldable pub state_octets : State → List ℕ
state_octets s =
    s.column0.row0 ∷ s.column0.row1 ∷ s.column0.row2 ∷ s.column0.row3
    ∷ s.column1.row0 ∷ s.column1.row1 ∷ s.column1.row2 ∷ s.column1.row3
    ∷ s.column2.row0 ∷ s.column2.row1 ∷ s.column2.row2 ∷ s.column2.row3
    ∷ s.column3.row0 ∷ s.column3.row1 ∷ s.column3.row2 ∷ s.column3.row3 ∷ []

-- ---- maps on a column

-- the sum of two columns, row by row
unfoldable pub add_column : Column → Column → Column
add_column a b = record {
  row0 = bit_xor a.row0 b.row0;
  row1 = bit_xor a.row1 b.row1;
  row2 = bit_xor a.row2 b.row2;
  row3 = bit_xor a.row3 b.row3;
}

-- SubWord (section 5.2)
unfoldable pub sub_column : Column → Column
sub_column a =
    record { row0 = sbox a.row0; row1 = sbox a.row1; row2 = sbox a.row2; row3 = sbox a.row3 }

-- InvSubBytes on one column (section 5.3.2)
unfoldable pub inverse_sub_column : Column → Column
inverse_sub_column a = record {
  row0 = inverse_sbox a.row0;
  row1 = inverse_sbox a.row1;
  row2 = inverse_sbox a.row2;
  row3 = inverse_sbox a.row3;
}

-- RotWord (section 5.2)
unfoldable pub rotate_column : Column → Column
rotate_column a = record { row0 = a.row1; row1 = a.row2; row2 = a.row3; row3 = a.row0 }

-- the sum of four octets
abbrev pub sum4 : ℕ → ℕ → ℕ → ℕ → ℕ
sum4 a b c d = bit_xor (bit_xor (bit_xor a b) c) d

-- a column of MixColumns (section 5.1.3)
unfoldable pub mix_column : Column → Column
mix_column a = record {
  row0 = sum4 (times 2 a.row0) (times 3 a.row1) a.row2 a.row3;
  row1 = sum4 a.row0 (times 2 a.row1) (times 3 a.row2) a.row3;
  row2 = sum4 a.row0 a.row1 (times 2 a.row2) (times 3 a.row3);
  row3 = sum4 (times 3 a.row0) a.row1 a.row2 (times 2 a.row3);
}

-- a column of InvMixColumns (section 5.3.3)
unfoldable pub inverse_mix_column : Column → Column
inverse_mix_column a = record {
  row0 = sum4 (times 14 a.row0) (times 11 a.row1) (times 13 a.row2) (times 9 a.row3);
  row1 = sum4 (times 9 a.row0) (times 14 a.row1) (times 11 a.row2) (times 13 a.row3);
  row2 = sum4 (times 13 a.row0) (times 9 a.row1) (times 14 a.row2) (times 11 a.row3);
  row3 = sum4 (times 11 a.row0) (times 13 a.row1) (times 9 a.row2) (times 14 a.row3);
}

-- ---- maps on the state

-- a map on columns, at each column
abbrev pub each_column : (Column → Column) → State → State
each_column f s = record {
  column0 = f s.column0;
  column1 = f s.column1;
  column2 =
      f s.column2;
  column3 = f s.column3;
}

-- SubBytes, InvSubBytes (sections 5.1.1 and 5.3.2), MixColumns, InvMixColumns (sections 5.1.3 and
-- 5.3.3)
unfoldable pub sub_bytes : State → State
sub_bytes = each_column sub_column

-- InvSubBytes (section 5.3.2)
unfoldable pub inverse_sub_bytes : State → State
inverse_sub_bytes = each_column inverse_sub_column

-- MixColumns (section 5.1.3)
unfoldable pub mix_columns : State → State
mix_columns = each_column mix_column

-- InvMixColumns (section 5.3.3)
unfoldable pub inverse_mix_columns : State → State
inverse_mix_columns = each_column inverse_mix_column

-- AddRoundKey (section 5.1.4)
unfoldable pub add_state : State → State → State
add_state s k = record {
  column0 = add_column s.column0 k.column0;
  column1 = add_column s.column1 k.column1;
  column2 = add_column s.column2 k.column2;
  column3 = add_column s.column3 k.column3;
}

-- a column whose rows stand in these four columns
abbrev pub across : Column → Column → Column → Column → Column
across a b c d = record { row0 = a.row0; row1 = b.row1; row2 = c.row2; row3 = d.row3 }

-- ShiftRows (section 5.1.2): row r moves r columns to the left
unfoldable pub shift_rows : State → State
shift_rows s = record {
  column0 = across s.column0 s.column1 s.column2 s.column3;
  column1 = across s.column1 s.column2 s.column3 s.column0;
  column2 = across s.column2 s.column3 s.column0 s.column1;
  column3 = across s.column3 s.column0 s.column1 s.column2;
}

-- InvShiftRows (section 5.3.1): row r moves r columns to the right
unfoldable pub inverse_shift_rows : State → State
inverse_shift_rows s = record {
  column0 = across s.column0 s.column3 s.column2 s.column1;
  column1 = across s.column1 s.column0 s.column3 s.column2;
  column2 = across s.column2 s.column1 s.column0 s.column3;
  column3 = across s.column3 s.column2 s.column1 s.column0;
}
