-- Each map of a round undoes its inverse, the cipher undoes the inverse cipher and the other way round.
use Rattle.std.proofs.Common.{◌≡◌, ℕ, refl, sym}
use Rattle.std.specs.Int.Bits.{bit_xor}
use Rattle.aes_cts.specs.Field.{times}
use Rattle.aes_cts.specs.State.{Column, State, sum4, add_column, sub_column, inverse_sub_column, inverse_mix_column, add_state, sub_bytes, inverse_sub_bytes, shift_rows, inverse_shift_rows, mix_columns, inverse_mix_columns}
use Rattle.aes_cts.proofs.Sums.{cancel, times-xor, sum4-xor}
use Rattle.aes_cts.proofs.Entries.{inverse_sbox-sbox, sbox-inverse_sbox}
use Rattle.aes_cts.proofs.Shapes.{IsColumn, IsState}
use Rattle.aes_cts.proofs.Coefficients.{inverse_mix_column-mix_column, mix_column-inverse_mix_column}

pub add_column-cancel : (a b : Column) → add_column (add_column a b) b ≡ a
unfolding add_column
add_column-cancel a b = rw (cancel a.row0 b.row0, cancel a.row1 b.row1, cancel a.row2 b.row2, cancel a.row3 b.row3) refl

pub inverse_sub_column-sub_column : (a : Column) → IsColumn a → inverse_sub_column (sub_column a) ≡ a
unfolding sub_column inverse_sub_column
inverse_sub_column-sub_column a h =
    rw (inverse_sbox-sbox a.row0 h.row0, inverse_sbox-sbox a.row1 h.row1, inverse_sbox-sbox a.row2 h.row2, inverse_sbox-sbox a.row3 h.row3) refl

pub sub_column-inverse_sub_column : (a : Column) → IsColumn a → sub_column (inverse_sub_column a) ≡ a
unfolding sub_column inverse_sub_column
sub_column-inverse_sub_column a h =
    rw (sbox-inverse_sbox a.row0 h.row0, sbox-inverse_sbox a.row1 h.row1, sbox-inverse_sbox a.row2 h.row2, sbox-inverse_sbox a.row3 h.row3) refl

times_four : (w x y z a b c d e f g h : ℕ) → sum4 (times w (bit_xor a e)) (times x (bit_xor b f)) (times y (bit_xor c g)) (times z (bit_xor d h))
    ≡ bit_xor (sum4 (times w a) (times x b) (times y c) (times z d)) (sum4 (times w e) (times x f) (times y g) (times z h))
times_four w x y z a b c d e f g h =
    rw (times-xor w a e, times-xor x b f, times-xor y c g, times-xor z d h)
    (sym (sum4-xor (times w a) (times x b) (times y c) (times z d) (times w e) (times x f) (times y g) (times z h)))

pub inverse_mix_column-add_column : (a b : Column) → inverse_mix_column (add_column a b) ≡ add_column (inverse_mix_column a) (inverse_mix_column b)
unfolding inverse_mix_column add_column
inverse_mix_column-add_column a b =
    rw (
      times_four 14 11 13 9 a.row0 a.row1 a.row2 a.row3 b.row0 b.row1 b.row2 b.row3,
      times_four 9 14 11 13 a.row0 a.row1 a.row2 a.row3 b.row0 b.row1 b.row2 b.row3,
      times_four 13 9 14 11 a.row0 a.row1 a.row2 a.row3 b.row0 b.row1 b.row2 b.row3,
      times_four 11 13 9 14 a.row0 a.row1 a.row2 a.row3 b.row0 b.row1 b.row2 b.row3,
    ) refl

-- ---- states

pub add_state-cancel : (s k : State) → add_state (add_state s k) k ≡ s
unfolding add_state
add_state-cancel s k =
    rw (add_column-cancel s.column0 k.column0, add_column-cancel s.column1 k.column1, add_column-cancel s.column2 k.column2, add_column-cancel s.column3 k.column3) refl

pub inverse_sub_bytes-sub_bytes : (s : State) → IsState s → inverse_sub_bytes (sub_bytes s) ≡ s
unfolding sub_bytes inverse_sub_bytes
inverse_sub_bytes-sub_bytes s h =
    rw (
      inverse_sub_column-sub_column s.column0 h.column0,
      inverse_sub_column-sub_column s.column1 h.column1,
      inverse_sub_column-sub_column s.column2 h.column2,
      inverse_sub_column-sub_column s.column3 h.column3,
    ) refl

pub sub_bytes-inverse_sub_bytes : (s : State) → IsState s → sub_bytes (inverse_sub_bytes s) ≡ s
unfolding sub_bytes inverse_sub_bytes
sub_bytes-inverse_sub_bytes s h =
    rw (
      sub_column-inverse_sub_column s.column0 h.column0,
      sub_column-inverse_sub_column s.column1 h.column1,
      sub_column-inverse_sub_column s.column2 h.column2,
      sub_column-inverse_sub_column s.column3 h.column3,
    ) refl

pub inverse_mix_columns-mix_columns : (s : State) → IsState s → inverse_mix_columns (mix_columns s) ≡ s
unfolding mix_columns inverse_mix_columns
inverse_mix_columns-mix_columns s h =
    rw (
      inverse_mix_column-mix_column s.column0 h.column0,
      inverse_mix_column-mix_column s.column1 h.column1,
      inverse_mix_column-mix_column s.column2 h.column2,
      inverse_mix_column-mix_column s.column3 h.column3,
    ) refl

pub mix_columns-inverse_mix_columns : (s : State) → IsState s → mix_columns (inverse_mix_columns s) ≡ s
unfolding mix_columns inverse_mix_columns
mix_columns-inverse_mix_columns s h =
    rw (
      mix_column-inverse_mix_column s.column0 h.column0,
      mix_column-inverse_mix_column s.column1 h.column1,
      mix_column-inverse_mix_column s.column2 h.column2,
      mix_column-inverse_mix_column s.column3 h.column3,
    ) refl

pub inverse_mix_columns-add_state : (s k : State) → inverse_mix_columns (add_state s k) ≡ add_state (inverse_mix_columns s) (inverse_mix_columns k)
unfolding inverse_mix_columns add_state
inverse_mix_columns-add_state s k =
    rw (
      inverse_mix_column-add_column s.column0 k.column0,
      inverse_mix_column-add_column s.column1 k.column1,
      inverse_mix_column-add_column s.column2 k.column2,
      inverse_mix_column-add_column s.column3 k.column3,
    ) refl

pub inverse_shift_rows-shift_rows : (s : State) → inverse_shift_rows (shift_rows s) ≡ s
unfolding shift_rows inverse_shift_rows
inverse_shift_rows-shift_rows s = refl

pub shift_rows-inverse_shift_rows : (s : State) → shift_rows (inverse_shift_rows s) ≡ s
unfolding shift_rows inverse_shift_rows
shift_rows-inverse_shift_rows s = refl
