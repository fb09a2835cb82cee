-- States whose entries are octets, and that the maps keep them so.
use Rattle.std.proofs.Common.{◌≡◌, ℕ, zero, suc, ◌/◌, ◌%◌, ◌<◌, ◌==◌, Bool, true, false, if◌then◌else◌, refl, arith}
use Rattle.std.specs.Prelude.{nat_lt}
use Rattle.std.specs.Int.Bits.{bit_xor}
use Rattle.std.proofs.lemmas.Nat.{xor_lt}
use Rattle.std.proofs.lemmas.Bool.{ltb-true}
use Rattle.aes_cts.specs.Field.{times_x, product, times}
use Rattle.aes_cts.specs.State.{Column, State, column_of, sum4, add_column, sub_column, inverse_sub_column, mix_column, inverse_mix_column, add_state, sub_bytes, inverse_sub_bytes, shift_rows, inverse_shift_rows, mix_columns, inverse_mix_columns}
use Rattle.aes_cts.proofs.Entries.{all_below, below-each, sbox-lt, inverse_sbox-lt}
use Rattle.aes_cts.proofs.Octets.{octet_of-lt}

pub record IsColumn (k : Column) : Type 0 where
  pub row0 : k.row0 < 256
  pub row1 : k.row1 < 256
  pub row2 : k.row2 < 256
  pub row3 : k.row3 < 256

pub record IsState (s : State) : Type 0 where
  pub column0 : IsColumn s.column0
  pub column1 : IsColumn s.column1
  pub column2 : IsColumn s.column2
  pub column3 : IsColumn s.column3

pub column_of-IsColumn : (word : ℕ) → IsColumn (column_of word)
unfolding column_of
column_of-IsColumn word = record { row0 = octet_of-lt word 24; row1 = octet_of-lt word 16; row2 = octet_of-lt word 8; row3 = octet_of-lt word 0 }

pub sum-lt : (a b : ℕ) → a < 256 → b < 256 → bit_xor a b < 256
sum-lt a b ha hb = xor_lt 8 a b ha hb

sum4-lt : (a b c d : ℕ) → a < 256 → b < 256 → c < 256 → d < 256 → sum4 a b c d < 256
sum4-lt a b c d ha hb hc hd = sum-lt (bit_xor (bit_xor a b) c) d (sum-lt (bit_xor a b) c (sum-lt a b ha hb) hc) hd

doubled_test : ℕ → Bool
doubled_test a = nat_lt (times_x a) 256

doubled_checked : all_below doubled_test 256 ≡ true
unfolding all_below doubled_test times_x
doubled_checked = refl

times_x-lt : (a : ℕ) → a < 256 → times_x a < 256
unfolding doubled_test
times_x-lt a h = ltb-true (times_x a) 256 (below-each doubled_test 256 doubled_checked a h)

chosen-lt : (t : Bool) (a : ℕ) → a < 256 → (if t then a else 0) < 256
chosen-lt true a h = h
chosen-lt false a h = omega arith

product-lt : (bits a c : ℕ) → a < 256 → product bits a c < 256
unfolding product
product-lt zero a c h = omega arith
product-lt (suc bits) a c h =
    sum-lt (if c % 2 == 1 then a else 0) (product bits (times_x a) (c / 2)) (chosen-lt (c % 2 == 1) a h) (product-lt bits (times_x a) (c / 2) (times_x-lt a h))

pub times-lt : (k a : ℕ) → a < 256 → times k a < 256
unfolding times
times-lt k a h = product-lt 8 a k h

-- ---- columns

pub add_column-IsColumn : (a b : Column) → IsColumn a → IsColumn b → IsColumn (add_column a b)
unfolding add_column
add_column-IsColumn a b ha hb = record {
  row0 = sum-lt a.row0 b.row0 ha.row0 hb.row0;
  row1 = sum-lt a.row1 b.row1 ha.row1 hb.row1;
  row2 = sum-lt a.row2 b.row2 ha.row2 hb.row2;
  row3 = sum-lt a.row3 b.row3 ha.row3 hb.row3;
}

pub sub_column-IsColumn : (a : Column) → IsColumn a → IsColumn (sub_column a)
unfolding sub_column
sub_column-IsColumn a h = record { row0 = sbox-lt a.row0 h.row0; row1 = sbox-lt a.row1 h.row1; row2 = sbox-lt a.row2 h.row2; row3 = sbox-lt a.row3 h.row3 }

pub inverse_sub_column-IsColumn : (a : Column) → IsColumn a → IsColumn (inverse_sub_column a)
unfolding inverse_sub_column
inverse_sub_column-IsColumn a h = record {
  row0 = inverse_sbox-lt a.row0 h.row0;
  row1 = inverse_sbox-lt a.row1 h.row1;
  row2 = inverse_sbox-lt a.row2 h.row2;
  row3 = inverse_sbox-lt a.row3 h.row3;
}

pub mix_column-IsColumn : (a : Column) → IsColumn a → IsColumn (mix_column a)
unfolding mix_column
mix_column-IsColumn a h = record {
  row0 = sum4-lt (times 2 a.row0) (times 3 a.row1) a.row2 a.row3 (times-lt 2 a.row0 h.row0) (times-lt 3 a.row1 h.row1) h.row2 h.row3;
  row1 = sum4-lt a.row0 (times 2 a.row1) (times 3 a.row2) a.row3 h.row0 (times-lt 2 a.row1 h.row1) (times-lt 3 a.row2 h.row2) h.row3;
  row2 = sum4-lt a.row0 a.row1 (times 2 a.row2) (times 3 a.row3) h.row0 h.row1 (times-lt 2 a.row2 h.row2) (times-lt 3 a.row3 h.row3);
  row3 = sum4-lt (times 3 a.row0) a.row1 a.row2 (times 2 a.row3) (times-lt 3 a.row0 h.row0) h.row1 h.row2 (times-lt 2 a.row3 h.row3);
}

pub inverse_mix_column-IsColumn : (a : Column) → IsColumn a → IsColumn (inverse_mix_column a)
unfolding inverse_mix_column
inverse_mix_column-IsColumn a h = record {
  row0 = sum4-lt (times 14 a.row0) (times 11 a.row1) (times 13 a.row2) (times 9 a.row3) (times-lt 14 a.row0 h.row0) (times-lt 11 a.row1 h.row1) (times-lt 13 a.row2 h.row2) (times-lt 9 a.row3 h.row3);
  row1 = sum4-lt (times 9 a.row0) (times 14 a.row1) (times 11 a.row2) (times 13 a.row3) (times-lt 9 a.row0 h.row0) (times-lt 14 a.row1 h.row1) (times-lt 11 a.row2 h.row2) (times-lt 13 a.row3 h.row3);
  row2 = sum4-lt (times 13 a.row0) (times 9 a.row1) (times 14 a.row2) (times 11 a.row3) (times-lt 13 a.row0 h.row0) (times-lt 9 a.row1 h.row1) (times-lt 14 a.row2 h.row2) (times-lt 11 a.row3 h.row3);
  row3 = sum4-lt (times 11 a.row0) (times 13 a.row1) (times 9 a.row2) (times 14 a.row3) (times-lt 11 a.row0 h.row0) (times-lt 13 a.row1 h.row1) (times-lt 9 a.row2 h.row2) (times-lt 14 a.row3 h.row3);
}

-- ---- states

pub add_state-IsState : (s k : State) → IsState s → IsState k → IsState (add_state s k)
unfolding add_state
add_state-IsState s k hs hk = record {
  column0 = add_column-IsColumn s.column0 k.column0 hs.column0 hk.column0;
  column1 = add_column-IsColumn s.column1 k.column1 hs.column1 hk.column1;
  column2 = add_column-IsColumn s.column2 k.column2 hs.column2 hk.column2;
  column3 = add_column-IsColumn s.column3 k.column3 hs.column3 hk.column3;
}

each-IsState : (f : Column → Column) → ((k : Column) → IsColumn k → IsColumn (f k)) → (s : State) → IsState s
    → IsState (record { column0 = f s.column0; column1 = f s.column1; column2 = f s.column2; column3 = f s.column3 })
each-IsState f keeps s h = record {
  column0 = keeps s.column0 h.column0;
  column1 = keeps s.column1 h.column1;
  column2 = keeps s.column2 h.column2;
  column3 = keeps s.column3 h.column3;
}

pub sub_bytes-IsState : (s : State) → IsState s → IsState (sub_bytes s)
unfolding sub_bytes
sub_bytes-IsState s h = each-IsState sub_column sub_column-IsColumn s h

pub inverse_sub_bytes-IsState : (s : State) → IsState s → IsState (inverse_sub_bytes s)
unfolding inverse_sub_bytes
inverse_sub_bytes-IsState s h = each-IsState inverse_sub_column inverse_sub_column-IsColumn s h

pub mix_columns-IsState : (s : State) → IsState s → IsState (mix_columns s)
unfolding mix_columns
mix_columns-IsState s h = each-IsState mix_column mix_column-IsColumn s h

pub inverse_mix_columns-IsState : (s : State) → IsState s → IsState (inverse_mix_columns s)
unfolding inverse_mix_columns
inverse_mix_columns-IsState s h = each-IsState inverse_mix_column inverse_mix_column-IsColumn s h

across-IsColumn : (a b c d : Column) → IsColumn a → IsColumn b → IsColumn c → IsColumn d → IsColumn (record { row0 = a.row0; row1 = b.row1; row2 = c.row2; row3 = d.row3 })
across-IsColumn a b c d ha hb hc hd = record { row0 = ha.row0; row1 = hb.row1; row2 = hc.row2; row3 = hd.row3 }

pub shift_rows-IsState : (s : State) → IsState s → IsState (shift_rows s)
unfolding shift_rows
shift_rows-IsState s h = record {
  column0 = across-IsColumn s.column0 s.column1 s.column2 s.column3 h.column0 h.column1 h.column2 h.column3;
  column1 = across-IsColumn s.column1 s.column2 s.column3 s.column0 h.column1 h.column2 h.column3 h.column0;
  column2 = across-IsColumn s.column2 s.column3 s.column0 s.column1 h.column2 h.column3 h.column0 h.column1;
  column3 = across-IsColumn s.column3 s.column0 s.column1 s.column2 h.column3 h.column0 h.column1 h.column2;
}

pub inverse_shift_rows-IsState : (s : State) → IsState s → IsState (inverse_shift_rows s)
unfolding inverse_shift_rows
inverse_shift_rows-IsState s h = record {
  column0 = across-IsColumn s.column0 s.column3 s.column2 s.column1 h.column0 h.column3 h.column2 h.column1;
  column1 = across-IsColumn s.column1 s.column0 s.column3 s.column2 h.column1 h.column0 h.column3 h.column2;
  column2 = across-IsColumn s.column2 s.column1 s.column0 s.column3 h.column2 h.column1 h.column0 h.column3;
  column3 = across-IsColumn s.column3 s.column2 s.column1 s.column0 h.column3 h.column2 h.column1 h.column0;
}
