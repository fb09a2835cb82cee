-- Keys of octets have schedules of octets, and derive keys of octets.
use Rattle.std.proofs.Common.{◌≡◌, ℕ, zero, suc, ◌+◌, ◌-◌, ◌*◌, ◌/◌, ◌%◌, ◌^◌, ◌<◌, ◌==◌, Bool, true, false, if◌then◌else◌, refl, arith, List, [], ◌∷◌, ◌++◌, length}
use Rattle.std.specs.Prelude.{nat_lt}
use Rattle.std.proofs.lemmas.Bool.{ltb-true}
use Rattle.std.proofs.lemmas.Nat.{mod_below}
use Rattle.aes_cts.specs.Field.{times_x}
use Rattle.aes_cts.specs.State.{Column, State, column_from, state_from, rotate_column, sub_column, sub_bytes, shift_rows}
use Rattle.aes_cts.specs.Schedule.{words_of, rounds_of, x_power, round_constant, first_columns, column_at, turned, next_column, expanded, key_schedule, round_key}
use Rattle.aes_cts.specs.Cipher.{IsOctets, after_rounds, cipher_state, cipher}
use Rattle.aes_cts.proofs.Entries.{all_below, below-each}
use Rattle.aes_cts.proofs.Shapes.{IsColumn, IsState, add_column-IsColumn, sub_column-IsColumn, add_state-IsState, sub_bytes-IsState, shift_rows-IsState}
use Rattle.aes_cts.proofs.Undoing.{AreKeys, after_rounds-IsState, state_from-IsState}
use Rattle.aes_cts.proofs.Restored.{state_octets-IsOctets, append-IsOctets}
use Rattle.krb_derive.specs.declared.derivation.Part.{Part}
use Rattle.krb_derive.specs.declared.key.Key.{Key}
use Rattle.krb_derive.specs.declared.key.Key.TheVariants.{Aes128, Aes256}
use Rattle.krb_derive.specs.Fold.{octets_of, n_fold, sum_of_pieces, greatest_common_divisor}
use Rattle.krb_derive.specs.Key.{key_octets}
use Rattle.krb_derive.specs.Derivation.{constant, derived}

-- ---- the schedule

-- each word of a list is one of octets, and so is the word behind the last
abbrev Small : List Column → Type 0
Small words = (i : ℕ) → IsColumn (column_at words i)

zero-column : IsColumn (record { row0 = 0; row1 = 0; row2 = 0; row3 = 0 })
zero-column = record { row0 = omega arith; row1 = omega arith; row2 = omega arith; row3 = omega arith }

none-small : Small []
unfolding column_at
none-small i = zero-column

push-small : (words : List Column) (word : Column) → Small words → IsColumn word → Small (words ++ word ∷ [])
unfolding column_at
push-small [] word small is zero = is
push-small [] word small is (suc i) = zero-column
push-small (first ∷ words) word small is zero = small zero
push-small (first ∷ words) word small is (suc i) = push-small words word (λ j. small (suc j)) is i

column-small : (octets : List ℕ) (at : ℕ) → IsOctets octets → IsColumn (column_from octets at)
unfolding column_from
column-small octets at small = record { row0 = small at; row1 = small (at + 1); row2 = small (at + 2); row3 = small (at + 3) }

first-small : (n : ℕ) (octets : List ℕ) → IsOctets octets → Small (first_columns n octets)
unfolding first_columns
first-small zero octets small = none-small
first-small (suc n) octets small = push-small (first_columns n octets) (column_from octets (4 * n)) (first-small n octets small) (column-small octets (4 * n) small)

doubled_test : ℕ → Bool
doubled_test a = nat_lt (times_x a) 256

doubled_checked : all_below doubled_test 256 ≡ true
unfolding all_below doubled_test times_x
doubled_checked = refl

times_x-lt : (a : ℕ) → a < 256 → times_x a < 256
unfolding doubled_test
times_x-lt a h = ltb-true (times_x a) 256 (below-each doubled_test 256 doubled_checked a h)

x_power-lt : (i : ℕ) → x_power i < 256
unfolding x_power
x_power-lt zero = omega arith
x_power-lt (suc i) = times_x-lt (x_power i) (x_power-lt i)

constant-small : (i : ℕ) → IsColumn (round_constant i)
unfolding round_constant
constant-small i = record { row0 = x_power-lt (i - 1); row1 = omega arith; row2 = omega arith; row3 = omega arith }

rotate-small : (word : Column) → IsColumn word → IsColumn (rotate_column word)
unfolding rotate_column
rotate-small word is = record { row0 = is.row1; row1 = is.row2; row2 = is.row3; row3 = is.row0 }

by-if : (b : Bool) (x y : Column) → IsColumn x → IsColumn y → IsColumn (if b then x else y)
by-if true x y p q = p
by-if false x y p q = q

turned-small : (size i : ℕ) (before : Column) → IsColumn before → IsColumn (turned size i before)
unfolding turned
turned-small size i before is =
    by-if (i % size == 0) _ _
    (add_column-IsColumn (sub_column (rotate_column before)) (round_constant (i / size)) (sub_column-IsColumn (rotate_column before) (rotate-small before is)) (constant-small (i / size)))
    (by-if (nat_lt 6 size) _ _ (by-if (i % size == 4) _ _ (sub_column-IsColumn before is) is) is)

next-small : (size : ℕ) (words : List Column) (i : ℕ) → Small words → IsColumn (next_column size words i)
unfolding next_column
next-small size words i small = add_column-IsColumn (column_at words (i - size)) (turned size i (column_at words (i - 1))) (small (i - size)) (turned-small size i (column_at words (i - 1)) (small (i - 1)))

expanded-small : (size : ℕ) (key : List ℕ) (n : ℕ) → IsOctets key → Small (expanded size key n)
unfolding expanded
expanded-small size key zero small = first-small size key small
expanded-small size key (suc n) small =
    let before = expanded-small size key n small in
    push-small (expanded size key n) (next_column size (expanded size key n) (size + n)) before (next-small size (expanded size key n) (size + n) before)

schedule-small : (key : List ℕ) → IsOctets key → Small (key_schedule key)
unfolding key_schedule
schedule-small key small = expanded-small (words_of key) key (4 * (rounds_of key + 1) - words_of key) small

small-keys : (words : List Column) (rounds : ℕ) → Small words → AreKeys words rounds
unfolding round_key
small-keys words rounds small r le = record { column0 = small (4 * r); column1 = small (4 * r + 1); column2 = small (4 * r + 2); column3 = small (4 * r + 3) }

-- the words of all rounds of a key of octets
pub schedule-keys : (key : List ℕ) (rounds : ℕ) → IsOctets key → AreKeys (key_schedule key) rounds
schedule-keys key rounds small = small-keys (key_schedule key) rounds (schedule-small key small)

-- ---- what is enciphered

state-small : (words : List Column) (rounds : ℕ) → 0 < rounds → AreKeys words rounds → (s : State) → IsState s → IsState (cipher_state words rounds s)
unfolding cipher_state
state-small words rounds some keys s is =
    let last : State = after_rounds words s (rounds - 1) in
    add_state-IsState (shift_rows (sub_bytes last)) (round_key words rounds)
    (shift_rows-IsState (sub_bytes last) (sub_bytes-IsState last (after_rounds-IsState words rounds some keys s is (rounds - 1) (omega (arith, some)))))
    (keys rounds (omega arith))

cipher-small : (key block : List ℕ) → IsOctets key → IsOctets block → IsOctets (cipher key block)
unfolding cipher
cipher-small key block small octets =
    state_octets-IsOctets (cipher_state (key_schedule key) (rounds_of key) (state_from block))
    (state-small (key_schedule key) (rounds_of key) (omega arith) (schedule-keys key (rounds_of key) small) (state_from block) (state_from-IsState block octets))

-- ---- derived keys

number-small : (count number : ℕ) → IsOctets (octets_of count number)
unfolding octets_of
number-small zero number i = omega arith
number-small (suc count) number zero = mod_below (number / 256 ^ count) 256 (omega arith)
number-small (suc count) number (suc i) = number-small count number i

fold-small : (count : ℕ) (octets : List ℕ) → IsOctets (n_fold count octets)
unfolding n_fold
fold-small count octets = number-small count (sum_of_pieces octets count (length octets / greatest_common_divisor (length octets) count))

pub derived-small : (key : Key) (usage : ℕ) (part : Part) → IsOctets (key_octets key) → IsOctets (key_octets (derived key usage part))
unfolding derived
derived-small (Aes128 key) usage part small = cipher-small key (n_fold 16 (constant usage part)) small (fold-small 16 (constant usage part))
derived-small (Aes256 key) usage part small =
    let first : List ℕ = cipher key (n_fold 16 (constant usage part)) in
    let is : IsOctets first = cipher-small key (n_fold 16 (constant usage part)) small (fold-small 16 (constant usage part)) in
    append-IsOctets first (cipher key first) is (cipher-small key first small is)
