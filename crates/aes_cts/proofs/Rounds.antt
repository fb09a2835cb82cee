-- The words of a schedule held in an array, and the rounds.
use Rattle.std.proofs.Common.{◌≡◌, ℕ, suc, ◌+◌, ◌-◌, ◌*◌, ◌<◌, ◌≤◌, refl, sym, ap, ◌∙◌, arith, List, get_or, add-one}
use Rattle.aes_cts.specs.State.{Column, State, column_of, add_state, sub_bytes, inverse_sub_bytes, shift_rows, inverse_shift_rows, mix_columns, inverse_mix_columns, inverse_mix_column}
use Rattle.aes_cts.specs.Words.{state_at}
use Rattle.aes_cts.specs.Schedule.{column_at, round_key}
use Rattle.aes_cts.specs.Cipher.{after_rounds, cipher_state, after_inverse_rounds, inverse_cipher_state}
use Rattle.aes_cts.proofs.Inversion.{inverse_mix_columns-add_state}

-- the first n words are those of a schedule
abbrev pub Holds : List ℕ → List Column → ℕ → Type 0
Holds words schedule n = (i : ℕ) → i < n → column_of (get_or words i 0) ≡ column_at schedule i

pub key_at : (words : List ℕ) (schedule : List Column) (n at r : ℕ) → Holds words schedule n → at ≡ 4 * r → at + 4 ≤ n → state_at words at ≡ round_key schedule r
unfolding state_at round_key
key_at words schedule n at r holds e fits =
    rw (e, holds (4 * r) (omega arith), holds (4 * r + 1) (omega arith), holds (4 * r + 2) (omega arith), holds (4 * r + 3) (omega arith)) refl

-- the key of a round of the inverse, mixed
pub mixed_key_at : (forward backward : List ℕ) (schedule : List Column) (n end at r : ℕ) → Holds forward schedule n
    → ((i : ℕ) → 4 ≤ i → i < end → column_of (get_or backward i 0) ≡ inverse_mix_column (column_of (get_or forward i 0)))
    → at ≡ 4 * r → 4 ≤ at → at + 4 ≤ end → end ≤ n → state_at backward at ≡ inverse_mix_columns (round_key schedule r)
unfolding state_at round_key inverse_mix_columns
mixed_key_at forward backward schedule n end at r holds mixed e low high within =
    let word : (i : ℕ) → 4 ≤ i → i < end → column_of (get_or backward i 0) ≡ inverse_mix_column (column_at schedule i) =
    λ i l h. mixed i l h ∙ ap inverse_mix_column (holds i (omega arith)) in
    rw (
      e,
      word (4 * r) (omega arith) (omega arith),
      word (4 * r + 1) (omega arith) (omega arith),
      word (4 * r + 2) (omega arith) (omega arith),
      word (4 * r + 3) (omega arith) (omega arith),
    ) refl

pub after_rounds-more : (schedule : List Column) (s old new key : State) (n : ℕ) → old ≡ after_rounds schedule s n → key ≡ round_key schedule (n + 1)
    → new ≡ add_state (mix_columns (shift_rows (sub_bytes old))) key → new ≡ after_rounds schedule s (n + 1)
unfolding after_rounds
after_rounds-more schedule s old new key n before k step =
    let k' : key ≡ round_key schedule (suc n) = rw add-one at k in
    rw add-one (rw (before, k') at step)

pub after_inverse_rounds-more : (schedule : List Column) (rounds : ℕ) (s old new key : State) (n : ℕ) → old ≡ after_inverse_rounds schedule rounds s n
    → key ≡ inverse_mix_columns (round_key schedule (rounds - (n + 1)))
    → new ≡ add_state (inverse_mix_columns (inverse_sub_bytes (inverse_shift_rows old))) key → new ≡ after_inverse_rounds schedule rounds s (n + 1)
unfolding after_inverse_rounds
after_inverse_rounds-more schedule rounds s old new key n before k step =
    let k' : key ≡ inverse_mix_columns (round_key schedule (rounds - suc n)) = rw add-one at k in
    rw add-one (rw (before, k') at step
    ∙ sym (inverse_mix_columns-add_state (inverse_sub_bytes (inverse_shift_rows (after_inverse_rounds schedule rounds s n))) (round_key schedule (rounds - suc n))))

pub cipher_state-last : (schedule : List Column) (s old new key : State) (rounds n : ℕ) → old ≡ after_rounds schedule s n → n ≡ rounds - 1
    → key ≡ round_key schedule rounds → new ≡ add_state (shift_rows (sub_bytes old)) key → new ≡ cipher_state schedule rounds s
unfolding cipher_state
cipher_state-last schedule s old new key rounds n before e k step = rw (before, k, e) at step

pub inverse_cipher_state-last : (schedule : List Column) (s old new key : State) (rounds n : ℕ) → old ≡ after_inverse_rounds schedule rounds s n → n ≡ rounds - 1
    → key ≡ round_key schedule 0 → new ≡ add_state (inverse_sub_bytes (inverse_shift_rows old)) key → new ≡ inverse_cipher_state schedule rounds s
unfolding inverse_cipher_state
inverse_cipher_state-last schedule s old new key rounds n before e k step = rw (before, k, e) at step
