-- The cipher and its inverse, FIPS 197 sections 5.1 and 5.3, on blocks of 16 octets.
use Rattle.std.specs.Prelude.{ℕ, zero, suc, ◌-◌, ◌<◌, List, slice_index}
use Rattle.aes_cts.specs.State.{Column, State, state_from, state_octets, add_state, sub_bytes}
use Rattle.aes_cts.specs.State.{shift_rows, mix_columns, inverse_sub_bytes, inverse_shift_rows}
use Rattle.aes_cts.specs.State.{inverse_mix_columns}
use Rattle.aes_cts.specs.Schedule.{key_schedule, round_key, rounds_of}

-- each is below 256
abbrev pub IsOctets : List ℕ → Type 0
IsOctets octets = (i : ℕ) → slice_index octets i < 256

-- a round but the last, with its key
abbrev pub round : State → State → State
round key s = add_state (mix_columns (shift_rows (sub_bytes s))) key

-- the last round
abbrev pub last_round : State → State → State
last_round key s = add_state (shift_rows (sub_bytes s)) key

-- the state after the first key and that many rounds
unfoldable pub after_rounds : List Column → State → ℕ → State
after_rounds words s zero = add_state s (round_key words 0)
after_rounds words s (suc n) = round (round_key words (suc n)) (after_rounds words s n)

-- Cipher (section 5.1)
unfoldable pub cipher_state : List Column → ℕ → State → State
cipher_state words rounds s =
    last_round (round_key words rounds) (after_rounds words s (rounds - 1))

-- the cipher of a block of 16 octets under a key of 16 or 32
unfoldable pub cipher : List ℕ → List ℕ → List ℕ
cipher key block = state_octets (cipher_state (key_schedule key) (rounds_of key) (state_from block))

-- a round of the inverse, with its key
abbrev pub inverse_round : State → State → State
inverse_round key s = inverse_mix_columns (add_state (inverse_sub_bytes (inverse_shift_rows s)) key)

-- its last round
abbrev pub inverse_last_round : State → State → State
inverse_last_round key s = add_state (inverse_sub_bytes (inverse_shift_rows s)) key

-- the state after the last key and that many rounds of the inverse, whose keys come in the other
-- order
unfoldable pub after_inverse_rounds : List Column → ℕ → State → ℕ → State
after_inverse_rounds words rounds s zero = add_state s (round_key words rounds)
after_inverse_rounds words rounds s (suc n) =
    inverse_round (round_key words (rounds - suc n)) (after_inverse_rounds words rounds s n)

-- InvCipher (section 5.3)
unfoldable pub inverse_cipher_state : List Column → ℕ → State → State
inverse_cipher_state words rounds s =
    inverse_last_round (round_key words 0) (after_inverse_rounds words rounds s (rounds - 1))

-- the inverse of the cipher under this key, of a block of 16 octets
unfoldable pub inverse_cipher : List ℕ → List ℕ → List ℕ
inverse_cipher key block =
    state_octets (inverse_cipher_state (key_schedule key) (rounds_of key) (state_from block))
