-- The cipher on blocks, with a key and its schedule.
use Rattle.std.proofs.Common.{◌≡◌, ℕ, ◌+◌, ◌-◌, ◌*◌, ◌<◌, refl, arith, List, length, get_or}
use Rattle.std.proofs.lemmas.List.{length-take-le}
use Rattle.aes_cts.specs.State.{Column, State, state_from, state_octets}
use Rattle.aes_cts.specs.Schedule.{rounds_of, column_at, key_schedule, round_key}
use Rattle.aes_cts.specs.Cipher.{IsOctets, cipher_state, cipher, inverse_cipher_state, inverse_cipher}
use Rattle.aes_cts.specs.declared.key.AesKey.{AesKey}
use Rattle.aes_cts.specs.AesKey.{cipher_key}
use Rattle.aes_cts.proofs.Shapes.{IsColumn, column_of-IsColumn}
use Rattle.aes_cts.proofs.Rounds.{Holds}
use Rattle.aes_cts.proofs.Undoing.{AreKeys, inverse_cipher_state-cipher_state, cipher_state-inverse_cipher_state, state_octets-state_from, state_from-state_octets, length-state_octets, state_from-IsState}

pub cipher-is : (key block : List ℕ) (rounds : ℕ) (s result : State) → rounds_of key ≡ rounds → s ≡ state_from block
    → result ≡ cipher_state (key_schedule key) rounds s → state_octets result ≡ cipher key block
unfolding cipher
cipher-is key block rounds s result k e r = rw (r, e, ← k) refl

pub inverse_cipher-is : (key block : List ℕ) (rounds : ℕ) (s result : State) → rounds_of key ≡ rounds → s ≡ state_from block
    → result ≡ inverse_cipher_state (key_schedule key) rounds s → state_octets result ≡ inverse_cipher key block
unfolding inverse_cipher
inverse_cipher-is key block rounds s result k e r = rw (r, e, ← k) refl

pub length-cipher : (key block : List ℕ) → length (cipher key block) ≡ 16
unfolding cipher
length-cipher key block = length-state_octets (cipher_state (key_schedule key) (rounds_of key) (state_from block))

pub length-inverse_cipher : (key block : List ℕ) → length (inverse_cipher key block) ≡ 16
unfolding inverse_cipher
length-inverse_cipher key block = length-state_octets (inverse_cipher_state (key_schedule key) (rounds_of key) (state_from block))

pub length-cipher_key : (key : AesKey) → length (cipher_key key) ≡ 4 * (key.rounds - 6)
unfolding cipher_key
length-cipher_key key = length-take-le (4 * (key.rounds - 6)) key.octets (omega (arith, key.whole, key.low, key.high))

pub rounds_of-cipher_key : (key : AesKey) → rounds_of (cipher_key key) ≡ key.rounds
rounds_of-cipher_key key = omega (arith, length-cipher_key key, key.low, key.high)

-- words of 32 bits are octets
Holds-IsColumn : (words : List ℕ) (schedule : List Column) (n i : ℕ) → Holds words schedule n → i < n → IsColumn (column_at schedule i)
Holds-IsColumn words schedule n i holds h = rw (← holds i h) (column_of-IsColumn (get_or words i 0))

pub Holds-AreKeys : (words : List ℕ) (schedule : List Column) (rounds : ℕ) → Holds words schedule (4 * rounds + 4) → AreKeys schedule rounds
unfolding round_key
Holds-AreKeys words schedule rounds holds r le =
    let at : (i : ℕ) → i < 4 * rounds + 4 → IsColumn (column_at schedule i) = λ i h. Holds-IsColumn words schedule (4 * rounds + 4) i holds h in
    record {
      column0 = at (4 * r) (omega arith);
      column1 = at (4 * r + 1) (omega arith);
      column2 = at (4 * r + 2) (omega arith);
      column3 = at (4 * r + 3) (omega arith);
    }

pub cipher_key-AreKeys : (key : AesKey) → AreKeys (key_schedule (cipher_key key)) (rounds_of (cipher_key key))
unfolding cipher_key
cipher_key-AreKeys key =
    rw (rounds_of-cipher_key key) (Holds-AreKeys key.forward (key_schedule (cipher_key key)) key.rounds key.scheduled)

pub inverse_cipher-cipher : (key block : List ℕ) → AreKeys (key_schedule key) (rounds_of key) → IsOctets block → length block ≡ 16
    → inverse_cipher key (cipher key block) ≡ block
unfolding cipher inverse_cipher
inverse_cipher-cipher key block keys octets len =
    rw (
      state_from-state_octets (cipher_state (key_schedule key) (rounds_of key) (state_from block)),
      inverse_cipher_state-cipher_state (key_schedule key) (rounds_of key) (omega arith) keys (state_from block) (state_from-IsState block octets),
    )
    (state_octets-state_from block len)

pub cipher-inverse_cipher : (key block : List ℕ) → AreKeys (key_schedule key) (rounds_of key) → IsOctets block → length block ≡ 16
    → cipher key (inverse_cipher key block) ≡ block
unfolding cipher inverse_cipher
cipher-inverse_cipher key block keys octets len =
    rw (
      state_from-state_octets (inverse_cipher_state (key_schedule key) (rounds_of key) (state_from block)),
      cipher_state-inverse_cipher_state (key_schedule key) (rounds_of key) (omega arith) keys (state_from block) (state_from-IsState block octets),
    )
    (state_octets-state_from block len)
