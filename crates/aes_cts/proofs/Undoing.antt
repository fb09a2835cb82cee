-- The inverse cipher undoes the cipher, and the other way round.
use Rattle.std.proofs.Common.{◌≡◌, ℕ, zero, suc, ◌+◌, ◌-◌, ◌<◌, ◌≤◌, refl, sym, ap, ◌∙◌, arith, List, [], ◌∷◌, length, get_or, drop}
use Rattle.std.proofs.lemmas.List.{drop_more, drop_all}
use Rattle.aes_cts.specs.State.{Column, State, column_from, state_from, state_octets, add_state, sub_bytes, inverse_sub_bytes, shift_rows, inverse_shift_rows, mix_columns, inverse_mix_columns}
use Rattle.aes_cts.specs.Schedule.{round_key}
use Rattle.aes_cts.specs.Cipher.{IsOctets, after_rounds, cipher_state, after_inverse_rounds, inverse_cipher_state}
use Rattle.aes_cts.proofs.Shapes.{IsState, add_state-IsState, sub_bytes-IsState, inverse_sub_bytes-IsState, shift_rows-IsState, inverse_shift_rows-IsState, mix_columns-IsState, inverse_mix_columns-IsState}
use Rattle.aes_cts.proofs.Inversion.{add_state-cancel, inverse_sub_bytes-sub_bytes, sub_bytes-inverse_sub_bytes, inverse_mix_columns-mix_columns, mix_columns-inverse_mix_columns, inverse_shift_rows-shift_rows, shift_rows-inverse_shift_rows}

-- ---- blocks

tabulated : List ℕ → ℕ → ℕ → List ℕ
tabulated xs at zero = []
tabulated xs at (suc n) = get_or xs at 0 ∷ tabulated xs (at + 1) n

tabulated-drop : (xs : List ℕ) (n at : ℕ) → length xs ≡ at + n → tabulated xs at n ≡ drop at xs
unfolding tabulated
tabulated-drop xs zero at e = sym (drop_all at xs (omega arith))
tabulated-drop xs (suc n) at e =
    ap (λ (rest : List ℕ). get_or xs at 0 ∷ rest) (tabulated-drop xs n (at + 1) (omega arith)) ∙ sym (drop_more xs at 0 (omega arith))

-- 16 octets are those of their state
pub state_octets-state_from : (xs : List ℕ) → length xs ≡ 16 → state_octets (state_from xs) ≡ xs
unfolding state_octets state_from column_from tabulated
state_octets-state_from xs e = tabulated-drop xs 16 0 (omega arith)

pub state_from-state_octets : (s : State) → state_from (state_octets s) ≡ s
unfolding state_octets state_from column_from
state_from-state_octets s = refl

pub length-state_octets : (s : State) → length (state_octets s) ≡ 16
unfolding state_octets
length-state_octets s = refl

pub state_from-IsState : (xs : List ℕ) → IsOctets xs → IsState (state_from xs)
unfolding state_from column_from
state_from-IsState xs h = record {
  column0 = record { row0 = h 0; row1 = h 1; row2 = h 2; row3 = h 3 };
  column1 = record { row0 = h 4; row1 = h 5; row2 = h 6; row3 = h 7 };
  column2 = record { row0 = h 8; row1 = h 9; row2 = h 10; row3 = h 11 };
  column3 = record { row0 = h 12; row1 = h 13; row2 = h 14; row3 = h 15 };
}

-- ---- rounds

-- the words of the rounds are octets
abbrev pub AreKeys : List Column → ℕ → Type 0
AreKeys words rounds = (r : ℕ) → r ≤ rounds → IsState (round_key words r)

module _ (words : List Column) (rounds : ℕ) (some : 0 < rounds) (keys : AreKeys words rounds) where
  pub after_rounds-IsState : (s : State) → IsState s → (n : ℕ) → n < rounds → IsState (after_rounds words s n)
  unfolding after_rounds
  after_rounds-IsState s h zero lt = add_state-IsState s (round_key words 0) h (keys 0 (omega arith))
  after_rounds-IsState s h (suc n) lt =
      let old : State = after_rounds words s n in
      add_state-IsState (mix_columns (shift_rows (sub_bytes old))) (round_key words (suc n))
      (mix_columns-IsState (shift_rows (sub_bytes old)) (shift_rows-IsState (sub_bytes old) (sub_bytes-IsState old (after_rounds-IsState s h n (omega arith)))))
      (keys (suc n) (omega arith))

  -- after n rounds of the inverse, and with a map of the next one undone
  undone : (s : State) → IsState s → (n m : ℕ) → n + m + 1 ≡ rounds
      → after_inverse_rounds words rounds (cipher_state words rounds s) n ≡ shift_rows (sub_bytes (after_rounds words s m))
  unfolding after_inverse_rounds after_rounds cipher_state
  undone s h zero m e =
      let last : rounds - 1 ≡ m = omega arith in
      rw last (add_state-cancel (shift_rows (sub_bytes (after_rounds words s m))) (round_key words rounds))
  undone s h (suc n) m e =
      let old : State = after_rounds words s m in
      let mixed : State = mix_columns (shift_rows (sub_bytes old)) in
      let key : State = round_key words (suc m) in
      let number : rounds - suc n ≡ suc m = omega arith in
      let good : IsState old = after_rounds-IsState s h m (omega arith) in
      let new : IsState (add_state mixed key) = after_rounds-IsState s h (suc m) (omega arith) in
      rw (
        undone s h n (suc m) (omega arith),
        number,
        inverse_shift_rows-shift_rows (sub_bytes (add_state mixed key)),
        inverse_sub_bytes-sub_bytes (add_state mixed key) new,
        add_state-cancel mixed key,
      )
      (inverse_mix_columns-mix_columns (shift_rows (sub_bytes old)) (shift_rows-IsState (sub_bytes old) (sub_bytes-IsState old good)))

  pub inverse_cipher_state-cipher_state : (s : State) → IsState s → inverse_cipher_state words rounds (cipher_state words rounds s) ≡ s
  unfolding inverse_cipher_state after_rounds
  inverse_cipher_state-cipher_state s h =
      let first : State = add_state s (round_key words 0) in
      let good : IsState first = add_state-IsState s (round_key words 0) h (keys 0 (omega arith)) in
      rw (undone s h (rounds - 1) 0 (omega arith), inverse_shift_rows-shift_rows (sub_bytes first), inverse_sub_bytes-sub_bytes first good)
      (add_state-cancel s (round_key words 0))

  -- ---- the other way round

  pub after_inverse_rounds-IsState : (s : State) → IsState s → (n : ℕ) → n < rounds → IsState (after_inverse_rounds words rounds s n)
  unfolding after_inverse_rounds
  after_inverse_rounds-IsState s h zero lt = add_state-IsState s (round_key words rounds) h (keys rounds (omega arith))
  after_inverse_rounds-IsState s h (suc n) lt =
      let old : State = after_inverse_rounds words rounds s n in
      let good : IsState old = after_inverse_rounds-IsState s h n (omega arith) in
      inverse_mix_columns-IsState (add_state (inverse_sub_bytes (inverse_shift_rows old)) (round_key words (rounds - suc n)))
      (add_state-IsState (inverse_sub_bytes (inverse_shift_rows old)) (round_key words (rounds - suc n))
      (inverse_sub_bytes-IsState (inverse_shift_rows old) (inverse_shift_rows-IsState old good)) (keys (rounds - suc n) (omega arith)))

  redone : (s : State) → IsState s → (n m : ℕ) → n + m + 1 ≡ rounds
      → after_rounds words (inverse_cipher_state words rounds s) n ≡ inverse_sub_bytes (inverse_shift_rows (after_inverse_rounds words rounds s m))
  unfolding after_inverse_rounds after_rounds inverse_cipher_state
  redone s h zero m e =
      let last : rounds - 1 ≡ m = omega arith in
      rw last (add_state-cancel (inverse_sub_bytes (inverse_shift_rows (after_inverse_rounds words rounds s m))) (round_key words 0))
  redone s h (suc n) m e =
      let old : State = after_inverse_rounds words rounds s m in
      let put : State = inverse_sub_bytes (inverse_shift_rows old) in
      let key : State = round_key words (suc n) in
      let number : rounds - suc m ≡ suc n = omega arith in
      let good : IsState old = after_inverse_rounds-IsState s h m (omega arith) in
      let sum : IsState (add_state put key) =
      add_state-IsState put key (inverse_sub_bytes-IsState (inverse_shift_rows old) (inverse_shift_rows-IsState old good)) (keys (suc n) (omega arith)) in
      let new : State = inverse_mix_columns (add_state put key) in
      let newgood : IsState new = inverse_mix_columns-IsState (add_state put key) sum in
      rw (
        redone s h n (suc m) (omega arith),
        number,
        sub_bytes-inverse_sub_bytes (inverse_shift_rows new) (inverse_shift_rows-IsState new newgood),
        shift_rows-inverse_shift_rows new,
        mix_columns-inverse_mix_columns (add_state put key) sum,
      )
      (add_state-cancel put key)

  pub cipher_state-inverse_cipher_state : (s : State) → IsState s → cipher_state words rounds (inverse_cipher_state words rounds s) ≡ s
  unfolding cipher_state after_inverse_rounds
  cipher_state-inverse_cipher_state s h =
      let first : State = add_state s (round_key words rounds) in
      let good : IsState first = add_state-IsState s (round_key words rounds) h (keys rounds (omega arith)) in
      rw (redone s h (rounds - 1) 0 (omega arith), sub_bytes-inverse_sub_bytes (inverse_shift_rows first) (inverse_shift_rows-IsState first good), shift_rows-inverse_shift_rows first)
      (add_state-cancel s (round_key words rounds))
