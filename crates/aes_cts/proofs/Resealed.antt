-- Whatever was deciphered with ciphertext stealing enciphers to itself again.
use Rattle.std.proofs.Common.{◌≡◌, ℕ, zero, suc, ◌+◌, ◌-◌, ◌*◌, ◌<◌, ◌≤◌, refl, sym, ap, ◌∙◌, arith, List, [], ◌∷◌, ◌++◌, length, take, drop, replicate, inl, inr}
use Rattle.std.specs.Int.Bits.{bit_xor, xor_zero_r}
use Rattle.std.proofs.lemmas.Nat.{xor_comm}
use Rattle.std.proofs.lemmas.Bool.{cases_lt}
use Rattle.std.proofs.lemmas.List.{length-append, length-drop, length-take-le, length-replicate, append_assoc, take_at, drop_at, take-take, take_all, take-append-drop, drop-take}
use Rattle.aes_cts.specs.State.{state_from}
use Rattle.aes_cts.specs.Schedule.{rounds_of, key_schedule, round_key}
use Rattle.aes_cts.specs.Cipher.{IsOctets, cipher, inverse_cipher, after_inverse_rounds, inverse_cipher_state}
use Rattle.aes_cts.specs.Stealing.{add_octets, block_at, blocks_before_last, chain, chained, padded, stolen, cts_encrypted, before, unchained, given_back, cts_decrypted}
use Rattle.aes_cts.proofs.Sums.{cancel}
use Rattle.aes_cts.proofs.Shapes.{IsState, add_state-IsState, inverse_sub_bytes-IsState, inverse_shift_rows-IsState}
use Rattle.aes_cts.proofs.Undoing.{AreKeys, after_inverse_rounds-IsState, state_from-IsState}
use Rattle.aes_cts.proofs.Blocks.{length-inverse_cipher, cipher-inverse_cipher}
use Rattle.aes_cts.proofs.Chaining.{length-add_octets, length-chained, length-unchained, length-before, chained-suc, chain_more, chain-append, chained-append}
use Rattle.aes_cts.proofs.Restored.{take-IsOctets, drop-IsOctets, append-IsOctets, state_octets-IsOctets, cts_encrypted-more, cts_encrypted-single, cts_decrypted-more, cts_decrypted-single}

-- ---- sums that undo each other

added_back : (xs ys : List ℕ) → length xs ≡ length ys → add_octets ys (add_octets xs ys) ≡ xs
unfolding add_octets
added_back [] [] e = refl
added_back [] (y ∷ ys) e = absurd (omega arith)
added_back (x ∷ xs) [] e = absurd (omega arith)
added_back (x ∷ xs) (y ∷ ys) e =
    let first : bit_xor y (bit_xor x y) ≡ x = xor_comm y (bit_xor x y) ∙ cancel x y in
    let others : add_octets ys (add_octets xs ys) ≡ xs = added_back xs ys (omega arith) in
    rw (first, others) refl

added_short : (xs ys : List ℕ) → length xs ≤ length ys → add_octets xs (add_octets xs ys) ≡ take (length xs) ys
unfolding add_octets
added_short [] ys h = refl
added_short (x ∷ xs) [] h = absurd (omega arith)
added_short (x ∷ xs) (y ∷ ys) h =
    let first : bit_xor x (bit_xor x y) ≡ y = xor_comm x (bit_xor x y) ∙ ap (λ (t : ℕ). bit_xor t x) (xor_comm x y) ∙ cancel y x in
    let others : add_octets xs (add_octets xs ys) ≡ take (length xs) ys = added_short xs ys (omega arith) in
    rw (first, others) refl

add_octets-append : (xs zs ys ws : List ℕ) → length xs ≡ length ys → add_octets (xs ++ zs) (ys ++ ws) ≡ add_octets xs ys ++ add_octets zs ws
unfolding add_octets
add_octets-append [] zs [] ws e = refl
add_octets-append [] zs (y ∷ ys) ws e = absurd (omega arith)
add_octets-append (x ∷ xs) zs [] ws e = absurd (omega arith)
add_octets-append (x ∷ xs) zs (y ∷ ys) ws e = ap (λ (t : List ℕ). bit_xor x y ∷ t) (add_octets-append xs zs ys ws (omega arith))

add_zeros : (xs : List ℕ) (n : ℕ) → length xs ≡ n → add_octets xs (replicate n 0) ≡ xs
unfolding add_octets
add_zeros [] zero e = refl
add_zeros [] (suc n) e = absurd (omega arith)
add_zeros (x ∷ xs) zero e = absurd (omega arith)
add_zeros (x ∷ xs) (suc n) e =
    let others : add_octets xs (replicate n 0) ≡ xs = add_zeros xs n (omega arith) in
    rw (xor_zero_r x, others) refl

-- ---- lengths

pub length-given_back : (key octets : List ℕ) → 16 < length octets → length (given_back key octets (blocks_before_last octets)) ≡ length octets
length-given_back key octets more =
    let n : ℕ = blocks_before_last octets in
    let whole : List ℕ = inverse_cipher key (block_at octets (n - 1)) in
    let end : List ℕ = drop (16 * n) octets in
    let x : List ℕ = take (16 * (n - 1)) octets ++ end ++ drop (length end) whole in
    let longend : length end ≡ length octets - 16 * n = length-drop (16 * n) octets in
    let longwhole : length whole ≡ 16 = length-inverse_cipher key (block_at octets (n - 1)) in
    let longf : length (take (16 * (n - 1)) octets) ≡ 16 * (n - 1) = length-take-le (16 * (n - 1)) octets (omega arith) in
    let longx : length x ≡ 16 * n =
    length-append (take (16 * (n - 1)) octets ++ end) (drop (length end) whole)
    ∙ omega (arith, length-append (take (16 * (n - 1)) octets) end, length-drop (length end) whole) in
    length-append (unchained key x n) (add_octets end whole)
    ∙ omega (arith, length-unchained key x n (omega arith), length-add_octets end whole)

-- ---- the blocks of CBC

chained-none : (key plain : List ℕ) → chained key plain zero ≡ []
unfolding chained
chained-none key plain = refl

module _ (key : List ℕ) (keys : AreKeys (key_schedule key) (rounds_of key)) where
  pub inverse_cipher-IsOctets : (block : List ℕ) → IsOctets block → IsOctets (inverse_cipher key block)
  unfolding inverse_cipher inverse_cipher_state
  inverse_cipher-IsOctets block h =
      let words = key_schedule key in
      let rounds = rounds_of key in
      let old = after_inverse_rounds words rounds (state_from block) (rounds - 1) in
      let good : IsState old = after_inverse_rounds-IsState words rounds (omega arith) keys (state_from block) (state_from-IsState block h) (rounds - 1) (omega arith) in
      state_octets-IsOctets _ (add_state-IsState _ (round_key words 0) (inverse_sub_bytes-IsState _ (inverse_shift_rows-IsState old good)) (keys 0 (omega arith)))

  chain-unchained : (octets : List ℕ) → IsOctets octets → (n : ℕ) → 16 * n ≤ length octets → chain key (unchained key octets n) n ≡ before octets n
  unfolding chain unchained
  chain-unchained octets h zero fits = refl
  chain-unchained octets h (suc n) fits =
      let block : List ℕ = block_at octets n in
      let opened : List ℕ = inverse_cipher key block in
      let old : List ℕ = before octets n in
      let sum : List ℕ = add_octets opened old in
      let front : List ℕ = unchained key octets n in
      let longf : length front ≡ 16 * n = length-unchained key octets n (omega arith) in
      let longb : length block ≡ 16 = length-take-le 16 (drop (16 * n) octets) (omega (arith, length-drop (16 * n) octets)) in
      let longo : length old ≡ 16 = length-before octets n (omega arith) in
      let longi : length opened ≡ 16 = length-inverse_cipher key block in
      let longs : length sum ≡ 16 = length-add_octets opened old ∙ omega arith in
      let read : block_at (front ++ sum) n ≡ sum = rw (drop_at front sum (16 * n) longf) (take_all 16 sum (omega arith)) in
      let earlier : chain key (front ++ sum) n ≡ old = chain-append key front sum n (omega arith) ∙ chain-unchained octets h n (omega arith) in
      rw (earlier, read, added_back opened old (longi ∙ sym longo))
      (cipher-inverse_cipher key block keys (take-IsOctets 16 (drop (16 * n) octets) (drop-IsOctets (16 * n) octets h)) longb)

  chained-unchained : (octets : List ℕ) → IsOctets octets → (n : ℕ) → 16 * n ≤ length octets → chained key (unchained key octets n) n ≡ take (16 * n) octets
  unfolding unchained
  chained-unchained octets h zero fits = chained-none key (unchained key octets zero)
  chained-unchained octets h (suc n) fits =
      let front : List ℕ = unchained key octets n in
      let sum : List ℕ = add_octets (inverse_cipher key (block_at octets n)) (before octets n) in
      let longf : length front ≡ 16 * n = length-unchained key octets n (omega arith) in
      let earlier : chained key (front ++ sum) n ≡ take (16 * n) octets = chained-append key front sum n (omega arith) ∙ chained-unchained octets h n (omega arith) in
      let last : chain key (front ++ sum) (suc n) ≡ block_at octets n = chain-unchained octets h (suc n) fits in
      let more : 16 * suc n ≡ 16 * n + 16 = omega arith in
      rw (chained-suc key (front ++ sum) n, earlier, last, more, ← drop-take (16 * n) 16 octets)
      (ap (λ (t : List ℕ). t ++ drop (16 * n) (take (16 * n + 16) octets)) (sym (take-take (16 * n) (16 * n + 16) octets (omega arith)))
      ∙ take-append-drop (16 * n) (take (16 * n + 16) octets))

  resealed_parts : (octets : List ℕ) → IsOctets octets → (n : ℕ) → 0 < n → 16 * n < length octets → length octets ≤ 16 * n + 16
      → length (given_back key octets n) ≡ length octets → stolen key (given_back key octets n) n ≡ octets
  resealed_parts octets h zero some low high same = absurd (omega arith)
  resealed_parts octets h (suc m) some low high same =
      let n : ℕ = suc m in
      let pred : n - 1 ≡ m = omega arith in
      let w : List ℕ = block_at octets m in
      let whole : List ℕ = inverse_cipher key w in
      let end : List ℕ = drop (16 * n) octets in
      let r : ℕ = length end in
      let f : List ℕ = take (16 * m) octets in
      let cut : List ℕ = end ++ drop r whole in
      let x : List ℕ = f ++ cut in
      let u : List ℕ = unchained key x n in
      let t : List ℕ = add_octets end whole in
      let longend : r ≡ length octets - 16 * n = length-drop (16 * n) octets in
      let longf : length f ≡ 16 * m = length-take-le (16 * m) octets (omega arith) in
      let longw : length w ≡ 16 = length-take-le 16 (drop (16 * m) octets) (omega (arith, length-drop (16 * m) octets)) in
      let longwhole : length whole ≡ 16 = length-inverse_cipher key w in
      let longcut : length cut ≡ 16 = length-append end (drop r whole) ∙ omega (arith, length-drop r whole) in
      let longx : length x ≡ 16 * n = length-append f cut ∙ omega arith in
      let longu : length u ≡ 16 * n = length-unchained key x n (omega arith) in
      let longt : length t ≡ r = length-add_octets end whole ∙ omega arith in
      let d : List ℕ = u ++ t in
      let made : given_back key octets n ≡ d = rw (pred, append_assoc f end (drop r whole)) refl in
      let longd : length d ≡ length octets = rw made at same in
      let number : blocks_before_last d ≡ n = omega arith in
      let z : ℕ = 16 * (n + 1) - length d in
      let zeros : List ℕ = replicate z 0 in
      let longz : length zeros ≡ z = length-replicate z 0 in
      let p : List ℕ = d ++ zeros in
      let whole_p : padded d ≡ p = rw number refl in
      let split : p ≡ u ++ (t ++ zeros) = append_assoc u t zeros in
      let hw : IsOctets w = take-IsOctets 16 (drop (16 * m) octets) (drop-IsOctets (16 * m) octets h) in
      let hx : IsOctets x =
      append-IsOctets f cut (take-IsOctets (16 * m) octets h)
      (append-IsOctets end (drop r whole) (drop-IsOctets (16 * n) octets h) (drop-IsOctets r whole (inverse_cipher-IsOctets w hw))) in
      let blocks : chained key u n ≡ x = chained-unchained x hx n (omega arith) ∙ take_all (16 * n) x (omega arith) in
      let front : chained key u m ≡ f =
      sym (take_at (chained key u m) (chain key u n) (16 * m) (length-chained key u m))
      ∙ ap (λ (v : List ℕ). take (16 * m) v) (sym (chained-suc key u m) ∙ blocks) ∙ take_at f cut (16 * m) longf in
      let last : chain key u n ≡ cut =
      chain-unchained x hx n (omega arith) ∙ rw (drop_at f cut (16 * m) longf) (take_all 16 cut (omega arith)) in
      let frontp : chained key p m ≡ f = rw split (chained-append key u (t ++ zeros) m (omega arith) ∙ front) in
      let lastp : chain key p n ≡ cut = rw split (chain-append key u (t ++ zeros) n (omega arith) ∙ last) in
      let block : block_at p n ≡ t ++ zeros =
      rw (split, drop_at u (t ++ zeros) (16 * n) longu) (take_all 16 (t ++ zeros) (omega (arith, length-append t zeros, longz))) in
      let sum : add_octets cut (t ++ zeros) ≡ whole =
      add_octets-append end (drop r whole) t zeros (sym longt)
      ∙ rw (added_short end whole (omega arith), add_zeros (drop r whole) z (length-drop r whole ∙ omega arith)) (take-append-drop r whole) in
      let ciphered : w ≡ cipher key (add_octets cut (t ++ zeros)) = rw sum (sym (cipher-inverse_cipher key w keys hw longw)) in
      let final : w ≡ chain key p (n + 1) = chain_more key p cut (t ++ zeros) w n (sym lastp) (sym block) ciphered in
      let amount : length d - 16 * n ≡ r = omega arith in
      let more : 16 * n ≡ 16 * m + 16 = omega arith in
      let whole_front : f ++ w ≡ take (16 * n) octets =
      rw (more, ← drop-take (16 * m) 16 octets)
      (ap (λ (v : List ℕ). v ++ drop (16 * m) (take (16 * m + 16) octets)) (sym (take-take (16 * m) (16 * m + 16) octets (omega arith)))
      ∙ take-append-drop (16 * m) (take (16 * m + 16) octets)) in
      rw (made, whole_p, pred, frontp, ← final, lastp, amount, take_at end (drop r whole) r refl, whole_front) (take-append-drop (16 * n) octets)

  pub cts_encrypted-cts_decrypted : (octets : List ℕ) → IsOctets octets → 16 ≤ length octets → cts_encrypted key (cts_decrypted key octets) ≡ octets
  cts_encrypted-cts_decrypted octets h some = elim (cases_lt 16 (length octets)) [
    | inl more ↦
        let n : ℕ = blocks_before_last octets in
        let d : List ℕ = given_back key octets n in
        let long : length d ≡ length octets = length-given_back key octets more in
        let number : blocks_before_last d ≡ n = rw long refl in
        let again : 16 < length d = rw long more in
        ap (cts_encrypted key) (cts_decrypted-more key octets more) ∙ cts_encrypted-more key d again ∙ ap (stolen key d) number
        ∙ resealed_parts octets h n (omega arith) (omega arith) (omega arith) long
    | inr single ↦
        let long : length octets ≡ 16 = omega arith in
        let made : length (inverse_cipher key octets) ≤ 16 = omega (arith, length-inverse_cipher key octets) in
        ap (cts_encrypted key) (cts_decrypted-single key octets single) ∙ cts_encrypted-single key (inverse_cipher key octets) made
        ∙ cipher-inverse_cipher key octets keys h long
  ]

-- ---- lengths

pub length-cts_decrypted : (key octets : List ℕ) → 16 ≤ length octets → length (cts_decrypted key octets) ≡ length octets
length-cts_decrypted key octets some = elim (cases_lt 16 (length octets)) [
  | inl more ↦ ap length (cts_decrypted-more key octets more) ∙ length-given_back key octets more
  | inr single ↦ ap length (cts_decrypted-single key octets single) ∙ length-inverse_cipher key octets ∙ omega arith
]
