-- What was enciphered with ciphertext stealing deciphers to itself.
use Rattle.std.proofs.Common.{◌≡◌, ℕ, zero, suc, ◌+◌, ◌-◌, ◌*◌, ◌<◌, ◌≤◌, min, refl, sym, ap, ◌∙◌, arith, List, [], ◌∷◌, ◌++◌, length, take, drop, replicate, get_or, add-one, inl, inr}
use Rattle.std.specs.Int.Bits.{bit_xor, xor_zero_r}
use Rattle.std.proofs.lemmas.Nat.{xor_comm}
use Rattle.std.proofs.lemmas.Bool.{le-leb, lt-leb, cases_lt}
use Rattle.std.proofs.lemmas.List.{length-append, length-drop, length-take-le, length-replicate, append_assoc, take_at, drop_at, drop-append-le, take-append-le, take-take, take_all, take-append-drop, get_or-drop, get_or_past, drop-take}
use Rattle.aes_cts.specs.State.{Column, State, state_from, state_octets}
use Rattle.aes_cts.specs.Schedule.{rounds_of, key_schedule, round_key}
use Rattle.aes_cts.specs.Cipher.{IsOctets, after_rounds, cipher_state, cipher, inverse_cipher}
use Rattle.aes_cts.specs.Stealing.{add_octets, block_at, blocks_before_last, chain, chained, padded, stolen, cts_encrypted, before, unchained, given_back, cts_decrypted}
use Rattle.aes_cts.proofs.Sums.{cancel}
use Rattle.aes_cts.proofs.Shapes.{IsColumn, IsState, add_state-IsState, sub_bytes-IsState, shift_rows-IsState, sum-lt}
use Rattle.aes_cts.proofs.Undoing.{AreKeys, after_rounds-IsState, state_from-IsState}
use Rattle.aes_cts.proofs.Blocks.{length-cipher, inverse_cipher-cipher}
use Rattle.aes_cts.proofs.Chaining.{length-add_octets, get_or-add_octets, length-chain, length-chained, chained-suc, block_at-append, unchained-append}

-- ---- octets

octets_cons : (x : ℕ) (xs : List ℕ) → x < 256 → IsOctets xs → IsOctets (x ∷ xs)
octets_cons x xs h hs zero = h
octets_cons x xs h hs (suc i) = hs i

octets_nil : IsOctets []
octets_nil i = omega arith

column-IsOctets : (k : Column) → IsColumn k → (xs : List ℕ) → IsOctets xs → IsOctets (k.row0 ∷ k.row1 ∷ k.row2 ∷ k.row3 ∷ xs)
column-IsOctets k h xs hs =
    octets_cons k.row0 (k.row1 ∷ k.row2 ∷ k.row3 ∷ xs) h.row0
    (octets_cons k.row1 (k.row2 ∷ k.row3 ∷ xs) h.row1 (octets_cons k.row2 (k.row3 ∷ xs) h.row2 (octets_cons k.row3 xs h.row3 hs)))

pub state_octets-IsOctets : (s : State) → IsState s → IsOctets (state_octets s)
unfolding state_octets
state_octets-IsOctets s h =
    let a : Column = s.column1 in
    let b : Column = s.column2 in
    let c : Column = s.column3 in
    let last : List ℕ = c.row0 ∷ c.row1 ∷ c.row2 ∷ c.row3 ∷ [] in
    let third : List ℕ = b.row0 ∷ b.row1 ∷ b.row2 ∷ b.row3 ∷ last in
    let second : List ℕ = a.row0 ∷ a.row1 ∷ a.row2 ∷ a.row3 ∷ third in
    column-IsOctets s.column0 h.column0 second
    (column-IsOctets a h.column1 third (column-IsOctets b h.column2 last (column-IsOctets c h.column3 [] octets_nil)))

pub add_octets-IsOctets : (xs ys : List ℕ) → IsOctets xs → IsOctets ys → IsOctets (add_octets xs ys)
add_octets-IsOctets xs ys hx hy i =
    elim (cases_lt i (length (add_octets xs ys))) [
      | inl a ↦
          let len : length (add_octets xs ys) ≡ min (length xs) (length ys) = length-add_octets xs ys in
          rw (get_or-add_octets xs ys i (omega arith) (omega arith)) (sum-lt (get_or xs i 0) (get_or ys i 0) (hx i) (hy i))
      | inr b ↦ rw (get_or_past (add_octets xs ys) i 0 b) (omega arith)
    ]

pub take-IsOctets : (n : ℕ) (xs : List ℕ) → IsOctets xs → IsOctets (take n xs)
take-IsOctets zero xs h i = omega arith
take-IsOctets (suc n) [] h i = omega arith
take-IsOctets (suc n) (x ∷ xs) h zero = h zero
take-IsOctets (suc n) (x ∷ xs) h (suc i) = take-IsOctets n xs (λ j. h (suc j)) i

pub drop-IsOctets : (n : ℕ) (xs : List ℕ) → IsOctets xs → IsOctets (drop n xs)
drop-IsOctets n xs h i = rw (get_or-drop n xs i 0) (h (n + i))

pub append-IsOctets : (xs ys : List ℕ) → IsOctets xs → IsOctets ys → IsOctets (xs ++ ys)
append-IsOctets [] ys hx hy = hy
append-IsOctets (x ∷ xs) ys hx hy = octets_cons x (xs ++ ys) (hx zero) (append-IsOctets xs ys (λ j. hx (suc j)) hy)

pub replicate-IsOctets : (n : ℕ) → IsOctets (replicate n 0)
replicate-IsOctets zero = octets_nil
replicate-IsOctets (suc n) = octets_cons 0 (replicate n 0) (omega arith) (replicate-IsOctets n)

-- ---- sums that undo each other

added_twice : (xs ys : List ℕ) → length xs ≡ length ys → add_octets (add_octets xs ys) xs ≡ ys
unfolding add_octets
added_twice [] [] e = refl
added_twice [] (y ∷ ys) e = absurd (omega arith)
added_twice (x ∷ xs) [] e = absurd (omega arith)
added_twice (x ∷ xs) (y ∷ ys) e =
    let first : bit_xor (bit_xor x y) x ≡ y = ap (λ (t : ℕ). bit_xor t x) (xor_comm x y) ∙ cancel y x in
    let others : add_octets (add_octets xs ys) xs ≡ ys = added_twice xs ys (omega arith) in
    rw (first, others) refl

-- of a shorter first list, its places alone
added_front : (xs ys : List ℕ) (n : ℕ) → length xs ≡ length ys → add_octets (take n xs) (add_octets xs ys) ≡ take n ys
unfolding add_octets
added_front [] [] zero e = refl
added_front [] [] (suc n) e = refl
added_front [] (y ∷ ys) n e = absurd (omega arith)
added_front (x ∷ xs) [] n e = absurd (omega arith)
added_front (x ∷ xs) (y ∷ ys) zero e = refl
added_front (x ∷ xs) (y ∷ ys) (suc n) e =
    let first : bit_xor x (bit_xor x y) ≡ y = xor_comm x (bit_xor x y) ∙ ap (λ (t : ℕ). bit_xor t x) (xor_comm x y) ∙ cancel y x in
    let others : add_octets (take n xs) (add_octets xs ys) ≡ take n ys = added_front xs ys n (omega arith) in
    rw (first, others) refl

-- past the places of a list that ends in zeros, the other list stays
added_zeros : (xs ys : List ℕ) (n : ℕ) → length xs ≡ length ys + n → drop (length ys) (add_octets xs (ys ++ replicate n 0)) ≡ drop (length ys) xs
unfolding add_octets
added_zeros [] [] zero e = refl
added_zeros [] [] (suc n) e = absurd (omega arith)
added_zeros (x ∷ xs) [] zero e = absurd (omega arith)
added_zeros (x ∷ xs) [] (suc n) e =
    let others : add_octets xs (replicate n 0) ≡ xs = added_zeros xs [] n (omega arith) in
    rw (xor_zero_r x, others) refl
added_zeros [] (y ∷ ys) n e = absurd (omega arith)
added_zeros (x ∷ xs) (y ∷ ys) n e = added_zeros xs ys n (omega arith)

-- ---- lengths

pub length-stolen : (key plain : List ℕ) → 16 < length plain → length (stolen key plain (blocks_before_last plain)) ≡ length plain
length-stolen key plain more =
    let n : ℕ = blocks_before_last plain in
    let p : List ℕ = padded plain in
    let r : ℕ = length plain - 16 * n in
    let a : List ℕ = chained key p (n - 1) in
    let w : List ℕ = chain key p (n + 1) in
    let s : List ℕ = take r (chain key p n) in
    let longs : length s ≡ r = length-take-le r (chain key p n) (omega (arith, length-chain key p n)) in
    length-append (a ++ w) s ∙ omega (arith, length-append a w, length-chained key p (n - 1), length-chain key p (n + 1))

pub cts_encrypted-more : (key plain : List ℕ) → 16 < length plain → cts_encrypted key plain ≡ stolen key plain (blocks_before_last plain)
unfolding cts_encrypted
cts_encrypted-more key plain more = rw (lt-leb (length plain) 16 more) refl

pub cts_encrypted-single : (key plain : List ℕ) → length plain ≤ 16 → cts_encrypted key plain ≡ cipher key plain
unfolding cts_encrypted
cts_encrypted-single key plain single = rw (le-leb (length plain) 16 single) refl

pub cts_decrypted-more : (key octets : List ℕ) → 16 < length octets → cts_decrypted key octets ≡ given_back key octets (blocks_before_last octets)
unfolding cts_decrypted
cts_decrypted-more key octets more = rw (lt-leb (length octets) 16 more) refl

pub cts_decrypted-single : (key octets : List ℕ) → length octets ≤ 16 → cts_decrypted key octets ≡ inverse_cipher key octets
unfolding cts_decrypted
cts_decrypted-single key octets single = rw (le-leb (length octets) 16 single) refl

pub length-cts_encrypted : (key plain : List ℕ) → 16 ≤ length plain → length (cts_encrypted key plain) ≡ length plain
unfolding cts_encrypted
length-cts_encrypted key plain some = elim (cases_lt 16 (length plain)) [
  | inl more ↦ rw (lt-leb (length plain) 16 more) (length-stolen key plain more)
  | inr single ↦ rw (le-leb (length plain) 16 single) (length-cipher key plain ∙ omega arith)
]

-- ---- the blocks of CBC

module _ (key : List ℕ) (keys : AreKeys (key_schedule key) (rounds_of key)) where
  pub cipher-IsOctets : (block : List ℕ) → IsOctets block → IsOctets (cipher key block)
  unfolding cipher cipher_state
  cipher-IsOctets block h =
      let words = key_schedule key in
      let rounds = rounds_of key in
      let old = after_rounds words (state_from block) (rounds - 1) in
      let good : IsState old = after_rounds-IsState words rounds (omega arith) keys (state_from block) (state_from-IsState block h) (rounds - 1) (omega arith) in
      state_octets-IsOctets _ (add_state-IsState _ (round_key words rounds) (shift_rows-IsState _ (sub_bytes-IsState old good)) (keys rounds (omega arith)))

  pub chain-IsOctets : (plain : List ℕ) → IsOctets plain → (n : ℕ) → IsOctets (chain key plain n)
  unfolding chain
  chain-IsOctets plain h zero = replicate-IsOctets 16
  chain-IsOctets plain h (suc n) =
      cipher-IsOctets (add_octets (chain key plain n) (block_at plain n))
      (add_octets-IsOctets (chain key plain n) (block_at plain n) (chain-IsOctets plain h n)
      (take-IsOctets 16 (drop (16 * n) plain) (drop-IsOctets (16 * n) plain h)))

  -- a cipher block deciphered
  pub inverse-chain : (plain : List ℕ) → IsOctets plain → (n : ℕ) → 16 * n + 16 ≤ length plain
      → inverse_cipher key (chain key plain (suc n)) ≡ add_octets (chain key plain n) (block_at plain n)
  unfolding chain
  inverse-chain plain h n fits =
      let long : length (block_at plain n) ≡ 16 = length-take-le 16 (drop (16 * n) plain) (omega (arith, length-drop (16 * n) plain)) in
      inverse_cipher-cipher key (add_octets (chain key plain n) (block_at plain n)) keys
      (add_octets-IsOctets (chain key plain n) (block_at plain n) (chain-IsOctets plain h n)
      (take-IsOctets 16 (drop (16 * n) plain) (drop-IsOctets (16 * n) plain h)))
      (length-add_octets (chain key plain n) (block_at plain n) ∙ omega (arith, length-chain key plain n))

  inverse-chain-one : (plain : List ℕ) → IsOctets plain → (n : ℕ) → 16 * n + 16 ≤ length plain
      → inverse_cipher key (chain key plain (n + 1)) ≡ add_octets (chain key plain n) (block_at plain n)
  inverse-chain-one plain h n fits = rw add-one (inverse-chain plain h n fits)

  block_of-chained : (plain : List ℕ) (n : ℕ) → block_at (chained key plain (suc n)) n ≡ chain key plain (suc n)
  block_of-chained plain n =
      rw (chained-suc key plain n, drop_at (chained key plain n) (chain key plain (suc n)) (16 * n) (length-chained key plain n))
      (take_all 16 (chain key plain (suc n)) (omega (arith, length-chain key plain (suc n))))

  before-chained : (plain : List ℕ) (n : ℕ) → before (chained key plain (suc n)) n ≡ chain key plain n
  unfolding chain
  before-chained plain zero = refl
  before-chained plain (suc n) =
      rw (chained-suc key plain (suc n), block_at-append (chained key plain (suc n)) (chain key plain (suc (suc n))) n (omega (arith, length-chained key plain (suc n))))
      (block_of-chained plain n)

  pub unchained-chained : (plain : List ℕ) → IsOctets plain → (n : ℕ) → 16 * n ≤ length plain → unchained key (chained key plain n) n ≡ take (16 * n) plain
  unfolding unchained
  unchained-chained plain h zero fits = refl
  unchained-chained plain h (suc n) fits =
      let first : unchained key (chained key plain (suc n)) n ≡ take (16 * n) plain =
      rw (chained-suc key plain n, unchained-append key (chained key plain n) (chain key plain (suc n)) n (omega (arith, length-chained key plain n)))
      (unchained-chained plain h n (omega arith)) in
      let long : length (block_at plain n) ≡ 16 = length-take-le 16 (drop (16 * n) plain) (omega (arith, length-drop (16 * n) plain)) in
      let last : add_octets (inverse_cipher key (block_at (chained key plain (suc n)) n)) (before (chained key plain (suc n)) n) ≡ block_at plain n =
      rw (block_of-chained plain n, before-chained plain n, inverse-chain plain h n (omega arith))
      (added_twice (chain key plain n) (block_at plain n) (omega (arith, length-chain key plain n))) in
      let more : 16 * suc n ≡ 16 * n + 16 = omega arith in
      rw (first, last, more, ← drop-take (16 * n) 16 plain)
      (ap (λ (front : List ℕ). front ++ drop (16 * n) (take (16 * n + 16) plain)) (sym (take-take (16 * n) (16 * n + 16) plain (omega arith)))
      ∙ take-append-drop (16 * n) (take (16 * n + 16) plain))

  restored_parts : (plain : List ℕ) → IsOctets plain → (n : ℕ) → 0 < n → 16 * n < length plain → length plain ≤ 16 * n + 16
      → given_back key (stolen key plain n) n ≡ plain
  restored_parts plain h zero some low high = absurd (omega arith)
  restored_parts plain h (suc m) some low high =
      let n : ℕ = suc m in
      let number : blocks_before_last plain ≡ n = omega arith in
      let z : ℕ = 16 * (n + 1) - length plain in
      let zeros : List ℕ = replicate z 0 in
      let p : List ℕ = plain ++ zeros in
      let whole_p : padded plain ≡ p = rw number refl in
      let longz : length zeros ≡ z = length-replicate z 0 in
      let hp : IsOctets p = append-IsOctets plain zeros h (replicate-IsOctets z) in
      let longp : length p ≡ 16 * n + 16 = length-append plain zeros ∙ omega (arith, longz) in
      let r : ℕ = length plain - 16 * n in
      let a : List ℕ = chained key p m in
      let w : List ℕ = chain key p (n + 1) in
      let c : List ℕ = chain key p n in
      let s : List ℕ = take r c in
      let rest : List ℕ = drop (16 * n) plain in
      let pred : n - 1 ≡ m = omega arith in
      let all : stolen key plain n ≡ (a ++ w) ++ s = rw (whole_p, pred) refl in
      let longa : length a ≡ 16 * m = length-chained key p m in
      let longw : length w ≡ 16 = length-chain key p (n + 1) in
      let longc : length c ≡ 16 = length-chain key p n in
      let longs : length s ≡ r = length-take-le r c (omega arith) in
      let longaw : length (a ++ w) ≡ 16 * n = length-append a w ∙ omega arith in
      let longr : length rest ≡ r = length-drop (16 * n) plain in
      let block : block_at ((a ++ w) ++ s) m ≡ w =
      rw (append_assoc a w s, drop_at a (w ++ s) (16 * m) longa) (take_at w s 16 longw) in
      let end : drop (16 * n) ((a ++ w) ++ s) ≡ s = drop_at (a ++ w) s (16 * n) longaw in
      let front : take (16 * m) ((a ++ w) ++ s) ≡ a = rw (append_assoc a w s) (take_at a (w ++ s) (16 * m) longa) in
      let last : block_at p n ≡ rest ++ zeros =
      rw (drop-append-le (16 * n) plain zeros (omega arith)) (take_all 16 (rest ++ zeros) (omega (arith, length-append rest zeros, longz))) in
      let x : List ℕ = add_octets c (rest ++ zeros) in
      let opened : inverse_cipher key w ≡ x = inverse-chain-one p hp n (omega arith) ∙ ap (add_octets c) last in
      let kept : drop (length s) x ≡ drop r c = rw (longs, ← longr) (added_zeros c rest z (omega arith)) in
      let joined : (a ++ s) ++ drop r c ≡ chained key p n =
      append_assoc a s (drop r c) ∙ ap (λ (t : List ℕ). a ++ t) (take-append-drop r c) ∙ sym (chained-suc key p m) in
      let before_end : unchained key (chained key p n) n ≡ take (16 * n) plain =
      unchained-chained p hp n (omega arith) ∙ take-append-le (16 * n) plain zeros (omega arith) in
      let long_last : length (rest ++ zeros) ≡ 16 = length-append rest zeros ∙ omega (arith, longz) in
      let after : add_octets s x ≡ rest = added_front c (rest ++ zeros) r (omega arith) ∙ take_at rest zeros r longr in
      rw (all, pred, block, end, front, opened, kept, joined, before_end, after) (take-append-drop (16 * n) plain)

  pub cts_decrypted-cts_encrypted : (plain : List ℕ) → IsOctets plain → 16 ≤ length plain → cts_decrypted key (cts_encrypted key plain) ≡ plain
  cts_decrypted-cts_encrypted plain h some = elim (cases_lt 16 (length plain)) [
    | inl more ↦
        let n : ℕ = blocks_before_last plain in
        let c : List ℕ = stolen key plain n in
        let long : length c ≡ length plain = length-stolen key plain more in
        let number : blocks_before_last c ≡ n = rw long refl in
        let again : 16 < length c = rw long more in
        ap (cts_decrypted key) (cts_encrypted-more key plain more) ∙ cts_decrypted-more key c again ∙ ap (given_back key c) number
        ∙ restored_parts plain h n (omega arith) (omega arith) (omega arith)
    | inr single ↦
        let long : length plain ≡ 16 = omega arith in
        let made : length (cipher key plain) ≤ 16 = omega (arith, length-cipher key plain) in
        ap (cts_decrypted key) (cts_encrypted-single key plain single) ∙ cts_decrypted-single key (cipher key plain) made
        ∙ inverse_cipher-cipher key plain keys h long
  ]
