-- Words and octets of variable length that are read, by the places at which they stand.
use Rattle.std.proofs.Common.{◌≡◌, ℕ, zero, suc, ◌+◌, ◌-◌, ◌≤◌, false, List, [], ◌∷◌, length, take, drop, Ok, nat_lt, refl, sym, ap, ◌∙◌, arith, eqb}
use Rattle.std.specs.Int.{w32, from_be_bytes}
use Rattle.std.proofs.lemmas.Bool.Decides.{nat_tests}
use Rattle.std.proofs.lemmas.List.{length-drop, drop-take}
use Rattle.std.proofs.Math.Seq.{drop-nil}
use Rattle.rpc_msgs.specs.Words.{padding_length}
use Rattle.rpc_msgs.specs.Xdr.{Input, refusal, behind, place, octets_at, word_at, zeros_in, opaque_at}
use Rattle.rpc_msgs.specs.declared.xdr_reader.XdrRefusal.{XdrRefusal}
use Rattle.rpc_msgs.specs.declared.xdr_reader.XdrWhy.TheVariants.{Short, TooLong, Padding}
use Rattle.rpc_msgs.proofs.XdrLaws.{bind_ok, refused_not, refused_else, ok_is}

-- the word at a place
abbrev pub word_of : ℕ → List ℕ → ℕ
word_of at octets = from_be_bytes w32 (take 4 (drop at octets))

-- ---- the places of words

pub drop-drop : (n m : ℕ) (xs : List ℕ) → drop n (drop m xs) ≡ drop (m + n) xs
drop-drop n zero xs = let same : n ≡ 0 + n = omega arith in ap (λ k. drop k xs) same
drop-drop n (suc m) [] = drop-nil n ∙ sym (drop-nil (suc m + n))
drop-drop n (suc m) (x ∷ xs) = let same : suc (m + n) ≡ suc m + n = omega arith in drop-drop n m xs ∙ ap (λ k. drop k (x ∷ xs)) same

-- a word of a part is a word of the whole
pub word-in : (at size start : ℕ) (octets : List ℕ) → at + 4 ≤ size → word_of at (take size (drop start octets)) ≡ word_of (start + at) octets
word-in at size start octets h =
    let more : size ≡ at + (size - at) = omega (arith, h) in
    let cut : drop at (take size (drop start octets)) ≡ take (size - at) (drop at (drop start octets)) =
    ap (λ k. drop at (take k (drop start octets))) more ∙ drop-take at (size - at) (drop start octets) in
    ap (from_be_bytes w32) (ap (take 4) cut ∙ (shorter (size - at) (drop at (drop start octets)) (omega (arith, h)) ∙ ap (take 4) (drop-drop at start octets)))
  where
    shorter : (n : ℕ) (xs : List ℕ) → 4 ≤ n → take 4 (take n xs) ≡ take 4 xs
    shorter n xs h = let more : n ≡ suc (suc (suc (suc (n - 4)))) = omega (arith, h) in ap (λ k. take 4 (take k xs)) more ∙ four (n - 4) xs
      where
        four : (k : ℕ) (xs : List ℕ) → take 4 (take (suc (suc (suc (suc k)))) xs) ≡ take 4 xs
        four k [] = refl
        four k (a ∷ []) = refl
        four k (a ∷ b ∷ []) = refl
        four k (a ∷ b ∷ c ∷ []) = refl
        four k (a ∷ b ∷ c ∷ d ∷ ys) = refl

-- ---- words and octets of variable length

-- what was read stands at this place, and this is left
pub record WordAt (octets : List ℕ) (at : ℕ) (i : Input) (v : ℕ) (j : Input) : Type 0 where
  pub value : v ≡ word_of at octets
  pub left : j.octets ≡ drop (at + 4) octets
  pub within : at + 4 ≤ length octets
  pub end : j.end ≡ i.end

pub word-at : (octets : List ℕ) (at : ℕ) (i : Input) (v : ℕ) (j : Input) → i.octets ≡ drop at octets → word_at i ≡ Ok (v, j) → WordAt octets at i v j
unfolding word_at octets_at
word-at octets at i v j left e =
    let b = bind_ok (octets_at 4 i) (λ o. Ok (from_be_bytes w32 o.0, o.1)) (v, j) e in
    let r = refused_not (nat_lt (length i.octets) 4) (refusal Short i.end) (Ok (take 4 i.octets, behind 4 i)) b.0 b.1 in
    let first = ok_is {E = XdrRefusal} (take 4 i.octets, behind 4 i) b.0 r.1 in
    let second = ok_is {E = XdrRefusal} (from_be_bytes w32 b.0.0, b.0.1) (v, j) b.2 in
    let enough : nat_lt (length i.octets) 4 ≡ false = r.0 in
    let long : 4 ≤ length i.octets = grind (arith, nat_tests) in
    let size : length i.octets ≡ length octets - at = ap length left ∙ length-drop at octets in
    let back : behind 4 i ≡ j = ap (λ p. p.1) first ∙ ap (λ p. p.1) second in
    record {
      value = sym (ap (λ p. p.0) second) ∙ (sym (ap (λ p. from_be_bytes w32 p.0) first) ∙ ap (λ zs. from_be_bytes w32 (take 4 zs)) left);
      left = sym (ap (λ k. k.octets) back) ∙ (ap (drop 4) left ∙ drop-drop 4 at octets);
      within = omega (arith, long, size);
      end = sym (ap (λ k. k.end) back);
    }

zeros-left : (count : ℕ) (octets : List ℕ) (end : ℕ) (j : Input) → zeros_in count octets end ≡ Ok j → (length octets ≡ count + length j.octets) × (j.end ≡ end)
unfolding zeros_in
zeros-left zero octets end j e = let is = ok_is {E = XdrRefusal} (record { octets = octets; end = end }) j e in (let same = ap (λ (k : Input). length k.octets) is in omega (arith, same), sym (ap (λ k. k.end) is))
zeros-left (suc count) [] end j e = absurd cc
zeros-left (suc count) (octet ∷ octets) end j e =
    let r = refused_else (eqb octet 0) (refusal Padding (end - length (octet ∷ octets))) (zeros_in count octets end) j e in
    let more = zeros-left count octets end j r.1 in (let m = more.0 in omega (arith, m), more.1)

pub record OpaqueAt (octets : List ℕ) (at limit : ℕ) (i : Input) (v : List ℕ) (j : Input) : Type 0 where
  pub size : ℕ
  pub size_is : size ≡ word_of at octets
  pub low : size ≤ limit
  pub value : v ≡ take size (drop (at + 4) octets)
  pub all : length octets ≡ at + 4 + size + padding_length size + length j.octets
  pub end : j.end ≡ i.end

pub opaque-at : (octets : List ℕ) (at limit : ℕ) (i : Input) (v : List ℕ) (j : Input) → i.octets ≡ drop at octets → opaque_at limit i ≡ Ok (v, j) → OpaqueAt octets at limit i v j
unfolding opaque_at octets_at
opaque-at octets at limit i v j left e =
    let b = bind_ok (word_at i) _ (v, j) e in
    let t = word-at octets at i b.0.0 b.0.1 left b.1 in
    let r = refused_not (nat_lt limit b.0.0) (refusal TooLong (place i)) _ (v, j) b.2 in
    let c = bind_ok (octets_at b.0.0 b.0.1) _ (v, j) r.1 in
    let s = refused_not (nat_lt (length b.0.1.octets) b.0.0) (refusal Short b.0.1.end) (Ok (take b.0.0 b.0.1.octets, behind b.0.0 b.0.1)) c.0 c.1 in
    let first = ok_is {E = XdrRefusal} (take b.0.0 b.0.1.octets, behind b.0.0 b.0.1) c.0 s.1 in
    let d = bind_ok (zeros_in (padding_length b.0.0) c.0.1.octets c.0.1.end) _ (v, j) c.2 in
    let last = ok_is {E = XdrRefusal} (c.0.0, d.0) (v, j) d.2 in
    let z = zeros-left (padding_length b.0.0) c.0.1.octets c.0.1.end d.0 d.1 in
    let under : nat_lt limit b.0.0 ≡ false = r.0 in
    let enough : nat_lt (length b.0.1.octets) b.0.0 ≡ false = s.0 in
    let low : b.0.0 ≤ limit = grind (arith, nat_tests) in
    let long : b.0.0 ≤ length b.0.1.octets = grind (arith, nat_tests) in
    let size : length b.0.1.octets ≡ length octets - (at + 4) = ap length t.left ∙ length-drop (at + 4) octets in
    let cut : length c.0.1.octets ≡ length b.0.1.octets - b.0.0 = sym (ap (λ p. length p.1.octets) first) ∙ length-drop b.0.0 b.0.1.octets in
    let behind_it : length d.0.octets ≡ length j.octets = ap (λ p. length p.1.octets) last in
    let within = t.within in
    let zeros = z.0 in
    record {
      size = b.0.0;
      size_is = t.value;
      low = low;
      value = sym (ap (λ p. p.0) last) ∙ (sym (ap (λ p. p.0) first) ∙ ap (take b.0.0) t.left);
      all = omega (arith, long, size, cut, behind_it, within, zeros);
      end = sym (ap (λ p. p.1.end) last) ∙ (z.1 ∙ (sym (ap (λ p. p.1.end) first) ∙ t.end));
    }
