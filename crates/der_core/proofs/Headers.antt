-- The tag and the length of an element: what is read is spelled so, and what is spelled so is read.
use Rattle.std.proofs.Common.{◌≡◌, ℕ, ◌+◌, ◌-◌, ◌*◌, ◌/◌, ◌%◌, ◌^◌, ◌<◌, ◌≤◌, Bool, true, false, not, ◌&&◌, ◌||◌, ltb, leb, eqb, inl, inr, List, [], ◌∷◌, ◌++◌, length, take, drop, Ok, refl, sym, ap, subst, ◌∙◌, arith, append_assoc}
use Rattle.std.proofs.lemmas.Bool.{cases_lt, ltb-true, ltb-false, lt-ltb, le-ltb, le-leb, leb-true, eqb-true, eq-eqb, ne_eqb}
use Rattle.std.proofs.lemmas.List.{take-append-drop, length-take, take_at, drop_at, length-append}
use Rattle.der_core.specs.Format.{Input, begins, ◌>>=◌, AreOctets}
use Rattle.der_numbers.specs.Number.{natural_of, is_shortest_length}
use Rattle.der_core.specs.Header.{length_octets, tlv, long_length_at, length_from, length_at, header_at, tlv_at}
use Rattle.der_core.specs.Law.{Takes}
use Rattle.der_core.proofs.Steps.{bind_ok, refused_not, passed, chosen, ok_is, both, octets-take, octets-drop, octets-rest}

-- ---- the spelling of a long length, by its size

one_long : (n : ℕ) → 128 ≤ n → n < 256 → length_octets n ≡ 129 ∷ n ∷ []
unfolding length_octets
one_long n low high = rw (le-ltb n 128 low, lt-ltb n 256 high) refl

two_long : (n a b : ℕ) → n ≡ a * 256 + b → 0 < a → a < 256 → b < 256 → length_octets n ≡ 130 ∷ a ∷ b ∷ []
unfolding length_octets
two_long n a b is low la lb =
    let p : n / 256 ≡ a = omega arith in
    let q : n % 256 ≡ b = omega arith in
    rw (le-ltb n 128 (omega arith), le-ltb n 256 (omega arith), lt-ltb n 65536 (omega arith), p, q) refl

three_long : (n a b c : ℕ) → n ≡ (a * 256 + b) * 256 + c → 0 < a → a < 256 → b < 256 → c < 256 → length_octets n ≡ 131 ∷ a ∷ b ∷ c ∷ []
unfolding length_octets
three_long n a b c is low la lb lc =
    let p : n / 65536 ≡ a = omega arith in
    let q : n / 256 % 256 ≡ b = omega arith in
    let r : n % 256 ≡ c = omega arith in
    rw (le-ltb n 128 (omega arith), le-ltb n 256 (omega arith), le-ltb n 65536 (omega arith), lt-ltb n 16777216 (omega arith), p, q, r) refl

four_long : (n a b c d : ℕ) → n ≡ ((a * 256 + b) * 256 + c) * 256 + d → 0 < a → a < 256 → b < 256 → c < 256 → d < 256 → length_octets n ≡ 132 ∷ a ∷ b ∷ c ∷ d ∷ []
unfolding length_octets
four_long n a b c d is low la lb lc ld =
    let p : n / 16777216 ≡ a = omega arith in
    let q : n / 65536 % 256 ≡ b = omega arith in
    let r : n / 256 % 256 ≡ c = omega arith in
    let s : n % 256 ≡ d = omega arith in
    rw (le-ltb n 128 (omega arith), le-ltb n 256 (omega arith), le-ltb n 65536 (omega arith), le-ltb n 16777216 (omega arith), p, q, r, s) refl

record IsLong (octets : List ℕ) : Type 0 where
  spelling : length_octets (natural_of octets) ≡ (128 + length octets) ∷ octets
  small : natural_of octets < 2 ^ 32

begins_not : (a : ℕ) (os : List ℕ) → (not (begins 0 (a ∷ os)) && leb 128 (natural_of (a ∷ os))) ≡ true → 0 < a
begins_not a os e =
    let t = both (not (begins 0 (a ∷ os))) _ e in
    elim (cases_lt 0 a) [ inl lt ↦ lt | inr le ↦ (let z : a ≡ 0 = omega arith in let u = rw z at t.0 in absurd cc) ]

is_long : (os : List ℕ) → AreOctets os → length os ≤ 4 → is_shortest_length os ≡ true → IsLong os
is_long [] h small e = absurd cc
is_long (a ∷ []) h small e =
    let t = both (not (eqb a 0)) (leb 128 a) e in
    record { spelling = one_long a (leb-true 128 a t.1) (h.each 0); small = omega (arith, h.each 0) }
is_long (a ∷ b ∷ []) h small e =
    record { spelling = two_long _ a b refl (begins_not a (b ∷ []) e) (h.each 0) (h.each 1); small = omega (arith, h.each 0, h.each 1) }
is_long (a ∷ b ∷ c ∷ []) h small e =
    record { spelling = three_long _ a b c refl (begins_not a (b ∷ c ∷ []) e) (h.each 0) (h.each 1) (h.each 2); small = omega (arith, h.each 0, h.each 1, h.each 2) }
is_long (a ∷ b ∷ c ∷ d ∷ []) h small e =
    record { spelling = four_long _ a b c d refl (begins_not a (b ∷ c ∷ d ∷ []) e) (h.each 0) (h.each 1) (h.each 2) (h.each 3); small = omega (arith, h.each 0, h.each 1, h.each 2, h.each 3) }
is_long (a ∷ b ∷ c ∷ d ∷ x ∷ os) h small e = absurd (omega arith)

-- ---- lengths

long_takes : (at size : ℕ) (i : Input) (x : ℕ × Input) → AreOctets i.octets → size ≤ 4 → long_length_at at size i ≡ Ok x → ((128 + size) ∷ i.octets ≡ length_octets x.0 ++ x.1.octets) × (x.1.end ≡ i.end) × AreOctets x.1.octets × (x.0 < 2 ^ 32)
unfolding long_length_at
long_takes at size i x h small e =
    let g = refused_not (ltb (length i.octets) size) _ _ x e in
    let p = passed (is_shortest_length (take size i.octets)) _ _ x g.1 in
    let enough : size ≤ length i.octets = ltb-false _ _ g.0 in
    let sized : length (take size i.octets) ≡ size = omega (arith, length-take size i.octets) in
    let long = is_long (take size i.octets) (octets-take size i.octets h) (omega arith) p.0 in
    let is = ok_is (natural_of (take size i.octets), record { end = i.end; octets = drop size i.octets }) x p.1 in
    let spelled : length_octets (natural_of (take size i.octets)) ≡ (128 + size) ∷ take size i.octets = long.spelling ∙ ap (λ (n : ℕ). (128 + n) ∷ take size i.octets) sized in
    subst (λ (y : ℕ × Input). ((128 + size) ∷ i.octets ≡ length_octets y.0 ++ y.1.octets) × (y.1.end ≡ i.end) × AreOctets y.1.octets × (y.0 < 2 ^ 32)) is
    (rw spelled (ap (λ (os : List ℕ). (128 + size) ∷ os) (sym (take-append-drop size i.octets))), refl, octets-drop size i.octets h, long.small)

short_octets : (n : ℕ) → n < 128 → length_octets n ≡ n ∷ []
unfolding length_octets
short_octets n low = rw (lt-ltb n 128 low) refl

or_false : (a b : Bool) → (a || b) ≡ false → (a ≡ false) × (b ≡ false)
or_false true b e = absurd cc
or_false false b e = (refl, e)

length_from_takes : (at first end : ℕ) (rest : List ℕ) (x : ℕ × Input) → AreOctets rest → length_from at first (record { end = end; octets = rest }) ≡ Ok x → Takes (record { end = end; octets = first ∷ rest }) (length_octets x.0) x.1 × (x.0 < 2 ^ 32)
length_from_takes at first end rest x h e =
    elim (chosen (ltb first 128) _ _ (Ok x) e) [
      | inl s ↦
          let is = ok_is (first, record { end = end; octets = rest }) x s.1 in
          let low : first < 128 = ltb-true first 128 s.0 in
          subst (λ (y : ℕ × Input). Takes (record { end = end; octets = first ∷ rest }) (length_octets y.0) y.1 × (y.0 < 2 ^ 32)) is
          (record { parts = rw (short_octets first low) refl; end = refl; octets = h }, omega arith)
      | inr l ↦
          let g = refused_not (eqb first 128 || ltb 132 first) _ _ x l.1 in
          let o = or_false (eqb first 128) (ltb 132 first) g.0 in
          let high : first ≤ 132 = ltb-false _ _ o.1 in
          let low : 128 ≤ first = ltb-false _ _ l.0 in
          let t = long_takes at (first - 128) (record { end = end; octets = rest }) x h (omega arith) g.1 in
          let same : 128 + (first - 128) ≡ first = omega arith in
          (record { parts = rw same at t.0; end = t.1; octets = t.2 }, t.3)
    ]

length_of_takes : (end : ℕ) (os : List ℕ) (x : ℕ × Input) → AreOctets os → length_at (record { end = end; octets = os }) ≡ Ok x → Takes (record { end = end; octets = os }) (length_octets x.0) x.1 × (x.0 < 2 ^ 32)
unfolding length_at
length_of_takes end [] x h e = absurd cc
length_of_takes end (first ∷ rest) x h e = length_from_takes _ first end rest x (octets-rest first rest h) e

pub length_takes : (i : Input) (x : ℕ × Input) → AreOctets i.octets → length_at i ≡ Ok x → Takes i (length_octets x.0) x.1 × (x.0 < 2 ^ 32)
length_takes i x h e = length_of_takes i.end i.octets x h e

-- ---- what is spelled is read

-- a long length whose octets stand at the front
long_again : (at size end n : ℕ) (os rest : List ℕ) → length os ≡ size → is_shortest_length os ≡ true → natural_of os ≡ n → long_length_at at size (record { end = end; octets = os ++ rest }) ≡ Ok (n, record { end = end; octets = rest })
unfolding long_length_at
long_again at size end n os rest sized shortest is =
    rw (le-ltb (length (os ++ rest)) size (omega (arith, length-append os rest)), take_at os rest size sized, drop_at os rest size sized, shortest, is) refl

shortest : (a n : ℕ) (os : List ℕ) → natural_of (a ∷ os) ≡ n → 0 < a → 128 ≤ n → is_shortest_length (a ∷ os) ≡ true
shortest a n os is pos low = rw (ne_eqb a 0 (λ z. omega arith), is, le-leb 128 n low) refl

pub length_again : (end n : ℕ) (rest : List ℕ) → n < 2 ^ 32 → length_at (record { end = end; octets = length_octets n ++ rest }) ≡ Ok (n, record { end = end; octets = rest })
unfolding length_at
length_again end n rest small =
    elim (cases_lt n 128) [
      | inl a ↦ rw (short_octets n a, lt-ltb n 128 a) refl
      | inr a ↦ elim (cases_lt n 256) [
        | inl b ↦ rw (one_long n a b) (long_again _ 1 end n (n ∷ []) rest refl (shortest n n [] refl (omega arith) a) refl)
        | inr b ↦ elim (cases_lt n 65536) [
          | inl c ↦
              let is : n / 256 * 256 + n % 256 ≡ n = omega arith in
              rw (two_long n (n / 256) (n % 256) (sym is) (omega arith) (omega arith) (omega arith))
              (long_again _ 2 end n (n / 256 ∷ n % 256 ∷ []) rest refl (shortest (n / 256) n (n % 256 ∷ []) is (omega arith) a) is)
          | inr c ↦ elim (cases_lt n 16777216) [
            | inl d ↦
                let is : (n / 65536 * 256 + n / 256 % 256) * 256 + n % 256 ≡ n = omega arith in
                rw (three_long n (n / 65536) (n / 256 % 256) (n % 256) (sym is) (omega arith) (omega arith) (omega arith) (omega arith))
                (long_again _ 3 end n (n / 65536 ∷ n / 256 % 256 ∷ n % 256 ∷ []) rest refl (shortest (n / 65536) n (n / 256 % 256 ∷ n % 256 ∷ []) is (omega arith) a) is)
            | inr d ↦
                let is : ((n / 16777216 * 256 + n / 65536 % 256) * 256 + n / 256 % 256) * 256 + n % 256 ≡ n = omega arith in
                rw (four_long n (n / 16777216) (n / 65536 % 256) (n / 256 % 256) (n % 256) (sym is) (omega arith) (omega arith) (omega arith) (omega arith) (omega arith))
                (long_again _ 4 end n (n / 16777216 ∷ n / 65536 % 256 ∷ n / 256 % 256 ∷ n % 256 ∷ []) rest refl (shortest (n / 16777216) n (n / 65536 % 256 ∷ n / 256 % 256 ∷ n % 256 ∷ []) is (omega arith) a) is)
          ]
        ]
      ]
    ]

-- ---- elements

header_of_takes : (tag end : ℕ) (os : List ℕ) (x : ℕ × Input) → AreOctets os → header_at tag (record { end = end; octets = os }) ≡ Ok x → Takes (record { end = end; octets = os }) (tag ∷ length_octets x.0) x.1 × (x.0 < 2 ^ 32)
unfolding header_at
header_of_takes tag end [] x h e = absurd cc
header_of_takes tag end (first ∷ rest) x h e =
    let p = passed (eqb first tag) _ _ x e in
    let t = length_takes (record { end = end; octets = rest }) x (octets-rest first rest h) p.1 in
    let same : first ≡ tag = eqb-true first tag p.0 in
    (record { parts = rw (same, t.0.parts) refl; end = t.0.end; octets = t.0.octets }, t.1)

pub header_takes : (tag : ℕ) (i : Input) (x : ℕ × Input) → AreOctets i.octets → header_at tag i ≡ Ok x → Takes i (tag ∷ length_octets x.0) x.1 × (x.0 < 2 ^ 32)
header_takes tag i x h e = header_of_takes tag i.end i.octets x h e

pub header_again : (tag end n : ℕ) (rest : List ℕ) → n < 2 ^ 32 → header_at tag (record { end = end; octets = tag ∷ (length_octets n ++ rest) }) ≡ Ok (n, record { end = end; octets = rest })
unfolding header_at
header_again tag end n rest small = rw (eq-eqb tag tag refl) (length_again end n rest small)

-- what an element with a tag took: its content, and where that ends
pub tlv_takes : (tag : ℕ) (i : Input) (x : Input × Input) → AreOctets i.octets → tlv_at tag i ≡ Ok x → Takes i (tlv tag x.0.octets) x.1 × (length x.0.octets < 2 ^ 32) × AreOctets x.0.octets
unfolding tlv_at tlv
tlv_takes tag i x h e =
    let b = bind_ok (header_at tag i) _ x e in
    let t = header_takes tag i b.0 h b.1 in
    let g = refused_not (ltb (length b.0.1.octets) b.0.0) _ _ x b.2 in
    let enough : b.0.0 ≤ length b.0.1.octets = ltb-false _ _ g.0 in
    let sized : length (take b.0.0 b.0.1.octets) ≡ b.0.0 = omega (arith, length-take b.0.0 b.0.1.octets) in
    let is = ok_is (record { end = b.0.1.end - (length b.0.1.octets - b.0.0); octets = take b.0.0 b.0.1.octets }, record { end = b.0.1.end; octets = drop b.0.0 b.0.1.octets }) x g.1 in
    subst (λ (y : Input × Input). Takes i (tag ∷ (length_octets (length y.0.octets) ++ y.0.octets)) y.1 × (length y.0.octets < 2 ^ 32) × AreOctets y.0.octets) is (
      record {
        parts = rw sized (t.0.parts ∙ ap (λ (os : List ℕ). tag ∷ (length_octets b.0.0 ++ os)) (sym (take-append-drop b.0.0 b.0.1.octets)) ∙ ap (λ (os : List ℕ). tag ∷ os) (sym (append_assoc (length_octets b.0.0) (take b.0.0 b.0.1.octets) (drop b.0.0 b.0.1.octets))));
        end = t.0.end;
        octets = octets-drop b.0.0 b.0.1.octets t.0.octets;
      },
      rw sized t.1,
      octets-take b.0.0 b.0.1.octets t.0.octets,
    )

pub tlv_again : (tag end : ℕ) (content rest : List ℕ) → length content < 2 ^ 32 → tlv_at tag (record { end = end; octets = tlv tag content ++ rest }) ≡ Ok (record { end = end - length rest; octets = content }, record { end = end; octets = rest })
unfolding tlv_at tlv
tlv_again tag end content rest small =
    let total : length (content ++ rest) - length content ≡ length rest = omega (arith, length-append content rest) in
    rw (append_assoc (length_octets (length content)) content rest, header_again tag end (length content) (content ++ rest) small, le-ltb (length (content ++ rest)) (length content) (omega (arith, length-append content rest)), take_at content rest (length content) refl, drop_at content rest (length content) refl, total) refl
