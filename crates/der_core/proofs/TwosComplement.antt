-- INTEGER: what is read is spelled so, and what is spelled so is read.
use Rattle.std.proofs.Common.{◌≡◌, ℕ, zero, suc, get_or, ◌+◌, ◌-◌, ◌*◌, ◌/◌, ◌%◌, ◌<◌, ◌≤◌, true, false, not, ◌&&◌, ◌||◌, ltb, leb, eqb, inl, inr, List, [], ◌∷◌, length, ℤ, pos, negsuc, Ok, refl, sym, ap, subst, ◌∙◌, arith}
use Rattle.std.proofs.lemmas.Bool.{cases_lt, cases_Bool, ltb-true, ltb-false, lt-ltb, le-ltb, le-leb, lt-leb, leb-true, leb-false, eqb-false, or_parts, and_cases, not-true}
use Rattle.std.proofs.lemmas.Bool.Decides.{nat_tests}
use Rattle.der_core.specs.Format.{Input, ◌>>=◌, AreOctets}
use Rattle.der_numbers.specs.Number.{natural_of, flipped, is_negative}
use Rattle.der_core.specs.Integer.{least, signed_octets, signed_of, has_spare_octet, shortest_at, is_int32, int32_at, int32_content, is_natural, natural_at, natural_content}
use Rattle.der_core.specs.Law.{IsContent}
use Rattle.der_core.proofs.Steps.{bind_ok, refused_not, passed, ok_is, both, octets-take}

-- ---- the octets of a number, by their count

least_1 : (n : ℕ) → n < 128 → least n ≡ n ∷ []
unfolding least
least_1 n high = rw (lt-ltb n 128 high) refl

least_2 : (n a b : ℕ) → n ≡ a * 256 + b → 128 ≤ n → n < 32768 → b < 256 → least n ≡ a ∷ b ∷ []
unfolding least
least_2 n a b is low high lb =
    let p : n / 256 ≡ a = omega arith in
    let q : n % 256 ≡ b = omega arith in
    rw (le-ltb n 128 low, lt-ltb n 32768 high, p, q) refl

least_3 : (n a b c : ℕ) → n ≡ (a * 256 + b) * 256 + c → 32768 ≤ n → n < 8388608 → b < 256 → c < 256 → least n ≡ a ∷ b ∷ c ∷ []
unfolding least
least_3 n a b c is low high lb lc =
    let p : n / 65536 ≡ a = omega arith in
    let q : n / 256 % 256 ≡ b = omega arith in
    let r : n % 256 ≡ c = omega arith in
    rw (le-ltb n 128 (omega arith), le-ltb n 32768 low, lt-ltb n 8388608 high, p, q, r) refl

least_4 : (n a b c d : ℕ) → n ≡ ((a * 256 + b) * 256 + c) * 256 + d → 8388608 ≤ n → n < 2147483648 → b < 256 → c < 256 → d < 256 → least n ≡ a ∷ b ∷ c ∷ d ∷ []
unfolding least
least_4 n a b c d is low high lb lc ld =
    let p : n / 16777216 ≡ a = omega arith in
    let q : n / 65536 % 256 ≡ b = omega arith in
    let r : n / 256 % 256 ≡ c = omega arith in
    let s : n % 256 ≡ d = omega arith in
    rw (le-ltb n 128 (omega arith), le-ltb n 32768 (omega arith), le-ltb n 8388608 low, lt-ltb n 2147483648 high, p, q, r, s) refl

least_5 : (n a b c d e : ℕ) → n ≡ (((a * 256 + b) * 256 + c) * 256 + d) * 256 + e → 2147483648 ≤ n → b < 256 → c < 256 → d < 256 → e < 256 → least n ≡ a ∷ b ∷ c ∷ d ∷ e ∷ []
unfolding least
least_5 n a b c d e is low lb lc ld le =
    let p : n / 4294967296 ≡ a = omega arith in
    let q : n / 16777216 % 256 ≡ b = omega arith in
    let r : n / 65536 % 256 ≡ c = omega arith in
    let s : n / 256 % 256 ≡ d = omega arith in
    let t : n % 256 ≡ e = omega arith in
    rw (le-ltb n 128 (omega arith), le-ltb n 32768 (omega arith), le-ltb n 8388608 (omega arith), le-ltb n 2147483648 low, p, q, r, s, t) refl

-- the first two octets of a number that is not negative and has none to spare
no_spare : (a b : ℕ) (os : List ℕ) → has_spare_octet (a ∷ b ∷ os) ≡ false → is_negative (a ∷ b ∷ os) ≡ false → (128 ≤ a * 256 + b) × (a < 128)
no_spare a b os e positive =
    let low : a < 128 = leb-false 128 a positive in
    let t = or_parts (eqb a 0 && ltb b 128) (eqb a 255 && leb 128 b) e in
    elim (and_cases (eqb a 0) (ltb b 128) t.0) [
      | inl n ↦ (elim (cases_lt 0 a) [ inl some ↦ omega arith | inr none ↦ absurd (eqb-false a 0 n (omega arith)) ], low)
      | inr h ↦ (omega (arith, ltb-false b 128 h), low)
    ]

-- a number that is not negative, and its octets
pub least_of : (os : List ℕ) → AreOctets os → 1 ≤ length os → length os ≤ 5 → has_spare_octet os ≡ false → is_negative os ≡ false → least (natural_of os) ≡ os
least_of [] h some few spare positive = absurd (omega arith)
least_of (a ∷ []) h some few spare positive = least_1 a (leb-false 128 a positive)
least_of (a ∷ b ∷ []) h some few spare positive =
    let s = no_spare a b [] spare positive in
    let hb : b < 256 = h.each 1 in
    least_2 _ a b refl (omega arith) (omega arith) hb
least_of (a ∷ b ∷ c ∷ []) h some few spare positive =
    let s = no_spare a b (c ∷ []) spare positive in
    let hb : b < 256 = h.each 1 in
    let hc : c < 256 = h.each 2 in
    least_3 _ a b c refl (omega arith) (omega arith) hb hc
least_of (a ∷ b ∷ c ∷ d ∷ []) h some few spare positive =
    let s = no_spare a b (c ∷ d ∷ []) spare positive in
    let hb : b < 256 = h.each 1 in
    let hc : c < 256 = h.each 2 in
    let hd : d < 256 = h.each 3 in
    least_4 _ a b c d refl (omega arith) (omega arith) hb hc hd
least_of (a ∷ b ∷ c ∷ d ∷ e ∷ []) h some few spare positive =
    let s = no_spare a b (c ∷ d ∷ e ∷ []) spare positive in
    let hb : b < 256 = h.each 1 in
    let hc : c < 256 = h.each 2 in
    let hd : d < 256 = h.each 3 in
    let he : e < 256 = h.each 4 in
    least_5 _ a b c d e refl (omega arith) hb hc hd he
least_of (a ∷ b ∷ c ∷ d ∷ e ∷ f ∷ os) h some few spare positive = absurd (omega arith)

-- a number of at most four octets is below 2^31
below_2_31 : (os : List ℕ) → AreOctets os → length os ≤ 4 → is_negative os ≡ false → natural_of os < 2147483648
below_2_31 [] h few positive = omega arith
below_2_31 (a ∷ []) h few positive = omega (arith, leb-false 128 a positive)
below_2_31 (a ∷ b ∷ []) h few positive = omega (arith, leb-false 128 a positive, h.each 1)
below_2_31 (a ∷ b ∷ c ∷ []) h few positive = omega (arith, leb-false 128 a positive, h.each 1, h.each 2)
below_2_31 (a ∷ b ∷ c ∷ d ∷ []) h few positive = omega (arith, leb-false 128 a positive, h.each 1, h.each 2, h.each 3)
below_2_31 (a ∷ b ∷ c ∷ d ∷ e ∷ os) h few positive = absurd (omega arith)

-- ---- bits turned over

pub flipped_twice : (os : List ℕ) → AreOctets os → flipped (flipped os) ≡ os
flipped_twice [] h = refl
flipped_twice (o ∷ os) h =
    let low : o < 256 = h.each 0 in
    let same : 255 - (255 - o) ≡ o = omega arith in
    rw (same, flipped_twice os (record { each = λ k. h.each (suc k) })) refl

flipped-octets : (os : List ℕ) → AreOctets (flipped os)
flipped-octets os = record { each = each os }
  where
    each : (os : List ℕ) (k : ℕ) → get_or (flipped os) k 0 < 256
    each [] k = omega arith
    each (o ∷ os) zero = omega arith
    each (o ∷ os) (suc k) = each os k

flipped-length : (os : List ℕ) → length (flipped os) ≡ length os
flipped-length [] = refl
flipped-length (o ∷ os) = ap suc (flipped-length os)

flipped-negative : (o : ℕ) (os : List ℕ) → o < 256 → is_negative (flipped (o ∷ os)) ≡ not (is_negative (o ∷ os))
flipped-negative o os low =
    elim (cases_lt o 128) [
      | inl small ↦ rw (le-leb 128 (255 - o) (omega arith), lt-leb 128 o small) refl
      | inr large ↦ rw (lt-leb 128 (255 - o) (omega arith), le-leb 128 o large) refl
    ]

flipped-spare : (os : List ℕ) → AreOctets os → has_spare_octet os ≡ false → has_spare_octet (flipped os) ≡ false
flipped-spare [] h e = refl
flipped-spare (a ∷ []) h e = refl
flipped-spare (a ∷ b ∷ os) h e = spare a b (h.each 0) (h.each 1) e
  where
    spare : (a b : ℕ) → a < 256 → b < 256 → ((eqb a 0 && ltb b 128) || (eqb a 255 && leb 128 b)) ≡ false → ((eqb (255 - a) 0 && ltb (255 - b) 128) || (eqb (255 - a) 255 && leb 128 (255 - b))) ≡ false
    spare a b la lb e = grind (arith, nat_tests)

-- ---- numbers again

-- the octets of a number, and what they spell
pub record IsLeast (n : ℕ) (os : List ℕ) : Type 0 where
  pub some : (i : Input) → i.octets ≡ os → shortest_at i ≡ Ok os
  pub turned : (i : Input) → i.octets ≡ flipped os → shortest_at i ≡ Ok (flipped os)
  pub positive : is_negative os ≡ false
  pub negative : is_negative (flipped os) ≡ true
  pub value : natural_of os ≡ n
  pub octets : AreOctets os
  pub few : length os ≤ 5
  pub fewer : n < 2147483648 → length os ≤ 4

shortest_is : (i : Input) (o : ℕ) (os : List ℕ) → i.octets ≡ o ∷ os → has_spare_octet (o ∷ os) ≡ false → shortest_at i ≡ Ok (o ∷ os)
unfolding shortest_at
shortest_is i o os is spare = rw (is, spare) refl

are : (a b c d e : ℕ) → a < 256 → b < 256 → c < 256 → d < 256 → e < 256 → AreOctets (a ∷ b ∷ c ∷ d ∷ e ∷ [])
are a b c d e la lb lc ld le = record { each = each }
  where
    each : (k : ℕ) → get_or (a ∷ b ∷ c ∷ d ∷ e ∷ []) k 0 < 256
    each zero = la
    each (suc zero) = lb
    each (suc (suc zero)) = lc
    each (suc (suc (suc zero))) = ld
    each (suc (suc (suc (suc zero)))) = le
    each (suc (suc (suc (suc (suc k))))) = omega arith

-- the first of two octets makes them spell a number that one octet doesn't
spare_none : (a b : ℕ) (os : List ℕ) → 128 ≤ a * 256 + b → a < 128 → has_spare_octet (a ∷ b ∷ os) ≡ false
spare_none a b os low high = grind (arith, nat_tests)

is_least : (n o : ℕ) (os : List ℕ) → AreOctets (o ∷ os) → o < 128 → has_spare_octet (o ∷ os) ≡ false → natural_of (o ∷ os) ≡ n → length (o ∷ os) ≤ 5 → (n < 2147483648 → length (o ∷ os) ≤ 4) → IsLeast n (o ∷ os)
is_least n o os h low spare value few fewer =
    let positive : is_negative (o ∷ os) ≡ false = lt-leb 128 o low in
    record {
      some = λ i is. shortest_is i o os is spare;
      turned = λ i is. shortest_is i (255 - o) (flipped os) is (flipped-spare (o ∷ os) h spare);
      positive = positive;
      negative = le-leb 128 (255 - o) (omega arith);
      value = value;
      octets = h;
      few = few;
      fewer = fewer;
    }

pub least_again : (n : ℕ) → n < 549755813888 → IsLeast n (least n)
least_again n small =
    elim (cases_lt n 128) [
      | inl a ↦ rw (least_1 n a) (is_least n n [] (octets-take 1 _ (are n 0 0 0 0 (omega arith) (omega arith) (omega arith) (omega arith) (omega arith))) a refl refl (omega arith) (λ _. omega arith))
      | inr a ↦ elim (cases_lt n 32768) [
        | inl b ↦
            let is : n / 256 * 256 + n % 256 ≡ n = omega arith in
            rw (least_2 n (n / 256) (n % 256) (sym is) a b (omega arith))
            (is_least n (n / 256) (n % 256 ∷ []) (octets-take 2 _ (are (n / 256) (n % 256) 0 0 0 (omega arith) (omega arith) (omega arith) (omega arith) (omega arith))) (omega arith) (spare_none (n / 256) (n % 256) [] (omega arith) (omega arith)) is (omega arith) (λ _. omega arith))
        | inr b ↦ elim (cases_lt n 8388608) [
          | inl c ↦
              let is : (n / 65536 * 256 + n / 256 % 256) * 256 + n % 256 ≡ n = omega arith in
              rw (least_3 n (n / 65536) (n / 256 % 256) (n % 256) (sym is) b c (omega arith) (omega arith))
              (is_least n (n / 65536) (n / 256 % 256 ∷ n % 256 ∷ []) (octets-take 3 _ (are (n / 65536) (n / 256 % 256) (n % 256) 0 0 (omega arith) (omega arith) (omega arith) (omega arith) (omega arith))) (omega arith) (spare_none (n / 65536) (n / 256 % 256) (n % 256 ∷ []) (omega arith) (omega arith)) is (omega arith) (λ _. omega arith))
          | inr c ↦ elim (cases_lt n 2147483648) [
            | inl d ↦
                let is : ((n / 16777216 * 256 + n / 65536 % 256) * 256 + n / 256 % 256) * 256 + n % 256 ≡ n = omega arith in
                rw (least_4 n (n / 16777216) (n / 65536 % 256) (n / 256 % 256) (n % 256) (sym is) c d (omega arith) (omega arith) (omega arith))
                (is_least n (n / 16777216) (n / 65536 % 256 ∷ n / 256 % 256 ∷ n % 256 ∷ []) (octets-take 4 _ (are (n / 16777216) (n / 65536 % 256) (n / 256 % 256) (n % 256) 0 (omega arith) (omega arith) (omega arith) (omega arith) (omega arith))) (omega arith) (spare_none (n / 16777216) (n / 65536 % 256) (n / 256 % 256 ∷ n % 256 ∷ []) (omega arith) (omega arith)) is (omega arith) (λ _. omega arith))
            | inr d ↦
                let is : (((n / 4294967296 * 256 + n / 16777216 % 256) * 256 + n / 65536 % 256) * 256 + n / 256 % 256) * 256 + n % 256 ≡ n = omega arith in
                rw (least_5 n (n / 4294967296) (n / 16777216 % 256) (n / 65536 % 256) (n / 256 % 256) (n % 256) (sym is) d (omega arith) (omega arith) (omega arith) (omega arith))
                (is_least n (n / 4294967296) (n / 16777216 % 256 ∷ n / 65536 % 256 ∷ n / 256 % 256 ∷ n % 256 ∷ []) (are (n / 4294967296) (n / 16777216 % 256) (n / 65536 % 256) (n / 256 % 256) (n % 256) (omega arith) (omega arith) (omega arith) (omega arith) (omega arith)) (omega arith) (spare_none (n / 4294967296) (n / 16777216 % 256) (n / 65536 % 256 ∷ n / 256 % 256 ∷ n % 256 ∷ []) (omega arith) (omega arith)) is (omega arith) (λ s. absurd (omega (arith, s, d))))
          ]
        ]
      ]
    ]

-- ---- the laws

-- the content of an INTEGER that was not refused
shortest_takes : (end : ℕ) (os x : List ℕ) → shortest_at (record { end = end; octets = os }) ≡ Ok x → (os ≡ x) × (1 ≤ length x) × (has_spare_octet x ≡ false)
unfolding shortest_at
shortest_takes end [] x e = absurd cc
shortest_takes end (o ∷ os) x e =
    let g = refused_not (has_spare_octet (o ∷ os)) _ _ x e in
    let is = ok_is (o ∷ os) x g.1 in
    subst (λ (y : List ℕ). (o ∷ os ≡ y) × (1 ≤ length y) × (has_spare_octet y ≡ false)) is (refl, omega arith, g.0)

signed_takes : (os : List ℕ) → AreOctets os → 1 ≤ length os → has_spare_octet os ≡ false → length os ≤ 4 → (os ≡ signed_octets (signed_of os)) × (is_int32 (signed_of os) ≡ true)
signed_takes [] h some spare few = absurd (omega arith)
signed_takes (o ∷ os) h some spare few =
    elim (cases_Bool (is_negative (o ∷ os))) [
      | inl n ↦
          let positive : is_negative (flipped (o ∷ os)) ≡ false = flipped-negative o os (h.each 0) ∙ ap not n in
          let sized = flipped-length (o ∷ os) in
          let turned = flipped-octets (o ∷ os) in
          let spelled = least_of (flipped (o ∷ os)) turned (omega arith) (omega arith) (flipped-spare (o ∷ os) h spare) positive in
          let small = below_2_31 (flipped (o ∷ os)) turned (omega arith) positive in
          let is : signed_of (o ∷ os) ≡ negsuc (natural_of (flipped (o ∷ os))) = rw n refl in
          rw is (sym (ap flipped spelled ∙ flipped_twice (o ∷ os) h), lt-ltb _ _ small)
      | inr p ↦
          let spelled = least_of (o ∷ os) h some (omega arith) spare p in
          let small = below_2_31 (o ∷ os) h few p in
          let is : signed_of (o ∷ os) ≡ pos (natural_of (o ∷ os)) = rw p refl in
          rw is (sym spelled, lt-ltb _ _ small)
    ]

pub int32_content_law : IsContent int32_content
unfolding int32_at
int32_content_law = record {
  takes = λ i v h e.
      let b = bind_ok (shortest_at i) _ v e in
      let s = shortest_takes i.end i.octets b.0 b.1 in
      let g = passed (leb (length b.0) 4) _ _ v b.2 in
      let t = signed_takes b.0 (subst AreOctets s.0 h) s.1 s.2 (leb-true _ 4 g.0) in
      let is = ok_is (signed_of b.0) v g.1 in
      subst (λ (w : ℤ). (i.octets ≡ signed_octets w) × (is_int32 w ≡ true)) is (s.0 ∙ t.0, t.1);
  again = signed_again;
}
  where
    signed_again : (end : ℕ) (v : ℤ) → is_int32 v ≡ true → int32_at (record { end = end; octets = signed_octets v }) ≡ Ok v
    signed_again end (pos n) fits =
        let small : n < 2147483648 = ltb-true _ _ fits in
        let l = least_again n (omega arith) in
        rw (l.some (record { end = end; octets = least n }) refl, le-leb _ 4 (l.fewer small), l.positive, l.value) refl
    signed_again end (negsuc n) fits =
        let small : n < 2147483648 = ltb-true _ _ fits in
        let l = least_again n (omega arith) in
        rw (l.turned (record { end = end; octets = flipped (least n) }) refl, flipped-length (least n), le-leb _ 4 (l.fewer small), l.negative, flipped_twice (least n) l.octets, l.value) refl

pub natural_content_law : (low high : ℕ) → high < 549755813888 → IsContent (natural_content low high)
unfolding natural_at
natural_content_law low high small = record {
  takes = λ i v h e.
      let b = bind_ok (shortest_at i) _ v e in
      let s = shortest_takes i.end i.octets b.0 b.1 in
      let g = passed (is_natural low high b.0) _ _ v b.2 in
      let t = both (leb (length b.0) 5) _ g.0 in
      let u = both (not (is_negative b.0)) _ t.1 in
      let spelled = least_of b.0 (subst AreOctets s.0 h) s.1 (leb-true _ 5 t.0) s.2 (not-true _ u.0) in
      let is = ok_is (natural_of b.0) v g.1 in
      subst (λ (w : ℕ). (i.octets ≡ least w) × ((leb low w && leb w high) ≡ true)) is (s.0 ∙ sym spelled, u.1);
  again = λ end v fits.
      let t = both (leb low v) (leb v high) fits in
      let most : v ≤ high = leb-true v high t.1 in
      let l = least_again v (omega arith) in
      rw (l.some (record { end = end; octets = least v }) refl, le-leb _ 5 l.few, l.positive, l.value, t.0, t.1) refl;
}
