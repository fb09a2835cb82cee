-- What base64 is read octet by octet is the base64 of what it decodes to.
use Rattle.std.proofs.Common.{◌≡◌, ℕ, zero, suc, ◌+◌, ◌-◌, ◌*◌, ◌/◌, ◌%◌, ◌<◌, ◌≤◌, inl, inr, true, false, List, [], ◌∷◌, length, Some, refl, sym, ◌∙◌, arith, subst}
use Rattle.std.proofs.lemmas.Grind.{common_steps}
use Rattle.base64.specs.Rfc4648.{encode_symbols}
use Rattle.base64.specs.GeneralPurpose.{IsBytes}
use Rattle.scram_mech.specs.declared.symbols.Spot.TheVariants.{First, Second, Third, Fourth, Padding, Full}
use Rattle.scram_mech.specs.declared.symbols.Symbols.{Symbols}
use Rattle.scram_mech.specs.Signs.{sextet_of}
use Rattle.scram_mech.specs.Symbols.{symbols_step, symbols_end}
use Rattle.scram_mech.specs.Base64.{encoded, bits, decoded}
use Rattle.scram_mech.proofs.Walks.{walk, walk-cons, walk-nil}
use Rattle.scram_mech.proofs.Sextets.{sign, sextet-sign, not_equals, eq_of}
use Rattle.scram_mech.proofs.SymbolSteps.{st, first-step, second-step, third-step, fourth-step, padding-step, full-step}

-- the signs of octets, group by group
unfoldable pub signs : List ℕ → List ℕ
signs [] = []
signs (a ∷ []) = sign (a / 4) ∷ sign (a % 4 * 16) ∷ 61 ∷ 61 ∷ []
signs (a ∷ b ∷ []) = sign (a / 4) ∷ sign (a % 4 * 16 + b / 16) ∷ sign (b % 16 * 4) ∷ 61 ∷ []
signs (a ∷ b ∷ c ∷ octets) = sign (a / 4) ∷ sign (a % 4 * 16 + b / 16) ∷ sign (b % 16 * 4 + c / 64) ∷ sign (c % 64) ∷ signs octets

pub encoded-signs : (octets : List ℕ) → encoded octets ≡ signs octets
unfolding encoded encode_symbols signs
encoded-signs [] = refl
encoded-signs (a ∷ []) = refl
encoded-signs (a ∷ b ∷ []) = refl
encoded-signs (a ∷ b ∷ c ∷ octets) =
    let more : (3 - (length octets + 3) % 3) % 3 ≡ (3 - length octets % 3) % 3 = omega arith in
    let others = encoded-signs octets in
    grind (arith, common_steps)

-- ---- lists of octets

pub bytes-nil : IsBytes []
bytes-nil i = omega arith

pub bytes-cons : (x : ℕ) (xs : List ℕ) → x < 256 → IsBytes xs → IsBytes (x ∷ xs)
bytes-cons x xs lt h zero = lt
bytes-cons x xs lt h (suc i) = h i

-- what some signs of base64 are
pub record Decodes (need left : ℕ) (octets : List ℕ) : Type 0 where
  pub spelled : octets ≡ signs (decoded octets)
  pub bytes : IsBytes (decoded octets)
  pub enough : need ≤ length (decoded octets)
  pub few : length (decoded octets) ≤ left

bits_is : (x v : ℕ) → sextet_of x ≡ Some v → bits x ≡ v
bits_is x v e = rw e refl

-- the group of two signs and two `=`
one_decoded : (a b va vb : ℕ) → sextet_of a ≡ Some va → sextet_of b ≡ Some vb → decoded (a ∷ b ∷ 61 ∷ 61 ∷ []) ≡ (va * 4 + vb / 16) ∷ []
unfolding decoded
one_decoded a b va vb ea eb = rw (ea, eb) refl

two_decoded : (a b c va vb vc : ℕ) → sextet_of a ≡ Some va → sextet_of b ≡ Some vb → sextet_of c ≡ Some vc → decoded (a ∷ b ∷ c ∷ 61 ∷ []) ≡ (va * 4 + vb / 16) ∷ (vb % 16 * 16 + vc / 4) ∷ []
unfolding decoded
two_decoded a b c va vb vc ea eb ec = rw (not_equals c vc ec, ea, eb, ec) refl

three_decoded : (a b c d va vb vc vd : ℕ) (rest : List ℕ) → sextet_of a ≡ Some va → sextet_of b ≡ Some vb → sextet_of c ≡ Some vc → sextet_of d ≡ Some vd
    → decoded (a ∷ b ∷ c ∷ d ∷ rest) ≡ (va * 4 + vb / 16) ∷ (vb % 16 * 16 + vc / 4) ∷ (vc % 4 * 64 + vd) ∷ decoded rest
unfolding decoded
three_decoded a b c d va vb vc vd rest ea eb ec ed = rw (not_equals c vc ec, not_equals d vd ed, ea, eb, ec, ed) refl

sign_at : (x v k : ℕ) → sextet_of x ≡ Some v → k ≡ v → x ≡ sign k
sign_at x v k e same = rw same (sym (sextet-sign x v e).1)

low : (x v : ℕ) → sextet_of x ≡ Some v → v < 64
low x v e = (sextet-sign x v e).0

decodes-one : (a b va vb need left : ℕ) → sextet_of a ≡ Some va → sextet_of b ≡ Some vb → vb % 16 ≡ 0 → need ≤ 1 → 1 ≤ left → Decodes need left (a ∷ b ∷ 61 ∷ 61 ∷ [])
unfolding signs
decodes-one a b va vb need left ea eb whole enough room =
    let e = one_decoded a b va vb ea eb in
    let la = low a va ea in
    let lb = low b vb eb in
    let x = va * 4 + vb / 16 in
    let sa = sign_at a va (x / 4) ea (omega arith) in
    let sb = sign_at b vb (x % 4 * 16) eb (omega arith) in
    record {
      spelled = rw (e, ← sa, ← sb) refl;
      bytes = rw e (bytes-cons x [] (omega arith) bytes-nil);
      enough = rw e enough;
      few = rw e room;
    }

decodes-two : (a b c va vb vc need left : ℕ) → sextet_of a ≡ Some va → sextet_of b ≡ Some vb → sextet_of c ≡ Some vc → vc % 4 ≡ 0 → need ≤ 2 → 2 ≤ left → Decodes need left (a ∷ b ∷ c ∷ 61 ∷ [])
unfolding signs
decodes-two a b c va vb vc need left ea eb ec whole enough room =
    let e = two_decoded a b c va vb vc ea eb ec in
    let la = low a va ea in
    let lb = low b vb eb in
    let lc = low c vc ec in
    let x = va * 4 + vb / 16 in
    let y = vb % 16 * 16 + vc / 4 in
    let sa = sign_at a va (x / 4) ea (omega arith) in
    let sb = sign_at b vb (x % 4 * 16 + y / 16) eb (omega arith) in
    let sc = sign_at c vc (y % 16 * 4) ec (omega arith) in
    record {
      spelled = rw (e, ← sa, ← sb, ← sc) refl;
      bytes = rw e (bytes-cons x (y ∷ []) (omega arith) (bytes-cons y [] (omega arith) bytes-nil));
      enough = rw e enough;
      few = rw e room;
    }

decodes-three : (a b c d va vb vc vd need left : ℕ) (rest : List ℕ) → sextet_of a ≡ Some va → sextet_of b ≡ Some vb → sextet_of c ≡ Some vc → sextet_of d ≡ Some vd → 3 ≤ left
    → Decodes (need - 3) (left - 3) rest → Decodes need left (a ∷ b ∷ c ∷ d ∷ rest)
unfolding signs
decodes-three a b c d va vb vc vd need left rest ea eb ec ed room others =
    let e = three_decoded a b c d va vb vc vd rest ea eb ec ed in
    let la = low a va ea in
    let lb = low b vb eb in
    let lc = low c vc ec in
    let ld = low d vd ed in
    let x = va * 4 + vb / 16 in
    let y = vb % 16 * 16 + vc / 4 in
    let z = vc % 4 * 64 + vd in
    let sa = sign_at a va (x / 4) ea (omega arith) in
    let sb = sign_at b vb (x % 4 * 16 + y / 16) eb (omega arith) in
    let sc = sign_at c vc (y % 16 * 4 + z / 64) ec (omega arith) in
    let sd = sign_at d vd (z % 64) ed (omega arith) in
    record {
      spelled = rw (e, ← sa, ← sb, ← sc, ← sd, ← others.spelled) refl;
      bytes = rw e (bytes-cons x (y ∷ z ∷ decoded rest) (omega arith) (bytes-cons y (z ∷ decoded rest) (omega arith) (bytes-cons z (decoded rest) (omega arith) others.bytes)));
      enough = rw e (omega (arith, others.enough));
      few = rw e (omega (arith, others.few));
    }

-- ---- the walk

ended_spot : (s end : Symbols) → s ≡ end → symbols_end s ≡ false → symbols_end end ≡ true → ⊥
ended_spot s end e f t = let g : symbols_end s ≡ true = subst (λ (y : Symbols). symbols_end y ≡ true) (sym e) t in false_not (sym f ∙ g)
  where
    false_not : false ≡ true → ⊥
    false_not h = cc

after_full : (need left : ℕ) (rest : List ℕ) (end : Symbols) → walk symbols_step (st Full need left) rest ≡ Some end → rest ≡ []
after_full need left [] end w = refl
after_full need left (x ∷ xs) end w = let m = walk-cons symbols_step (st Full need left) x xs end w in absurd (full-step need left x m.0 m.1)

zero_need : (need left : ℕ) (end : Symbols) → st First need left ≡ end → symbols_end end ≡ true → need ≡ 0
zero_need need left end e t = eq_of need 0 (subst (λ (y : Symbols). symbols_end y ≡ true) (sym e) t)

pub decodes : (need left : ℕ) (octets : List ℕ) (end : Symbols) → walk symbols_step (st First need left) octets ≡ Some end → symbols_end end ≡ true → Decodes need left octets
unfolding signs decoded
decodes need left [] end w t =
    let none = zero_need need left end (walk-nil symbols_step (st First need left) end w) t in
    record { spelled = refl; bytes = bytes-nil; enough = omega arith; few = omega arith }
decodes need left (a ∷ []) end w t =
    let m = walk-cons symbols_step (st First need left) a [] end w in
    let one = first-step need left a m.0 m.1 in
    absurd (ended_spot (st Second need left) end (one.next ∙ walk-nil symbols_step m.0 end m.2) refl t)
decodes need left (a ∷ b ∷ []) end w t =
    let m = walk-cons symbols_step (st First need left) a (b ∷ []) end w in
    let one = first-step need left a m.0 m.1 in
    let n = walk-cons symbols_step (st Second need left) b [] end (rw one.next m.2) in
    let two = second-step need left b n.0 n.1 in
    absurd (ended_spot (st (Third two.bits) need left) end (two.next ∙ walk-nil symbols_step n.0 end n.2) refl t)
decodes need left (a ∷ b ∷ c ∷ []) end w t =
    let m = walk-cons symbols_step (st First need left) a (b ∷ c ∷ []) end w in
    let one = first-step need left a m.0 m.1 in
    let n = walk-cons symbols_step (st Second need left) b (c ∷ []) end (rw one.next m.2) in
    let two = second-step need left b n.0 n.1 in
    let k = walk-cons symbols_step (st (Third two.bits) need left) c [] end (rw two.next n.2) in
    elim (third-step two.bits need left c k.0 k.1) [
      | inl pad ↦ absurd (ended_spot (st Padding need left) end (pad.next ∙ walk-nil symbols_step k.0 end k.2) refl t)
      | inr three ↦ absurd (ended_spot (st (Fourth three.bits) need left) end (three.next ∙ walk-nil symbols_step k.0 end k.2) refl t)
    ]
decodes need left (a ∷ b ∷ c ∷ d ∷ rest) end w t =
    let m = walk-cons symbols_step (st First need left) a (b ∷ c ∷ d ∷ rest) end w in
    let one = first-step need left a m.0 m.1 in
    let n = walk-cons symbols_step (st Second need left) b (c ∷ d ∷ rest) end (rw one.next m.2) in
    let two = second-step need left b n.0 n.1 in
    let k = walk-cons symbols_step (st (Third two.bits) need left) c (d ∷ rest) end (rw two.next n.2) in
    let others : (end' : Symbols) → walk symbols_step (st First (need - 3) (left - 3)) rest ≡ Some end' → symbols_end end' ≡ true → Decodes (need - 3) (left - 3) rest = decodes (need - 3) (left - 3) rest in
    elim (third-step two.bits need left c k.0 k.1) [
      | inl pad ↦
          let l = walk-cons symbols_step (st Padding need left) d rest end (rw pad.next k.2) in
          let last = padding-step need left d l.0 l.1 in
          let none : rest ≡ [] = after_full need left rest end (rw last.1 l.2) in
          rw (pad.equals, last.0, none) (decodes-one a b one.bits two.bits need left one.sign two.sign pad.whole pad.enough one.room)
      | inr three ↦
          let l = walk-cons symbols_step (st (Fourth three.bits) need left) d rest end (rw three.next k.2) in
          elim (fourth-step three.bits need left d l.0 l.1) [
            | inl pad ↦
                let none : rest ≡ [] = after_full need left rest end (rw pad.next l.2) in
                rw (pad.equals, none) (decodes-two a b c one.bits two.bits three.bits need left one.sign two.sign three.sign pad.whole pad.enough three.room)
            | inr four ↦
                decodes-three a b c d one.bits two.bits three.bits four.bits need left rest one.sign two.sign three.sign four.sign four.room (others end (rw four.next l.2) t)
          ]
    ]
