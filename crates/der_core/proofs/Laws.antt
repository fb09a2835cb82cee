-- The laws of the ways to make a format of formats.
use Rattle.std.proofs.Common.{◌≡◌, ℕ, zero, suc, ◌+◌, ◌-◌, ◌^◌, ◌<◌, ◌≤◌, Bool, true, false, ◌&&◌, ltb, inl, inr, List, [], ◌∷◌, ◌++◌, length, take, Option, Some, None, Result, Ok, Err, is_ok, get_or, refl, sym, ap, subst, ◌∙◌, arith}
use Rattle.std.proofs.lemmas.Bool.{ltb-true, lt-ltb, ne_eqb, and_from, eq-eqb}
use Rattle.std.proofs.lemmas.List.{length-append, take_at, append-nil}
use Rattle.der_core.specs.declared.refusal.DerRefusal.{DerRefusal}
use Rattle.der_core.specs.Format.{Input, Format, Content, all_of, begins, ◌>>=◌, AreOctets}
use Rattle.der_core.specs.Header.{tlv, tlv_at, end_at}
use Rattle.der_core.specs.Element.{element, whole, explicit, plain, guarded, kept, are_octets}
use Rattle.der_core.specs.Fields.{done, with_known, with_field, optional_at, optional_spelling, optional_fits, with_optional_known, with_optional, seen, many_step, many_of, many_spelling, many_fit, many, list_of}
use Rattle.der_core.specs.Law.{Takes, IsFormat, IsContent, HasTag, IsFrom}
use Rattle.der_core.proofs.Steps.{bind_ok, passed, chosen, ok_is, both, octets-take}
use Rattle.der_core.proofs.Headers.{tlv_takes, tlv_again}

-- ---- elements

pub element_law : {A : Type 0} (tag : ℕ) (c : Content A) → IsContent c → IsFormat (element tag c)
element_law tag c law = record {
  takes = λ i x bytes e.
      let a = bind_ok (tlv_at tag i) _ x e in
      let t = tlv_takes tag i a.0 bytes a.1 in
      let b = bind_ok (c.read a.0.0) _ x a.2 in
      let u = law.takes a.0.0 b.0 t.2 b.1 in
      let small : ltb (length (c.spell b.0)) (2 ^ 32) ≡ true = lt-ltb _ _ (omega (arith, t.1, ap length u.0)) in
      let fits : (c.fits b.0 && ltb (length (c.spell b.0)) (2 ^ 32)) ≡ true = rw (u.1, small) refl in
      let took : Takes i (tlv tag (c.spell b.0)) a.0.1 = subst (λ (o : List ℕ). Takes i (tlv tag o) a.0.1) u.0 t.0 in
      subst (λ (y : _). Takes i (tlv tag (c.spell y.0)) y.1 × ((c.fits y.0 && ltb (length (c.spell y.0)) (2 ^ 32)) ≡ true)) (ok_is (b.0, a.0.1) x b.2) (took, fits);
  again = λ end v rest fits.
      let two = both (c.fits v) (ltb (length (c.spell v)) (2 ^ 32)) fits in
      rw (tlv_again tag end (c.spell v) rest (ltb-true _ _ two.1), law.again (end - length rest) v two.0) refl;
}

pub element_tag : {A : Type 0} (tag : ℕ) (c : Content A) → HasTag tag (element tag c)
unfolding tlv
element_tag tag c = record { begins_so = λ v. (_, refl) }

end_of_takes : (end : ℕ) (os : List ℕ) (x : Unit {0}) → end_at (record { end = end; octets = os }) ≡ Ok x → os ≡ []
unfolding end_at
end_of_takes end [] x e = refl
end_of_takes end (o ∷ os) x e = absurd cc

-- nothing is left where the end is
end_takes : (i : Input) (x : Unit {0}) → end_at i ≡ Ok x → i.octets ≡ []
end_takes i x e = end_of_takes i.end i.octets x e

end_again : (end : ℕ) → end_at (record { end = end; octets = [] }) ≡ Ok tt
unfolding end_at
end_again end = refl

pub whole_law : {A : Type 0} (f : Format A) → IsFormat f → IsContent (whole f)
whole_law f law = record {
  takes = λ i v bytes e.
      let a = bind_ok (f.read i) _ v e in
      let t = law.takes i a.0 bytes a.1 in
      let b = bind_ok (end_at a.0.1) _ v a.2 in
      let nothing = end_takes a.0.1 b.0 b.1 in
      let parts : i.octets ≡ f.spell a.0.0 = t.0.parts ∙ ap (λ (os : List ℕ). f.spell a.0.0 ++ os) nothing ∙ append-nil (f.spell a.0.0) in
      subst (λ (w : _). (i.octets ≡ f.spell w) × (f.fits w ≡ true)) (ok_is a.0.0 v b.2) (parts, t.1);
  again = λ end v fits.
      let read = law.again end v [] fits in
      let same : f.spell v ++ [] ≡ f.spell v = append-nil (f.spell v) in
      let at : f.read (record { end = end; octets = f.spell v }) ≡ Ok (v, record { end = end; octets = [] }) = subst (λ (os : List ℕ). f.read (record { end = end; octets = os }) ≡ Ok (v, record { end = end; octets = [] })) same read in
      rw (at, end_again end) refl;
}

pub explicit_law : {A : Type 0} (tag : ℕ) (f : Format A) → IsFormat f → IsFormat (explicit tag f)
explicit_law tag f law = element_law tag (whole f) (whole_law f law)

pub explicit_tag : {A : Type 0} (tag : ℕ) (f : Format A) → HasTag tag (explicit tag f)
explicit_tag tag f = element_tag tag (whole f)

pub plain_law : (test : List ℕ → Bool) → IsContent (plain test)
plain_law test = record {
  takes = λ i v bytes e.
      let p = passed (test i.octets) _ _ v e in
      subst (λ (w : List ℕ). (i.octets ≡ w) × (test w ≡ true)) (ok_is i.octets v p.1) (refl, p.0);
  again = λ end v fits. rw fits refl;
}

pub guarded_law : {A : Type 0} (test : A → Bool) (f : Format A) → IsFormat f → IsFormat (guarded test f)
guarded_law test f law = record {
  takes = λ i x bytes e.
      let a = bind_ok (f.read i) _ x e in
      let t = law.takes i a.0 bytes a.1 in
      let p = passed (test a.0.0) _ _ x a.2 in
      subst (λ (y : _). Takes i (f.spell y.0) y.1 × ((f.fits y.0 && test y.0) ≡ true)) (ok_is a.0 x p.1) (t.0, and_from _ _ t.1 p.0);
  again = λ end v rest fits.
      let two = both (f.fits v) (test v) fits in
      rw (law.again end v rest two.0, two.1) refl;
}

pub guarded_tag : {A : Type 0} (tag : ℕ) (test : A → Bool) (f : Format A) → HasTag tag f → HasTag tag (guarded test f)
guarded_tag tag test f has = record { begins_so = has.begins_so }

-- ---- octets kept as they stand

are_octets-AreOctets : (os : List ℕ) → are_octets os ≡ true → AreOctets os
are_octets-AreOctets os e = record { each = each os e }
  where
    each : (os : List ℕ) → are_octets os ≡ true → (k : ℕ) → get_or os k 0 < 256
    each [] e k = omega arith
    each (o ∷ os) e zero = ltb-true o 256 (both (ltb o 256) (are_octets os) e).0
    each (o ∷ os) e (suc k) = each os (both (ltb o 256) (are_octets os) e).1 k

AreOctets-are_octets : (os : List ℕ) → AreOctets os → are_octets os ≡ true
AreOctets-are_octets [] h = refl
AreOctets-are_octets (o ∷ os) h = and_from _ _ (lt-ltb o 256 (h.each 0)) (AreOctets-are_octets os (record { each = λ k. h.each (suc k) }))

is_ok-value : {A : Type 0} (r : Result A DerRefusal) → is_ok r ≡ true → (x : A) × (r ≡ Ok x)
is_ok-value (Ok x) e = (x, refl)
is_ok-value (Err d) e = absurd cc

octets-front : (p q : List ℕ) → AreOctets (p ++ q) → AreOctets p
octets-front p q h = subst AreOctets (take_at p q (length p) refl) (octets-take (length p) (p ++ q) h)

front_is : (os p q : List ℕ) (n : ℕ) → os ≡ p ++ q → n ≡ length p → take n os ≡ p
front_is os p q n same sized = rw (sized, same) (take_at p q (length p) refl)

pub kept_law : {A : Type 0} (f : Format A) → IsFormat f → IsFormat (kept f)
kept_law f law = record {
  takes = λ i x bytes e.
      let a = bind_ok (f.read i) _ x e in
      let t = law.takes i a.0 bytes a.1 in
      let count : length i.octets - length a.0.1.octets ≡ length (f.spell a.0.0) = omega (arith, ap length t.0.parts, length-append (f.spell a.0.0) a.0.1.octets) in
      let front : take (length i.octets - length a.0.1.octets) i.octets ≡ f.spell a.0.0 = front_is i.octets (f.spell a.0.0) a.0.1.octets _ t.0.parts count in
      let octets : AreOctets (f.spell a.0.0) = octets-front (f.spell a.0.0) a.0.1.octets (subst AreOctets t.0.parts bytes) in
      let read : is_ok ((whole f).read (all_of (f.spell a.0.0))) ≡ true = ap is_ok ((whole_law f law).again (length (f.spell a.0.0)) a.0.0 t.1) in
      let fits : (are_octets (f.spell a.0.0) && is_ok ((whole f).read (all_of (f.spell a.0.0)))) ≡ true = and_from _ _ (AreOctets-are_octets (f.spell a.0.0) octets) read in
      subst (λ (y : List ℕ × Input). Takes i y.0 y.1 × ((are_octets y.0 && is_ok ((whole f).read (all_of y.0))) ≡ true)) (ok_is (take (length i.octets - length a.0.1.octets) i.octets, a.0.1) x a.2)
      (rw front (t.0, fits));
  again = λ end v rest fits.
      let two = both (are_octets v) (is_ok ((whole f).read (all_of v))) fits in
      let r = is_ok-value ((whole f).read (all_of v)) two.1 in
      let t = (whole_law f law).takes (all_of v) r.0 (are_octets-AreOctets v two.0) r.1 in
      let read : f.read (record { end = end; octets = v ++ rest }) ≡ Ok (r.0, record { end = end; octets = rest }) = subst (λ (os : List ℕ). f.read (record { end = end; octets = os ++ rest }) ≡ Ok (r.0, record { end = end; octets = rest })) (sym t.0) (law.again end r.0 rest t.1) in
      let count : length (v ++ rest) - length rest ≡ length v = omega (arith, length-append v rest) in
      rw (read, count, take_at v rest (length v) refl) refl;
}

-- ---- fields

pub done_law : IsContent done
done_law = record {
  takes = λ i v bytes e. (end_takes i v e, refl);
  again = λ end v fits. end_again end;
}

pub done_from : (low : ℕ) → IsFrom low done
done_from low = record { later = λ v tag lt. refl }

pub known_law : {A B : Type 0} (f : Format A) (c : A → Content B) → IsFormat f → ((v : A) → IsContent (c v)) → IsContent (with_known f c)
known_law f c law laws = record {
  takes = λ i v bytes e.
      let a = bind_ok (f.read i) _ v e in
      let t = law.takes i a.0 bytes a.1 in
      let b = bind_ok ((c a.0.0).read a.0.1) _ v a.2 in
      let u = (laws a.0.0).takes a.0.1 b.0 t.0.octets b.1 in
      let parts : i.octets ≡ f.spell a.0.0 ++ (c a.0.0).spell b.0 = t.0.parts ∙ ap (λ (os : List ℕ). f.spell a.0.0 ++ os) u.0 in
      subst (λ (w : _). (i.octets ≡ f.spell w.0 ++ (c w.0).spell w.1) × ((f.fits w.0 && (c w.0).fits w.1) ≡ true)) (ok_is (a.0.0, b.0) v b.2) (parts, and_from _ _ t.1 u.1);
  again = λ end v fits.
      let two = both (f.fits v.0) ((c v.0).fits v.1) fits in
      rw (law.again end v.0 ((c v.0).spell v.1) two.0, (laws v.0).again end v.1 two.1) refl;
}

pub field_law : {A B : Type 0} (f : Format A) (c : Content B) → IsFormat f → IsContent c → IsContent (with_field f c)
field_law f c law rest = known_law f (λ v. c) law (λ v. rest)

begins_other : (low tag other : ℕ) (os : List ℕ) → low ≤ tag → other < low → begins other (tag ∷ os) ≡ false
begins_other low tag other os le lt = ne_eqb tag other (λ e. omega arith)

pub known_from : {A B : Type 0} (low tag : ℕ) (f : Format A) (c : A → Content B) → HasTag tag f → low ≤ tag → IsFrom low (with_known f c)
known_from low tag f c has le = record {
  later = λ v other lt.
      let b = has.begins_so v.0 in
      rw b.1 (begins_other low tag other (b.0 ++ (c v.0).spell v.1) le lt);
}

pub field_from : {A B : Type 0} (low tag : ℕ) (f : Format A) (c : Content B) → HasTag tag f → low ≤ tag → IsFrom low (with_field f c)
field_from low tag f c has le = known_from low tag f (λ v. c) has le

optional_takes : {A : Type 0} (tag : ℕ) (f : Format A) → IsFormat f → (i : Input) (x : Option A × Input) → AreOctets i.octets → optional_at tag f i ≡ Ok x → Takes i (optional_spelling f x.0) x.1 × (optional_fits f x.0 ≡ true)
optional_takes tag f law i x bytes e =
    elim (chosen (begins tag i.octets) _ _ (Ok x) e) [
      | inl there ↦
          let a = bind_ok (f.read i) _ x there.1 in
          let t = law.takes i a.0 bytes a.1 in
          subst (λ (y : _). Takes i (optional_spelling f y.0) y.1 × (optional_fits f y.0 ≡ true)) (ok_is (Some a.0.0, a.0.1) x a.2) t
      | inr absent ↦
          subst (λ (y : _). Takes i (optional_spelling f y.0) y.1 × (optional_fits f y.0 ≡ true)) (ok_is (None, i) x absent.1) (record { parts = refl; end = refl; octets = bytes }, refl)
    ]

optional_again : {A : Type 0} (tag : ℕ) (f : Format A) → IsFormat f → HasTag tag f → (end : ℕ) (v : Option A) (rest : List ℕ) → optional_fits f v ≡ true → begins tag rest ≡ false → optional_at tag f (record { end = end; octets = optional_spelling f v ++ rest }) ≡ Ok (v, record { end = end; octets = rest })
optional_again tag f law has end None rest fits other = rw other refl
optional_again tag f law has end (Some v) rest fits other =
    let b = has.begins_so v in
    let there : begins tag (f.spell v ++ rest) ≡ true = rw b.1 (eq-eqb tag tag refl) in
    rw (there, law.again end v rest fits) refl

pub optional_known_law : {A B : Type 0} (tag : ℕ) (f : Format A) (c : Option A → Content B) → IsFormat f → HasTag tag f → ((v : Option A) → IsContent (c v)) → ((v : Option A) → IsFrom (tag + 1) (c v)) → IsContent (with_optional_known tag f c)
optional_known_law tag f c law has laws from = record {
  takes = λ i v bytes e.
      let a = bind_ok (optional_at tag f i) _ v e in
      let t = optional_takes tag f law i a.0 bytes a.1 in
      let b = bind_ok ((c a.0.0).read a.0.1) _ v a.2 in
      let u = (laws a.0.0).takes a.0.1 b.0 t.0.octets b.1 in
      let parts : i.octets ≡ optional_spelling f a.0.0 ++ (c a.0.0).spell b.0 = t.0.parts ∙ ap (λ (os : List ℕ). optional_spelling f a.0.0 ++ os) u.0 in
      subst (λ (w : _). (i.octets ≡ optional_spelling f w.0 ++ (c w.0).spell w.1) × ((optional_fits f w.0 && (c w.0).fits w.1) ≡ true)) (ok_is (a.0.0, b.0) v b.2) (parts, and_from _ _ t.1 u.1);
  again = λ end v fits.
      let two = both (optional_fits f v.0) ((c v.0).fits v.1) fits in
      let other = (from v.0).later v.1 tag (omega arith) in
      rw (optional_again tag f law has end v.0 ((c v.0).spell v.1) two.0 other, (laws v.0).again end v.1 two.1) refl;
}

pub optional_law : {A B : Type 0} (tag : ℕ) (f : Format A) (c : Content B) → IsFormat f → HasTag tag f → IsContent c → IsFrom (tag + 1) c → IsContent (with_optional tag f c)
optional_law tag f c law has rest from = optional_known_law tag f (λ v. c) law has (λ v. rest) (λ v. from)

pub optional_known_from : {A B : Type 0} (low tag : ℕ) (f : Format A) (c : Option A → Content B) → HasTag tag f → low ≤ tag → ((v : Option A) → IsFrom low (c v)) → IsFrom low (with_optional_known tag f c)
optional_known_from low tag f c has le from = record { later = λ v other lt. at v.0 v.1 other lt }
  where
    at : (o : Option _) (v : _) (other : ℕ) → other < low → begins other (optional_spelling f o ++ (c o).spell v) ≡ false
    at None v other lt = (from None).later v other lt
    at (Some x) v other lt =
        let b = has.begins_so x in
        rw b.1 (begins_other low tag other (b.0 ++ (c (Some x)).spell v) le lt)

pub optional_from : {A B : Type 0} (low tag : ℕ) (f : Format A) (c : Content B) → HasTag tag f → low ≤ tag → IsFrom low c → IsFrom low (with_optional tag f c)
optional_from low tag f c has le from = optional_known_from low tag f (λ v. c) has le (λ v. from)

pub seen_law : {A B : Type 0} (to : A → B) (from : B → A) (c : Content A) → ((v : A) → from (to v) ≡ v) → ((w : B) → to (from w) ≡ w) → IsContent c → IsContent (seen to from c)
seen_law to from c back forth law = record {
  takes = λ i w bytes e.
      let a = bind_ok (c.read i) _ w e in
      let t = law.takes i a.0 bytes a.1 in
      subst (λ (w : _). (i.octets ≡ c.spell (from w)) × (c.fits (from w) ≡ true)) (ok_is (to a.0) w a.2) (rw (back a.0) t);
  again = λ end w fits. rw (law.again end (from w) fits, forth w) refl;
}

-- ---- lists

many_takes : {A : Type 0} (f : Format A) → IsFormat f → (n : ℕ) (i : Input) (vs : List A) → AreOctets i.octets → many_of f n i ≡ Ok vs → (i.octets ≡ many_spelling f vs) × (many_fit f vs ≡ true)
many_takes f law zero i vs bytes e =
    let a = bind_ok (end_at i) _ vs e in
    subst (λ (ws : _). (i.octets ≡ many_spelling f ws) × (many_fit f ws ≡ true)) (ok_is [] vs a.2) (end_takes i a.0 a.1, refl)
many_takes f law (suc n) i vs bytes e = from (λ j ws h r. many_takes f law n j ws h r) i.octets refl e
  where
    from : ((j : Input) (ws : List _) → AreOctets j.octets → many_of f n j ≡ Ok ws → (j.octets ≡ many_spelling f ws) × (many_fit f ws ≡ true)) → (os : List ℕ) → i.octets ≡ os → many_step f (many_of f n) i os ≡ Ok vs → (i.octets ≡ many_spelling f vs) × (many_fit f vs ≡ true)
    from others [] is e = subst (λ (ws : _). (i.octets ≡ many_spelling f ws) × (many_fit f ws ≡ true)) (ok_is [] vs e) (is, refl)
    from others (o ∷ os) is e =
        let a = bind_ok (f.read i) _ vs e in
        let t = law.takes i a.0 bytes a.1 in
        let b = bind_ok (many_of f n a.0.1) _ vs a.2 in
        let u = others a.0.1 b.0 t.0.octets b.1 in
        subst (λ (ws : _). (i.octets ≡ many_spelling f ws) × (many_fit f ws ≡ true)) (ok_is (a.0.0 ∷ b.0) vs b.2)
        (t.0.parts ∙ ap (λ (os : List ℕ). f.spell a.0.0 ++ os) u.0, and_from _ _ t.1 u.1)

many_again : {A : Type 0} (tag : ℕ) (f : Format A) → IsFormat f → HasTag tag f → (n end : ℕ) (vs : List A) → length (many_spelling f vs) ≤ n → many_fit f vs ≡ true → many_of f n (record { end = end; octets = many_spelling f vs }) ≡ Ok vs
many_again tag f law has zero end [] few fits = rw (end_again end) refl
many_again tag f law has (suc n) end [] few fits = refl
many_again tag f law has zero end (v ∷ vs) few fits =
    let b = has.begins_so v in
    let sized = ap length b.1 in
    absurd (omega (arith, length-append (f.spell v) (many_spelling f vs), sized))
many_again tag f law has (suc n) end (v ∷ vs) few fits =
    let b = has.begins_so v in
    let sized = ap length b.1 in
    let two = both (f.fits v) (many_fit f vs) fits in
    let fewer : length (many_spelling f vs) ≤ n = omega (arith, length-append (f.spell v) (many_spelling f vs), sized) in
    let some : f.spell v ++ many_spelling f vs ≡ tag ∷ (b.0 ++ many_spelling f vs) = rw b.1 refl in
    let step : many_step f (many_of f n) (record { end = end; octets = f.spell v ++ many_spelling f vs }) (tag ∷ (b.0 ++ many_spelling f vs)) ≡ Ok (v ∷ vs) = rw (law.again end v (many_spelling f vs) two.0, many_again tag f law has n end vs fewer two.1) refl in
    subst (λ (os : List ℕ). many_step f (many_of f n) (record { end = end; octets = f.spell v ++ many_spelling f vs }) os ≡ Ok (v ∷ vs)) (sym some) step

pub many_law : {A : Type 0} (tag : ℕ) (f : Format A) → IsFormat f → HasTag tag f → IsContent (many f)
many_law tag f law has = record {
  takes = λ i vs bytes e. many_takes f law (length i.octets) i vs bytes e;
  again = λ end vs fits. many_again tag f law has (length (many_spelling f vs)) end vs (omega arith) fits;
}

pub list_law : {A : Type 0} (tag : ℕ) (f : Format A) → IsFormat f → HasTag tag f → IsFormat (list_of f)
list_law tag f law has = element_law 0x30 (many f) (many_law tag f law has)
