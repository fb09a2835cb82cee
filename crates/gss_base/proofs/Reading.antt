-- What holds of the octets of a text holds of the parts and the realm that it names, and the text form is read back.
use Rattle.std.proofs.Common.{◌≡◌, ℕ, ◌+◌, ◌-◌, ◌<◌, Bool, true, false, ◌&&◌, not, nat_eq, if◌then◌else◌, List, [], ◌∷◌, ◌++◌, length, Result, Ok, Err, refl, sym, ◌∙◌, ap, subst, append_assoc, arith, inl, inr, ◌⊎◌}
use Rattle.std.specs.List.{AllByRecursion}
use Rattle.std.proofs.lemmas.Bool.Decides.{nat_tests}
use Rattle.std.proofs.lemmas.Str.{encode_ascii, length-encode, len_utf8_bounds}
use Rattle.std.proofs.lemmas.List.{append-nil}
use lib.Utf8.{encode, encodes}
use Rattle.gss_base.specs.Principal.{is_mark}
use Rattle.gss_base.specs.Signs.{signs_of, with_sign, parts_from, octets_in, realm_of}
use Rattle.gss_base.specs.declared.principal.Sign.{Sign}
use Rattle.gss_base.specs.declared.principal.Sign.TheVariants.{Octet, Slash, At}
use Rattle.gss_base.proofs.Spelled.{AreHigh, encode_high, ascii_or_high, mark_high}

-- ---- tools

pub chosen : {A : Type 0} (b : Bool) (x y z : A) → (if b then x else y) ≡ z → ((b ≡ true) × (x ≡ z)) ⊎ ((b ≡ false) × (y ≡ z))
chosen true x y z e = inl (refl, e)
chosen false x y z e = inr (refl, e)

with_sign_ok : (sign : Sign) (r : Result (List Sign) ℕ) (signs : List Sign) → with_sign sign r ≡ Ok signs → (left : List Sign) × ((r ≡ Ok left) × (signs ≡ sign ∷ left))
with_sign_ok sign (Ok left) signs e = (left, (refl, cc))
with_sign_ok sign (Err at) signs e = cc

-- these octets of a part or the realm, then the signs
abbrev pub as_octets : List ℕ → List Sign → List Sign
as_octets [] signs = signs
as_octets (x ∷ xs) signs = Octet x ∷ as_octets xs signs

pub parts_from-octets : (part xs : List ℕ) (signs : List Sign) → parts_from part (as_octets xs signs) ≡ parts_from (part ++ xs) signs
parts_from-octets part [] signs = ap (λ (p : List ℕ). parts_from p signs) (sym (append-nil part))
parts_from-octets part (x ∷ xs) signs = parts_from-octets (part ++ x ∷ []) xs signs ∙ ap (λ (p : List ℕ). parts_from p signs) (append_assoc part (x ∷ []) xs)

pub realm_of-octets : (xs : List ℕ) (signs : List Sign) → realm_of (as_octets xs signs) ≡ realm_of signs
realm_of-octets [] signs = refl
realm_of-octets (x ∷ xs) signs = realm_of-octets xs signs

pub octets_in-octets : (xs : List ℕ) (signs : List Sign) → octets_in (as_octets xs signs) ≡ xs ++ octets_in signs
octets_in-octets [] signs = refl
octets_in-octets (x ∷ xs) signs = ap (λ (ys : List ℕ). x ∷ ys) (octets_in-octets xs signs)

-- ---- what holds of each character's octets, and of rows of such, holds of the parts and the realm

pub record IsClosed (P : List ℕ → Type 0) : Type 0 where
  pub nil : P []
  pub join : (xs ys : List ℕ) → P xs → P ys → P (xs ++ ys)

pub record HoldsOf (P : List ℕ → Type 0) (signs : List Sign) : Type 0 where
  pub parts : (part : List ℕ) → P part → AllByRecursion P (parts_from part signs)
  pub realm : P (realm_of signs)
  pub octets : P (octets_in signs)

holds_nil : (P : List ℕ → Type 0) → IsClosed P → HoldsOf P []
holds_nil P closed = record { parts = λ part p. (p, tt); realm = closed.nil; octets = closed.nil }

holds_octets : (P : List ℕ → Type 0) → IsClosed P → (xs : List ℕ) (signs : List Sign) → P xs → HoldsOf P signs → HoldsOf P (as_octets xs signs)
holds_octets P closed xs signs p h = record {
  parts = λ part q. subst (AllByRecursion P) (sym (parts_from-octets part xs signs)) (h.parts (part ++ xs) (closed.join part xs q p));
  realm = subst P (sym (realm_of-octets xs signs)) h.realm;
  octets = subst P (sym (octets_in-octets xs signs)) (closed.join xs (octets_in signs) p h.octets);
}

holds_slash : (P : List ℕ → Type 0) → IsClosed P → (signs : List Sign) → HoldsOf P signs → HoldsOf P (Slash ∷ signs)
holds_slash P closed signs h = record { parts = λ part p. (p, h.parts [] closed.nil); realm = h.realm; octets = h.octets }

holds_at : (P : List ℕ → Type 0) (signs : List Sign) → HoldsOf P signs → HoldsOf P (At ∷ signs)
holds_at P signs h = record { parts = λ part p. (p, tt); realm = h.octets; octets = h.octets }

-- octets that are not ASCII are octets of a part or the realm, and none of them may be quoted
high_run : (realm : Bool) (at : ℕ) (xs rest : List ℕ) (signs : List Sign) → AreHigh xs → signs_of false realm at (xs ++ rest) ≡ Ok signs
    → (place : ℕ) × ((left : List Sign) × ((signs_of false realm place rest ≡ Ok left) × (signs ≡ as_octets xs left)))
high_run realm at [] rest signs h e = (at, (signs, (e, refl)))
high_run realm at (x ∷ xs) rest signs h e =
    let a : nat_eq x 92 ≡ false = let low = h.0 in grind (arith, nat_tests) in
    let b : nat_eq x 64 ≡ false = let low = h.0 in grind (arith, nat_tests) in
    let c : nat_eq x 47 ≡ false = let low = h.0 in grind (arith, nat_tests) in
    let first : with_sign (Octet x) (signs_of false realm (at + 1) (xs ++ rest)) ≡ Ok signs = rw (a, b, c) at e in
    let t = with_sign_ok (Octet x) (signs_of false realm (at + 1) (xs ++ rest)) signs first in
    let u = high_run realm (at + 1) xs rest t.0 h.1 t.1.0 in
    (u.0, (u.1.0, (u.1.1.0, t.1.1 ∙ ap (λ (s : List Sign). Octet x ∷ s) u.1.1.1)))

quotes_none : (realm : Bool) (at : ℕ) (xs rest : List ℕ) (signs : List Sign) → AreHigh xs → 0 < length xs → signs_of true realm at (xs ++ rest) ≡ Ok signs → ⊥
quotes_none realm at [] rest signs h some e = omega arith
quotes_none realm at (x ∷ xs) rest signs h some e = let first : Err (at - 1) ≡ Ok signs = rw (mark_high x h.0) at e in cc

inner : (P : List ℕ → Type 0) → IsClosed P → (b : Bool) (x : ℕ) (signs left : List Sign) → P (x ∷ []) → signs ≡ (if b then Slash else Octet x) ∷ left → HoldsOf P left → HoldsOf P signs
inner P closed true x signs left p e h = subst (HoldsOf P) (sym e) (holds_slash P closed left h)
inner P closed false x signs left p e h = subst (HoldsOf P) (sym e) (holds_octets P closed (x ∷ []) left p h)

-- what is read of the rest holds
abbrev RestHolds : (List ℕ → Type 0) → List ℕ → Type 0
RestHolds P rest = (quotes realm : Bool) (at : ℕ) (signs : List Sign) → signs_of quotes realm at rest ≡ Ok signs → HoldsOf P signs

ascii_step : (P : List ℕ → Type 0) → IsClosed P → (c : ℕ) (rest : List ℕ) → P (c ∷ []) → RestHolds P rest
    → (quotes realm : Bool) (at : ℕ) (signs : List Sign) → signs_of quotes realm at (c ∷ rest) ≡ Ok signs → HoldsOf P signs
ascii_step P closed c rest p ih true realm at signs e = elim (chosen (is_mark c) (with_sign (Octet c) (signs_of false realm (at + 1) rest)) (Err (at - 1)) (Ok signs) e) [
  | inl t ↦ let u = with_sign_ok (Octet c) (signs_of false realm (at + 1) rest) signs t.1 in
      subst (HoldsOf P) (sym u.1.1) (holds_octets P closed (c ∷ []) u.0 p (ih false realm (at + 1) u.0 u.1.0))
  | inr f ↦ let no = f.1 in cc
]
ascii_step P closed c rest p ih false realm at signs e = elim (chosen (nat_eq c 92) (signs_of true realm (at + 1) rest) _ (Ok signs) e) [
  | inl t ↦ ih true realm (at + 1) signs t.1
  | inr f ↦ elim (chosen (nat_eq c 64) (if realm then Err at else with_sign At (signs_of false true (at + 1) rest)) _ (Ok signs) f.1) [
    | inl t ↦ elim (chosen realm (Err at) (with_sign At (signs_of false true (at + 1) rest)) (Ok signs) t.1) [
      | inl t ↦ let no = t.1 in cc
      | inr f ↦ let u = with_sign_ok At (signs_of false true (at + 1) rest) signs f.1 in
          subst (HoldsOf P) (sym u.1.1) (holds_at P u.0 (ih false true (at + 1) u.0 u.1.0))
    ]
    | inr f ↦ let u = with_sign_ok (if nat_eq c 47 && not realm then Slash else Octet c) (signs_of false realm (at + 1) rest) signs f.1 in
        inner P closed (nat_eq c 47 && not realm) c signs u.0 p u.1.1 (ih false realm (at + 1) u.0 u.1.0)
  ]
]

high_step : (P : List ℕ → Type 0) → IsClosed P → (xs rest : List ℕ) → AreHigh xs → 0 < length xs → P xs → RestHolds P rest
    → (quotes realm : Bool) (at : ℕ) (signs : List Sign) → signs_of quotes realm at (xs ++ rest) ≡ Ok signs → HoldsOf P signs
high_step P closed xs rest high some p ih true realm at signs e = absurd (quotes_none realm at xs rest signs high some e)
high_step P closed xs rest high some p ih false realm at signs e = let u = high_run realm at xs rest signs high e in
    subst (HoldsOf P) (sym u.1.1.1) (holds_octets P closed xs u.1.0 p (ih false realm u.0 u.1.0 u.1.1.0))

pub holds_of : (P : List ℕ → Type 0) → IsClosed P → (cs : List ℕ) → AllByRecursion (λ c. P (encode c)) cs → RestHolds P (encodes cs)
holds_of P closed [] all true realm at signs e = cc
holds_of P closed [] all false true at signs e = let same : [] ≡ signs = cc in subst (HoldsOf P) same (holds_nil P closed)
holds_of P closed [] all false false at signs e = cc
holds_of P closed (c ∷ cs) all quotes realm at signs e = elim (ascii_or_high c) [
  | inl low ↦ ascii_step P closed c (encodes cs) (subst P (encode_ascii c low) all.0) (holds_of P closed cs all.1) quotes realm at signs (rw (encode_ascii c low) at e)
  | inr high ↦ high_step P closed (encode c) (encodes cs) (encode_high c high) (omega (arith, length-encode c, (len_utf8_bounds c).0)) all.0 (holds_of P closed cs all.1) quotes realm at signs e
]
