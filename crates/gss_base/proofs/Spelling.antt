-- A text without an octet 00 names parts and a realm without one, and a text form is read back as the name that it is of.
use Rattle.std.proofs.Common.{◌≡◌, ℕ, ◌+◌, ◌≤◌, Bool, true, false, ◌&&◌, nat_eq, nat_le, if◌then◌else◌, List, [], ◌∷◌, ◌++◌, length, Option, Some, None, Ok, Err, refl, sym, ◌∙◌, ap, subst, append_assoc, arith, inl, inr, IsUtf8}
use Rattle.std.specs.List.{AllByRecursion}
use Rattle.std.proofs.lemmas.Bool.Decides.{nat_tests}
use Rattle.std.proofs.lemmas.Str.{IsUtf8-append, IsUtf8-nil, IsUtf8-encode}
use Rattle.std.proofs.lemmas.List.{append-nil}
use lib.Utf8.{encode, encodes, scalar, scalars}
use Rattle.gss_base.specs.Name.{Name}
use Rattle.gss_base.specs.Principal.{is_mark, quoted, further, joined, text_form, zero_from, is_count, name_within, name_unless_zero, name_judged, name_of, is_found, is_named}
use Rattle.gss_base.specs.Signs.{signs_of, parts_from, octets_in, realm_of, parsed}
use Rattle.gss_base.specs.declared.principal.NameRefusal.TheVariants.{PartCount, TooLong, Zero}
use Rattle.gss_base.specs.declared.principal.Sign.{Sign}
use Rattle.gss_base.specs.declared.principal.Sign.TheVariants.{Octet, Slash, At}
use Rattle.gss_base.proofs.Reading.{chosen, as_octets, parts_from-octets, realm_of-octets, octets_in-octets, IsClosed, HoldsOf, holds_of}

-- ---- the parts and the realm of a text in UTF-8 are UTF-8

utf8_closed : IsClosed IsUtf8
utf8_closed = record { nil = IsUtf8-nil; join = IsUtf8-append }

utf8_chars : (cs : List ℕ) → scalars cs ≡ true → AllByRecursion (λ c. IsUtf8 (encode c)) cs
utf8_chars [] s = tt
utf8_chars (c ∷ cs) s = (IsUtf8-encode c (first_of (scalar c) (scalars cs) s), utf8_chars cs (second_of (scalar c) (scalars cs) s)) where
  first_of : (a b : Bool) → (a && b) ≡ true → a ≡ true
  first_of true b e = refl
  first_of false b e = cc

  second_of : (a b : Bool) → (a && b) ≡ true → b ≡ true
  second_of true b e = e
  second_of false b e = cc

pub utf8_of : (text : List ℕ) (at : ℕ) (signs : List Sign) → IsUtf8 text → signs_of false false at text ≡ Ok signs → HoldsOf IsUtf8 signs
utf8_of text at signs u e = holds_of IsUtf8 utf8_closed u.0 (utf8_chars u.0 u.1.0) false false at signs (subst (λ (t : List ℕ). signs_of false false at t ≡ Ok signs) (sym u.1.1) e)

-- ---- octets without 00

abbrev pub AreFree : List ℕ → Type 0
AreFree [] = Unit {0}
AreFree (x ∷ xs) = (nat_eq x 0 ≡ false) × AreFree xs

free-append : (xs ys : List ℕ) → AreFree xs → AreFree ys → AreFree (xs ++ ys)
free-append [] ys f g = g
free-append (x ∷ xs) ys f g = (f.0, free-append xs ys f.1 g)

free-front : (xs ys : List ℕ) → AreFree (xs ++ ys) → AreFree xs × AreFree ys
free-front [] ys f = (tt, f)
free-front (x ∷ xs) ys f = let t = free-front xs ys f.1 in ((f.0, t.0), t.1)

free_closed : IsClosed AreFree
free_closed = record { nil = tt; join = free-append }

free_chars : (cs : List ℕ) → AreFree (encodes cs) → AllByRecursion (λ c. AreFree (encode c)) cs
free_chars [] f = tt
free_chars (c ∷ cs) f = let t = free-front (encode c) (encodes cs) f in (t.0, free_chars cs t.1)

free_none : (at : ℕ) (xs : List ℕ) → zero_from at xs ≡ None → AreFree xs
free_none at [] e = tt
free_none at (x ∷ xs) e = elim (chosen (nat_eq x 0) (Some at) (zero_from (at + 1) xs) None e)
    [ inl t ↦ let no = t.1 in cc | inr f ↦ (f.0, free_none (at + 1) xs f.1) ]

none_free : (at : ℕ) (xs : List ℕ) → AreFree xs → zero_from at xs ≡ None
none_free at [] f = refl
none_free at (x ∷ xs) f = rw f.0 (none_free (at + 1) xs f.1)

free_quoted : (xs : List ℕ) → AreFree xs → AreFree (quoted xs)
free_quoted [] f = tt
free_quoted (x ∷ xs) f = elim (is_mark x) as (λ b. AreFree (if b then 92 ∷ x ∷ quoted xs else x ∷ quoted xs))
    [ true ↦ (refl, (f.0, free_quoted xs f.1)) | false ↦ (f.0, free_quoted xs f.1) ]

free_further : (parts : List (List ℕ)) → AllByRecursion AreFree parts → AreFree (further parts)
free_further [] f = tt
free_further (part ∷ parts) f = (refl, free-append (quoted part) (further parts) (free_quoted part f.0) (free_further parts f.1))

free_joined : (parts : List (List ℕ)) → AllByRecursion AreFree parts → AreFree (joined parts)
free_joined [] f = tt
free_joined (part ∷ parts) f = free-append (quoted part) (further parts) (free_quoted part f.0) (free_further parts f.1)

pub free_form : (realm : List ℕ) (parts : List (List ℕ)) → AreFree realm → AllByRecursion AreFree parts → AreFree (text_form realm parts)
free_form realm parts r p = free-append (joined parts) (64 ∷ quoted realm) (free_joined parts p) (refl, free_quoted realm r)

-- what is named by a text without an octet 00 has a text form without one
pub form_without_zero : (text : List ℕ) (signs : List Sign) → IsUtf8 text → zero_from 0 text ≡ None → signs_of false false 0 text ≡ Ok signs
    → zero_from 0 (text_form (realm_of signs) (parts_from [] signs)) ≡ None
form_without_zero text signs u none e =
    let held : HoldsOf AreFree signs = holds_of AreFree free_closed u.0 (free_chars u.0 (subst AreFree (sym u.1.1) (free_none 0 text none))) false false 0 signs (subst (λ (t : List ℕ). signs_of false false 0 t ≡ Ok signs) (sym u.1.1) e) in
    none_free 0 _ (free_form (realm_of signs) (parts_from [] signs) held.realm (held.parts [] tt))

-- ---- a text form is read back

abbrev ReadsAs : Bool → List ℕ → List Sign → Type 0
ReadsAs realm text signs = (at : ℕ) → signs_of false realm at text ≡ Ok signs

mark_reads : (realm : Bool) (x : ℕ) (tail : List ℕ) (signs : List Sign) → is_mark x ≡ true → ReadsAs realm tail signs → ReadsAs realm (92 ∷ x ∷ tail) (Octet x ∷ signs)
mark_reads realm x tail signs e r at = rw (e, r (at + 1 + 1)) refl

plain_reads : (realm : Bool) (x : ℕ) (tail : List ℕ) (signs : List Sign) → is_mark x ≡ false → ReadsAs realm tail signs → ReadsAs realm (x ∷ tail) (Octet x ∷ signs)
plain_reads realm x tail signs e r at =
    let a : nat_eq x 47 ≡ false = grind (arith, nat_tests) in
    let b : nat_eq x 64 ≡ false = grind (arith, nat_tests) in
    let c : nat_eq x 92 ≡ false = grind (arith, nat_tests) in
    rw (c, b, a, r (at + 1)) refl

quoted_reads : (realm : Bool) (xs rest : List ℕ) (signs : List Sign) → ReadsAs realm rest signs → ReadsAs realm (quoted xs ++ rest) (as_octets xs signs)
quoted_reads realm [] rest signs r at = r at
quoted_reads realm (x ∷ xs) rest signs r at =
    let tail : ReadsAs realm (quoted xs ++ rest) (as_octets xs signs) = quoted_reads realm xs rest signs r in
    elim (is_mark x) as (λ b. is_mark x ≡ b → signs_of false realm at ((if b then 92 ∷ x ∷ quoted xs else x ∷ quoted xs) ++ rest) ≡ Ok (Octet x ∷ as_octets xs signs)) [
      | true ↦ λ e. mark_reads realm x (quoted xs ++ rest) (as_octets xs signs) e tail at
      | false ↦ λ e. plain_reads realm x (quoted xs ++ rest) (as_octets xs signs) e tail at
    ] refl

-- each part behind a `/`, then the signs
abbrev slashed : List (List ℕ) → List Sign → List Sign
slashed [] signs = signs
slashed (part ∷ parts) signs = Slash ∷ as_octets part (slashed parts signs)

further_reads : (parts : List (List ℕ)) (rest : List ℕ) (signs : List Sign) → ReadsAs false rest signs → ReadsAs false (further parts ++ rest) (slashed parts signs)
further_reads [] rest signs r at = r at
further_reads (part ∷ parts) rest signs r at =
    rw (append_assoc (quoted part) (further parts) rest, quoted_reads false part (further parts ++ rest) (slashed parts signs) (further_reads parts rest signs r) (at + 1)) refl

realm_reads : (realm : List ℕ) → ReadsAs false (64 ∷ quoted realm) (At ∷ as_octets realm [])
realm_reads realm at =
    let q : signs_of false true (at + 1) (quoted realm ++ []) ≡ Ok (as_octets realm []) = quoted_reads true realm [] [] (λ place. refl) (at + 1) in
    let r : signs_of false true (at + 1) (quoted realm) ≡ Ok (as_octets realm []) = subst (λ (t : List ℕ). signs_of false true (at + 1) t ≡ Ok (as_octets realm [])) (append-nil (quoted realm)) q in
    rw r refl

-- the signs of a text form
abbrev form_signs : List ℕ → List ℕ → List (List ℕ) → List Sign
form_signs realm part parts = as_octets part (slashed parts (At ∷ as_octets realm []))

form_reads : (realm part : List ℕ) (parts : List (List ℕ)) → ReadsAs false (text_form realm (part ∷ parts)) (form_signs realm part parts)
form_reads realm part parts at =
    rw (append_assoc (quoted part) (further parts) (64 ∷ quoted realm)) (quoted_reads false part (further parts ++ 64 ∷ quoted realm) (slashed parts (At ∷ as_octets realm [])) (further_reads parts (64 ∷ quoted realm) (At ∷ as_octets realm []) (realm_reads realm)) at)

slashed_parts : (part : List ℕ) (parts : List (List ℕ)) (signs : List Sign) → parts_from part (slashed parts (At ∷ signs)) ≡ part ∷ parts
slashed_parts part [] signs = refl
slashed_parts part (next ∷ parts) signs =
    ap (λ (ps : List (List ℕ)). part ∷ ps) (parts_from-octets [] next (slashed parts (At ∷ signs)) ∙ slashed_parts next parts signs)

slashed_realm : (parts : List (List ℕ)) (signs : List Sign) → realm_of (slashed parts (At ∷ signs)) ≡ octets_in signs
slashed_realm [] signs = refl
slashed_realm (part ∷ parts) signs = realm_of-octets part (slashed parts (At ∷ signs)) ∙ slashed_realm parts signs

form_parts : (realm part : List ℕ) (parts : List (List ℕ)) → parts_from [] (form_signs realm part parts) ≡ part ∷ parts
form_parts realm part parts = parts_from-octets [] part _ ∙ slashed_parts part parts (as_octets realm [])

form_realm : (realm part : List ℕ) (parts : List (List ℕ)) → realm_of (form_signs realm part parts) ≡ realm
form_realm realm part parts = realm_of-octets part _ ∙ (slashed_realm parts (as_octets realm []) ∙ (octets_in-octets realm [] ∙ append-nil realm))

abbrev pub as_name : List ℕ → List (List ℕ) → Name
as_name realm parts = record { realm = realm; parts = parts }

within_is : (realm : List ℕ) (parts : List (List ℕ)) → is_found (name_within realm parts) ≡ true → name_within realm parts ≡ Ok (as_name realm parts)
within_is realm parts = by_length (nat_le (length (text_form realm parts)) 255) where
  by_length : (b : Bool) → is_found (if b then Ok (as_name realm parts) else Err TooLong) ≡ true → (if b then Ok (as_name realm parts) else Err TooLong) ≡ Ok (as_name realm parts)
  by_length true e = refl
  by_length false e = cc

unless_is : (o : Option ℕ) (realm : List ℕ) (parts : List (List ℕ)) → is_found (name_unless_zero o realm parts) ≡ true → name_unless_zero o realm parts ≡ Ok (as_name realm parts)
unless_is (Some at) realm parts e = cc
unless_is None realm parts e = within_is realm parts e

pub judged_is : (text realm : List ℕ) (parts : List (List ℕ)) → is_found (name_judged text realm parts) ≡ true → name_judged text realm parts ≡ Ok (as_name realm parts)
judged_is text realm parts = by_count (is_count parts) where
  by_count : (b : Bool) → is_found (if b then name_unless_zero (zero_from 0 text) realm parts else Err PartCount) ≡ true → (if b then name_unless_zero (zero_from 0 text) realm parts else Err PartCount) ≡ Ok (as_name realm parts)
  by_count true e = unless_is (zero_from 0 text) realm parts e
  by_count false e = cc

-- the text form of a name is read as this name
pub parsed-form : (realm : List ℕ) (parts : List (List ℕ)) → is_named realm parts ≡ true → parsed (text_form realm parts) ≡ Ok (as_name realm parts)
parsed-form realm [] named = cc
parsed-form realm (part ∷ parts) named =
    rw (form_reads realm part parts 0, form_realm realm part parts, form_parts realm part parts) (judged_is (text_form realm (part ∷ parts)) realm (part ∷ parts) named)

parts_some : (part : List ℕ) (signs : List Sign) → 1 ≤ length (parts_from part signs)
parts_some part [] = omega arith
parts_some part (Octet x ∷ signs) = parts_some (part ++ x ∷ []) signs
parts_some part (Slash ∷ signs) = omega arith
parts_some part (At ∷ signs) = omega arith

pub is_count_of : (signs : List Sign) → length (parts_from [] signs) ≤ 8 → is_count (parts_from [] signs) ≡ true
is_count_of signs few = let some : 1 ≤ length (parts_from [] signs) = parts_some [] signs in grind (arith, nat_tests)

pub parsed_is : (text : List ℕ) (signs : List Sign) → IsUtf8 text → signs_of false false 0 text ≡ Ok signs → length (parts_from [] signs) ≤ 8 → zero_from 0 text ≡ None
    → parsed text ≡ name_of (realm_of signs) (parts_from [] signs)
parsed_is text signs u e few none = rw (e, is_count_of signs few, none, form_without_zero text signs u none e) refl

pub parsed_zero : (text : List ℕ) (signs : List Sign) (at : ℕ) → signs_of false false 0 text ≡ Ok signs → length (parts_from [] signs) ≤ 8 → zero_from 0 text ≡ Some at
    → parsed text ≡ Err (Zero at)
parsed_zero text signs at e few some = rw (e, is_count_of signs few, some) refl
