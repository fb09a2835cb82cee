-- The parts and the realm are read sign by sign.
use Rattle.std.proofs.lemmas.Bool.{false≢true}
use Rattle.std.proofs.Common.{Result, Ok, Err, ◌+◌, ◌<◌, ◌≤◌, length, drop, get_or, ◌≡◌, ℕ, Bool, true, false, List, [], ◌∷◌, ◌++◌, refl, sym, ◌∙◌, ap, append_assoc}
use Rattle.std.proofs.lemmas.List.{at_drop_more, at_drop_all, append-nil}
use Rattle.std.specs.Result.{IsErr, OnOk}
use Rattle.gss_base.specs.Principal.{is_mark, quoted}
use Rattle.gss_base.specs.Signs.{parts_from, octets_in, realm_of}
use Rattle.gss_base.specs.declared.principal.Sign.{Sign}
use Rattle.gss_base.specs.declared.principal.Sign.TheVariants.{Octet, Slash, At}

-- the octets of the realm among signs, where `behind` says that the `@` was there
abbrev pub realm_from : Bool → List Sign → List ℕ
realm_from true signs = octets_in signs
realm_from false signs = realm_of signs

pub realm-octet : (realm items : List ℕ) (behind : Bool) (octet : ℕ) (seen : Sign) (rest : List Sign) (whole : List ℕ) → seen ≡ Octet octet → behind ≡ true → items ≡ realm ++ octet ∷ []
    → realm ++ realm_from behind (seen ∷ rest) ≡ whole → items ++ realm_from behind rest ≡ whole
realm-octet realm items behind octet seen rest whole is b pushed given =
    rw (pushed, b, append_assoc) (rw (is, b) at given)

pub realm-kept : (realm : List ℕ) (behind now : Bool) (seen sign : Sign) (rest : List Sign) (whole : List ℕ) → seen ≡ sign → realm_from behind (sign ∷ rest) ≡ realm_from now rest
    → realm ++ realm_from behind (seen ∷ rest) ≡ whole → realm ++ realm_from now rest ≡ whole
realm-kept realm behind now seen sign rest whole is step given = ap (λ (xs : List ℕ). realm ++ xs) (sym step ∙ ap (λ (s : Sign). realm_from behind (s ∷ rest)) (sym is)) ∙ given

pub before-octet : (behind : Bool) (octet : ℕ) (rest : List Sign) → behind ≡ false → realm_from behind (Octet octet ∷ rest) ≡ realm_from behind rest
before-octet true octet rest b = cc
before-octet false octet rest b = refl

pub at-slash : (behind : Bool) (rest : List Sign) → realm_from behind (Slash ∷ rest) ≡ realm_from behind rest
at-slash true rest = refl
at-slash false rest = refl

pub at-sign : (behind : Bool) (rest : List Sign) → realm_from behind (At ∷ rest) ≡ realm_from true rest
at-sign true rest = refl
at-sign false rest = refl

pub realm-end : (realm : List ℕ) (behind : Bool) (left : List Sign) (whole : List ℕ) → realm_from behind left ≡ realm_from behind [] → realm ++ realm_from behind left ≡ whole → realm ≡ whole
realm-end realm true left whole none given = sym (append-nil realm) ∙ (ap (λ (xs : List ℕ). realm ++ xs) (sym none) ∙ given)
realm-end realm false left whole none given = sym (append-nil realm) ∙ (ap (λ (xs : List ℕ). realm ++ xs) (sym none) ∙ given)

-- this sign is the next
pub next-sign : (parts : List (List ℕ)) (part : List ℕ) (sign : Sign) (signs : List Sign) (i : ℕ) (whole : List (List ℕ)) → i < length signs → get_or signs i (Octet 0) ≡ sign
    → parts ++ parts_from part (drop i signs) ≡ whole → parts ++ parts_from part (sign ∷ drop (i + 1) signs) ≡ whole
next-sign parts part sign signs i whole within is given =
    ap (λ (s : Sign). parts ++ parts_from part (s ∷ drop (i + 1) signs)) (sym is) ∙ (sym (at_drop_more (λ (left : List Sign). parts ++ parts_from part left) signs i (Octet 0) within) ∙ given)

-- no sign is left
pub parts-end : (parts : List (List ℕ)) (part : List ℕ) (signs : List Sign) (i : ℕ) (whole : List (List ℕ)) → length signs ≤ i → parts ++ parts_from part (drop i signs) ≡ whole → parts ++ part ∷ [] ≡ whole
parts-end parts part signs i whole past given = sym (at_drop_all (λ (left : List Sign). parts ++ parts_from part left) signs i past) ∙ given

-- a part more was read
pub part-pushed : (parts items : List (List ℕ)) (part text : List ℕ) (rest whole : List (List ℕ)) → items ≡ parts ++ text ∷ [] → text ≡ part → parts ++ part ∷ rest ≡ whole → items ++ rest ≡ whole
part-pushed parts items part text rest whole pushed same given = rw (pushed, same, append_assoc) given

pub no_ok : {T E : Type 0} (r : Result T E) (P : Type 0) → IsErr r → OnOk r P
no_ok (Ok x) P e = absurd (false≢true e)
no_ok (Err x) P e = tt

pub marked_octet : (out marked items : List ℕ) (octet : ℕ) (rest whole : List ℕ) → is_mark octet ≡ true → marked ≡ out ++ 92 ∷ [] → items ≡ marked ++ octet ∷ []
    → out ++ quoted (octet ∷ rest) ≡ whole → items ++ quoted rest ≡ whole
marked_octet out marked items octet rest whole m first second given = rw (second, first, append_assoc, append_assoc) (rw m at given)

pub plain_octet : (out items : List ℕ) (octet : ℕ) (rest whole : List ℕ) → is_mark octet ≡ false → items ≡ out ++ octet ∷ [] → out ++ quoted (octet ∷ rest) ≡ whole → items ++ quoted rest ≡ whole
plain_octet out items octet rest whole m pushed given = rw (pushed, append_assoc) (rw m at given)
