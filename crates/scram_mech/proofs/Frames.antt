-- A frame gives back what it holds.
use Rattle.std.proofs.Common.{◌≡◌, ℕ, suc, ◌*◌, ◌<◌, ◌≤◌, ◌^◌, Bool, true, false, cond, ◌==◌, List, [], ◌∷◌, ◌++◌, length, Ok, nat_lt, ap, arith, length-append, codes}
use Rattle.std.proofs.lemmas.Bool.Decides.{nat_tests}
use Rattle.gss_base.specs.Mech.{oid_of}
use Rattle.gss_base.specs.declared.mech.MechKind.TheVariants.{Scram}
use Rattle.der_core.specs.Header.{tlv, length_octets}
use Rattle.der_core.specs.Values.{object_identifier}
use Rattle.der_core.specs.Frame.{framed}
use Rattle.der_core.proofs.Wholes.{framed_law}
use Rattle.scram_mech.specs.Name.{escape_of, escaped}
use Rattle.scram_mech.specs.FirstText.{first_text}
use Rattle.scram_mech.specs.Judging.{held, unframed}

-- the content of the frame
inner : List ℕ → List ℕ
inner text = tlv 6 (oid_of Scram) ++ text

fits_length : (n : ℕ) → n < 2 ^ 31 → nat_lt (suc (suc (suc (suc (suc (suc (suc (suc n)))))))) (2 ^ 32) ≡ true
fits_length n short = grind (arith, nat_tests)

frame-fits : (text : List ℕ) → length text < 2 ^ 31 → framed.fits (oid_of Scram, text) ≡ true
unfolding framed object_identifier tlv length_octets
frame-fits text short = fits_length (length text) short

pub unframed-framed : (text : List ℕ) → length text < 2 ^ 31 → unframed (framed.spell (oid_of Scram, text)) ≡ Ok text
unfolding unframed
unframed-framed text short =
    let token = framed.spell (oid_of Scram, text) in
    ap (held token) (framed_law.again (length token) (oid_of Scram, text) (frame-fits text short))

length-escape : (x : ℕ) (b c : Bool) → length (cond b (61 ∷ 50 ∷ 67 ∷ []) (cond c (61 ∷ 51 ∷ 68 ∷ []) (x ∷ []))) ≤ 3
length-escape x true c = omega arith
length-escape x false true = omega arith
length-escape x false false = omega arith

pub length-escaped : (name : List ℕ) → length (escaped name) ≤ 3 * length name
unfolding escaped
length-escaped [] = omega arith
length-escaped (x ∷ xs) = omega (arith, length-append (escape_of x) (escaped xs), length-escape x (x == 44) (x == 61), length-escaped xs)

pub first-short : (name nonce : List ℕ) → length name ≤ 255 → length nonce ≤ 232 → length (first_text name nonce) < 2 ^ 31
unfolding first_text
first-short name nonce a b =
    omega (arith, length-append ((codes "n=" ++ escaped name) ++ codes ",r=") nonce, length-append (codes "n=" ++ escaped name) (codes ",r="), length-append (codes "n=") (escaped name), length-escaped name)
