-- The octets of a list of own mechanisms: behind the first four stands an object identifier of a mechanism.
use Rattle.std.proofs.Common.{◌≡◌, ℕ, ◌*◌, ◌<◌, ◌≤◌, lit<, true, List, [], ◌∷◌, ◌++◌, length, map, nat_lt, refl, sym, subst, arith}
use Rattle.std.proofs.lemmas.Bool.Decides.{nat_tests}
use Rattle.std.proofs.lemmas.List.{length-append}
use Rattle.gss_base.specs.declared.mech.KerberosName.TheVariants.{Standard, Microsoft}
use Rattle.gss_base.specs.declared.mech.MechName.{MechName}
use Rattle.gss_base.specs.declared.mech.MechName.TheVariants as names
use Rattle.gss_base.specs.Mech.{oid_named}
use Rattle.der_core.specs.Header.{tlv, length_octets}
use Rattle.der_core.specs.Fields.{many_spelling}
use Rattle.der_core.specs.Values.{object_identifier}
use Rattle.spnego_msgs.specs.Lists.{list_octets}
use Rattle.spnego_core.specs.declared.setup.MechCred.{MechCred}
use Rattle.spnego_core.specs.InitMech.{name_of, oid_listed, is_own_list}
use Rattle.told_apart.specs.Apart.{oid_word}
use Rattle.told_apart.proofs.Places.{word_of}

pub record IsHigh (octets : List ℕ) : Type 0 where
  pub long : 8 < length octets
  pub name : MechName
  pub is : word_of 4 octets ≡ oid_word name
  pub high : 65536 < word_of 4 octets
  pub short : length octets < 100

-- ---- few octets

one-octet : (n : ℕ) → n < 128 → length_octets n ≡ n ∷ []
unfolding length_octets
one-octet n h = let below : nat_lt n 128 ≡ true = grind (arith, nat_tests) in rw below refl

spelled-few : (name : MechName) → length (object_identifier.spell (oid_named name)) ≤ 11
unfolding object_identifier tlv length_octets
spelled-few (names.Kerberos Standard) = omega arith
spelled-few (names.Kerberos Microsoft) = omega arith
spelled-few names.Scram = omega arith

many-few : (list : List MechCred) → length (many_spelling object_identifier (map oid_listed list)) ≤ 11 * length list
many-few [] = omega arith
many-few (cred ∷ rest) =
    let one = spelled-few (name_of cred) in
    let others = many-few rest in
    omega (arith, one, others, length-append (object_identifier.spell (oid_listed cred)) (many_spelling object_identifier (map oid_listed rest)))

three-own : (list : List MechCred) → is_own_list list ≡ true → length list ≤ 3
three-own [] e = omega arith
three-own (a ∷ []) e = omega arith
three-own (a ∷ b ∷ []) e = omega arith
three-own (a ∷ b ∷ c ∷ []) e = omega arith
three-own (a ∷ b ∷ c ∷ d ∷ rest) e = absurd cc

-- ---- the first identifier

high-by : (name : MechName) (n : ℕ) (rest : List ℕ) → length (object_identifier.spell (oid_named name) ++ rest) ≤ 33 → IsHigh (0x30 ∷ n ∷ (object_identifier.spell (oid_named name) ++ rest))
unfolding object_identifier tlv length_octets
high-by (names.Kerberos Standard) n rest few = record { long = omega arith; name = names.Kerberos Standard; is = refl; high = lit< tt; short = omega (arith, few) }
high-by (names.Kerberos Microsoft) n rest few = record { long = omega arith; name = names.Kerberos Microsoft; is = refl; high = lit< tt; short = omega (arith, few) }
high-by names.Scram n rest few = record { long = omega arith; name = names.Scram; is = refl; high = lit< tt; short = omega (arith, few) }

pub high-list : (creds : List MechCred) → is_own_list creds ≡ true → IsHigh (list_octets (map oid_listed creds))
unfolding tlv
high-list [] e = absurd cc
high-list (first ∷ rest) e =
    let behind : List ℕ = many_spelling object_identifier (map oid_listed rest) in
    let content : List ℕ = object_identifier.spell (oid_listed first) ++ behind in
    let few : length content ≤ 33 = omega (arith, many-few (first ∷ rest), three-own (first ∷ rest) e) in
    subst (λ (l : List ℕ). IsHigh (0x30 ∷ (l ++ content))) (sym (one-octet (length content) (omega (arith, few)))) (high-by (name_of first) (length content) behind few)
