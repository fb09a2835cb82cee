-- What is found is verified.
use Rattle.std.proofs.Common.{◌≡◌, ◌⊎◌, ℕ, Bool, true, false, if◌then◌else◌, refl, sym, inl, inr, List, [], ◌∷◌, ◌++◌}
use Rattle.std.specs.Prelude.{Result, Ok, Err, nat_eq}
use lib.Pointwise.{pointwise, bytes_decides}
use Rattle.krb_derive.specs.declared.key.Key.{Key}
use Rattle.krb_derive.specs.declared.sealing.OpenRefusal.{OpenRefusal}
use Rattle.krb_derive.specs.Sealing.{checksum_of, opened}
use Rattle.krb_derive.specs.Making.{Making, VerifiesCheck, VerifiesSealed, Among, sealed_making, check_making, found_in}

found : (key : Key) (usage : ℕ) (answer : Result (List ℕ) OpenRefusal) (making : Making) → Among (found_in key usage answer) making
    → (plain : List ℕ) × (making ≡ sealed_making key usage plain) × (answer ≡ Ok plain)
found key usage (Ok plain) making (inl e) = (plain, e, refl)
found key usage (Ok plain) making (inr none) = absurd none
found key usage (Err refusal) making none = absurd none

pub opening_verifies : (key : Key) (usage : ℕ) (octets : List ℕ) (making : Making) → Among (found_in key usage (opened key usage octets)) making
    → (plain : List ℕ) × (making ≡ sealed_making key usage plain) × VerifiesSealed key usage plain octets
opening_verifies key usage octets making h = found key usage (opened key usage octets) making h

compared : (answer : Bool) (one making : Making) → Among (if answer then one ∷ [] else []) making → (answer ≡ true) × (making ≡ one)
compared true one making (inl e) = (refl, e)
compared true one making (inr none) = absurd none
compared false one making none = absurd none

pub checking_verifies : (key : Key) (usage : ℕ) (octets tag : List ℕ) (making : Making)
    → Among (if pointwise nat_eq (checksum_of key usage octets) tag then check_making key usage octets ∷ [] else []) making
    → (making ≡ check_making key usage octets) × VerifiesCheck key usage octets tag
checking_verifies key usage octets tag making h =
    let both : (pointwise nat_eq (checksum_of key usage octets) tag ≡ true) × (making ≡ check_making key usage octets) =
    compared (pointwise nat_eq (checksum_of key usage octets) tag) (check_making key usage octets) making h in
    (both.1, sym ((bytes_decides (checksum_of key usage octets) tag).0 both.0))

pub among_both : (front back : List Making) (making : Making) → Among (front ++ back) making → Among front making ⊎ Among back making
among_both [] back making h = inr h
among_both (first ∷ front) back making (inl e) = inl (inl e)
among_both (first ∷ front) back making (inr h) = elim (among_both front back making h) [ inl a ↦ inl (inr a) | inr b ↦ inr b ]

pub among_front : (front back : List Making) (making : Making) → Among front making → Among (front ++ back) making
among_front [] back making h = absurd h
among_front (first ∷ front) back making (inl e) = inl e
among_front (first ∷ front) back making (inr h) = inr (among_front front back making h)

pub among_back : (front back : List Making) (making : Making) → Among back making → Among (front ++ back) making
among_back [] back making h = h
among_back (first ∷ front) back making h = inr (among_back front back making h)
