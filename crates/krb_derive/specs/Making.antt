-- What an end hands out and what it finds verified: records of a key's use.
use Rattle.std.specs.Prelude.{◌≡◌, ℕ, nat_eq, Bool, List, [], ◌∷◌, Result, Ok, Err, if◌then◌else◌}
use Rattle.std.specs.Prelude.{◌⊎◌}
use lib.Pointwise.{pointwise}
use Rattle.krb_derive.specs.declared.key.Key.{Key}
use Rattle.krb_derive.specs.declared.sealing.OpenRefusal.{OpenRefusal}
use Rattle.krb_derive.specs.Sealing.{checksum_of, seal_of, opened}

-- ways in which a tag stands for octets. Signature and Proof are SCRAM's, of RFC 5802 section 3
pub data Kind : Type 0 where
  Check : Kind
  Sealed : Kind
  Signature : Kind
  Proof : Kind

-- octets for which a tag was made under a key. The confounder of sealed octets isn't among them
pub record Making : Type 0 where
  pub kind : Kind
  pub key : Key
  pub usage : ℕ
  pub octets : List ℕ

-- the tag is the octets' checksum
abbrev pub VerifiesCheck : Key → ℕ → List ℕ → List ℕ → Type 0
VerifiesCheck key usage octets tag = tag ≡ checksum_of key usage octets

-- the tag opens to the octets
abbrev pub VerifiesSealed : Key → ℕ → List ℕ → List ℕ → Type 0
VerifiesSealed key usage octets tag = opened key usage tag ≡ Ok octets

-- a making stands in a list
abbrev pub Among : List Making → Making → Type 0
Among [] making = ⊥
Among (first ∷ makings) making = (making ≡ first) ⊎ Among makings making

-- ---- the calls with what they hand out and find

-- octets that were made with a key, and the makings that are handed out with them
pub record Made : Type 0 where
  pub octets : List ℕ
  pub makes : List Making

-- what the opening of sealed octets answers, and what it found verified
pub record Opening : Type 0 where
  pub answer : Result (List ℕ) OpenRefusal
  pub found : List Making

-- whether a tag is the checksum of octets, and what was found verified
pub record Verdict : Type 0 where
  pub answer : Bool
  pub found : List Making

-- the making of octets sealed under this key and usage
abbrev pub sealed_making : Key → ℕ → List ℕ → Making
sealed_making key usage octets = record { kind = Sealed; key = key; usage = usage; octets = octets }

-- the making of a checksum over octets under this key and usage
abbrev pub check_making : Key → ℕ → List ℕ → Making
check_making key usage octets = record { kind = Check; key = key; usage = usage; octets = octets }

-- octets sealed with a confounder, with their making
abbrev pub sealing : Key → ℕ → List ℕ → List ℕ → Made
sealing key usage confounder octets = record {
  octets = seal_of key usage confounder octets;
  makes =
      sealed_making key usage octets ∷ [];
}

-- what an opening found verified, by its answer; a refused one shows nothing
abbrev pub found_in : Key → ℕ → Result (List ℕ) OpenRefusal → List Making
found_in key usage (Ok octets) = sealed_making key usage octets ∷ []
found_in key usage (Err refusal) = []

-- sealed octets opened under this key and usage
abbrev pub opening : Key → ℕ → List ℕ → Opening
opening key usage octets = record {
  answer = opened key usage octets;
  found =
      found_in key usage (opened key usage octets);
}

-- the checksum over octets, with its making
abbrev pub checking : Key → ℕ → List ℕ → Made
checking key usage octets =
    record { octets = checksum_of key usage octets; makes = check_making key usage octets ∷ [] }

-- a tag compared with the checksum over octets
abbrev pub verifying : Key → ℕ → List ℕ → List ℕ → Verdict
verifying key usage octets tag =
    let answer : Bool = pointwise nat_eq (checksum_of key usage octets) tag in
    record { answer = answer; found = (if answer then check_making key usage octets ∷ [] else []) }
