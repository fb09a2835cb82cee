-- What ends of either mechanism hand out and find verified.
use Rattle.std.specs.Prelude.{◌≡◌, ◌⊎◌, ℕ, List, [], ◌∷◌, ◌++◌, length}
use Rattle.sha1.specs.Sha1.{sha1}
use Rattle.krb_derive.specs.declared.key.Key.{Key}
use Rattle.krb_derive.specs.Making.{Kind, Check, Sealed, Signature, Proof, Making, VerifiesCheck}
use Rattle.krb_derive.specs.Making.{VerifiesSealed}
use Rattle.scram_mech.specs.Secrets.{masked, signature_of}

-- a key of an encryption type, or one of SCRAM's: StoredKey or ServerKey
pub data TagKey : Type 0 where
  OfType : Key → TagKey
  OfPassword : List ℕ → TagKey

-- octets for which a tag was made under a key. Of a signature they are the AuthMessage, of a proof
-- the AuthMessage and the proof; their usage is 0
pub record MechMaking : Type 0 where
  pub kind : Kind
  pub key : TagKey
  pub usage : ℕ
  pub octets : List ℕ

-- a making under a key of an encryption type
abbrev pub typed : Making → MechMaking
typed m = record { kind = m.kind; key = OfType m.key; usage = m.usage; octets = m.octets }

-- the making of a ServerSignature: its ServerKey and the AuthMessage
abbrev pub signature_making : List ℕ → List ℕ → MechMaking
signature_making server auth =
    record { kind = Signature; key = OfPassword server; usage = 0; octets = auth }

-- the making of a ClientProof: its StoredKey, the AuthMessage and the proof
abbrev pub proof_making : List ℕ → List ℕ → List ℕ → MechMaking
proof_making stored auth proof =
    record { kind = Proof; key = OfPassword stored; usage = 0; octets = auth ++ proof }

-- the tag is the octets' signature
abbrev pub VerifiesSignature : List ℕ → List ℕ → List ℕ → Type 0
VerifiesSignature server auth tag = tag ≡ signature_of server auth

-- the octets are an AuthMessage and 20 octets of a proof that gives back a client key whose digest
-- is the stored key; the tag is empty
pub record VerifiesProof (stored octets tag : List ℕ) : Type 0 where
  pub auth : List ℕ
  pub proof : List ℕ
  pub parts : octets ≡ auth ++ proof
  pub sized : length proof ≡ 20
  pub gives : sha1 (masked stored auth proof) ≡ stored
  pub bare : tag ≡ []

-- the tag stands for the octets of a making
abbrev pub VerifiesBy : Kind → TagKey → ℕ → List ℕ → List ℕ → Type 0
VerifiesBy Check (OfType key) usage octets tag = VerifiesCheck key usage octets tag
VerifiesBy Sealed (OfType key) usage octets tag = VerifiesSealed key usage octets tag
VerifiesBy Signature (OfPassword key) usage octets tag = VerifiesSignature key octets tag
VerifiesBy Proof (OfPassword key) usage octets tag = VerifiesProof key octets tag
VerifiesBy Check (OfPassword key) usage octets tag = ⊥
VerifiesBy Sealed (OfPassword key) usage octets tag = ⊥
VerifiesBy Signature (OfType key) usage octets tag = ⊥
VerifiesBy Proof (OfType key) usage octets tag = ⊥

-- the tag stands for the octets of this making
abbrev pub Verifies : MechMaking → List ℕ → Type 0
Verifies m tag = VerifiesBy m.kind m.key m.usage m.octets tag

-- a making stands in a list
abbrev pub AmongMakings : List MechMaking → MechMaking → Type 0
AmongMakings [] making = ⊥
AmongMakings (first ∷ makings) making = (making ≡ first) ⊎ AmongMakings makings making
