-- The grammar of keytabs.
use Rattle.std.specs.Prelude.{◌≡◌, ℕ, ◌<◌, ◌≤◌, ◌-◌, ◌^◌, ◌⊎◌, List, [], ◌∷◌, length, Option}
use Rattle.gss_base.specs.Name.{Name}
use Rattle.krb_derive.specs.declared.key.Key.{Key}
use Rattle.krb_files.specs.declared.keytab.Entry.{Entry}
use Rattle.krb_files.specs.declared.pieces.Next.{Next}
use Rattle.krb_files.specs.declared.pieces.Next.TheVariants.{End, Other, Item}
use Rattle.krb_files.specs.Keytab.{version_of}
use Rattle.krb_files.specs.Grammar.{Then, Number, Principal, KeyField, Body}

-- what stands behind the key: perhaps the version in 32 bits, then whatever
pub record Rest (name : Name) (low : ℕ) (key : Option Key) (entry : Entry) (octets : List ℕ) : Type
    0 where
  pub same : entry ≡ record { name = name; number = version_of low octets; key = key }

-- a record: the principal, the name's type, the time, the version in 8 bits, the key, the rest
abbrev pub SpellsEntry : Entry → List ℕ → Type 0
SpellsEntry = Then (Principal 2) (λ name. Then (Number 4) (λ kind. Then (Number 4)
    (λ time. Then (Number 1) (λ low. Then (KeyField 2) (λ key. Rest name low key)))))

-- what stands behind a length: a record of so many octets, or a hole, where the length is negative
-- in two's complement
abbrev pub Sized : ℕ → Next Entry → List ℕ → Type 0
Sized size End octets = ⊥
Sized size Other octets = (2 ^ 31 ≤ size) × (length octets ≡ 2 ^ 32 - size)
Sized size (Item entry) octets = (0 < size) × (size < 2 ^ 31) × (length octets ≡ size)
    × SpellsEntry entry octets

-- a length of 32 bits, and what stands behind it
abbrev pub Piece : Next Entry → List ℕ → Type 0
Piece = Then (Number 4) Sized

-- behind the length 0 stands whatever
pub record NoMore (size : ℕ) (u : Unit {0}) (octets : List ℕ) : Type 0 where
  pub none : size ≡ 0

-- the end: nothing, or a length of 0
abbrev pub Ends : List ℕ → Type 0
Ends octets = (octets ≡ []) ⊎ Then (Number 4) NoMore tt octets

-- `05 02`, pieces, and the end
pub record SpellsKeytab (entries : List Entry) (octets : List ℕ) : Type 0 where
  pub body : List ℕ
  pub spells : Body Piece Ends entries body
  pub same : octets ≡ 5 ∷ 2 ∷ body
