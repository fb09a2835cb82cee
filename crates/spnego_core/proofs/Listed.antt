-- The chosen mechanism as a list has it stands under one of its names.
use Rattle.std.proofs.Common.{◌≡◌, ℕ, ◌≤◌, Bool, true, false, ◌||◌, if◌then◌else◌, refl, sym, subst, arith, List, [], ◌∷◌, length, Some, None}
use lib.Pointwise.{bytes_decides}
use Rattle.gss_base.specs.declared.mech.MechKind.{MechKind}
use Rattle.gss_base.specs.declared.mech.MechKind.TheVariants as kinds
use Rattle.gss_base.specs.declared.mech.KerberosName.TheVariants.{Standard, Microsoft}
use Rattle.gss_base.specs.declared.mech.MechName.{MechName}
use Rattle.gss_base.specs.declared.mech.MechName.TheVariants as names
use Rattle.gss_base.specs.Mech.{oid_named, kind_named, oid_of, is_oid_named, is_oid_of, mech_of}
use Rattle.spnego_core.specs.Choice.{is_kind, listed_as}

-- an identifier is one of the mechanism's names
pub record IsName (oid : List ℕ) (kind : MechKind) : Type 0 where
  pub name : MechName
  pub kind_is : kind_named name ≡ kind
  pub is : oid ≡ oid_named name

standard : (kind : MechKind) → IsName (oid_of kind) kind
standard kinds.Kerberos = record { name = names.Kerberos Standard; kind_is = refl; is = refl }
standard kinds.Scram = record { name = names.Scram; kind_is = refl; is = refl }

by_tests : (oid : List ℕ) (a b c : Bool) (kind : MechKind) → (a ≡ true → oid ≡ oid_named (names.Kerberos Standard)) → (b ≡ true → oid ≡ oid_named (names.Kerberos Microsoft)) → (c ≡ true → oid ≡ oid_named names.Scram)
    → is_kind (if a || b then Some kinds.Kerberos else if c then Some kinds.Scram else None) kind ≡ true → IsName oid kind
by_tests oid true b c kinds.Kerberos first second third e = record { name = names.Kerberos Standard; kind_is = refl; is = first refl }
by_tests oid true b c kinds.Scram first second third e = absurd (let f : false ≡ true = e in cc)
by_tests oid false true c kinds.Kerberos first second third e = record { name = names.Kerberos Microsoft; kind_is = refl; is = second refl }
by_tests oid false true c kinds.Scram first second third e = absurd (let f : false ≡ true = e in cc)
by_tests oid false false true kinds.Kerberos first second third e = absurd (let f : false ≡ true = e in cc)
by_tests oid false false true kinds.Scram first second third e = record { name = names.Scram; kind_is = refl; is = third refl }
by_tests oid false false false kind first second third e = absurd (let f : false ≡ true = e in cc)

-- what names a mechanism is one of its names
pub named-is : (oid : List ℕ) (kind : MechKind) → is_kind (mech_of oid) kind ≡ true → IsName oid kind
named-is oid kind e =
    by_tests oid (is_oid_named (names.Kerberos Standard) oid) (is_oid_named (names.Kerberos Microsoft) oid) (is_oid_of kinds.Scram oid) kind
    (λ f. (bytes_decides oid (oid_named (names.Kerberos Standard))).0 f)
    (λ f. (bytes_decides oid (oid_named (names.Kerberos Microsoft))).0 f)
    (λ f. (bytes_decides oid (oid_named names.Scram)).0 f) e

listed-by : (oid : List ℕ) (rest : List (List ℕ)) (kind : MechKind) (b : Bool) → is_kind (mech_of oid) kind ≡ b → IsName (listed_as rest kind) kind → IsName (if b then oid else listed_as rest kind) kind
listed-by oid rest kind true e later = named-is oid kind e
listed-by oid rest kind false e later = later

-- a mechanism as a list has it
pub listed-named : (list : List (List ℕ)) (kind : MechKind) → IsName (listed_as list kind) kind
listed-named [] kind = standard kind
listed-named (oid ∷ rest) kind = listed-by oid rest kind (is_kind (mech_of oid) kind) refl (listed-named rest kind)

-- each name names its mechanism, in few octets
pub back-named : (name : MechName) → mech_of (oid_named name) ≡ Some (kind_named name)
back-named (names.Kerberos Standard) = refl
back-named (names.Kerberos Microsoft) = refl
back-named names.Scram = refl

pub few-named : (name : MechName) → length (oid_named name) ≤ 9
few-named (names.Kerberos Standard) = omega arith
few-named (names.Kerberos Microsoft) = omega arith
few-named names.Scram = omega arith

pub listed-back : (list : List (List ℕ)) (kind : MechKind) → mech_of (listed_as list kind) ≡ Some kind
listed-back list kind =
    let n = listed-named list kind in
    rw (n.is, back-named n.name, n.kind_is) refl

pub listed-few : (list : List (List ℕ)) (kind : MechKind) → length (listed_as list kind) ≤ 9
listed-few list kind = let n = listed-named list kind in subst (λ (oid : List ℕ). length oid ≤ 9) (sym n.is) (few-named n.name)
