-- The best of a list: the first mechanism of it that is offered.
use Rattle.std.proofs.Common.{◌≡◌, ℕ, Bool, true, false, if◌then◌else◌, refl, subst, List, [], ◌∷◌, map, Option, Some, None}
use Rattle.gss_base.specs.declared.mech.MechKind.{MechKind}
use Rattle.gss_base.specs.declared.mech.MechKind.TheVariants as kinds
use Rattle.gss_base.specs.declared.mech.KerberosName.TheVariants.{Standard, Microsoft}
use Rattle.gss_base.specs.Mech.{mech_of}
use Rattle.spnego_core.specs.declared.setup.MechCred.{MechCred}
use Rattle.spnego_core.specs.declared.setup.MechCred.TheVariants as creds
use Rattle.spnego_core.specs.Choice.{is_among, is_first, offered, or_next, best}
use Rattle.spnego_core.specs.InitMech.{kinds_of, oid_listed}

abbrev own_oids : List MechCred → List (List ℕ)
own_oids list = map oid_listed list

-- the own first mechanism is the best where it is offered
pub best-first : (offer : List MechKind) (list : List MechCred) (kind : MechKind) → is_first (kinds_of list) kind ≡ true → is_among offer kind ≡ true → best offer (own_oids list) ≡ Some kind
best-first offer [] kind first among = absurd cc
best-first offer (creds.Kerberos Standard c ∷ rest) kinds.Kerberos first among = rw among refl
best-first offer (creds.Kerberos Microsoft c ∷ rest) kinds.Kerberos first among = rw among refl
best-first offer (creds.Kerberos name c ∷ rest) kinds.Scram first among = absurd cc
best-first offer (creds.Scram u p ∷ rest) kinds.Kerberos first among = absurd cc
best-first offer (creds.Scram u p ∷ rest) kinds.Scram first among = rw among refl

some-kind : (a b : MechKind) → Some a ≡ Some b → a ≡ b
some-kind a b e = cc

chosen-among : (offer : List MechKind) (named kind : MechKind) (b : Bool) (next : Option MechKind) → is_among offer named ≡ b → or_next (if b then Some named else None) next ≡ Some kind → (next ≡ Some kind → is_among offer kind ≡ true) → is_among offer kind ≡ true
chosen-among offer named kind true next among e later = subst (λ (k : MechKind). is_among offer k ≡ true) (some-kind named kind e) among
chosen-among offer named kind false next among e later = later e

next-among : (offer : List MechKind) (named : Option MechKind) (kind : MechKind) (next : Option MechKind) → or_next (offered offer named) next ≡ Some kind → (next ≡ Some kind → is_among offer kind ≡ true) → is_among offer kind ≡ true
next-among offer None kind next e later = later e
next-among offer (Some named) kind next e later = chosen-among offer named kind (is_among offer named) next refl e later

-- what is chosen is offered
pub best-among : (offer : List MechKind) (list : List (List ℕ)) (kind : MechKind) → best offer list ≡ Some kind → is_among offer kind ≡ true
best-among offer [] kind e = absurd cc
best-among offer (oid ∷ oids) kind e = next-among offer (mech_of oid) kind (best offer oids) e (λ f. best-among offer oids kind f)
