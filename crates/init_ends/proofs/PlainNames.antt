-- Identifiers of the objects of Kerberos and SCRAM, and the mechanisms that they name.
use Rattle.std.proofs.Common.{◌≡◌, ℕ, Bool, true, false, ◌||◌, ◌&&◌, if◌then◌else◌, refl, sym, ap, ◌∙◌, subst, List, [], ◌∷◌, map, Option, Some, None}
use Rattle.std.specs.Prelude.{option_map}
use lib.Pointwise.{bytes_decides}
use Rattle.gss_base.specs.declared.mech.MechKind.{MechKind}
use Rattle.gss_base.specs.declared.mech.MechKind.TheVariants.{Kerberos, Scram}
use Rattle.gss_base.specs.declared.mech.KerberosName.TheVariants.{Standard, Microsoft}
use Rattle.gss_base.specs.Mech.{kind_named, mech_of}
use Rattle.spnego_core.specs.declared.setup.MechCred.{MechCred}
use Rattle.spnego_core.specs.declared.setup.MechCred.TheVariants as creds
use Rattle.spnego_core.specs.Choice.{same_kind, is_kind, is_first, is_same_oid, are_few}
use Rattle.spnego_core.specs.InitMech.{kind_of, name_of, oid_listed, kinds_of, cred_for, is_own}
use Rattle.spnego_core.specs.InitMech as lists
use Rattle.init_ends.specs.Objects.{are_one, is_named, oids_of, is_own_list, all_fresh, all_armed, mech_for, is_first_named}
use Rattle.mech_objects.specs.Meaning.{MechSays}
use Rattle.init_ends.specs.Plain.{fresh_of}

-- ---- identifiers

same-itself : (kind : MechKind) → same_kind kind kind ≡ true
same-itself Kerberos = refl
same-itself Scram = refl

pub same-is : (a b : MechKind) → same_kind a b ≡ true → a ≡ b
same-is Kerberos Kerberos e = refl
same-is Kerberos Scram e = cc
same-is Scram Kerberos e = cc
same-is Scram Scram e = refl

same-swaps : (a b : MechKind) → same_kind a b ≡ same_kind b a
same-swaps Kerberos Kerberos = refl
same-swaps Kerberos Scram = refl
same-swaps Scram Kerberos = refl
same-swaps Scram Scram = refl

-- the identifier under which a credential stands is one of its mechanism
pub mech-listed : (cred : MechCred) → mech_of (oid_listed cred) ≡ Some (kind_of cred)
mech-listed (creds.Kerberos Standard credential) = refl
mech-listed (creds.Kerberos Microsoft credential) = refl
mech-listed (creds.Scram user password) = refl

-- the mechanism of its name is its own
pub kind-named : (cred : MechCred) → kind_named (name_of cred) ≡ kind_of cred
kind-named (creds.Kerberos name credential) = refl
kind-named (creds.Scram user password) = refl

named-by : (oid own : List ℕ) (kind : MechKind) → mech_of own ≡ Some kind → (b : Bool) → is_same_oid oid own ≡ b → (b || are_one (mech_of oid) (mech_of own)) ≡ is_kind (mech_of oid) kind
named-by oid own kind e true f =
    let is : oid ≡ own = (bytes_decides oid own).0 f in
    sym (ap (λ (x : Option MechKind). is_kind x kind) (ap mech_of is ∙ e) ∙ same-itself kind)
named-by oid own kind e false f = ap (are_one (mech_of oid)) e

-- what stands under an identifier of a mechanism is named by the identifiers of that mechanism
pub named-kind : (oid own : List ℕ) (kind : MechKind) → mech_of own ≡ Some kind → is_named oid own ≡ is_kind (mech_of oid) kind
named-kind oid own kind e = named-by oid own kind e (is_same_oid oid own) refl

-- an identifier names a credential's exactly where that is of its mechanism
pub listed-named : (oid : List ℕ) (cred : MechCred) (kind : MechKind) → mech_of oid ≡ Some kind → is_named oid (oid_listed cred) ≡ same_kind (kind_of cred) kind
listed-named oid cred kind e =
    named-kind oid (oid_listed cred) (kind_of cred) (mech-listed cred) ∙ (ap (λ (x : Option MechKind). is_kind x (kind_of cred)) e ∙ same-swaps kind (kind_of cred))

-- one of no mechanism names none
pub unnamed : (oid : List ℕ) (cred : MechCred) → mech_of oid ≡ None → is_named oid (oid_listed cred) ≡ false
unnamed oid cred e =
    named-kind oid (oid_listed cred) (kind_of cred) (mech-listed cred) ∙ ap (λ (x : Option MechKind). is_kind x (kind_of cred)) e

-- ---- lists

pub oids-of : (list : List MechCred) → oids_of (map fresh_of list) ≡ map oid_listed list
oids-of [] = refl
oids-of (cred ∷ rest) = ap (λ (x : List (List ℕ)). oid_listed cred ∷ x) (oids-of rest)

pub first-named : (list : List MechCred) (oid : List ℕ) (kind : MechKind) → mech_of oid ≡ Some kind → is_first_named (map oid_listed list) oid ≡ is_first (kinds_of list) kind
first-named [] oid kind e = refl
first-named (cred ∷ rest) oid kind e = listed-named oid cred kind e

pub fresh-all : (list : List MechCred) → all_fresh (map fresh_of list) ≡ true
fresh-all [] = refl
fresh-all (cred ∷ rest) = fresh-all rest

armed-all : (list : List MechCred) → all_armed (map fresh_of list) ≡ true
armed-all [] = refl
armed-all (cred ∷ rest) = armed-all rest

found : (b : Bool) (cred : MechCred) (rest : Option MechCred) → (if b then Some (fresh_of cred) else option_map fresh_of rest) ≡ option_map fresh_of (if b then Some cred else rest)
found true cred rest = refl
found false cred rest = refl

-- the object that an identifier names is that of its mechanism's first credential
pub object-for : (list : List MechCred) (oid : List ℕ) (kind : MechKind) → mech_of oid ≡ Some kind → mech_for (map fresh_of list) oid ≡ option_map fresh_of (cred_for list kind)
object-for [] oid kind e = refl
object-for (cred ∷ rest) oid kind e =
    rw (listed-named oid cred kind e, object-for rest oid kind e) (found (same_kind (kind_of cred) kind) cred (cred_for rest kind))

-- none is there where no mechanism is named
pub object-unnamed : (list : List MechCred) (oid : List ℕ) → mech_of oid ≡ None → mech_for (map fresh_of list) oid ≡ None
object-unnamed [] oid e = refl
object-unnamed (cred ∷ rest) oid e = rw (unnamed oid cred e) (object-unnamed rest oid e)

-- a list has a credential of a mechanism, or none
own-some : (b rest : Bool) → b ≡ true → (b || rest) ≡ true
own-some true rest e = refl
own-some false rest e = cc

owned-by : (first : MechCred) (rest : List MechCred) (kind : MechKind) (cred : MechCred) → (cred_for rest kind ≡ Some cred → (is_own rest kind ≡ true) × (kind_of cred ≡ kind))
    → (b : Bool) → same_kind (kind_of first) kind ≡ b → (if b then Some first else cred_for rest kind) ≡ Some cred → (is_own (first ∷ rest) kind ≡ true) × (kind_of cred ≡ kind)
owned-by first rest kind cred more true f g =
    let is : first ≡ cred = cc in
    (own-some (same_kind (kind_of first) kind) (is_own rest kind) f, subst (λ (x : MechCred). kind_of x ≡ kind) is (same-is (kind_of first) kind f))
owned-by first rest kind cred more false f g =
    let all : (is_own rest kind ≡ true) × (kind_of cred ≡ kind) = more g in
    (rw f all.0, all.1)

pub owned : (list : List MechCred) (kind : MechKind) (cred : MechCred) → cred_for list kind ≡ Some cred → (is_own list kind ≡ true) × (kind_of cred ≡ kind)
owned [] kind cred e = absurd (let f : None ≡ Some cred = e in cc)
owned (first ∷ rest) kind cred e = owned-by first rest kind cred (owned rest kind cred) (same_kind (kind_of first) kind) refl e

unowned-by : (first : MechCred) (rest : List MechCred) (kind : MechKind) → (cred_for rest kind ≡ None → is_own rest kind ≡ false)
    → (b : Bool) → same_kind (kind_of first) kind ≡ b → (if b then Some first else cred_for rest kind) ≡ None → is_own (first ∷ rest) kind ≡ false
unowned-by first rest kind more true f g = absurd (let h : Some first ≡ None = g in cc)
unowned-by first rest kind more false f g = rw f (more g)

pub unowned : (list : List MechCred) (kind : MechKind) → cred_for list kind ≡ None → is_own list kind ≡ false
unowned [] kind e = refl
unowned (first ∷ rest) kind e = unowned-by first rest kind (unowned rest kind) (same_kind (kind_of first) kind) refl e

and-true : (b : Bool) → (b && true) ≡ b
and-true true = refl
and-true false = refl

pub own-lists : (list : List MechCred) → is_own_list (map fresh_of list) ≡ lists.is_own_list list
own-lists list = rw (oids-of list, fresh-all list, armed-all list) (and-true (are_few (map oid_listed list)))

-- the objects of an own list's credentials are an own list
pub own_objects : (creds : List MechCred) → lists.is_own_list creds ≡ true → (list : List MechSays) → list ≡ map fresh_of creds → is_own_list list ≡ true
own_objects creds e list f = subst (λ (x : List MechSays). is_own_list x ≡ true) (sym f) (own-lists creds ∙ e)
