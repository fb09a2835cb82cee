-- The mechanisms and their object identifiers: Kerberos V5, RFC 4121 section 1
-- (1.2.840.113554.1.2.2), and SCRAM-SHA-1, RFC 5802 section 8 (1.3.6.1.5.5.14). Microsoft's clients
-- put a second identifier before Kerberos's own, 1.2.840.48018.1.2.2; it is another name of the
-- same mechanism.
use Rattle.std.specs.Prelude.{◌≡◌, ◌⊎◌, ℕ, Bool, true, false, ◌||◌, List, [], ◌∷◌, Option}
use Rattle.std.specs.Prelude.{None, Some, nat_eq, if◌then◌else◌}
use Rattle.std.specs.Cmp.Lexicographic.{pointwise}
use Rattle.gss_base.specs.declared.mech.MechKind.{MechKind}
use Rattle.gss_base.specs.declared.mech.MechKind.TheVariants.{Kerberos, Scram}
use Rattle.gss_base.specs.declared.mech.KerberosName.TheVariants.{Standard, Microsoft}
use Rattle.gss_base.specs.declared.mech.MechName.{MechName}
use Rattle.gss_base.specs.declared.mech.MechName.TheVariants as names

-- the content octets of the object identifier that a mechanism has under a name
abbrev pub oid_named : MechName → List ℕ
oid_named (names.Kerberos Standard) =
    0x2a ∷ 0x86 ∷ 0x48 ∷ 0x86 ∷ 0xf7 ∷ 0x12 ∷ 0x01 ∷ 0x02 ∷ 0x02 ∷ []
oid_named (names.Kerberos Microsoft) =
    0x2a ∷ 0x86 ∷ 0x48 ∷ 0x82 ∷ 0xf7 ∷ 0x12 ∷ 0x01 ∷ 0x02 ∷ 0x02 ∷ []
oid_named names.Scram = 0x2b ∷ 0x06 ∷ 0x01 ∷ 0x05 ∷ 0x05 ∷ 0x0e ∷ []

-- the mechanism that has a name
abbrev pub kind_named : MechName → MechKind
kind_named (names.Kerberos name) = Kerberos
kind_named names.Scram = Scram

-- the content octets of a mechanism's own object identifier
abbrev pub oid_of : MechKind → List ℕ
oid_of Kerberos = oid_named (names.Kerberos Standard)
oid_of Scram = oid_named names.Scram

-- the content is that of this name's object identifier
abbrev pub is_oid_named : MechName → List ℕ → Bool
is_oid_named name content = pointwise nat_eq content (oid_named name)

-- the content is that of the mechanism's own object identifier
abbrev pub is_oid_of : MechKind → List ℕ → Bool
is_oid_of kind content = pointwise nat_eq content (oid_of kind)

-- the content is that of one of Kerberos's two object identifiers
abbrev pub is_kerberos_oid : List ℕ → Bool
is_kerberos_oid content = is_oid_named (names.Kerberos Standard) content
    || is_oid_named (names.Kerberos Microsoft) content

-- the mechanism that an object identifier's content names
abbrev pub mech_of : List ℕ → Option MechKind
mech_of content =
    if is_kerberos_oid content then Some Kerberos
    else if is_oid_of Scram content then Some Scram
    else None

-- the content is that of one of the mechanism's object identifiers
abbrev pub HasName : MechKind → List ℕ → Type 0
HasName Kerberos content = (content ≡ oid_named (names.Kerberos Standard))
    ⊎ (content ≡ oid_named (names.Kerberos Microsoft))
HasName Scram content = content ≡ oid_named names.Scram

-- the mechanism is Kerberos V5
abbrev pub is_kerberos : MechKind → Bool
is_kerberos Kerberos = true
is_kerberos Scram = false
