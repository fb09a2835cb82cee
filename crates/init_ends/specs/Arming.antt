-- Blank objects of Kerberos and SCRAM, as they are handed in to be armed.
use Rattle.std.specs.Prelude.{◌≡◌, ◌+◌, ℕ, Bool, true, if◌then◌else◌, List, [], ◌∷◌, Some}
use Rattle.std.specs.List.{list_any}
use Rattle.gss_base.specs.declared.mech.MechName.{MechName}
use Rattle.gss_base.specs.Mech.{oid_named, mech_of}
use Rattle.spnego_core.specs.Choice.{is_same_oid}
use Rattle.mech_objects.specs.Meaning.{MechSays, blank}
use Rattle.mech_objects.specs.Standard.{standard}

-- an object of Kerberos or SCRAM that has no credential, under an identifier of its mechanism
abbrev pub IsBlank : MechSays → Type 0
IsBlank m = (m ≡ blank m.kind m.oid standard) × (mech_of m.oid ≡ Some m.kind)

-- each of them is one
abbrev pub AreBlank : List MechSays → Type 0
AreBlank [] = Unit {0}
AreBlank (m ∷ rest) = IsBlank m × AreBlank rest

-- there is one under this identifier
abbrev pub has_oid : List MechSays → List ℕ → Bool
has_oid list oid = list_any (λ m. is_same_oid m.oid oid) list

-- blank objects, in any order, and at least one under each name: Kerberos under both its names, and
-- SCRAM
abbrev pub AreStandard : List MechSays → Type 0
AreStandard list = AreBlank list × ((name : MechName) → has_oid list (oid_named name) ≡ true)

-- ---- an object is taken out

-- where the first one under an identifier stands
abbrev pub place_of : List MechSays → List ℕ → ℕ
place_of [] oid = 0
place_of (m ∷ rest) oid = if is_same_oid m.oid oid then 0 else 1 + place_of rest oid

-- the objects without it
abbrev pub without : List MechSays → List ℕ → List MechSays
without [] oid = []
without (m ∷ rest) oid = if is_same_oid m.oid oid then rest else m ∷ without rest oid
