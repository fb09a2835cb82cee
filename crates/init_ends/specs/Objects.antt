-- The objects of an initiator as a list.
use Rattle.std.specs.Prelude.{ℕ, Bool, true, false, ◌&&◌, ◌||◌, if◌then◌else◌, List, [], ◌∷◌}
use Rattle.std.specs.Prelude.{map, Option, Some, None, is_some}
use Rattle.sec_base.specs.Oid.{is_oid}
use Rattle.gss_base.specs.declared.mech.MechKind.{MechKind}
use Rattle.gss_base.specs.Mech.{mech_of}
use Rattle.spnego_core.specs.Choice.{is_kind, is_same_oid, are_few}
use Rattle.mech_objects.specs.Meaning.{MechSays}
use Rattle.mech_objects.specs.declared.ask.Stage.{Stage}
use Rattle.mech_objects.specs.declared.ask.Stage.TheVariants.{Blank, Fresh, Waiting, Over}

-- both are one mechanism, where there is one
abbrev pub are_one : Option MechKind → Option MechKind → Bool
are_one named None = false
are_one named (Some own) = is_kind named own

-- an identifier names what stands under that one: it is the same, or another of the same mechanism,
-- as Kerberos has two. One of no mechanism that is known here is only named by itself
abbrev pub is_named : List ℕ → List ℕ → Bool
is_named oid own = is_same_oid oid own || are_one (mech_of oid) (mech_of own)

-- the identifiers of the objects, in their order
abbrev pub oids_of : List MechSays → List (List ℕ)
oids_of list = map (λ m. m.oid) list

-- it has a credential, and sent nothing
abbrev pub is_fresh : Stage → Bool
is_fresh Blank = false
is_fresh Fresh = true
is_fresh Waiting = false
is_fresh Over = false

-- it sent a token, and waits for one
abbrev pub is_waiting : Stage → Bool
is_waiting Blank = false
is_waiting Fresh = false
is_waiting Waiting = true
is_waiting Over = false

-- each of them is fresh
abbrev pub all_fresh : List MechSays → Bool
all_fresh [] = true
all_fresh (m ∷ rest) = is_fresh m.stage && all_fresh rest

-- each of them has its credential
abbrev pub all_armed : List MechSays → Bool
all_armed [] = true
all_armed (m ∷ rest) = is_some m.cred && all_armed rest

-- one to three objects with different identifiers, each armed and fresh; two may be of one
-- mechanism, under its two names
abbrev pub is_own_list : List MechSays → Bool
is_own_list list = are_few (oids_of list) && (all_fresh list && all_armed list)

-- the first object that an identifier names
abbrev pub mech_for : List MechSays → List ℕ → Option MechSays
mech_for [] oid = None
mech_for (m ∷ rest) oid = if is_named oid m.oid then Some m else mech_for rest oid

-- the first of these identifiers is named
abbrev pub is_first_named : List (List ℕ) → List ℕ → Bool
is_first_named [] oid = false
is_first_named (first ∷ rest) oid = is_named oid first

-- each is an object identifier of at most 32 octets
abbrev pub are_oids : List (List ℕ) → Bool
are_oids [] = true
are_oids (oid ∷ rest) = is_oid oid && are_oids rest
