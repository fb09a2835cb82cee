-- Which mechanism is chosen, and whether the list's MIC must come: RFC 4178 sections 4.2.2 and 5.
-- Mechanisms are compared and never their object identifiers, of which Kerberos has two.
use Rattle.std.specs.Prelude.{ℕ, Bool, true, false, not, ◌&&◌, if◌then◌else◌, List, [], ◌∷◌, Option}
use Rattle.std.specs.Prelude.{Some, None, nat_eq}
use Rattle.std.specs.Cmp.Lexicographic.{pointwise}
use Rattle.std.specs.List.{list_any}
use Rattle.gss_base.specs.declared.mech.MechKind.{MechKind}
use Rattle.gss_base.specs.declared.mech.MechKind.TheVariants.{Kerberos, Scram}
use Rattle.gss_base.specs.Mech.{oid_of, mech_of}

-- both are the same mechanism
abbrev pub same_kind : MechKind → MechKind → Bool
same_kind Kerberos Kerberos = true
same_kind Kerberos Scram = false
same_kind Scram Kerberos = false
same_kind Scram Scram = true

-- the mechanism is one of these
abbrev pub is_among : List MechKind → MechKind → Bool
is_among kinds kind = list_any (λ other. same_kind other kind) kinds

-- the first of these mechanisms is this one
abbrev pub is_first : List MechKind → MechKind → Bool
is_first [] kind = false
is_first (first ∷ rest) kind = same_kind first kind

-- an identifier's mechanism, if it has one, is this one
abbrev pub is_kind : Option MechKind → MechKind → Bool
is_kind None kind = false
is_kind (Some named) kind = same_kind named kind

-- the first of these identifiers names this mechanism
abbrev pub is_first_named : List (List ℕ) → MechKind → Bool
is_first_named [] kind = false
is_first_named (first ∷ rest) kind = is_kind (mech_of first) kind

-- the mechanism, where the acceptor offers it
abbrev pub offered : List MechKind → Option MechKind → Option MechKind
offered offer None = None
offered offer (Some kind) = if is_among offer kind then Some kind else None

-- the first of both that is there
abbrev pub or_next : Option MechKind → Option MechKind → Option MechKind
or_next (Some kind) next = Some kind
or_next None next = next

-- the mechanism that an acceptor chooses: the first of the initiator's list that it offers
abbrev pub best : List MechKind → List (List ℕ) → Option MechKind
best offer [] = None
best offer (oid ∷ oids) = or_next (offered offer (mech_of oid)) (best offer oids)

-- the chosen mechanism as the initiator's list has it: the first of its identifiers there
abbrev pub listed_as : List (List ℕ) → MechKind → List ℕ
listed_as [] kind = oid_of kind
listed_as (oid ∷ oids) kind = if is_kind (mech_of oid) kind then oid else listed_as oids kind

-- both are one identifier
abbrev pub is_same_oid : List ℕ → List ℕ → Bool
is_same_oid a b = pointwise nat_eq a b

-- one to three identifiers, no two of which are one
abbrev pub are_few : List (List ℕ) → Bool
are_few [] = false
are_few (only ∷ []) = true
are_few (first ∷ second ∷ []) = not (is_same_oid first second)
are_few (first ∷ second ∷ third ∷ []) = not (is_same_oid first second)
    && (not (is_same_oid first third) && not (is_same_oid second third))
are_few (first ∷ second ∷ third ∷ fourth ∷ rest) = false

-- the MIC must come unless the chosen mechanism is the first choice of both
abbrev pub is_mic_due : List MechKind → List (List ℕ) → MechKind → Bool
is_mic_due offer list kind = not (is_first_named list kind && is_first offer kind)
