-- By which identifier a reply names the chosen mechanism (RFC 4178 section 4.2.2).
use Rattle.std.specs.Prelude.{◌≡◌, ℕ, true, List, ◌∷◌, ◌++◌, Some, None}
use Rattle.std.specs.List.{AllByRecursion}
use Rattle.gss_base.specs.declared.mech.MechKind.{MechKind}
use Rattle.gss_base.specs.Mech.{mech_of}
use Rattle.spnego_core.specs.Choice.{is_among, offered, best, listed_as}

-- the identifier stands in the list and names this mechanism, which is offered; of each that stands
-- before it there, the mechanism isn't offered, or it has none
pub record IsFirstOffered (offer : List MechKind) (list : List (List ℕ)) (kind : MechKind)
    (oid : List ℕ) : Type 0 where
  pub before : List (List ℕ)
  pub later : List (List ℕ)
  pub stands : list ≡ before ++ oid ∷ later
  pub passed : AllByRecursion (λ earlier. offered offer (mech_of earlier) ≡ None) before
  pub names : mech_of oid ≡ Some kind
  pub offers : is_among offer kind ≡ true

-- what an acceptor chooses is named by the first identifier of the list whose mechanism it offers
abbrev pub ListedLaw : Type 0
ListedLaw = (offer : List MechKind) (list : List (List ℕ)) (kind : MechKind)
    → best offer list ≡ Some kind → IsFirstOffered offer list kind (listed_as list kind)
