-- The chosen mechanism is named by the first identifier whose mechanism is offered.
use Rattle.std.proofs.Common.{◌≡◌, ℕ, Bool, true, false, if◌then◌else◌, refl, sym, ap, ◌∙◌, subst, List, [], ◌∷◌, Option, Some, None}
use Rattle.std.proofs.lemmas.Bool.{true≢false}
use Rattle.std.proofs.lemmas.Option.{none-some, same_Some}
use Rattle.gss_base.specs.declared.mech.MechKind.{MechKind}
use Rattle.gss_base.specs.declared.mech.MechKind.TheVariants as kinds
use Rattle.gss_base.specs.Mech.{mech_of}
use Rattle.spnego_core.specs.Choice.{same_kind, is_kind, is_among, offered, or_next, best, listed_as}
use Rattle.listed_pairs.specs.Listed.{IsFirstOffered}

-- one more that is passed over
passes : (offer : List MechKind) (oid : List ℕ) (oids : List (List ℕ)) (kind : MechKind) (chosen : List ℕ) → offered offer (mech_of oid) ≡ None → IsFirstOffered offer oids kind chosen → IsFirstOffered offer (oid ∷ oids) kind chosen
passes offer oid oids kind chosen none r = record {
  before = oid ∷ r.before;
  later = r.later;
  stands = ap (λ (l : List (List ℕ)). oid ∷ l) r.stands;
  passed = (none, r.passed);
  names = r.names;
  offers = r.offers;
}

-- the first one
takes : (offer : List MechKind) (oid : List ℕ) (oids : List (List ℕ)) (kind : MechKind) → mech_of oid ≡ Some kind → is_among offer kind ≡ true → IsFirstOffered offer (oid ∷ oids) kind oid
takes offer oid oids kind named among = record { before = []; later = oids; stands = refl; passed = tt; names = named; offers = among }

same-itself : (kind : MechKind) → same_kind kind kind ≡ true
same-itself kinds.Kerberos = refl
same-itself kinds.Scram = refl

-- of a mechanism that isn't offered, another one was chosen
other-kind : (offer : List MechKind) (own kind : MechKind) → is_among offer own ≡ false → is_among offer kind ≡ true → same_kind own kind ≡ false
other-kind offer kinds.Kerberos kinds.Kerberos without with_it = absurd (true≢false (sym with_it ∙ without))
other-kind offer kinds.Kerberos kinds.Scram without with_it = refl
other-kind offer kinds.Scram kinds.Kerberos without with_it = refl
other-kind offer kinds.Scram kinds.Scram without with_it = absurd (true≢false (sym with_it ∙ without))

by-offer : (offer : List MechKind) (oid : List ℕ) (oids : List (List ℕ)) (kind own : MechKind) (b : Bool) → mech_of oid ≡ Some own → is_among offer own ≡ b → or_next (if b then Some own else None) (best offer oids) ≡ Some kind
    → (best offer oids ≡ Some kind → IsFirstOffered offer oids kind (listed_as oids kind))
    → IsFirstOffered offer (oid ∷ oids) kind (if same_kind own kind then oid else listed_as oids kind)
by-offer offer oid oids kind own true named among e later =
    let same : own ≡ kind = same_Some own kind e in
    subst (λ (k : MechKind). IsFirstOffered offer (oid ∷ oids) k (if same_kind own k then oid else listed_as oids k)) same
    (subst (λ (b : Bool). IsFirstOffered offer (oid ∷ oids) own (if b then oid else listed_as oids own)) (sym (same-itself own)) (takes offer oid oids own named among))
by-offer offer oid oids kind own false named among e later =
    let r = later e in
    let passed : offered offer (mech_of oid) ≡ None = ap (offered offer) named ∙ ap (λ (b : Bool). if b then Some own else None) among in
    subst (λ (b : Bool). IsFirstOffered offer (oid ∷ oids) kind (if b then oid else listed_as oids kind)) (sym (other-kind offer own kind among r.offers))
    (passes offer oid oids kind (listed_as oids kind) passed r)

by-kind : (offer : List MechKind) (oid : List ℕ) (oids : List (List ℕ)) (kind : MechKind) (m : Option MechKind) → mech_of oid ≡ m → or_next (offered offer m) (best offer oids) ≡ Some kind
    → (best offer oids ≡ Some kind → IsFirstOffered offer oids kind (listed_as oids kind))
    → IsFirstOffered offer (oid ∷ oids) kind (if is_kind m kind then oid else listed_as oids kind)
by-kind offer oid oids kind None named e later = passes offer oid oids kind (listed_as oids kind) (ap (offered offer) named) (later e)
by-kind offer oid oids kind (Some own) named e later = by-offer offer oid oids kind own (is_among offer own) named refl e later

pub listed-first : (offer : List MechKind) (list : List (List ℕ)) (kind : MechKind) → best offer list ≡ Some kind → IsFirstOffered offer list kind (listed_as list kind)
listed-first offer [] kind e = absurd (none-some kind e)
listed-first offer (oid ∷ oids) kind e = by-kind offer oid oids kind (mech_of oid) refl e (listed-first offer oids kind)
