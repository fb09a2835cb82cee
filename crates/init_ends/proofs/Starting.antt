-- The objects of an initiator in their order: the first of them, and one after the other.
use Rattle.std.proofs.Common.{◌≡◌, ◌<◌, ◌+◌, ◌∙◌, ℕ, true, false, refl, sym, ap, arith, List, [], ◌∷◌, ◌++◌, append_assoc, map, length, drop, get_or}
use Rattle.std.proofs.lemmas.List.{drop_more, length-map}
use Rattle.std.specs.Prelude.{slice_index_or}
use Rattle.std.specs.List.{remove}
use Rattle.mech_objects.specs.Meaning.{MechSays}
use Rattle.gss_base.specs.declared.mech.KerberosName.TheVariants.{Standard}
use Rattle.spnego_core.specs.declared.setup.MechCred.{MechCred}
use Rattle.spnego_core.specs.declared.setup.MechCred.TheVariants.{Kerberos}
use Rattle.spnego_core.specs.InitMech.{is_bare_list}
use Rattle.init_ends.specs.Objects.{is_own_list, oids_of}
use Rattle.init_ends.specs.Plain.{fresh_of}

-- there is a first one
pub first_of : {X : Type 0} (f : X → MechSays) (xs : List X) (d : X) → is_own_list (map f xs) ≡ true → map f xs ≡ f (slice_index_or xs 0 d) ∷ map f (remove xs 0)
first_of f [] d h = absurd cc
first_of f (x ∷ xs) d h = refl

-- the identifier of a further object stands behind those before it
pub one_more_oid : {X : Type 0} (f : X → MechSays) (list : List X) (i : ℕ) (object : X) (found after : List (List ℕ)) (oid : List ℕ) → i < length list → object ≡ get_or list i object → oid ≡ (f object).oid → after ≡ found ++ oid ∷ []
    → oids_of (map f list) ≡ found ++ oids_of (map f (drop i list)) → oids_of (map f list) ≡ after ++ oids_of (map f (drop (i + 1) list))
one_more_oid f list i object found after oid less is named grown so_far =
    let rest : List (List ℕ) = oids_of (map f (drop (i + 1) list)) in
    so_far
    ∙ (ap (λ zs. found ++ oids_of (map f zs)) (drop_more list i object less)
    ∙ (ap (λ x. found ++ ((f x).oid ∷ rest)) (sym is)
    ∙ (ap (λ (o : List ℕ). found ++ (o ∷ rest)) (sym named)
    ∙ (sym (append_assoc found (oid ∷ []) rest) ∙ ap (λ (zs : List (List ℕ)). zs ++ rest) (sym grown)))))

-- ---- an initiator that doesn't negotiate

-- its one object
pub one_of : {X : Type 0} (f : X → MechSays) (xs : List X) (d : X) → length xs ≡ 1 → map f xs ≡ f (slice_index_or xs 0 d) ∷ []
one_of f [] d h = absurd (omega (arith, h))
one_of f (x ∷ []) d h = refl
one_of f (x ∷ y ∷ ys) d h = absurd (omega (arith, h))

-- there is one
pub one_object : {X : Type 0} (f : X → MechSays) (xs : List X) (creds : List MechCred) → is_bare_list creds ≡ true → map f xs ≡ map fresh_of creds → length xs ≡ 1
one_object f xs (Kerberos Standard credential ∷ []) e same = sym (length-map xs f) ∙ ap length same
one_object f xs creds e same = absurd (let g : false ≡ true = e in cc)
