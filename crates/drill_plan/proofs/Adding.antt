-- One more blank object.
use Rattle.std.proofs.Common.{◌≡◌, ◌∙◌, ◌+◌, ℕ, suc, List, [], ◌∷◌, ◌++◌, map, ap, arith}
use Rattle.std.proofs.lemmas.List.{map-append}
use Rattle.mech_objects.specs.Meaning.{MechSays}
use Rattle.mech_objects.specs.Standard.{blank_of}
use Rattle.drill_plan.specs.Sessions.{kind_of, own_name, blank_objects}

pub one-added : {A : Type 0} (says : A → MechSays) (xs : List A) (x : A) (number : ℕ) → map says xs ≡ blank_objects number → says x ≡ blank_of (own_name (kind_of number)) → map says (xs ++ x ∷ []) ≡ blank_objects (number + 1)
one-added says xs x number before blank =
    let next : suc number ≡ number + 1 = omega arith in
    map-append says xs (x ∷ []) ∙ (ap (λ (ms : List MechSays). ms ++ says x ∷ []) before ∙ (ap (λ (m : MechSays). blank_objects number ++ m ∷ []) blank ∙ ap blank_objects next))
