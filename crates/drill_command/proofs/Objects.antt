-- The blank objects of a drill's sessions, one after the other.
use Rattle.std.proofs.Common.{◌≡◌, ◌∙◌, ◌+◌, ℕ, zero, suc, List, [], ◌∷◌, ◌++◌, length, map, refl, ap, sym, subst, arith}
use Rattle.std.proofs.lemmas.List.{length-map}
use Rattle.mech_objects.specs.Meaning.{MechSays}
use Rattle.mech_objects.specs.Standard.{blank_of}
use Rattle.drill_plan.specs.Sessions.{kind_of, own_name, blank_objects}

-- those of so many sessions, from this one on
abbrev pub objects_from : ℕ → ℕ → List MechSays
objects_from number zero = []
objects_from number (suc left) = blank_of (own_name (kind_of number)) ∷ objects_from (number + 1) left

one-more : (number left : ℕ) → objects_from number (suc left) ≡ objects_from number left ++ blank_of (own_name (kind_of (number + left))) ∷ []
one-more number zero = let same : number ≡ number + 0 = omega arith in ap (λ (n : ℕ). blank_of (own_name (kind_of n)) ∷ []) same
one-more number (suc left) =
    let same : number + 1 + left ≡ number + suc left = omega arith in
    ap (λ (ms : List MechSays). blank_of (own_name (kind_of number)) ∷ ms) (one-more (number + 1) left ∙ ap (λ (n : ℕ). objects_from (number + 1) left ++ blank_of (own_name (kind_of n)) ∷ []) same)

all-from : (count : ℕ) → blank_objects count ≡ objects_from 0 count
all-from zero = refl
all-from (suc count) =
    let same : count ≡ 0 + count = omega arith in
    ap (λ (ms : List MechSays). ms ++ blank_of (own_name (kind_of count)) ∷ []) (all-from count)
    ∙ (ap (λ (n : ℕ). objects_from 0 count ++ blank_of (own_name (kind_of n)) ∷ []) same ∙ sym (one-more 0 count))

many : (number left : ℕ) → length (objects_from number left) ≡ left
many number zero = refl
many number (suc left) = ap suc (many (number + 1) left)

-- ---- objects that are such

pub counted : {A : Type 0} (says : A → MechSays) (xs : List A) (count : ℕ) → map says xs ≡ blank_objects count → length xs ≡ count
counted says xs count e = sym (length-map xs says) ∙ (ap length (e ∙ all-from count) ∙ many 0 count)

pub first-objects : {A : Type 0} (says : A → MechSays) (xs : List A) (count : ℕ) → map says xs ≡ blank_objects count → map says xs ≡ objects_from 0 (length xs)
first-objects says xs count e = e ∙ (all-from count ∙ ap (λ (n : ℕ). objects_from 0 n) (sym (counted says xs count e)))

pub next-object : {A : Type 0} (says : A → MechSays) (x : A) (xs : List A) (number : ℕ) (all : List A) → all ≡ x ∷ xs → map says all ≡ objects_from number (length all) → says x ≡ blank_of (own_name (kind_of number))
next-object {A} says x xs number all is e =
    let both : map says (x ∷ xs) ≡ objects_from number (length (x ∷ xs)) = subst (λ (ys : List A). map says ys ≡ objects_from number (length ys)) is e in cc

pub later-objects : {A : Type 0} (says : A → MechSays) (x : A) (xs : List A) (number : ℕ) (all : List A) → all ≡ x ∷ xs → map says all ≡ objects_from number (length all) → map says xs ≡ objects_from (number + 1) (length xs)
later-objects {A} says x xs number all is e =
    let both : map says (x ∷ xs) ≡ objects_from number (length (x ∷ xs)) = subst (λ (ys : List A). map says ys ≡ objects_from number (length ys)) is e in cc
