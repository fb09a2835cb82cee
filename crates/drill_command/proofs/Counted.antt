-- So many octets of a generator, and then more; those that were drawn for answers.
use Rattle.std.proofs.Common.{◌≡◌, ◌∙◌, ◌+◌, ◌*◌, ℕ, zero, suc, List, [], ◌∷◌, ◌++◌, length, take, slice_get, Some, refl, ap, sym, subst, arith}
use Rattle.std.proofs.lemmas.List.{length-append, take_all}
use Rattle.gss_server.specs.declared.answer.Kept.{Kept}
use Rattle.gate_models.specs.Looping.{drawn_in}
use Rattle.drill_plan.specs.Generator.{stepped, top_of, octets_from, after_steps}
use Rattle.drill_command.specs.Held.{ComeNext, after_answers}

pub octets-many : (count x : ℕ) → length (octets_from count x) ≡ count
octets-many zero x = refl
octets-many (suc count) x = ap suc (octets-many count (stepped x))

octets-both : (count more x : ℕ) → octets_from (count + more) x ≡ octets_from count x ++ octets_from more (after_steps count x)
octets-both zero more x = let e : zero + more ≡ more = omega arith in ap (λ (n : ℕ). octets_from n x) e
octets-both (suc count) more x =
    let e : suc count + more ≡ suc (count + more) = omega arith in
    ap (λ (n : ℕ). octets_from n x) e ∙ ap (λ (zs : List ℕ). top_of (stepped x) ∷ zs) (octets-both count more (stepped x))

steps-both : (count more x : ℕ) → after_steps (count + more) x ≡ after_steps more (after_steps count x)
steps-both zero more x = let e : zero + more ≡ more = omega arith in ap (λ (n : ℕ). after_steps n x) e
steps-both (suc count) more x =
    let e : suc count + more ≡ suc (count + more) = omega arith in
    ap (λ (n : ℕ). after_steps n x) e ∙ steps-both count more (stepped x)

-- what was given, once there is more
pub given-then : (count more all x here : ℕ) (octets : List ℕ) → all ≡ count + more → here ≡ after_steps count x → octets ≡ octets_from more here → octets_from all x ≡ octets_from count x ++ octets
given-then count more all x here octets many at is =
    ap (λ (n : ℕ). octets_from n x) many
    ∙ (octets-both count more x
    ∙ (ap (λ (y : ℕ). octets_from count x ++ octets_from more y) (sym at) ∙ ap (λ (zs : List ℕ). octets_from count x ++ zs) (sym is)))

-- and the value then
pub steps-then : (count more all x here then : ℕ) → all ≡ count + more → here ≡ after_steps count x → then ≡ after_steps more here → then ≡ after_steps all x
steps-then count more all x here then many at is =
    is ∙ (ap (after_steps more) at ∙ (sym (steps-both count more x) ∙ ap (λ (n : ℕ). after_steps n x) (sym many)))

-- ---- the octets of answers

some-is : (a b : Kept) → Some a ≡ Some b → a ≡ b
some-is a b e = cc

one-more : (k : Kept) (kept : List Kept) (here : ℕ) → length k.draws ≡ 82 → length (drawn_in kept) ≡ here → length (drawn_in (k ∷ kept)) ≡ 82 + here
one-more k kept here size is = omega (arith, length-append k.draws (drawn_in kept), size, is)

sized-to : (kept : List Kept) (n : ℕ) (one : Kept) → slice_get kept n ≡ Some one → length one.draws ≡ 82 → length (drawn_in (take (suc n) kept)) ≡ 82 + length (drawn_in (take n kept))
sized-to [] n one there size = absurd (let no : ⊥ = cc in no)
sized-to (k ∷ kept) zero one there size = one-more k [] 0 (subst (λ (o : Kept). length o.draws ≡ 82) (some-is one k (sym there)) size) refl
sized-to (k ∷ kept) (suc n) one there size =
    omega (arith, length-append k.draws (drawn_in (take (suc n) kept)), length-append k.draws (drawn_in (take n kept)), sized-to kept n one there size)

pub sized-more : (kept : List Kept) (n : ℕ) (one : Kept) → slice_get kept n ≡ Some one → length one.draws ≡ 82 → length (drawn_in (take n kept)) ≡ 82 * n → length (drawn_in (take (n + 1) kept)) ≡ 82 * (n + 1)
sized-more kept n one there size so =
    let next : suc n ≡ n + 1 = omega arith in
    subst (λ (m : ℕ). length (drawn_in (take m kept)) ≡ 82 * m) next (omega (arith, sized-to kept n one there size, so))

pub sized-all : (kept : List Kept) (n : ℕ) → length kept ≡ n → length (drawn_in (take n kept)) ≡ 82 * n → length (drawn_in kept) ≡ 82 * length kept
sized-all kept n all so =
    let e : take n kept ≡ kept = take_all n kept (omega (arith, all)) in
    omega (arith, ap (λ (ks : List Kept). length (drawn_in ks)) e, so, all)

-- what a generator gave to answers comes next of its value
given-to : (all before : List ℕ) (slice kept : List Kept) → all ≡ before ++ drawn_in kept → before ≡ [] → all ≡ drawn_in kept
given-to all before slice kept e none = e ∙ ap (λ (zs : List ℕ). zs ++ drawn_in kept) none

many-to : (all before : List ℕ) (slice kept : List Kept) → all ≡ before ++ drawn_in kept → before ≡ [] → slice ≡ kept → length (drawn_in slice) ≡ 82 * length slice → length all ≡ 82 * length kept
many-to all before slice kept e none same sized =
    ap (length {A = ℕ}) (given-to all before slice kept e none) ∙ subst (λ (ks : List Kept). length (drawn_in ks) ≡ 82 * length ks) same sized

pub come-next : (all before : List ℕ) (x y : ℕ) (slice kept : List Kept) → all ≡ octets_from (length all) x → all ≡ before ++ drawn_in kept → before ≡ [] → y ≡ x → slice ≡ kept → length (drawn_in slice) ≡ 82 * length slice → ComeNext y kept
come-next all before x y slice kept given e none at same sized =
    let many : length all ≡ 82 * length kept = many-to all before slice kept e none same sized in
    sym (given-to all before slice kept e none) ∙ (given ∙ (ap (λ (n : ℕ). octets_from n x) many ∙ ap (octets_from (82 * length kept)) (sym at)))

pub goes-on : (all before : List ℕ) (x y later : ℕ) (slice kept : List Kept) → later ≡ after_steps (length all) x → all ≡ before ++ drawn_in kept → before ≡ [] → y ≡ x → slice ≡ kept → length (drawn_in slice) ≡ 82 * length slice → later ≡ after_answers kept y
unfolding after_answers
goes-on all before x y later slice kept place e none at same sized =
    let many : length all ≡ 82 * length kept = many-to all before slice kept e none same sized in
    place ∙ (ap (λ (n : ℕ). after_steps n x) many ∙ ap (after_steps (82 * length kept)) (sym at))
