-- Step after step of a generator.
use Rattle.std.proofs.Common.{◌≡◌, ◌<◌, ◌≤◌, ◌+◌, ◌-◌, ℕ, zero, suc, List, [], ◌∷◌, ◌++◌, refl, ap, sym, ◌∙◌, append_assoc, arith}
use Rattle.std.proofs.lemmas.List.{append-nil}
use Rattle.drill_plan.specs.Generator.{stepped, top_of, octets_from, after_steps}

pub octets-more : (front : List ℕ) (n i x : ℕ) (all : List ℕ) → i < n → front ++ octets_from (n - i) x ≡ all → (front ++ top_of (stepped x) ∷ []) ++ octets_from (n - (i + 1)) (stepped x) ≡ all
octets-more front n i x all h e =
    let s : n - i ≡ suc (n - (i + 1)) = omega (arith, h) in
    append_assoc front (top_of (stepped x) ∷ []) (octets_from (n - (i + 1)) (stepped x)) ∙ (rw s at e)

pub octets-done : (front : List ℕ) (n i x : ℕ) (all : List ℕ) → n ≤ i → front ++ octets_from (n - i) x ≡ all → front ≡ all
octets-done front n i x all h e = let z : n - i ≡ 0 = omega (arith, h) in sym (append-nil front) ∙ (rw z at e)

pub steps-more : (n i x y : ℕ) → i < n → after_steps (n - i) x ≡ y → after_steps (n - (i + 1)) (stepped x) ≡ y
steps-more n i x y h e = let s : n - i ≡ suc (n - (i + 1)) = omega (arith, h) in rw s at e

pub steps-done : (n i x y : ℕ) → n ≤ i → after_steps (n - i) x ≡ y → x ≡ y
steps-done n i x y h e = let z : n - i ≡ 0 = omega (arith, h) in rw z at e

steps-suc : (n x : ℕ) → after_steps (suc n) x ≡ stepped (after_steps n x)
steps-suc zero x = refl
steps-suc (suc n) x = steps-suc n (stepped x)

octets-suc : (n x : ℕ) → octets_from (suc n) x ≡ octets_from n x ++ top_of (stepped (after_steps n x)) ∷ []
octets-suc zero x = refl
octets-suc (suc n) x = ap (λ (zs : List ℕ). top_of (stepped x) ∷ zs) (octets-suc n (stepped x))

pub steps-push : (n x : ℕ) → after_steps (n + 1) x ≡ stepped (after_steps n x)
steps-push n x = let e : n + 1 ≡ suc n = omega arith in rw e (steps-suc n x)

pub octets-push : (n x : ℕ) → octets_from (n + 1) x ≡ octets_from n x ++ top_of (stepped (after_steps n x)) ∷ []
octets-push n x = let e : n + 1 ≡ suc n = omega arith in rw e (octets-suc n x)
