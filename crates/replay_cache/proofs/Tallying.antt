-- Counts of what passes a test, over plain lists.
use Rattle.std.proofs.Common.{◌≡◌, ℕ, ◌+◌, ◌<◌, ◌≤◌, Bool, true, false, if◌then◌else◌, List, [], ◌∷◌, ◌++◌, length, map, filter, get_or, set, zero, suc, refl, ap, inl, inr, arith}
use Rattle.std.proofs.lemmas.Bool.{cases_Bool}
use Rattle.replay_cache.specs.Tally.{tally}

-- a write changes the count by what was there and what is
pub tally-set : {X : Type 0} (p : X → Bool) (xs : List X) (i : ℕ) (y d : X) → i < length xs
    → tally p (set xs i y) + (if p (get_or xs i d) then 1 else 0) ≡ tally p xs + (if p y then 1 else 0)
tally-set p [] i y d inside = absurd (omega (arith, inside))
tally-set p (x ∷ xs) zero y d inside = omega arith
tally-set p (x ∷ xs) (suc i) y d inside = omega (arith, tally-set p xs i y d (omega (arith, inside)))

pub tally-append : {X : Type 0} (p : X → Bool) (xs ys : List X) → tally p (xs ++ ys) ≡ tally p xs + tally p ys
tally-append p [] ys = omega arith
tally-append p (x ∷ xs) ys = omega (arith, tally-append p xs ys)

-- no more pass than there are
pub tally-few : {X : Type 0} (p : X → Bool) (xs : List X) → tally p xs ≤ length xs
tally-few p [] = omega arith
tally-few p (x ∷ xs) =
    elim (cases_Bool (p x)) [
      | inl passes ↦ rw passes (omega (arith, tally-few p xs))
      | inr fails ↦ rw fails (omega (arith, tally-few p xs))
    ]

-- all pass
pub tally-all : {X : Type 0} (p : X → Bool) (xs : List X) (d : X) → ((i : ℕ) → i < length xs → p (get_or xs i d) ≡ true)
    → tally p xs ≡ length xs
tally-all p [] d all = refl
tally-all p (x ∷ xs) d all =
    rw (all 0 (omega arith)) (omega (arith, tally-all p xs d (λ i inside. all (suc i) (omega (arith, inside)))))

-- tests that agree on all elements, or on those of the list
pub tally-agree : {X : Type 0} (p q : X → Bool) → ((x : X) → p x ≡ q x) → (xs : List X) → tally p xs ≡ tally q xs
tally-agree p q agree [] = refl
tally-agree p q agree (x ∷ xs) = rw (agree x) (ap (λ n. (if q x then 1 else 0) + n) (tally-agree p q agree xs))

pub tally-agree_here : {X : Type 0} (p q : X → Bool) (xs : List X) (d : X) → ((i : ℕ) → i < length xs → p (get_or xs i d) ≡ q (get_or xs i d))
    → tally p xs ≡ tally q xs
tally-agree_here p q [] d agree = refl
tally-agree_here p q (x ∷ xs) d agree =
    rw (agree 0 (omega arith)) (ap (λ n. (if q x then 1 else 0) + n) (tally-agree_here p q xs d (λ i inside. agree (suc i) (omega (arith, inside)))))

-- a stricter test passes no more
pub tally-stricter : {X : Type 0} (p q : X → Bool) → ((x : X) → p x ≡ true → q x ≡ true) → (xs : List X) → tally p xs ≤ tally q xs
tally-stricter p q stricter [] = omega arith
tally-stricter p q stricter (x ∷ xs) =
    elim (cases_Bool (p x)) [
      | inl passes ↦ rw (passes, stricter x passes) (omega (arith, tally-stricter p q stricter xs))
      | inr fails ↦ rw fails (omega (arith, tally-stricter p q stricter xs))
    ]

-- a test that splits into two
pub tally-split : {X : Type 0} (p q r : X → Bool)
    → ((x : X) → (if r x then 1 else 0) ≡ (if p x then 1 else 0) + (if q x then 1 else 0))
    → (xs : List X) → tally r xs ≡ tally p xs + tally q xs
tally-split p q r splits [] = refl
tally-split p q r splits (x ∷ xs) = omega (arith, splits x, tally-split p q r splits xs)

-- none passes
pub tally-none : {X : Type 0} (p : X → Bool) → ((x : X) → p x ≡ false) → (xs : List X) → tally p xs ≡ 0
tally-none p none [] = refl
tally-none p none (x ∷ xs) = rw (none x) (omega (arith, tally-none p none xs))

-- what is kept by a test, counted
pub tally-filter : {X Y : Type 0} (f : X → Y) (p : X → Bool) (xs : List X) → length (map f (filter p xs)) ≡ tally p xs
tally-filter f p [] = refl
tally-filter f p (x ∷ xs) =
    elim (cases_Bool (p x)) [
      | inl passes ↦ rw passes (omega (arith, tally-filter f p xs))
      | inr fails ↦ rw fails (omega (arith, tally-filter f p xs))
    ]
