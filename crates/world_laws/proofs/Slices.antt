-- What stands where in a list, once a place was set or values were added behind.
use Rattle.std.proofs.Common.{◌≡◌, ◌≢◌, ◌⊎◌, inl, inr, ℕ, zero, suc, ◌+◌, refl, sym, ap, arith, List, [], ◌∷◌, ◌++◌, length, slice_get, slice_set, Some}
use Rattle.std.proofs.lemmas.Option.{none-some, same_Some}

pub set-same : {A : Type 0} (xs : List A) (i : ℕ) (x y : A) → slice_get xs i ≡ Some y → slice_get (slice_set xs i x) i ≡ Some x
set-same [] i x y e = absurd (none-some y e)
set-same (z ∷ zs) zero x y e = refl
set-same (z ∷ zs) (suc i) x y e = set-same zs i x y e

pub set-other : {A : Type 0} (xs : List A) (i j : ℕ) (x : A) → i ≢ j → slice_get (slice_set xs i x) j ≡ slice_get xs j
set-other [] i j x ne = refl
set-other (z ∷ zs) zero zero x ne = absurd (ne refl)
set-other (z ∷ zs) zero (suc j) x ne = refl
set-other (z ∷ zs) (suc i) zero x ne = refl
set-other (z ∷ zs) (suc i) (suc j) x ne = set-other zs i j x (λ e. ne (ap suc e))

-- what stands there now is what was set, or stood there before
pub set-cases : {A : Type 0} (xs : List A) (i j : ℕ) (x y : A) → slice_get (slice_set xs i x) j ≡ Some y → ((i ≡ j) × (y ≡ x)) ⊎ ((i ≢ j) × (slice_get xs j ≡ Some y))
set-cases [] i j x y e = absurd (none-some y e)
set-cases (z ∷ zs) zero zero x y e = inl (refl, sym (same_Some x y e))
set-cases (z ∷ zs) zero (suc j) x y e = inr (omega arith, e)
set-cases (z ∷ zs) (suc i) zero x y e = inr (omega arith, e)
set-cases (z ∷ zs) (suc i) (suc j) x y e = elim (set-cases zs i j x y e) [ inl a ↦ inl (ap suc a.0, a.1) | inr b ↦ inr (λ q. b.0 (omega arith), b.1) ]

pub get-front : {A : Type 0} (xs ys : List A) (i : ℕ) (x : A) → slice_get xs i ≡ Some x → slice_get (xs ++ ys) i ≡ Some x
get-front [] ys i x e = absurd (none-some x e)
get-front (z ∷ zs) ys zero x e = e
get-front (z ∷ zs) ys (suc i) x e = get-front zs ys i x e

pub get-last : {A : Type 0} (xs : List A) (x : A) → slice_get (xs ++ x ∷ []) (length xs) ≡ Some x
get-last [] x = refl
get-last (z ∷ zs) x = get-last zs x

-- what stands at a place after values were added stood there, or was added
pub get-split : {A : Type 0} (xs ys : List A) (i : ℕ) (x : A) → slice_get (xs ++ ys) i ≡ Some x → (slice_get xs i ≡ Some x) ⊎ ((j : ℕ) × (i ≡ length xs + j) × (slice_get ys j ≡ Some x))
get-split [] ys i x e = inr (i, omega arith, e)
get-split (z ∷ zs) ys zero x e = inl e
get-split (z ∷ zs) ys (suc i) x e = elim (get-split zs ys i x e) [ inl a ↦ inl a | inr b ↦ inr (b.0, omega (arith, b.1), b.2) ]
