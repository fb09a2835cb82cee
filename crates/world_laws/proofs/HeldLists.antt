-- Places of a list that grew at its end, or changed at one place.
use Rattle.std.proofs.Common.{◌≡◌, ◌⊎◌, ℕ, zero, suc, List, [], ◌∷◌, ◌++◌, length, slice_get, slice_set, Some, refl, sym, ap, inl, inr}
use Rattle.std.proofs.lemmas.Option.{none-some, same_Some}

pub get-more : {X : Type 0} (xs ys : List X) (i : ℕ) (x : X) → slice_get xs i ≡ Some x → slice_get (xs ++ ys) i ≡ Some x
get-more [] ys i x e = absurd (none-some x e)
get-more (y ∷ xs) ys zero x e = e
get-more (y ∷ xs) ys (suc i) x e = get-more xs ys i x e

pub get-last : {X : Type 0} (xs : List X) (y : X) → slice_get (xs ++ y ∷ []) (length xs) ≡ Some y
get-last [] y = refl
get-last (x ∷ xs) y = get-last xs y

-- a place of the longer list is of the shorter one, or the last
pub get-cases : {X : Type 0} (xs : List X) (y : X) (i : ℕ) (x : X) → slice_get (xs ++ y ∷ []) i ≡ Some x → (slice_get xs i ≡ Some x) ⊎ ((i ≡ length xs) × (x ≡ y))
get-cases [] y zero x e = inr (refl, sym (same_Some y x e))
get-cases [] y (suc i) x e = absurd (none-some x e)
get-cases (z ∷ xs) y zero x e = inl e
get-cases (z ∷ xs) y (suc i) x e = elim (get-cases xs y i x e) [ inl old ↦ inl old | inr new ↦ inr (ap suc new.0, new.1) ]

pub set-cases : {X : Type 0} (xs : List X) (i : ℕ) (y : X) (j : ℕ) (x : X) → slice_get (slice_set xs i y) j ≡ Some x → (slice_get xs j ≡ Some x) ⊎ (x ≡ y)
set-cases [] i y j x e = absurd (none-some x e)
set-cases (z ∷ xs) zero y zero x e = inr (sym (same_Some y x e))
set-cases (z ∷ xs) zero y (suc j) x e = inl e
set-cases (z ∷ xs) (suc i) y zero x e = inl e
set-cases (z ∷ xs) (suc i) y (suc j) x e = set-cases xs i y j x e
