-- Lists of which one follows another, place for place.
use Rattle.std.proofs.Common.{◌≡◌, ◌⊎◌, ℕ, zero, suc, ◌<◌, ◌≤◌, List, [], ◌∷◌, ◌++◌, length, length-append, take, drop, map, slice_get, Some, refl, sym, ap, ◌∙◌, subst, inl, inr, ⊎_elim, arith}
use Rattle.std.specs.Prelude.{slice_index_or, All}
use Rattle.std.specs.List.{AllByRecursion}
use Rattle.server_desks.specs.Desks.{InStep}

get-end : {B : Type 0} (bs : List B) (b0 b : B) (i : ℕ) → slice_get (bs ++ b0 ∷ []) i ≡ Some b → (slice_get bs i ≡ Some b) ⊎ ((i ≡ length bs) × (b0 ≡ b))
get-end [] b0 b zero e = inr (refl, grind arith)
get-end [] b0 b (suc i) e = absurd (cc)
get-end (x ∷ xs) b0 b zero e = inl e
get-end (x ∷ xs) b0 b (suc i) e = ⊎_elim (λ h. inl h) (λ (h : (i ≡ length xs) × (b0 ≡ b)). inr (ap suc h.0, h.1)) (get-end xs b0 b i e)

-- two lists in step, one longer
each-more : {A B : Type 0} (R : ℕ → A → B → Type 0) (xs : List A) (bs : List B) (b0 : B) → InStep xs bs R → ((a : A) → slice_get xs (length bs) ≡ Some a → R (length bs) a b0) → InStep xs (bs ++ b0 ∷ []) R
each-more {A} {B} R xs bs b0 each last i a b e e' =
    ⊎_elim
    (λ (h : slice_get bs i ≡ Some b). each i a b e h)
    (λ (h : (i ≡ length bs) × (b0 ≡ b)). subst (λ (p : ℕ × B). R p.0 a p.1) (λ k. (sym h.0 k, h.1 k)) (last a (subst (λ (j : ℕ). slice_get xs j ≡ Some a) h.0 e)))
    (get-end bs b0 b i e')

-- what stands at a place where a list was cut
get-drop : {A : Type 0} (xs rest : List A) (k : ℕ) (x a : A) → x ∷ rest ≡ drop k xs → slice_get xs k ≡ Some a → a ≡ x
get-drop [] rest zero x a e e' = absurd cc
get-drop [] rest (suc k) x a e e' = absurd cc
get-drop (y ∷ ys) rest zero x a e e' = grind arith
get-drop (y ∷ ys) rest (suc k) x a e e' = get-drop ys rest k x a e e'

drop-next : {A : Type 0} (xs rest : List A) (k : ℕ) (x : A) → x ∷ rest ≡ drop k xs → (rest ≡ drop (suc k) xs) × (suc k ≤ length xs)
drop-next [] rest zero x e = absurd cc
drop-next [] rest (suc k) x e = absurd cc
drop-next (y ∷ ys) rest zero x e = (grind arith, omega arith)
drop-next (y ∷ ys) rest (suc k) x e = let h = drop-next ys rest k x e in (h.0, omega (arith, h.1))

-- how far a loop is that moves things from one list to another
pub record Moves {A B : Type 0} (xs left : List A) (bs : List B) (R : ℕ → A → B → Type 0) : Type 0 where
  pub rest : left ≡ drop (length bs) xs
  pub count : length bs ≤ length xs
  pub each : InStep xs bs R

pub moves-more : {A B : Type 0} (R : ℕ → A → B → Type 0) (xs rest rest' : List A) (bs bs' : List B) (x : A) (b : B) → Moves xs rest bs R → rest ≡ x ∷ rest' → bs' ≡ bs ++ b ∷ [] → R (length bs) x b → Moves xs rest' bs' R
moves-more {A} {B} R xs rest rest' bs bs' x b h came added r =
    let next = drop-next xs rest' (length bs) x (sym came ∙ h.rest) in
    let n : length bs' ≡ suc (length bs) = ap (λ (l : List B). length l) added ∙ omega (arith, length-append bs (b ∷ [])) in
    record {
      rest = next.0 ∙ ap (λ (k : ℕ). drop k xs) (sym n);
      count = omega (arith, next.1, n);
      each = subst (λ (l : List B). InStep xs l R) (sym added) (each-more R xs bs b h.each (λ a e. subst (λ (y : A). R (length bs) y b) (sym (get-drop xs rest' (length bs) x a (sym came ∙ h.rest) e)) r));
    }

-- what stands at the same place of a list that is as long
pub there : {A B : Type 0} (xs : List A) (ys : List B) (i : ℕ) (a : A) → length ys ≡ length xs → slice_get xs i ≡ Some a → (b : B) × (slice_get ys i ≡ Some b)
there [] ys i a n e = absurd cc
there (x ∷ xs) [] i a n e = absurd (omega arith)
there (x ∷ xs) (y ∷ ys) zero a n e = (y, refl)
there (x ∷ xs) (y ∷ ys) (suc i) a n e = there xs ys i a (omega arith) e

at-index : {A : Type 0} (xs : List A) (k : ℕ) (d : A) → k < length xs → slice_get xs k ≡ Some (slice_index_or xs k d)
at-index [] k d h = absurd (omega arith)
at-index (x ∷ xs) zero d h = refl
at-index (x ∷ xs) (suc k) d h = at-index xs k d (omega arith)

pub at-place : {A : Type 0} (F : A → Type 0) (xs : List A) (i : ℕ) (a : A) → AllByRecursion F xs → slice_get xs i ≡ Some a → F a
at-place F [] i a all e = absurd cc
at-place F (x ∷ xs) zero a all e = subst F (same e) all.0
  where
    same : {A : Type 0} {x y : A} → Some x ≡ Some y → x ≡ y
    same e = grind arith
at-place F (x ∷ xs) (suc i) a all e = at-place F xs i a all.1 e

pub by-places : {A : Type 0} (F : A → Type 0) (xs : List A) → ((i : ℕ) (a : A) → slice_get xs i ≡ Some a → F a) → AllByRecursion F xs
by-places F [] each = tt
by-places F (x ∷ xs) each = (each 0 x refl, by-places F xs (λ i. each (suc i)))

-- what holds of all of one list holds of all of another that goes with it
pub all-along : {A B : Type 0} (F : A → Type 0) (G : B → Type 0) (xs : List A) (ys : List B) → length ys ≡ length xs → InStep xs ys (λ _ a b. F a → G b) → AllByRecursion F xs → All G ys
all-along F G xs ys n step all k d h =
    let b = at-index ys k d h in
    let a = there ys xs k (slice_index_or ys k d) (sym n) b in
    step k a.0 (slice_index_or ys k d) a.1 b (at-place F xs k a.0 all a.1)

-- what is made of the thing at a place
pub get-map : {A B : Type 0} (f : A → B) (xs : List A) (i : ℕ) (a : A) (b : B) → slice_get xs i ≡ Some a → slice_get (map f xs) i ≡ Some b → b ≡ f a
get-map f [] i a b e e' = absurd cc
get-map f (x ∷ xs) zero a b e e' = grind arith
get-map f (x ∷ xs) (suc i) a b e e' = get-map f xs i a b e e'

front : {A : Type 0} (xs zs : List A) → take (length xs) (xs ++ zs) ≡ xs
front [] zs = refl
front {A} (x ∷ xs) zs = ap (λ (ys : List A). x ∷ ys) (front xs zs)

-- what was written through a slice of a whole vector
pub take-back : {A : Type 0} (count : ℕ) (xs ys : List A) → count ≡ length xs → take count (xs ++ drop (length xs) ys) ≡ xs
take-back count xs ys e = rw e (front xs (drop (length xs) ys))

-- what was done to all of a vector through a slice of it
pub done-through : {A : Type 0} (Both : ℕ → A → A → Type 0) (old was now new : List A) → was ≡ old → new ≡ now → InStep was now Both → InStep old new Both
done-through {A} Both old was now new e f step = subst (λ (ys : List A). InStep old ys Both) (sym f) (subst (λ (xs : List A). InStep xs now Both) e step)
