-- How many plain words there are, by which of the first six are there.
use Rattle.std.specs.Borrow.{Bor}
use Rattle.std.proofs.Common.{◌≡◌, ◌∙◌, sym, ap, Bool, ℕ, ◌≤◌, zero, suc, List, [], ◌∷◌, length, slice_get, Option, Some, None, is_some, refl, arith}
use Rattle.std.specs.Prelude.{if◌then◌else◌, option_map}

-- no element behind the last
pub past : (xs : List (List ℕ)) (number : ℕ) → length xs ≤ number → slice_get xs number ≡ None
past [] number e = refl
past (x ∷ xs) zero e = absurd (omega (arith, e))
past (x ∷ xs) (suc number) e = past xs number (omega (arith, e))

pub counts : (xs : List (List ℕ)) → length xs ≤ 6
    → (if is_some (slice_get xs 5) then 6 else if is_some (slice_get xs 4) then 5 else if is_some (slice_get xs 3) then 4 else if is_some (slice_get xs 2) then 3 else if is_some (slice_get xs 1) then 2 else if is_some (slice_get xs 0) then 1 else 0) ≡ length xs
counts [] few = refl
counts (a ∷ []) few = refl
counts (a ∷ b ∷ []) few = refl
counts (a ∷ b ∷ c ∷ []) few = refl
counts (a ∷ b ∷ c ∷ d ∷ []) few = refl
counts (a ∷ b ∷ c ∷ d ∷ e ∷ []) few = refl
counts (a ∷ b ∷ c ∷ d ∷ e ∷ f ∷ []) few = refl
counts (a ∷ b ∷ c ∷ d ∷ e ∷ f ∷ g ∷ xs) few = absurd (omega (arith, few))

pub some-map : {A B : Type 0} (f : A → B) (o : Option A) → is_some (option_map f o) ≡ is_some o
some-map f None = refl
some-map f (Some x) = refl

-- a text that is lent is there where the text is
pub some-of : (o : Option (Bor (List ℕ))) (r : Option (List ℕ)) (b : Bool) → option_map (λ word. word.now) o ≡ r → is_some o ≡ b → is_some r ≡ b
some-of o r b e t = ap (λ (x : Option (List ℕ)). is_some x) (sym e) ∙ (some-map (λ (word : Bor (List ℕ)). word.now) o ∙ t)
