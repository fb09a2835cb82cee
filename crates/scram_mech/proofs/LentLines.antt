-- A line that is lent by its place.
use Rattle.std.specs.Borrow.{Bor}
use Rattle.std.proofs.Common.{◌≡◌, ◌∙◌, ℕ, zero, suc, ◌<◌, ◌≤◌, true, false, nat_lt, List, [], ◌∷◌, length, get_or, Option, Some, None, is_some, refl, arith}
use Rattle.std.specs.Prelude.{slice_get, option_map, unwrap_or}
use Rattle.std.proofs.lemmas.Option.{slice_get_within, get_or_from_slice_get}
use Rattle.std.proofs.lemmas.Bool.Decides.{nat_tests}
use Rattle.scram_mech.specs.declared.verifiers.Verifier.{Verifier}

past : (xs : List Verifier) (k : ℕ) → slice_get xs k ≡ None → length xs ≤ k
past [] k e = omega arith
past (x ∷ xs) zero e = absurd (let bad : ◌≡◌ {A = Option Verifier} (Some x) None = e in cc)
past (x ∷ xs) (suc k) e = omega (arith, past xs k e)

no_less : (p n : ℕ) → false ≡ nat_lt p n → p < n → ⊥
no_less p n e h = grind (arith, nat_tests)

less : (p n : ℕ) → true ≡ nat_lt p n → n ≤ p → ⊥
less p n e h = grind (arith, nat_tests)

copied_by : (r : Option (Bor Verifier)) (xs : List Verifier) (p : ℕ) (o : Option Verifier) → slice_get xs p ≡ o → is_some r ≡ nat_lt p (length xs)
    → ((d : Verifier) → unwrap_or (option_map (λ (x : Bor Verifier). x.now) r) d ≡ get_or xs p d) → option_map (λ (x : Bor Verifier). x.now) r ≡ o
copied_by None xs p None e there same = refl
copied_by None xs p (Some y) e there same = absurd (no_less p (length xs) there (slice_get_within xs p y e))
copied_by (Some x) xs p None e there same = absurd (less p (length xs) there (past xs p e))
copied_by (Some x) xs p (Some y) e there same = let is : x.now ≡ y = same y ∙ get_or_from_slice_get xs p y y e in rw is refl

pub copied : (r : Option (Bor Verifier)) (xs : List Verifier) (p : ℕ) → is_some r ≡ nat_lt p (length xs)
    → ((d : Verifier) → unwrap_or (option_map (λ (x : Bor Verifier). x.now) r) d ≡ get_or xs p d) → option_map (λ (x : Bor Verifier). x.now) r ≡ slice_get xs p
copied r xs p there same = copied_by r xs p (slice_get xs p) refl there same
