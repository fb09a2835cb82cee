-- A loop that moves things from one list to another, before its first step and after its last.
use Rattle.std.proofs.Common.{◌≡◌, ℕ, List, [], length, drop, sym, ap, ◌∙◌, subst, arith, length-drop}
use Rattle.std.proofs.lemmas.Option.{none-some}
use Rattle.server_desks.specs.Desks.{InStep}
use Rattle.server_desks.proofs.InStep.{Moves}

-- nothing was moved yet
pub moves-none : {A B : Type 0} (R : ℕ → A → B → Type 0) (xs left : List A) (bs : List B) → left ≡ xs → bs ≡ [] → Moves xs left bs R
moves-none {A} {B} R xs left bs all none = record {
  rest = all ∙ ap (λ (l : List B). drop (length l) xs) (sym none);
  count = omega (arith, ap (length {A = B}) none);
  each = subst (λ (l : List B). InStep xs l R) (sym none) (λ i a b at_a at_b. absurd (none-some b at_b));
}

-- all was moved
pub moves-all : {A B : Type 0} (R : ℕ → A → B → Type 0) (xs left : List A) (bs : List B) → length left ≡ 0 → Moves xs left bs R → length bs ≡ length xs
moves-all {A} {B} R xs left bs none m = omega (arith, m.count, none, ap (length {A = A}) m.rest, length-drop (length bs) xs)
