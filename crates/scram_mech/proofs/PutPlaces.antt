-- What a tree of names has after a name was put into it.
use Rattle.std.proofs.Common.{◌≡◌, ◌∙◌, ℕ, Bool, true, false, cond, List, Some, refl, sym, subst}
use Rattle.std.specs.BTreeMap.{is_at}
use Rattle.std.specs.Map.{lookup, KeepsOthers}
use Rattle.std.specs.Ordering.{is_eq, nat_cmp, eq_by_cmp}
use Rattle.std.specs.Cmp.{eq_by_cmp_equiv}
use Rattle.std.specs.Cmp.Lexicographic.{slice_cmp, nat_list_cmp_total}
use Rattle.std.proofs.lemmas.Map.Text.{is_eq-slice_cmp}
use Rattle.krb_derive.proofs.Tags.{same_tag}
use Rattle.scram_mech.specs.Judging.{same}
use Rattle.scram_mech.proofs.FileLaws.{same_is}

apart_by : (a b k : List ℕ) → same a b ≡ false → is_eq (slice_cmp nat_cmp a k) ≡ true → (t : Bool) → is_eq (slice_cmp nat_cmp b k) ≡ t → t ≡ false
apart_by a b k other e true f =
    let one : a ≡ k = same_is a k (sym (is_eq-slice_cmp a k) ∙ e) in
    let two : b ≡ k = same_is b k (sym (is_eq-slice_cmp b k) ∙ f) in
    sym (same_tag a b (one ∙ sym two)) ∙ other
apart_by a b k other e false f = refl

module _ {V : Type 0} (items : V → List ℕ) (key : V) (old new : List (V × ℕ)) where
  kept : KeepsOthers (eq_by_cmp (λ x y. slice_cmp nat_cmp (items x) (items y))) (is_at (λ k. slice_cmp nat_cmp (items key) (items k))) old new → (name : List ℕ) → same (items key) name ≡ false
      → lookup (is_at (λ k. slice_cmp nat_cmp name (items k))) new ≡ lookup (is_at (λ k. slice_cmp nat_cmp name (items k))) old
  unfolding KeepsOthers
  kept others name other =
      others (is_at (λ k. slice_cmp nat_cmp name (items k))) (λ x y e. (eq_by_cmp_equiv nat_list_cmp_total).congr name (items x) (items y) e)
      (λ k e. apart_by (items key) name (items k) other e (is_eq (slice_cmp nat_cmp name (items k))) refl)

  placed_by : (place : ℕ) → lookup (is_at (λ k. slice_cmp nat_cmp (items key) (items k))) new ≡ Some place
      → KeepsOthers (eq_by_cmp (λ x y. slice_cmp nat_cmp (items x) (items y))) (is_at (λ k. slice_cmp nat_cmp (items key) (items k))) old new → (name : List ℕ) (b : Bool) → same (items key) name ≡ b
      → lookup (is_at (λ k. slice_cmp nat_cmp name (items k))) new ≡ cond b (Some place) (lookup (is_at (λ k. slice_cmp nat_cmp name (items k))) old)
  placed_by place here others name true e = subst (λ (n : List ℕ). lookup (is_at (λ k. slice_cmp nat_cmp n (items k))) new ≡ Some place) (same_is (items key) name e) here
  placed_by place here others name false e = kept others name e

  -- the name that was put has the place, and all others have what they had
  pub placed : (place : ℕ) → lookup (is_at (λ k. slice_cmp nat_cmp (items key) (items k))) new ≡ Some place
      → KeepsOthers (eq_by_cmp (λ x y. slice_cmp nat_cmp (items x) (items y))) (is_at (λ k. slice_cmp nat_cmp (items key) (items k))) old new → (name : List ℕ)
      → lookup (is_at (λ k. slice_cmp nat_cmp name (items k))) new ≡ cond (same (items key) name) (Some place) (lookup (is_at (λ k. slice_cmp nat_cmp name (items k))) old)
  placed place here others name = placed_by place here others name (same (items key) name) refl
