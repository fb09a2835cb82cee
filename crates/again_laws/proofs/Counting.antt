-- Different numbers of a range are at most as many as it has.
use Rattle.std.proofs.Common.{◌≡◌, ℕ, zero, suc, ◌+◌, ◌<◌, ◌≤◌, ◌==◌, Bool, true, false, List, [], ◌∷◌, length, refl, sym, ◌∙◌, arith, inl, inr, subst}
use Rattle.std.specs.Prelude.{if◌then◌else◌}
use Rattle.std.proofs.lemmas.Bool.{cases_eq, cases_Bool, eq-eqb, ne_eqb, true≢false, or_right}
use Rattle.seq_window.specs.Marks.{is_in}

abbrev pub Differ : List ℕ → Type 0
Differ [] = Unit {0}
Differ (n ∷ ns) = (is_in n ns ≡ false) × Differ ns

abbrev without : ℕ → List ℕ → List ℕ
without m [] = []
without m (n ∷ ns) = if n == m then ns else n ∷ without m ns

fewer : (m : ℕ) (ns : List ℕ) → length ns ≤ length (without m ns) + 1
fewer m [] = omega arith
fewer m (n ∷ ns) = elim (cases_Bool (n == m)) [ inl y ↦ rw y (omega arith) | inr x ↦ rw x (omega (arith, fewer m ns)) ]

in-head : (k n : ℕ) (ns : List ℕ) → k ≡ n → is_in k (n ∷ ns) ≡ true
in-head k n ns e = rw (eq-eqb k n e) refl

in-tail : (k n : ℕ) (ns : List ℕ) → is_in k ns ≡ true → is_in k (n ∷ ns) ≡ true
in-tail k n ns e = or_right (k == n) (is_in k ns) e

in-without : (m k : ℕ) (ns : List ℕ) → is_in k (without m ns) ≡ true → is_in k ns ≡ true
in-without m k [] e = e
in-without m k (n ∷ ns) e =
    elim (cases_Bool (n == m)) [
      | inl y ↦ in-tail k n ns (rw y at e)
      | inr x ↦ elim (cases_eq k n) [
        | inl same ↦ in-head k n ns same
        | inr ne ↦ in-tail k n ns (in-without m k ns (rw (ne_eqb k n ne) at (rw x at e)))
      ]
    ]

gone : (m : ℕ) (ns : List ℕ) → Differ ns → is_in m (without m ns) ≡ false
gone m [] d = refl
gone m (n ∷ ns) d =
    elim (cases_eq n m) [
      | inl same ↦ rw (eq-eqb n m same) (subst (λ (k : ℕ). is_in k ns ≡ false) same d.0)
      | inr ne ↦ rw (ne_eqb n m ne, ne_eqb m n (λ e. ne (sym e))) (gone m ns d.1)
    ]

off : (b : Bool) → (b ≡ true → ⊥) → b ≡ false
off true f = absurd (f refl)
off false f = refl

differ-without : (m : ℕ) (ns : List ℕ) → Differ ns → Differ (without m ns)
differ-without m [] d = tt
differ-without m (n ∷ ns) d =
    elim (cases_Bool (n == m)) [
      | inl y ↦ rw y d.1
      | inr x ↦ rw x (off (is_in n (without m ns)) (λ e. true≢false (sym (in-without m n ns e) ∙ d.0)), differ-without m ns d.1)
    ]

abbrev pub Between : ℕ → ℕ → List ℕ → Type 0
Between low many ns = (n : ℕ) → is_in n ns ≡ true → (low ≤ n) × (n < low + many)

pub few : (many low : ℕ) (ns : List ℕ) → Differ ns → Between low many ns → length ns ≤ many
few zero low [] d b = omega arith
few zero low (n ∷ ns) d b = let x = b n (in-head n n ns refl) in absurd (omega (arith, x.0, x.1))
few (suc many) low ns d b =
    let later : length (without (low + many) ns) ≤ many = few many low (without (low + many) ns) (differ-without (low + many) ns d)
    (λ n e. let x = b n (in-without (low + many) n ns e) in (
      x.0,
      elim (cases_eq n (low + many)) [
        | inl same ↦ absurd (true≢false (sym e ∙ subst (λ (k : ℕ). is_in k (without (low + many) ns) ≡ false) (sym same) (gone (low + many) ns d)))
        | inr ne ↦ omega (arith, x.1, ne)
      ],
    )) in
    omega (arith, later, fewer (low + many) ns)
