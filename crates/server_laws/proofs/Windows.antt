-- A window that shows given numbers.
use Rattle.std.proofs.Common.{◌≡◌, ◌∙◌, ℕ, zero, suc, ◌-◌, ◌<◌, ◌≤◌, max, Bool, false, ◌==◌, refl, ap, sym, arith, inl, inr, List, [], ◌∷◌}
use Rattle.std.specs.Prelude.{◌||◌, slice_index_or}
use Rattle.std.proofs.lemmas.Bool.{cases_lt, le-leb, lt-leb, ne_eqb}
use Rattle.seq_window.specs.Marks.{Seen, Shows, greatest, is_in, is_marked}

-- whether each number from one down to 0 stands in the list
abbrev flags_down : ℕ → List ℕ → List Bool
flags_down zero ns = is_in 0 ns ∷ []
flags_down (suc k) ns = is_in (suc k) ns ∷ flags_down k ns

abbrev pub window_of : ℕ → List ℕ → Seen
window_of width ns = record { width = width; last = greatest ns; flags = flags_down (greatest ns) ns }

flag-at : (k d : ℕ) (ns : List ℕ) → d ≤ k → slice_index_or (flags_down k ns) d false ≡ is_in (k - d) ns
flag-at zero zero ns le = refl
flag-at zero (suc d) ns le = absurd (omega (arith, le))
flag-at (suc k) zero ns le =
    let e : suc k ≡ suc k - 0 = omega arith in
    ap (λ (n : ℕ). is_in n ns) e
flag-at (suc k) (suc d) ns le =
    let e : k - d ≡ suc k - suc d = omega arith in
    flag-at k d ns (omega (arith, le)) ∙ ap (λ (n : ℕ). is_in n ns) e

above : (ns : List ℕ) (n : ℕ) → greatest ns < n → is_in n ns ≡ false
above [] n lt = refl
above (m ∷ ms) n lt = rw (ne_eqb n m (λ e. omega (arith, e, lt))) (above ms n (omega (arith, lt)))

marked : (width : ℕ) (ns : List ℕ) (n : ℕ) → is_marked (window_of width ns) n ≡ is_in n ns
marked width ns n = elim (cases_lt (greatest ns) n) [
  | inl lt ↦ rw (lt-leb n (greatest ns) lt) (sym (above ns n lt))
  | inr le ↦
      let e : greatest ns - (greatest ns - n) ≡ n = omega (arith, le) in
      rw (le-leb n (greatest ns) le) (flag-at (greatest ns) (greatest ns - n) ns (omega arith) ∙ ap (λ (m : ℕ). is_in m ns) e)
]

pub shown : (width : ℕ) (ns : List ℕ) → Shows (window_of width ns) ns
shown width ns = record { last = refl; each = λ n lt. marked width ns n }

-- one number more
pub more-shown : (width n : ℕ) (ns numbers : List ℕ) → Shows (window_of width ns) numbers → Shows (window_of width (n ∷ ns)) (n ∷ numbers)
more-shown width n ns numbers s = record {
  last = ap (λ (k : ℕ). max n k) s.last;
  each = λ m lt. marked width (n ∷ ns) m ∙ ap (λ (b : Bool). (m == n) || b) (sym (marked width ns m) ∙ s.each m (omega (arith, lt)));
}
