-- The cells and their index as the greatest moment rises and marks are kept, over plain lists.
use Rattle.std.proofs.Common.{◌≡◌, ◌≢◌, ℕ, ◌+◌, ◌-◌, ◌<◌, ◌≤◌, Bool, true, false, ◌&&◌, ◌==◌, nat_lt, nat_le, nat_eq, if◌then◌else◌, List, length, max, get_or, set, refl, sym, ◌∙◌, ap, subst, inl, inr, arith, get_or-set_same, get_or-set_other, length-set}
use Rattle.std.proofs.lemmas.Bool.{cases_Bool, cases_eq, cases_lt, lt-ltb, le-ltb, le-leb, lt-leb, leb-true, eqb-true, eq-eqb}
use Rattle.std.proofs.lemmas.List.{get_or_default}
use Rattle.std.specs.Cmp.Lexicographic.{pointwise, same_text}
use Rattle.gss_base.specs.declared.mark.Mark.{Mark}
use Rattle.replay_cache.specs.declared.cells.Cell.{Cell}
use Rattle.replay_cache.specs.Taking.{skew, same_mark}
use Rattle.replay_cache.specs.Cells.{no_cell, cell_at, mark_in, is_held, home_of, place_after, steps_to}
use Rattle.replay_cache.specs.Held.{IsIndexed}

-- steps round the end, there and back
pub place-of_steps : (count home p : ℕ) → home < count → p < count → place_after count (home + steps_to count home p) ≡ p
place-of_steps count home p h inside =
    elim (cases_lt p home) [
      | inl before ↦
          rw (lt-leb home p before, le-ltb (home + (p + count - home)) count (omega (arith, before, h))) (omega (arith, before, h))
      | inr after ↦
          rw (le-leb home p after, lt-ltb (home + (p - home)) count (omega (arith, after, inside))) (omega (arith, after))
    ]

pub steps-within : (count home p : ℕ) → home < count → p < count → steps_to count home p < count
steps-within count home p h inside =
    elim (cases_lt p home) [
      | inl before ↦ rw (lt-leb home p before) (omega (arith, before, h))
      | inr after ↦ rw (le-leb home p after) (omega (arith, after, inside))
    ]

pub steps-of_place : (count home step : ℕ) → home < count → step < count → steps_to count home (place_after count (home + step)) ≡ step
steps-of_place count home step h inside =
    elim (cases_lt (home + step) count) [
      | inl straight ↦
          rw (lt-ltb (home + step) count straight, le-leb home (home + step) (omega arith)) (omega arith)
      | inr round ↦
          rw (le-ltb (home + step) count round, lt-leb home (home + step - count) (omega (arith, round, inside))) (omega (arith, round, h))
    ]

-- what is held at a later moment was held before
pub held-before : (old new : ℕ) (cell : Cell) → old ≤ new → is_held new cell ≡ true → is_held old cell ≡ true
held-before old new cell le held =
    elim (cases_Bool (nat_lt 0 cell.nth)) [
      | inl some ↦
          let recent : nat_le (new - cell.at) skew ≡ true = rw some at held in
          let near : new - cell.at ≤ skew = leb-true (new - cell.at) skew recent in
          rw (some, le-leb (old - cell.at) skew (omega (arith, near, le))) refl
      | inr none ↦
          let never : false ≡ true = rw none at held in
          cc
    ]

-- what holds at the next place of a search, and at those before
pub place-more : (count home step : ℕ) (P : ℕ → Type 0) → home < count → step < count → P (place_after count (home + step))
    → ((p : ℕ) → p < count → steps_to count home p < step → P p)
    → (p : ℕ) → p < count → steps_to count home p < step + 1 → P p
place-more count home step P h short here before p inside less =
    elim (cases_lt (steps_to count home p) step) [
      | inl earlier ↦ before p inside earlier
      | inr now ↦
          let steps : step ≡ steps_to count home p = omega (arith, now, less) in
          let place : place_after count (home + step) ≡ p = ap (λ (k : ℕ). place_after count (home + k)) steps ∙ place-of_steps count home p h inside in
          subst P place here
    ]

-- the greatest step at which a cell passes, after one more cell
pub need-small : (passes : Bool) (step needed next most : ℕ) → next ≡ (if passes then step else needed) → step ≤ most → needed ≤ most → next ≤ most
need-small true step needed next most is small less = omega (arith, is, small)
need-small false step needed next most is small less = omega (arith, is, less)

pub need-more : (test : Cell → Bool) (cells : List Cell) (home step needed next place : ℕ) (cell : Cell) → home < length cells → step < length cells
    → place ≡ place_after (length cells) (home + step) → place < length cells → cell ≡ get_or cells place cell
    → next ≡ (if test cell then step else needed) → needed ≤ step
    → ((p : ℕ) → p < length cells → steps_to (length cells) home p < step → test (cell_at cells p) ≡ true → steps_to (length cells) home p ≤ needed)
    → (p : ℕ) → p < length cells → steps_to (length cells) home p < step + 1 → test (cell_at cells p) ≡ true → steps_to (length cells) home p ≤ next
need-more test cells home step needed next place cell h short at within read is early before p inside less passes =
    elim (cases_Bool (test cell)) [
      | inl yes_ ↦
          let next_is : next ≡ step = rw yes_ at is in
          omega (arith, next_is, less)
      | inr no_ ↦
          let next_is : next ≡ needed = rw no_ at is in
          elim (cases_lt (steps_to (length cells) home p) step) [
            | inl earlier ↦ omega (arith, next_is, before p inside earlier passes)
            | inr now ↦
                let steps : steps_to (length cells) home p ≡ step = omega (arith, now, less) in
                let here : p ≡ place = sym (place-of_steps (length cells) home p h inside) ∙ ap (λ (k : ℕ). place_after (length cells) (home + k)) steps ∙ sym at in
                let there : cell_at cells p ≡ cell = ap (cell_at cells) here ∙ get_or_default cells place no_cell cell within ∙ sym read in
                let never : true ≡ false = sym passes ∙ ap test there ∙ no_ in
                cc
          ]
    ]

pub indexed-later : (old new : ℕ) (cells : List Cell) (reaches : List ℕ) → old ≤ new → IsIndexed old cells reaches → IsIndexed new cells reaches
indexed-later old new cells reaches le is = record {
  many = is.many;
  reaches_of = is.reaches_of;
  short = is.short;
  reached = λ p inside held. is.reached p inside (held-before old new (cell_at cells p) le held);
  alone = λ mark p q inside within held kept. is.alone mark p q inside within (held-before old new (cell_at cells p) le held) (held-before old new (cell_at cells q) le kept);
}

-- marks that are the same are equal
and_left : (a b : Bool) → (a && b) ≡ true → a ≡ true
and_left true b both = refl
and_left false b both = both

and_right : (a b : Bool) → (a && b) ≡ true → b ≡ true
and_right true b both = both
and_right false b both = cc

pub and_yes : (a b : Bool) → a ≡ true → b ≡ true → (a && b) ≡ true
and_yes a b one other = rw (one, other) refl

pub same-equal : (a b : Mark) → same_mark a b ≡ true → a ≡ b
same-equal a b same =
    let who : a.who ≡ b.who = same_text a.who b.who (sym (and_left (pointwise nat_eq a.who b.who) (a.at == b.at) same)) in
    let at : a.at ≡ b.at = eqb-true a.at b.at (and_right (pointwise nat_eq a.who b.who) (a.at == b.at) same) in
    ap (λ (w : List ℕ). record a { who = w }) who ∙ ap (λ (t : ℕ). record b { at = t }) at

-- a mark kept in a cell that holds none, within the reach that its home needs
pub indexed-more : (greatest : ℕ) (cells : List Cell) (reaches : List ℕ) (home step needed : ℕ) (cell : Cell) → IsIndexed greatest cells reaches
    → home < length cells → step < length cells → home_of (length cells) (mark_in cell) ≡ home
    → is_held greatest (cell_at cells (place_after (length cells) (home + step))) ≡ false
    → ((p : ℕ) → p < length cells → is_held greatest (cell_at cells p) ≡ true → same_mark (mark_in (cell_at cells p)) (mark_in cell) ≡ false)
    → needed ≤ get_or reaches home 0
    → ((p : ℕ) → p < length cells → (is_held greatest (cell_at cells p) && (home_of (length cells) (mark_in (cell_at cells p)) == home)) ≡ true
    → steps_to (length cells) home p ≤ get_or reaches home 0 → steps_to (length cells) home p ≤ needed)
    → place_after (length cells) (home + step) < length cells
    → IsIndexed greatest (set cells (place_after (length cells) (home + step)) cell) (set reaches home (max needed step))
indexed-more greatest cells reaches home step needed cell is inside short here free new less covers within =
    let at : ℕ = place_after (length cells) (home + step) in
    let count : length (set cells at cell) ≡ length cells = length-set cells at cell in
    let written : get_or (set cells at cell) at no_cell ≡ cell = get_or-set_same cells at cell no_cell within in
    record {
      many = omega (arith, is.many, count);
      reaches_of = length-set reaches home (max needed step) ∙ is.reaches_of ∙ sym count;
      short = λ h inner.
          elim (cases_eq h home) [
            | inl same ↦
                let value : get_or (set reaches home (max needed step)) h 0 ≡ max needed step
                = ap (λ (k : ℕ). get_or (set reaches home (max needed step)) k 0) same ∙ get_or-set_same reaches home (max needed step) 0 (omega (arith, inside, is.reaches_of)) in
                omega (arith, value, short, less, is.short home inside, count)
            | inr other ↦
                let value : get_or (set reaches home (max needed step)) h 0 ≡ get_or reaches h 0 = get_or-set_other reaches home h (max needed step) 0 other in
                omega (arith, value, is.short h (omega (arith, inner, count)), count)
          ];
      reached = λ p inner held.
          rw count (elim (cases_eq p at) [
            | inl same ↦
                let cell_is : get_or (set cells at cell) p no_cell ≡ cell = ap (λ (k : ℕ). get_or (set cells at cell) k no_cell) same ∙ written in
                let value : get_or (set reaches home (max needed step)) home 0 ≡ max needed step = get_or-set_same reaches home (max needed step) 0 (omega (arith, inside, is.reaches_of)) in
                let steps : steps_to (length cells) home p ≡ step = ap (steps_to (length cells) home) same ∙ steps-of_place (length cells) home step inside short in
                rw (cell_is, here) (omega (arith, value, steps))
            | inr other ↦
                let cell_is : get_or (set cells at cell) p no_cell ≡ get_or cells p no_cell = get_or-set_other cells at p cell no_cell other in
                let kept : is_held greatest (cell_at cells p) ≡ true = rw cell_is at held in
                let inner_too : p < length cells = omega (arith, inner, count) in
                let was : steps_to (length cells) (home_of (length cells) (mark_in (cell_at cells p))) p ≤ get_or reaches (home_of (length cells) (mark_in (cell_at cells p))) 0 = is.reached p inner_too kept in
                rw cell_is (elim (cases_eq (home_of (length cells) (mark_in (cell_at cells p))) home) [
                  | inl alike ↦
                      let value : get_or (set reaches home (max needed step)) home 0 ≡ max needed step = get_or-set_same reaches home (max needed step) 0 (omega (arith, inside, is.reaches_of)) in
                      let was_too : steps_to (length cells) home p ≤ get_or reaches home 0 = rw alike at was in
                      rw alike (omega (arith, value, covers p inner_too (and_yes _ _ kept (eq-eqb _ _ alike)) was_too))
                  | inr apart ↦
                      let value : get_or (set reaches home (max needed step)) (home_of (length cells) (mark_in (cell_at cells p))) 0 ≡ get_or reaches (home_of (length cells) (mark_in (cell_at cells p))) 0
                      = get_or-set_other reaches home (home_of (length cells) (mark_in (cell_at cells p))) (max needed step) 0 apart in
                      omega (arith, value, was)
                ])
          ]);
      alone = λ mark p q inner innest held kept same alike.
          elim (cases_eq p at) [
            | inl p_is ↦
                elim (cases_eq q at) [
                  | inl q_is ↦ p_is ∙ sym q_is
                  | inr q_other ↦ absurd (twice cells at cell mark greatest p q new written p_is q_other (omega (arith, innest, count)) kept same alike)
                ]
            | inr p_other ↦
                elim (cases_eq q at) [
                  | inl q_is ↦ absurd (twice cells at cell mark greatest q p new written q_is p_other (omega (arith, inner, count)) held alike same)
                  | inr q_other ↦
                      let p_cell : get_or (set cells at cell) p no_cell ≡ get_or cells p no_cell = get_or-set_other cells at p cell no_cell p_other in
                      let q_cell : get_or (set cells at cell) q no_cell ≡ get_or cells q no_cell = get_or-set_other cells at q cell no_cell q_other in
                      is.alone mark p q (omega (arith, inner, count)) (omega (arith, innest, count))
                      (rw p_cell at held) (rw q_cell at kept) (rw p_cell at same) (rw q_cell at alike)
                ]
          ];
    }
  where
    -- the new cell and another have one mark, which was held
    twice : (cells : List Cell) (at : ℕ) (cell : Cell) (mark : Mark) (greatest p q : ℕ)
        → ((k : ℕ) → k < length cells → is_held greatest (cell_at cells k) ≡ true → same_mark (mark_in (cell_at cells k)) (mark_in cell) ≡ false)
        → get_or (set cells at cell) at no_cell ≡ cell → p ≡ at → q ≢ at → q < length cells
        → is_held greatest (cell_at (set cells at cell) q) ≡ true → same_mark (mark_in (cell_at (set cells at cell) p)) mark ≡ true
        → same_mark (mark_in (cell_at (set cells at cell) q)) mark ≡ true → ⊥
    twice cells at cell mark greatest p q new written p_is q_other inside kept same alike =
        let q_cell : get_or (set cells at cell) q no_cell ≡ get_or cells q no_cell = get_or-set_other cells at q cell no_cell q_other in
        let p_cell : get_or (set cells at cell) p no_cell ≡ cell = ap (λ (k : ℕ). get_or (set cells at cell) k no_cell) p_is ∙ written in
        let mark_is : mark_in cell ≡ mark = same-equal (mark_in cell) mark (rw p_cell at same) in
        let unlike : same_mark (mark_in (cell_at cells q)) (mark_in cell) ≡ false = new q inside (rw q_cell at kept) in
        let alike_too : same_mark (mark_in (cell_at cells q)) (mark_in cell) ≡ true
        = ap (same_mark (mark_in (cell_at cells q))) mark_is ∙ (rw q_cell at alike) in
        let never : true ≡ false = sym alike_too ∙ unlike in
        cc
