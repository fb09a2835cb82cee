-- The held marks in the order of their turns, over plain lists.
use Rattle.std.proofs.Common.{◌≡◌, ◌≢◌, ℕ, ◌+◌, ◌-◌, ◌<◌, ◌≤◌, Bool, true, false, ◌&&◌, ◌==◌, nat_lt, nat_le, if◌then◌else◌, List, [], ◌∷◌, ◌++◌, zero, suc, length, map, filter, get_or, set, None, Some, refl, sym, ◌∙◌, ap, inl, inr, arith, append-nil, length-append}
use Rattle.std.proofs.lemmas.Bool.{cases_Bool, cases_eq, cases_lt, eq-eqb, ne_eqb, lt-ltb, le-ltb, le-leb, leb-true, eqb-true}
use Rattle.std.proofs.lemmas.List.Elements.{filter-append}
use Rattle.gss_base.specs.declared.mark.Mark.{Mark}
use Rattle.replay_cache.specs.declared.cache.TakenMark.{TakenMark}
use Rattle.replay_cache.specs.declared.cells.Cell.{Cell}
use Rattle.replay_cache.specs.Taking.{skew, same_mark, place_of, is_recent, kept_of}
use Rattle.replay_cache.specs.Tally.{tally}
use Rattle.replay_cache.specs.Cells.{no_cell, cell_at, mark_in, taken_in, is_held, turn_of, of_turn, before}
use Rattle.replay_cache.proofs.Tallying.{tally-split, tally-none, tally-agree_here, tally-filter}

-- nothing passes, or one that is written in
filter-none : {X : Type 0} (p : X → Bool) (xs : List X) (d : X) → ((i : ℕ) → i < length xs → p (get_or xs i d) ≡ false) → filter p xs ≡ []
filter-none p [] d none = refl
filter-none p (x ∷ xs) d none =
    rw (none 0 (omega arith)) (filter-none p xs d (λ i inside. none (suc i) (omega (arith, inside))))

filter-set_none : {X : Type 0} (p : X → Bool) (xs : List X) (i : ℕ) (y d : X) → p (get_or xs i d) ≡ false → p y ≡ false
    → i < length xs → filter p (set xs i y) ≡ filter p xs
filter-set_none p [] i y d was is inside = absurd (omega (arith, inside))
filter-set_none p (x ∷ xs) zero y d was is inside = rw (was, is) refl
filter-set_none p (x ∷ xs) (suc i) y d was is inside =
    let rest : filter p (set xs i y) ≡ filter p xs = filter-set_none p xs i y d was is (omega (arith, inside)) in
    rw rest refl

filter-set_one : {X : Type 0} (p : X → Bool) (xs : List X) (i : ℕ) (y d : X) → ((j : ℕ) → j < length xs → p (get_or xs j d) ≡ false)
    → p y ≡ true → i < length xs → filter p (set xs i y) ≡ y ∷ []
filter-set_one p [] i y d none is inside = absurd (omega (arith, inside))
filter-set_one p (x ∷ xs) zero y d none is inside =
    rw (is, filter-none p xs d (λ j within. none (suc j) (omega (arith, within)))) refl
filter-set_one p (x ∷ xs) (suc i) y d none is inside =
    rw (none 0 (omega arith)) (filter-set_one p xs i y d (λ j within. none (suc j) (omega (arith, within))) is (omega (arith, inside)))

and_no : (a b : Bool) → a ≡ false → (a && b) ≡ false
and_no a b fails = rw fails refl

and_no_right : (a b : Bool) → b ≡ false → (a && b) ≡ false
and_no_right true b fails = fails
and_no_right false b fails = refl

and_yes : (a b : Bool) → a ≡ true → b ≡ true → (a && b) ≡ true
and_yes a b one other = rw (one, other) refl

-- a later moment keeps of what was held what is recent still
held-later : (old new : ℕ) (cell : Cell) → old ≤ new → (is_held old cell && is_recent new (taken_in cell)) ≡ is_held new cell
held-later old new cell le =
    elim (cases_Bool (nat_lt 0 cell.nth)) [
      | inl some ↦
          rw some (elim (cases_Bool (is_recent new (taken_in cell))) [
            | inl recent ↦
                let near : new - cell.at ≤ skew = leb-true (new - cell.at) skew recent in
                let early : nat_le (old - cell.at) skew ≡ true = le-leb (old - cell.at) skew (omega (arith, near, le)) in
                rw (recent, early) refl
            | inr past ↦ rw past (and_no_right (nat_le (old - cell.at) skew) false refl)
          ])
      | inr none ↦ rw none refl
    ]

kept-of_turn : (old new : ℕ) (cells : List Cell) (turn : ℕ) → old ≤ new → of_turn new cells turn ≡ kept_of new (of_turn old cells turn)
kept-of_turn old new [] turn le = refl
kept-of_turn old new (cell ∷ cells) turn le =
    elim (cases_Bool (turn_of cell == turn)) [
      | inl here ↦
          elim (cases_Bool (is_held old cell)) [
            | inl held ↦
                elim (cases_Bool (is_recent new (taken_in cell))) [
                  | inl still ↦
                      let now : is_held new cell ≡ true = sym (held-later old new cell le) ∙ and_yes (is_held old cell) (is_recent new (taken_in cell)) held still in
                      rw (here, held, now) (rw still (ap (λ (rest : List TakenMark). taken_in cell ∷ rest) (kept-of_turn old new cells turn le)))
                  | inr gone ↦
                      let now : is_held new cell ≡ false = sym (held-later old new cell le) ∙ and_no_right (is_held old cell) (is_recent new (taken_in cell)) gone in
                      rw (here, held, now) (rw gone (kept-of_turn old new cells turn le))
                ]
            | inr gone ↦
                let now : is_held new cell ≡ false = sym (held-later old new cell le) ∙ and_no (is_held old cell) (is_recent new (taken_in cell)) gone in
                rw (here, gone, now) (kept-of_turn old new cells turn le)
          ]
      | inr other ↦
          rw (other, and_no_right (is_held old cell) false refl, and_no_right (is_held new cell) false refl) (kept-of_turn old new cells turn le)
    ]

pub kept-before : (old new : ℕ) (cells : List Cell) (turn : ℕ) → old ≤ new → before new cells turn ≡ kept_of new (before old cells turn)
kept-before old new cells zero le = refl
kept-before old new cells (suc turn) le =
    ap (λ (xs : List TakenMark). xs ++ of_turn new cells turn) (kept-before old new cells turn le)
    ∙ ap (λ (ys : List TakenMark). kept_of new (before old cells turn) ++ ys) (kept-of_turn old new cells turn le)
    ∙ sym (filter-append (is_recent new) (before old cells turn) (of_turn old cells turn))

-- no turn was given from `turn` on, so none of a later bound adds anything
none-of_turn : (greatest : ℕ) (cells : List Cell) (turn : ℕ) → ((p : ℕ) → p < length cells → turn_of (cell_at cells p) ≢ turn)
    → of_turn greatest cells turn ≡ []
none-of_turn greatest cells turn other =
    ap (map taken_in) (filter-none (λ cell. is_held greatest cell && (turn_of cell == turn)) cells no_cell
    (λ p inside. and_no_right (is_held greatest (cell_at cells p)) (turn_of (cell_at cells p) == turn) (ne_eqb (turn_of (cell_at cells p)) turn (other p inside))))

pub before-past : (greatest : ℕ) (cells : List Cell) (turn later : ℕ) → turn ≤ later → ((p : ℕ) → p < length cells → turn_of (cell_at cells p) < turn)
    → before greatest cells later ≡ before greatest cells turn
before-past greatest cells turn zero le all =
    let none : 0 ≡ turn = omega (arith, le) in
    ap (before greatest cells) none
before-past greatest cells turn (suc later) le all =
    elim (cases_lt later turn) [
      | inl last ↦
          let same : suc later ≡ turn = omega (arith, last, le) in
          ap (before greatest cells) same
      | inr more ↦
          ap (λ (xs : List TakenMark). before greatest cells later ++ xs)
          (none-of_turn greatest cells later (λ p inside e. omega (arith, all p inside, e, more)))
          ∙ append-nil (before greatest cells later)
          ∙ before-past greatest cells turn later more all
    ]

-- a mark written into a cell that holds none, with the next turn
same-before : (greatest : ℕ) (cells : List Cell) (at : ℕ) (cell : Cell) (turn : ℕ) → at < length cells
    → is_held greatest (cell_at cells at) ≡ false → turn ≤ turn_of cell
    → before greatest (set cells at cell) turn ≡ before greatest cells turn
same-before greatest cells at cell zero inside free above = refl
same-before greatest cells at cell (suc turn) inside free above =
    ap (λ (xs : List TakenMark). xs ++ of_turn greatest (set cells at cell) turn) (same-before greatest cells at cell turn inside free (omega (arith, above)))
    ∙ ap (λ (ys : List Cell). before greatest cells turn ++ map taken_in ys)
    (filter-set_none (λ c. is_held greatest c && (turn_of c == turn)) cells at cell no_cell
    (and_no (is_held greatest (cell_at cells at)) (turn_of (cell_at cells at) == turn) free)
    (and_no_right (is_held greatest cell) (turn_of cell == turn) (ne_eqb (turn_of cell) turn (λ e. omega (arith, e, above)))) inside)

pub more-before : (greatest : ℕ) (cells : List Cell) (at : ℕ) (cell : Cell) (turn : ℕ) → at < length cells
    → is_held greatest (cell_at cells at) ≡ false → is_held greatest cell ≡ true → turn_of cell ≡ turn
    → ((p : ℕ) → p < length cells → turn_of (cell_at cells p) < turn)
    → before greatest (set cells at cell) (suc turn) ≡ before greatest cells turn ++ taken_in cell ∷ []
more-before greatest cells at cell turn inside free held is all =
    ap (λ (xs : List TakenMark). xs ++ of_turn greatest (set cells at cell) turn) (same-before greatest cells at cell turn inside free (omega (arith, is)))
    ∙ ap (λ (ys : List Cell). before greatest cells turn ++ map taken_in ys)
    (filter-set_one (λ c. is_held greatest c && (turn_of c == turn)) cells at cell no_cell
    (λ p within. and_no_right (is_held greatest (cell_at cells p)) (turn_of (cell_at cells p) == turn) (ne_eqb (turn_of (cell_at cells p)) turn (λ e. omega (arith, e, all p within))))
    (and_yes (is_held greatest cell) (turn_of cell == turn) held (eq-eqb (turn_of cell) turn is)) inside)

-- how many are held
split-turn : (greatest turn : ℕ) (cell : Cell)
    → (if is_held greatest cell && nat_lt (turn_of cell) (suc turn) then 1 else 0)
    ≡ (if is_held greatest cell && nat_lt (turn_of cell) turn then 1 else 0) + (if is_held greatest cell && (turn_of cell == turn) then 1 else 0)
split-turn greatest turn cell =
    elim (cases_Bool (is_held greatest cell)) [
      | inr fails ↦ rw fails refl
      | inl passes ↦
          rw passes (elim (cases_lt (turn_of cell) turn) [
            | inl below ↦
                rw (lt-ltb (turn_of cell) (suc turn) (omega (arith, below)), lt-ltb (turn_of cell) turn below, ne_eqb (turn_of cell) turn (λ e. omega (arith, e, below))) refl
            | inr from ↦
                elim (cases_eq (turn_of cell) turn) [
                  | inl same ↦
                      rw (lt-ltb (turn_of cell) (suc turn) (omega (arith, same)), le-ltb (turn_of cell) turn from, eq-eqb (turn_of cell) turn same) refl
                  | inr other ↦
                      rw (le-ltb (turn_of cell) (suc turn) (omega (arith, from, other)), le-ltb (turn_of cell) turn from, ne_eqb (turn_of cell) turn other) refl
                ]
          ])
    ]

length-before_turn : (greatest : ℕ) (cells : List Cell) (turn : ℕ)
    → length (before greatest cells turn) ≡ tally (λ cell. is_held greatest cell && nat_lt (turn_of cell) turn) cells
length-before_turn greatest cells zero =
    sym (tally-none (λ cell. is_held greatest cell && nat_lt (turn_of cell) 0) (λ cell. and_no_right (is_held greatest cell) (nat_lt (turn_of cell) 0) (le-ltb (turn_of cell) 0 (omega arith))) cells)
length-before_turn greatest cells (suc turn) =
    length-append (before greatest cells turn) (of_turn greatest cells turn)
    ∙ ap (λ (n : ℕ). n + length (of_turn greatest cells turn)) (length-before_turn greatest cells turn)
    ∙ ap (λ (n : ℕ). tally (λ cell. is_held greatest cell && nat_lt (turn_of cell) turn) cells + n)
    (tally-filter taken_in (λ cell. is_held greatest cell && (turn_of cell == turn)) cells)
    ∙ sym (tally-split (λ cell. is_held greatest cell && nat_lt (turn_of cell) turn) (λ cell. is_held greatest cell && (turn_of cell == turn))
    (λ cell. is_held greatest cell && nat_lt (turn_of cell) (suc turn)) (split-turn greatest turn) cells)

pub length-before : (greatest : ℕ) (cells : List Cell) (turn : ℕ) → ((p : ℕ) → p < length cells → turn_of (cell_at cells p) < turn)
    → length (before greatest cells turn) ≡ tally (is_held greatest) cells
length-before greatest cells turn all =
    length-before_turn greatest cells turn
    ∙ tally-agree_here (λ cell. is_held greatest cell && nat_lt (turn_of cell) turn) (is_held greatest) cells no_cell
    (λ p inside. rw (lt-ltb (turn_of (cell_at cells p)) turn (all p inside)) (and_true (is_held greatest (cell_at cells p))))
  where
    and_true : (b : Bool) → (b && true) ≡ b
    and_true true = refl
    and_true false = refl

-- the place of a mark in a list of two parts
place-append_none : (mark : Mark) (xs ys : List TakenMark) → place_of mark xs ≡ None → place_of mark (xs ++ ys) ≡ place_of mark ys
place-append_none mark [] ys none = refl
place-append_none mark (x ∷ xs) ys none =
    elim (cases_Bool (same_mark x.mark mark)) [
      | inl same ↦ absurd (some-none (rw same at none))
      | inr other ↦ rw other (place-append_none mark xs ys (rw other at none))
    ]
  where
    some-none : {n : ℕ} → Some n ≡ None → ⊥
    some-none e = cc

place-append_some : (mark : Mark) (xs ys : List TakenMark) (place : ℕ) → place_of mark xs ≡ Some place → place_of mark (xs ++ ys) ≡ Some place
place-append_some mark [] ys place some = cc
place-append_some mark (x ∷ xs) ys place some =
    elim (cases_Bool (same_mark x.mark mark)) [
      | inl same ↦ rw same (rw same at some)
      | inr other ↦ rw other (place-append_some mark xs ys place (rw other at some))
    ]

-- the place of a mark in one turn
place-none : (mark : Mark) (p : Cell → Bool) (cells : List Cell)
    → ((i : ℕ) → i < length cells → p (cell_at cells i) ≡ true → same_mark (mark_in (cell_at cells i)) mark ≡ false)
    → place_of mark (map taken_in (filter p cells)) ≡ None
place-none mark p [] none = refl
place-none mark p (cell ∷ cells) none =
    let rest : place_of mark (map taken_in (filter p cells)) ≡ None = place-none mark p cells (λ i inside. none (suc i) (omega (arith, inside))) in
    elim (cases_Bool (p cell)) [
      | inl passes ↦ rw passes (rw (none zero (omega arith) passes) rest)
      | inr fails ↦ rw fails rest
    ]

place-some : (mark : Mark) (p : Cell → Bool) (cells : List Cell) (at place : ℕ) → at < length cells → p (cell_at cells at) ≡ true
    → same_mark (mark_in (cell_at cells at)) mark ≡ true
    → ((i : ℕ) → i < length cells → p (cell_at cells i) ≡ true → same_mark (mark_in (cell_at cells i)) mark ≡ true → (cell_at cells i).place ≡ place)
    → place_of mark (map taken_in (filter p cells)) ≡ Some place
place-some mark p [] at place inside here same all = absurd (omega (arith, inside))
place-some mark p (cell ∷ cells) zero place inside here same all =
    rw here (rw same (ap (λ (n : ℕ). Some n) (all 0 inside here same)))
place-some mark p (cell ∷ cells) (suc at) place inside here same all =
    let rest : place_of mark (map taken_in (filter p cells)) ≡ Some place
    = place-some mark p cells at place (omega (arith, inside)) here same (λ i within. all (suc i) (omega (arith, within))) in
    elim (cases_Bool (p cell)) [
      | inl passes ↦
          rw passes (elim (cases_Bool (same_mark (mark_in cell) mark)) [
            | inl alike ↦ rw alike (ap (λ (n : ℕ). Some n) (all 0 (omega arith) passes alike))
            | inr other ↦ rw other rest
          ])
      | inr fails ↦ rw fails rest
    ]

and_left : (a b : Bool) → (a && b) ≡ true → a ≡ true
and_left true b both = refl
and_left false b both = both

and_right : (a b : Bool) → (a && b) ≡ true → b ≡ true
and_right true b both = both
and_right false b both = cc

-- no held cell of an earlier turn has the mark, so it isn't among these
pub none-before : (greatest : ℕ) (cells : List Cell) (mark : Mark) (turn : ℕ)
    → ((p : ℕ) → p < length cells → is_held greatest (cell_at cells p) ≡ true → turn_of (cell_at cells p) < turn → same_mark (mark_in (cell_at cells p)) mark ≡ false)
    → place_of mark (before greatest cells turn) ≡ None
none-before greatest cells mark zero none = refl
none-before greatest cells mark (suc turn) none =
    place-append_none mark (before greatest cells turn) (of_turn greatest cells turn)
    (none-before greatest cells mark turn (λ p inside held below. none p inside held (omega (arith, below))))
    ∙ place-none mark (λ cell. is_held greatest cell && (turn_of cell == turn)) cells
    (λ p inside both.
    let here : turn_of (cell_at cells p) ≡ turn = eqb-true (turn_of (cell_at cells p)) turn (and_right (is_held greatest (cell_at cells p)) (turn_of (cell_at cells p) == turn) both) in
    none p inside (and_left (is_held greatest (cell_at cells p)) (turn_of (cell_at cells p) == turn) both) (omega (arith, here)))

-- a held cell has the mark, and no other
pub some-before : (greatest : ℕ) (cells : List Cell) (mark : Mark) (at turn : ℕ) → at < length cells
    → is_held greatest (cell_at cells at) ≡ true → same_mark (mark_in (cell_at cells at)) mark ≡ true
    → ((p : ℕ) → p < length cells → is_held greatest (cell_at cells p) ≡ true → same_mark (mark_in (cell_at cells p)) mark ≡ true → p ≡ at)
    → turn_of (cell_at cells at) < turn
    → place_of mark (before greatest cells turn) ≡ Some (cell_at cells at).place
some-before greatest cells mark at zero inside held same alone below = absurd (omega (arith, below))
some-before greatest cells mark at (suc turn) inside held same alone below =
    elim (cases_lt (turn_of (cell_at cells at)) turn) [
      | inl earlier ↦
          place-append_some mark (before greatest cells turn) (of_turn greatest cells turn) (cell_at cells at).place
          (some-before greatest cells mark at turn inside held same alone earlier)
      | inr now ↦
          let is : turn_of (cell_at cells at) ≡ turn = omega (arith, now, below) in
          place-append_none mark (before greatest cells turn) (of_turn greatest cells turn)
          (none-before greatest cells mark turn (λ p within kept less.
          elim (cases_Bool (same_mark (mark_in (cell_at cells p)) mark)) [
            | inl alike ↦ absurd (omega (arith, less, is, ap (λ (i : ℕ). turn_of (cell_at cells i)) (alone p within kept alike)))
            | inr other ↦ other
          ]))
          ∙ place-some mark (λ cell. is_held greatest cell && (turn_of cell == turn)) cells at (cell_at cells at).place inside
          (and_yes (is_held greatest (cell_at cells at)) (turn_of (cell_at cells at) == turn) held (eq-eqb (turn_of (cell_at cells at)) turn is)) same
          (λ p within both alike. ap (λ (i : ℕ). (cell_at cells i).place) (alone p within (and_left (is_held greatest (cell_at cells p)) (turn_of (cell_at cells p) == turn) both) alike))
    ]

-- where nothing is held, nothing was taken
pub empty-before : (greatest : ℕ) (cells : List Cell) (turn : ℕ) → ((p : ℕ) → is_held greatest (cell_at cells p) ≡ false) → before greatest cells turn ≡ []
empty-before greatest cells zero none = refl
empty-before greatest cells (suc turn) none =
    ap (λ (xs : List TakenMark). xs ++ of_turn greatest cells turn) (empty-before greatest cells turn none)
    ∙ ap (map taken_in) (filter-none (λ cell. is_held greatest cell && (turn_of cell == turn)) cells no_cell
    (λ p inside. and_no (is_held greatest (cell_at cells p)) (turn_of (cell_at cells p) == turn) (none p)))
