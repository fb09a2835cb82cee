-- A cache as a whole, over plain values: what it holds, what is found in it, and how it goes on.
use Rattle.std.proofs.Common.{◌≡◌, ℕ, ◌+◌, ◌-◌, ◌/◌, ◌<◌, ◌≤◌, Bool, true, false, ◌&&◌, ◌==◌, nat_lt, nat_le, if◌then◌else◌, List, [], ◌∷◌, ◌++◌, suc, length, max, get_or, set, None, Some, refl, sym, ◌∙◌, ap, inl, inr, arith, length-set}
use Rattle.std.proofs.lemmas.Bool.{cases_Bool, le-leb, lt-ltb, le-ltb, ltb-false, or_from}
use Rattle.std.proofs.lemmas.List.{get_or_default}
use Rattle.gss_base.specs.declared.mark.Mark.{Mark}
use Rattle.replay_cache.specs.declared.cache.TakenMark.{TakenMark}
use Rattle.replay_cache.specs.declared.cache.CacheVerdict.TheVariants.{Taken, Full}
use Rattle.replay_cache.specs.declared.cells.Cell.{Cell}
use Rattle.replay_cache.specs.Taking.{Cached, Holds, skew, same_mark, place_of, kept_of, is_stale, cache_verdict}
use Rattle.replay_cache.specs.Tally.{tally, late}
use Rattle.replay_cache.specs.Heap.{Bag}
use Rattle.replay_cache.specs.Cells.{no_cell, cell_at, mark_in, is_held, turn_of, next_turn, before, home_of, place_after, steps_to}
use Rattle.replay_cache.specs.Held.{IsIndexed, IsCounted, IsCache}
use Rattle.replay_cache.proofs.Keeping.{kept-kept}
use Rattle.replay_cache.proofs.Tallying.{tally-agree_here, tally-none}
use Rattle.replay_cache.proofs.Turning.{kept-before, before-past, more-before, length-before, none-before, some-before, empty-before}
use Rattle.replay_cache.proofs.Indexing.{indexed-later, indexed-more, same-equal, and_yes}
use Rattle.replay_cache.proofs.Counting.{times-held, counted-later, counted-more}

and_left : (a b : Bool) → (a && b) ≡ true → a ≡ true
and_left true b both = refl
and_left false b both = both

and_right : (a b : Bool) → (a && b) ≡ true → b ≡ true
and_right true b both = both
and_right false b both = cc

-- there are as many times as held marks
pub times-length : (capacity greatest taken : ℕ) (cells : List Cell) (times : Bag) → IsCounted capacity greatest taken cells times
    → length times.times ≡ length (before greatest cells (next_turn greatest taken))
times-length capacity greatest taken cells times is =
    times-held capacity greatest taken cells times is ∙ sym (length-before greatest cells (next_turn greatest taken) is.turns)

-- what is found is the place of the mark
pub found-place : (greatest turn : ℕ) (cells : List Cell) (reaches : List ℕ) (mark : Mark) (at : ℕ) (cell : Cell) → IsIndexed greatest cells reaches
    → ((p : ℕ) → p < length cells → turn_of (cell_at cells p) < turn)
    → at < length cells → (is_held greatest (cell_at cells at) && same_mark (mark_in (cell_at cells at)) mark) ≡ true → cell ≡ get_or cells at cell
    → Some cell.place ≡ place_of mark (before greatest cells turn)
found-place greatest turn cells reaches mark at cell is turns inside both read =
    let held : is_held greatest (cell_at cells at) ≡ true = and_left (is_held greatest (cell_at cells at)) (same_mark (mark_in (cell_at cells at)) mark) both in
    let same : same_mark (mark_in (cell_at cells at)) mark ≡ true = and_right (is_held greatest (cell_at cells at)) (same_mark (mark_in (cell_at cells at)) mark) both in
    let here : cell_at cells at ≡ cell = get_or_default cells at no_cell cell inside ∙ sym read in
    sym (some-before greatest cells mark at turn inside held same (λ p within kept alike. is.alone mark p at within inside kept held alike same) (turns at inside)
    ∙ ap (λ (c : Cell). Some c.place) here)

-- a mark that isn't found within reach of its home isn't held
pub lost-place : (greatest turn home reach : ℕ) (cells : List Cell) (reaches : List ℕ) (mark : Mark) → IsIndexed greatest cells reaches
    → home ≡ home_of (length cells) mark → home < length cells → reach ≡ get_or reaches home reach
    → ((p : ℕ) → p < length cells → steps_to (length cells) home p ≤ reach → (is_held greatest (cell_at cells p) && same_mark (mark_in (cell_at cells p)) mark) ≡ false)
    → None ≡ place_of mark (before greatest cells turn)
lost-place greatest turn home reach cells reaches mark is home_is inside reach_is none =
    sym (none-before greatest cells mark turn (λ p within held below.
    elim (cases_Bool (same_mark (mark_in (cell_at cells p)) mark)) [
      | inr other ↦ other
      | inl same ↦
          let mark_is : mark_in (cell_at cells p) ≡ mark = same-equal (mark_in (cell_at cells p)) mark same in
          let from_ : home_of (length cells) (mark_in (cell_at cells p)) ≡ home = ap (home_of (length cells)) mark_is ∙ sym home_is in
          let reach_too : get_or reaches home 0 ≡ reach = get_or_default reaches home 0 reach (omega (arith, inside, is.reaches_of)) ∙ sym reach_is in
          let near : steps_to (length cells) home p ≤ get_or reaches home 0 = rw from_ at (is.reached p within held) in
          let never : false ≡ true = sym (none p within (omega (arith, near, reach_too)))
          ∙ and_yes (is_held greatest (cell_at cells p)) (same_mark (mark_in (cell_at cells p)) mark) held same in
          cc
    ]))

-- a mark that has no place is in no held cell
not-held : (greatest turn : ℕ) (cells : List Cell) (reaches : List ℕ) (mark : Mark) → IsIndexed greatest cells reaches
    → ((p : ℕ) → p < length cells → turn_of (cell_at cells p) < turn) → place_of mark (before greatest cells turn) ≡ None
    → (p : ℕ) → p < length cells → is_held greatest (cell_at cells p) ≡ true → same_mark (mark_in (cell_at cells p)) mark ≡ false
not-held greatest turn cells reaches mark is turns new p inside held =
    elim (cases_Bool (same_mark (mark_in (cell_at cells p)) mark)) [
      | inr other ↦ other
      | inl same ↦
          let there : place_of mark (before greatest cells turn) ≡ Some (cell_at cells p).place
          = some-before greatest cells mark p turn inside held same (λ q within kept alike. is.alone mark q p within inside kept held alike same) (turns p inside) in
          let never : None ≡ Some (cell_at cells p).place = sym new ∙ there in
          cc
    ]

-- the verdicts, each from what a cache holds
pub taken-from : (cache : Cached) (taken : List TakenMark) (mark : Mark) → Holds cache taken → is_stale cache.greatest mark ≡ false
    → None ≡ place_of mark cache.held → length cache.held < cache.capacity → Taken ≡ cache_verdict cache.capacity cache.greatest taken mark
taken-from cache taken mark holds near new room =
    rw (near, ← holds.kept, ← new, lt-ltb (length cache.held) cache.capacity room) refl

pub full-from : (cache : Cached) (taken : List TakenMark) (mark : Mark) → Holds cache taken → is_stale cache.greatest mark ≡ false
    → None ≡ place_of mark cache.held → cache.capacity ≤ length cache.held → Full ≡ cache_verdict cache.capacity cache.greatest taken mark
full-from cache taken mark holds near new full =
    rw (near, ← holds.kept, ← new, le-ltb (length cache.held) cache.capacity full) refl

pub not-stale : (greatest : ℕ) (mark : Mark) → greatest - mark.at ≤ skew → mark.at - greatest ≤ skew → is_stale greatest mark ≡ false
not-stale greatest mark before_ after =
    or_from (nat_lt skew (greatest - mark.at)) (nat_lt skew (mark.at - greatest)) (le-ltb skew (greatest - mark.at) before_) (le-ltb skew (mark.at - greatest) after)

recent-mark : (greatest : ℕ) (mark : Mark) → is_stale greatest mark ≡ false → greatest - mark.at ≤ skew
recent-mark greatest mark near =
    elim (cases_Bool (nat_lt skew (greatest - mark.at))) [
      | inl far ↦
          let never : true ≡ false = rw far at near in
          cc
      | inr close ↦ ltb-false skew (greatest - mark.at) close
    ]

-- a new cache
none-held : (greatest : ℕ) (cells : List Cell) → ((p : ℕ) → (cell_at cells p).nth ≡ 0) → (p : ℕ) → is_held greatest (cell_at cells p) ≡ false
none-held greatest cells empty p = rw (empty p) refl

pub empty-held : (greatest turn : ℕ) (cells : List Cell) → ((p : ℕ) → (cell_at cells p).nth ≡ 0) → before greatest cells turn ≡ []
empty-held greatest turn cells empty = empty-before greatest cells turn (none-held greatest cells empty)

pub empty-cache : (capacity start : ℕ) (cells : List Cell) (reaches : List ℕ) (times : Bag) → 0 < capacity → capacity ≤ 1000000
    → length cells ≡ capacity + capacity / 16 + 1 → length reaches ≡ capacity + capacity / 16 + 1
    → ((p : ℕ) → (cell_at cells p).nth ≡ 0) → ((p : ℕ) → (cell_at cells p).when ≡ 0) → ((h : ℕ) → get_or reaches h 0 ≡ 0)
    → times.room ≡ capacity → times.times ≡ [] → IsCache capacity start 0 cells reaches times
empty-cache capacity start cells reaches times some bounded count count_too empty early none room nothing =
    let zero_held : tally (is_held start) cells ≡ 0
    = tally-agree_here (is_held start) (λ _. false) cells no_cell (λ p inside. none-held start cells empty p) ∙ tally-none (λ _. false) (λ _. refl) cells in
    record {
      some = some;
      bounded = bounded;
      enough = omega (arith, count);
      indexed = record {
        many = omega (arith, count, bounded);
        reaches_of = count_too ∙ sym count;
        short = λ h inside. omega (arith, none h, inside);
        reached = λ p inside held.
            let never : false ≡ true = sym (none-held start cells empty p) ∙ held in
            cc;
        alone = λ mark p q inside within held kept same alike.
            let never : false ≡ true = sym (none-held start cells empty p) ∙ held in
            cc;
      };
      counted = record {
        turns = λ p inside. omega (arith, empty p, early p);
        new = omega arith;
        few = omega (arith, zero_held);
        counts = λ moment floor.
            ap (late moment) nothing
            ∙ sym (tally-agree_here (λ cell. is_held start cell && nat_le moment cell.at) (λ _. false) cells no_cell (λ p inside. rw (none-held start cells empty p) refl)
            ∙ tally-none (λ _. false) (λ _. refl) cells);
        recent = rw nothing refl;
        room = room;
      };
    }

-- a cache at a later moment
pub cache-later : (capacity old new taken : ℕ) (cells : List Cell) (reaches : List ℕ) (times less : Bag) → IsCache capacity old taken cells reaches times
    → old < new → less.room ≡ times.room
    → ((moment : ℕ) → new - skew ≤ moment → late moment less.times ≡ late moment times.times)
    → late (new - skew) less.times ≡ length less.times
    → IsCache capacity new 0 cells reaches less
cache-later capacity old new taken cells reaches times less is lt room kept recent = record {
  some = is.some;
  bounded = is.bounded;
  enough = is.enough;
  indexed = indexed-later old new cells reaches (omega (arith, lt)) is.indexed;
  counted = counted-later capacity old new taken cells times less is.counted lt (omega (arith, is.counted.new, is.counted.few, is.bounded)) room kept recent;
}

pub held-later : (capacity old new taken : ℕ) (cells : List Cell) (reaches : List ℕ) (times : Bag) (marks : List TakenMark) → IsCache capacity old taken cells reaches times
    → old < new → before old cells (next_turn old taken) ≡ kept_of old marks
    → before new cells (next_turn new 0) ≡ kept_of new marks
held-later capacity old new taken cells reaches times marks is lt holds =
    let small : taken ≤ 1000000 = omega (arith, is.counted.new, is.counted.few, is.bounded) in
    before-past new cells (next_turn old taken) (next_turn new 0) (omega (arith, lt, small)) is.counted.turns
    ∙ kept-before old new cells (next_turn old taken) (omega (arith, lt))
    ∙ ap (kept_of new) holds
    ∙ kept-kept old new marks (omega (arith, lt))

-- a cache with one mark more
abbrev pub new_cell : ℕ → ℕ → Mark → ℕ → Cell
new_cell greatest taken mark place = record { who = mark.who; nth = taken + 1; at = mark.at; place = place; when = greatest }

new-held : (greatest taken : ℕ) (mark : Mark) (place : ℕ) → is_stale greatest mark ≡ false → is_held greatest (new_cell greatest taken mark place) ≡ true
new-held greatest taken mark place near =
    rw (lt-ltb 0 (taken + 1) (omega arith), le-leb (greatest - mark.at) skew (recent-mark greatest mark near)) refl

pub cache-more : (capacity greatest taken : ℕ) (cells : List Cell) (reaches : List ℕ) (times more : Bag) (home reach needed step at next : ℕ) (mark : Mark) (place : ℕ)
    → IsCache capacity greatest taken cells reaches times
    → home ≡ home_of (length cells) mark → home < length cells → reach ≡ get_or reaches home reach → needed ≤ reach
    → ((p : ℕ) → p < length cells → (is_held greatest (cell_at cells p) && (home_of (length cells) (mark_in (cell_at cells p)) == home)) ≡ true
    → steps_to (length cells) home p ≤ reach → steps_to (length cells) home p ≤ needed)
    → step < length cells → is_held greatest (cell_at cells (place_after (length cells) (home + step))) ≡ false
    → at ≡ place_after (length cells) (home + step) → at < length cells → next ≡ max needed step
    → place_of mark (before greatest cells (next_turn greatest taken)) ≡ None → is_stale greatest mark ≡ false
    → length (before greatest cells (next_turn greatest taken)) < capacity
    → more.room ≡ times.room → length more.times ≡ length times.times + 1
    → ((moment : ℕ) → late moment more.times ≡ late moment times.times + (if nat_le moment mark.at then 1 else 0))
    → IsCache capacity greatest (taken + 1) (set cells at (new_cell greatest taken mark place)) (set reaches home next) more
cache-more capacity greatest taken cells reaches times more home reach needed step at next mark place is home_is inside reach_is less covers short free at_is within next_is new near room room_is length_is counted =
    let cell : Cell = new_cell greatest taken mark place in
    let held : is_held greatest cell ≡ true = new-held greatest taken mark place near in
    let reach_too : reach ≡ get_or reaches home 0 = reach_is ∙ sym (get_or_default reaches home 0 reach (omega (arith, inside, is.indexed.reaches_of))) in
    let free_too : is_held greatest (cell_at cells at) ≡ false = ap (λ (k : ℕ). is_held greatest (cell_at cells k)) at_is ∙ free in
    let few : tally (is_held greatest) cells < capacity = omega (arith, room, length-before greatest cells (next_turn greatest taken) is.counted.turns) in
    let indexed : IsIndexed greatest (set cells (place_after (length cells) (home + step)) cell) (set reaches home (max needed step))
    = indexed-more greatest cells reaches home step needed cell is.indexed inside short (sym home_is) free
    (not-held greatest (next_turn greatest taken) cells reaches mark is.indexed is.counted.turns new)
    (omega (arith, less, reach_too)) (λ p inner both steps. covers p inner both (omega (arith, steps, reach_too))) (omega (arith, at_is, within)) in
    record {
      some = is.some;
      bounded = is.bounded;
      enough = omega (arith, is.enough, length-set cells at cell);
      indexed = rw (at_is, next_is) indexed;
      counted = counted-more capacity greatest taken cells at cell times more is.counted within free_too held (omega arith) few room_is length_is counted;
    }

pub held-more : (capacity greatest taken : ℕ) (cells : List Cell) (reaches : List ℕ) (times : Bag) (home step at : ℕ) (mark : Mark) (place : ℕ)
    → IsCache capacity greatest taken cells reaches times
    → is_held greatest (cell_at cells (place_after (length cells) (home + step))) ≡ false
    → at ≡ place_after (length cells) (home + step) → at < length cells → is_stale greatest mark ≡ false
    → before greatest (set cells at (new_cell greatest taken mark place)) (next_turn greatest (taken + 1))
    ≡ before greatest cells (next_turn greatest taken) ++ record { mark = mark; place = place } ∷ []
held-more capacity greatest taken cells reaches times home step at mark place is free at_is within near =
    let cell : Cell = new_cell greatest taken mark place in
    let free_too : is_held greatest (cell_at cells at) ≡ false = ap (λ (k : ℕ). is_held greatest (cell_at cells k)) at_is ∙ free in
    let turn : next_turn greatest (taken + 1) ≡ suc (next_turn greatest taken) = omega arith in
    ap (before greatest (set cells at cell)) turn
    ∙ more-before greatest cells at cell (next_turn greatest taken) within free_too (new-held greatest taken mark place near) (omega arith) is.counted.turns
