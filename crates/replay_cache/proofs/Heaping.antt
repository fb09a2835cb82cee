-- A heap as times rise and sink in it, over plain lists.
use Rattle.std.proofs.Common.{◌≡◌, ◌≢◌, ℕ, ◌+◌, ◌-◌, ◌/◌, ◌<◌, ◌≤◌, if◌then◌else◌, List, [], ◌∷◌, ◌++◌, length, get_or, set, zero, suc, sym, ◌∙◌, ap, inl, inr, arith, get_or-set_same, get_or-set_other, length-set, length-append, nat_le}
use Rattle.std.proofs.lemmas.Bool.{cases_eq, le-leb}
use Rattle.std.proofs.lemmas.List.{get_or_append_left}
use Rattle.replay_cache.specs.Tally.{tally, late}
use Rattle.replay_cache.specs.Heap.{IsHeap, IsHeapBelow, IsHeapAbove, Exchanged, IsLesser}
use Rattle.replay_cache.proofs.Tallying.{tally-set, tally-all, tally-append}

-- two writes that exchange two places
pub exchanged : (old : List ℕ) (a b : ℕ) → a < b → b < length old
    → Exchanged old (set (set old a (get_or old b 0)) b (get_or old a 0)) a b
exchanged old a b order inside =
    let x : ℕ = get_or old a 0 in
    let y : ℕ = get_or old b 0 in
    let half : List ℕ = set old a y in
    let long : length half ≡ length old = length-set old a y in
    let there : get_or half b 0 ≡ y = get_or-set_other old a b y 0 (λ e. omega (arith, e, order)) in
    record {
      length_is = length-set half b x ∙ long;
      first = get_or-set_other half b a x 0 (λ e. omega (arith, e, order)) ∙ get_or-set_same old a y 0 (omega (arith, order, inside));
      second = get_or-set_same half b x 0 (omega (arith, long, inside));
      other = λ k na nb. get_or-set_other half b k x 0 nb ∙ get_or-set_other old a k y 0 na;
      same = λ moment.
          let one : tally (nat_le moment) half + (if nat_le moment x then 1 else 0) ≡ tally (nat_le moment) old + (if nat_le moment y then 1 else 0) = tally-set (nat_le moment) old a y 0 (omega (arith, order, inside)) in
          let two : tally (nat_le moment) (set half b x) + (if nat_le moment (get_or half b 0) then 1 else 0) ≡ tally (nat_le moment) half + (if nat_le moment x then 1 else 0) = tally-set (nat_le moment) half b x 0 (omega (arith, long, inside)) in
          let three : tally (nat_le moment) (set half b x) + (if nat_le moment y then 1 else 0) ≡ tally (nat_le moment) half + (if nat_le moment x then 1 else 0) = rw there at two in
          omega (arith, one, three);
    }

-- a heap with a time put behind it
pub grown : (heap : List ℕ) (at place : ℕ) → IsHeap heap → place ≡ length heap → IsHeapBelow (heap ++ at ∷ []) place
grown heap at place is last =
    let long : length (heap ++ at ∷ []) ≡ length heap + 1 = length-append heap (at ∷ []) in
    record {
      inside = omega (arith, long, last);
      rises = λ k inside apart.
          let within : k < length heap = omega (arith, inside, long, last, apart) in
          let here : get_or (heap ++ at ∷ []) k 0 ≡ get_or heap k 0 = get_or_append_left heap (at ∷ []) 0 k within in
          let above : get_or (heap ++ at ∷ []) ((k - 1) / 2) 0 ≡ get_or heap ((k - 1) / 2) 0 = get_or_append_left heap (at ∷ []) 0 ((k - 1) / 2) (omega (arith, within)) in
          omega (arith, here, above, is.rises k within);
      over = λ some k inside under. absurd (omega (arith, some, inside, under, long, last));
    }

-- a place exchanged with its lesser child
pub sunk : (old new : List ℕ) (place child : ℕ) → IsHeapAbove old place → IsLesser old place child
    → get_or old child 0 < get_or old place 0 → Exchanged old new place child → IsHeapAbove new child
sunk old new place child heap lesser less moved = record {
  inside = omega (arith, lesser.inside, moved.length_is);
  rises = λ k inside apart.
      let within : k < length old = omega (arith, inside, moved.length_is) in
      let below : (child - 1) / 2 ≡ place = lesser.below in
      let after : place < child = lesser.after in
      elim (cases_eq k place) [
        | inl here ↦
            elim (cases_eq place 0) [
              | inl root ↦
                  let self : (k - 1) / 2 ≡ k = omega (arith, here, root) in
                  rw self (omega arith)
              | inr inner ↦
                  let parent : get_or new ((k - 1) / 2) 0 ≡ get_or old ((place - 1) / 2) 0
                  = moved.other ((k - 1) / 2) (λ e. omega (arith, e, here, inner)) apart ∙ ap (λ (j : ℕ). get_or old ((j - 1) / 2) 0) here in
                  let value : get_or new k 0 ≡ get_or old child 0 = ap (λ (j : ℕ). get_or new j 0) here ∙ moved.first in
                  omega (arith, parent, value, heap.over (omega (arith, inner)) child lesser.inside below)
            ]
        | inr other ↦
            elim (cases_eq k child) [
              | inl there ↦
                  let parent : get_or new ((k - 1) / 2) 0 ≡ get_or old child 0
                  = ap (λ (j : ℕ). get_or new ((j - 1) / 2) 0) there ∙ ap (λ (j : ℕ). get_or new j 0) below ∙ moved.first in
                  let value : get_or new k 0 ≡ get_or old place 0 = ap (λ (j : ℕ). get_or new j 0) there ∙ moved.second in
                  omega (arith, parent, value, less)
              | inr else_ ↦
                  let value : get_or new k 0 ≡ get_or old k 0 = moved.other k other else_ in
                  elim (cases_eq ((k - 1) / 2) place) [
                    | inl sibling ↦
                        let parent : get_or new ((k - 1) / 2) 0 ≡ get_or old child 0 = ap (λ (j : ℕ). get_or new j 0) sibling ∙ moved.first in
                        let some : 0 < k = omega (arith, other, sibling) in
                        omega (arith, parent, value, lesser.least k within sibling some)
                    | inr far ↦
                        let parent : get_or new ((k - 1) / 2) 0 ≡ get_or old ((k - 1) / 2) 0 = moved.other ((k - 1) / 2) far apart in
                        omega (arith, parent, value, heap.rises k within far)
                  ]
            ]
      ];
  over = λ some k inside under.
      let within : k < length old = omega (arith, inside, moved.length_is) in
      let below : (child - 1) / 2 ≡ place = lesser.below in
      let after : place < child = lesser.after in
      let parent : get_or new ((child - 1) / 2) 0 ≡ get_or old child 0 = ap (λ (j : ℕ). get_or new j 0) below ∙ moved.first in
      let value : get_or new k 0 ≡ get_or old k 0 = moved.other k (λ e. omega (arith, e, under, after)) (λ e. omega (arith, e, under, some)) in
      let least : get_or old ((k - 1) / 2) 0 ≤ get_or old k 0 = heap.rises k within (λ e. omega (arith, e, under, after)) in
      let least_too : get_or old child 0 ≤ get_or old k 0 = rw under at least in
      omega (arith, parent, value, least_too);
}

-- a place exchanged with its parent
pub risen : (old new : List ℕ) (parent place : ℕ) → IsHeapBelow old place → 0 < place → parent ≡ (place - 1) / 2
    → get_or old place 0 < get_or old parent 0 → Exchanged old new parent place → IsHeapBelow new parent
risen old new parent place heap some is less moved = record {
  inside = omega (arith, heap.inside, moved.length_is, is);
  rises = λ k inside apart.
      let within : k < length old = omega (arith, inside, moved.length_is) in
      elim (cases_eq k place) [
        | inl here ↦
            let above : get_or new ((k - 1) / 2) 0 ≡ get_or old place 0
            = ap (λ (j : ℕ). get_or new ((j - 1) / 2) 0) here ∙ ap (λ (j : ℕ). get_or new j 0) (sym is) ∙ moved.first in
            let value : get_or new k 0 ≡ get_or old parent 0 = ap (λ (j : ℕ). get_or new j 0) here ∙ moved.second in
            omega (arith, above, value, less)
        | inr other ↦
            let value : get_or new k 0 ≡ get_or old k 0 = moved.other k apart other in
            elim (cases_eq ((k - 1) / 2) place) [
              | inl child ↦
                  let above : get_or new ((k - 1) / 2) 0 ≡ get_or old parent 0 = ap (λ (j : ℕ). get_or new j 0) child ∙ moved.second in
                  let under : get_or old ((place - 1) / 2) 0 ≤ get_or old k 0 = heap.over some k within child in
                  let under_too : get_or old parent 0 ≤ get_or old k 0 = rw (← is) at under in
                  omega (arith, above, value, under_too)
              | inr far ↦
                  let kept : get_or old ((k - 1) / 2) 0 ≤ get_or old k 0 = heap.rises k within other in
                  elim (cases_eq ((k - 1) / 2) parent) [
                    | inl sibling ↦
                        let above : get_or new ((k - 1) / 2) 0 ≡ get_or old place 0 = ap (λ (j : ℕ). get_or new j 0) sibling ∙ moved.first in
                        let kept_too : get_or old parent 0 ≤ get_or old k 0 = rw sibling at kept in
                        omega (arith, above, value, kept_too, less)
                    | inr else_ ↦
                        let above : get_or new ((k - 1) / 2) 0 ≡ get_or old ((k - 1) / 2) 0 = moved.other ((k - 1) / 2) else_ far in
                        omega (arith, above, value, kept)
                  ]
            ]
      ];
  over = λ inner k inside under.
      let within : k < length old = omega (arith, inside, moved.length_is) in
      let above : get_or new ((parent - 1) / 2) 0 ≡ get_or old ((parent - 1) / 2) 0
      = moved.other ((parent - 1) / 2) (λ e. omega (arith, e, inner)) (λ e. omega (arith, e, is, some)) in
      let grand : get_or old ((parent - 1) / 2) 0 ≤ get_or old parent 0
      = heap.rises parent (omega (arith, heap.inside, is)) (λ e. omega (arith, e, is, some)) in
      elim (cases_eq k place) [
        | inl here ↦
            let value : get_or new k 0 ≡ get_or old parent 0 = ap (λ (j : ℕ). get_or new j 0) here ∙ moved.second in
            omega (arith, above, value, grand)
        | inr other ↦
            let apart : k ≢ parent = λ e. omega (arith, e, under, inner) in
            let value : get_or new k 0 ≡ get_or old k 0 = moved.other k apart other in
            let kept : get_or old ((k - 1) / 2) 0 ≤ get_or old k 0 = heap.rises k within other in
            let kept_too : get_or old parent 0 ≤ get_or old k 0 = rw under at kept in
            omega (arith, above, value, grand, kept_too)
      ];
}

-- where it stops
pub heap-from_below : (heap : List ℕ) (place : ℕ) → IsHeapBelow heap place
    → get_or heap ((place - 1) / 2) 0 ≤ get_or heap place 0 → IsHeap heap
heap-from_below heap place below here = record {
  rises = λ k inside.
      elim (cases_eq k place) [
        | inl same ↦ rw same here
        | inr other ↦ below.rises k inside other
      ];
}

pub heap-from_above : (heap : List ℕ) (place : ℕ) → IsHeapAbove heap place
    → ((k : ℕ) → k < length heap → 0 < k → (k - 1) / 2 ≡ place → get_or heap place 0 ≤ get_or heap k 0) → IsHeap heap
heap-from_above heap place above here = record {
  rises = λ k inside.
      elim (cases_eq k 0) [
        | inl root ↦ rw root (omega arith)
        | inr inner ↦
            elim (cases_eq ((k - 1) / 2) place) [
              | inl child ↦ rw child (here k inside (omega (arith, inner)) child)
              | inr other ↦ above.rises k inside other
            ]
      ];
}

-- the first time is the least
least-within : (heap : List ℕ) → IsHeap heap → (most k : ℕ) → k ≤ most → k < length heap → get_or heap 0 0 ≤ get_or heap k 0
least-within heap is zero k small inside =
    let root : k ≡ 0 = omega (arith, small) in
    rw root (omega arith)
least-within heap is (suc most) k small inside =
    elim (cases_eq k 0) [
      | inl root ↦ rw root (omega arith)
      | inr inner ↦
          omega (arith, is.rises k inside, least-within heap is most ((k - 1) / 2) (omega (arith, small, inner)) (omega (arith, inside)))
    ]

pub all-late : (heap : List ℕ) (floor : ℕ) → IsHeap heap → (0 < length heap → floor ≤ get_or heap 0 0) → late floor heap ≡ length heap
all-late heap floor is first =
    tally-all (nat_le floor) heap 0 (λ i inside.
    le-leb floor (get_or heap i 0) (omega (arith, first (omega (arith, inside)), least-within heap is i i (omega arith) inside)))

pub late-more : (moment : ℕ) (times : List ℕ) (at : ℕ) → late moment (times ++ at ∷ []) ≡ late moment times + (if nat_le moment at then 1 else 0)
late-more moment times at = omega (arith, tally-append (nat_le moment) times (at ∷ []))

-- the last time put in the place of the first
pub dropped : (old rest now new : List ℕ) (last moment : ℕ) → now ≡ rest → old ≡ rest ++ last ∷ [] → 0 < length rest
    → late moment new + (if nat_le moment (get_or now 0 0) then 1 else 0) ≡ late moment now + (if nat_le moment last then 1 else 0)
    → late moment new + (if nat_le moment (get_or old 0 0) then 1 else 0) ≡ late moment old
dropped old [] now new last moment now_is old_is some counted = absurd (omega (arith, some))
dropped old (x ∷ xs) now new last moment now_is old_is some counted =
    let first : get_or old 0 0 ≡ x = ap (λ (l : List ℕ). get_or l 0 0) old_is in
    let first_too : get_or now 0 0 ≡ x = ap (λ (l : List ℕ). get_or l 0 0) now_is in
    let all : late moment old ≡ late moment (x ∷ xs) + (if nat_le moment last then 1 else 0) = ap (late moment) old_is ∙ late-more moment (x ∷ xs) last in
    let rest_is : late moment now ≡ late moment (x ∷ xs) = ap (late moment) now_is in
    let counted_too : late moment new + (if nat_le moment x then 1 else 0) ≡ late moment now + (if nat_le moment last then 1 else 0) = rw first_too at counted in
    rw first (omega (arith, all, rest_is, counted_too))
