-- How a cache is filled with the marks of records.
use Rattle.std.proofs.Common.{◌≡◌, inl, inr, ℕ, ◌+◌, ◌-◌, ◌*◌, ◌≤◌, ◌<◌, ◌&&◌, nat_lt, nat_le, List, [], ◌∷◌, ◌++◌, length, take, drop, Option, None, Some, refl, sym, ◌∙◌, ap, subst, arith, length-append}
use Rattle.std.proofs.lemmas.List.{take-take, drop-take, drop-drop}
use Rattle.std.proofs.lemmas.List.Elements.{filter-append}
use Rattle.std.proofs.lemmas.Bool.{cases_Bool, lt-ltb, le-leb, ltb-true, ltb-false}
use Rattle.std.specs.Int.{w32, w64, from_be_bytes}
use Rattle.gss_base.specs.declared.mark.Mark.{Mark}
use Rattle.replay_cache.specs.declared.cache.TakenMark.{TakenMark}
use Rattle.replay_cache.specs.declared.cache.CacheVerdict.{CacheVerdict}
use Rattle.replay_cache.specs.declared.cache.CacheVerdict.TheVariants.{Taken, Stale, Repeat, Full}
use Rattle.replay_cache.specs.Taking.{Cached, Holds, skew, same_mark, place_of, kept_of, is_recent, is_stale, or_repeat, cache_verdict, with_taken}
use Rattle.replay_cache.proofs.Caching.{not-stale}
use Rattle.replay_journal.specs.Files.{mark_in, moment_at, is_moment}
use Rattle.replay_journal.specs.Journals.{HasPlace, Covers, Filled, recent_marks}
use Rattle.replay_journal.proofs.Marks.{covers-taken, recent-mark}

moment-take : (m : ℕ) (l : List ℕ) → 4 ≤ m → moment_at (take (8 + m) l) ≡ moment_at l
moment-take m l le =
    let high : take 8 (take (8 + m) l) ≡ take 8 l = take-take 8 (8 + m) l (omega arith) in
    let low : take 4 (drop 8 (take (8 + m) l)) ≡ take 4 (drop 8 l) = ap (λ (k : List ℕ). take 4 k) (drop-take 8 m l) ∙ take-take 4 m (drop 8 l) le in
    (λ i. from_be_bytes w64 (high i) * 1000000 + from_be_bytes w32 (low i))

pub moment-read : (rest : List ℕ) → moment_at (take 12 (drop 21 rest)) ≡ moment_at (drop 20 (take 44 (drop 1 rest)))
moment-read rest =
    moment-take 4 (drop 21 rest) (omega arith) ∙ sym (moment-take 16 (drop 21 rest) (omega arith))
    ∙ ap (λ (l : List ℕ). moment_at (take 24 l)) (sym (drop-drop 20 1 rest))
    ∙ ap moment_at (sym (drop-take 20 24 (drop 1 rest)))

pub who-read : (rest : List ℕ) → take 20 (drop 1 rest) ≡ take 20 (take 44 (drop 1 rest))
who-read rest = sym (take-take 20 44 (drop 1 rest) (omega arith))

is-moment-take : (m : ℕ) (l : List ℕ) → 4 ≤ m → is_moment (take (8 + m) l) ≡ is_moment l
is-moment-take m l le =
    let high : take 8 (take (8 + m) l) ≡ take 8 l = take-take 8 (8 + m) l (omega arith) in
    let low : take 4 (drop 8 (take (8 + m) l)) ≡ take 4 (drop 8 l) = ap (λ (k : List ℕ). take 4 k) (drop-take 8 m l) ∙ take-take 4 m (drop 8 l) le in
    (λ i. nat_le (from_be_bytes w64 (high i)) 253402300799 && nat_lt (from_be_bytes w32 (low i)) 1000000)

pub is-moment-read : (rest : List ℕ) → is_moment (take 12 (drop 21 rest)) ≡ is_moment (drop 20 (take 44 (drop 1 rest)))
is-moment-read rest =
    is-moment-take 4 (drop 21 rest) (omega arith) ∙ sym (is-moment-take 16 (drop 21 rest) (omega arith))
    ∙ ap (λ (l : List ℕ). is_moment (take 24 l)) (sym (drop-drop 20 1 rest))
    ∙ ap is_moment (sym (drop-take 20 24 (drop 1 rest)))

-- the greatest moment of the record that stands here
pub later-read : (rest : List ℕ) → take 12 (drop 33 rest) ≡ drop 32 (take 44 (drop 1 rest))
later-read rest = ap (λ (l : List ℕ). take 12 l) (sym (drop-drop 32 1 rest)) ∙ sym (drop-take 32 12 (drop 1 rest))

-- what is found among the recent ones is there
kept-place : (greatest : ℕ) (mark : Mark) (taken : List TakenMark) → HasPlace (place_of mark (kept_of greatest taken)) → HasPlace (place_of mark taken)
kept-place greatest mark [] none = none
kept-place greatest mark (t ∷ taken) has = elim (cases_Bool (same_mark t.mark mark)) [
  | inl same ↦ rw same tt
  | inr other ↦ elim (cases_Bool (nat_le (greatest - t.mark.at) skew)) [
    | inl near ↦ rw other (kept-place greatest mark taken (rw (near, other) at has))
    | inr far ↦ rw other (kept-place greatest mark taken (rw far at has))
  ]
]

covers-last : (greatest : ℕ) (taken : List TakenMark) (records : List (List ℕ)) (body : List ℕ) → (greatest - (mark_in body).at ≤ skew → HasPlace (place_of (mark_in body) taken)) → Covers greatest taken records → Covers greatest taken (records ++ body ∷ [])
covers-last greatest taken [] body has covers = (has, tt)
covers-last greatest taken (b ∷ more) body has covers = (covers.0, covers-last greatest taken more body has covers.1)

never-stale : (place : Option ℕ) (held capacity moment : ℕ) → or_repeat place held capacity ≡ Stale moment → ⊥
never-stale (Some p) held capacity moment is = cc
never-stale None held capacity moment is = elim (cases_Bool (nat_lt held capacity)) [
  | inl room ↦ let never : Taken ≡ Stale moment = rw room at is in cc
  | inr full ↦ let never : Full ≡ Stale moment = rw full at is in cc
]

repeat-place : (place : Option ℕ) (held capacity p : ℕ) → or_repeat place held capacity ≡ Repeat p → HasPlace place
repeat-place (Some q) held capacity p is = tt
repeat-place None held capacity p is = elim (cases_Bool (nat_lt held capacity)) [
  | inl room ↦ let never : Taken ≡ Repeat p = rw room at is in cc
  | inr full ↦ let never : Full ≡ Repeat p = rw full at is in cc
]

unstale : (capacity greatest : ℕ) (taken : List TakenMark) (mark : Mark) → mark.at ≤ greatest + skew → greatest - mark.at ≤ skew
    → cache_verdict capacity greatest taken mark ≡ or_repeat (place_of mark (kept_of greatest taken)) (length (kept_of greatest taken)) capacity
unstale capacity greatest taken mark ahead near = rw (not-stale greatest mark near (omega (arith, ahead))) refl

or-same : (place : Option ℕ) (held capacity : ℕ) → (or_repeat place held capacity ≡ Full → ⊥) → or_repeat place held (held + 1) ≡ or_repeat place held capacity
or-same (Some p) held capacity room = refl
or-same None held capacity room = elim (cases_Bool (nat_lt held capacity)) [
  | inl room_ ↦ rw (room_, lt-ltb held (held + 1) (omega arith)) refl
  | inr full_ ↦ absurd (room (rw full_ refl))
]

or-full : (place : Option ℕ) (held capacity : ℕ) → or_repeat place held capacity ≡ Full → (or_repeat place held (held + 1) ≡ Taken) × (capacity ≤ held)
or-full (Some p) held capacity is = cc
or-full None held capacity is = elim (cases_Bool (nat_lt held capacity)) [
  | inl room_ ↦ let never : Taken ≡ Full = rw room_ at is in cc
  | inr full_ ↦ (rw (lt-ltb held (held + 1) (omega arith)) refl, ltb-false held capacity full_)
]

or-taken : (place : Option ℕ) (held capacity : ℕ) → or_repeat place held capacity ≡ Taken → held < capacity
or-taken (Some p) held capacity is = cc
or-taken None held capacity is = elim (cases_Bool (nat_lt held capacity)) [
  | inl room_ ↦ ltb-true held capacity room_
  | inr full_ ↦ let never : Full ≡ Taken = rw full_ at is in cc
]

-- the verdict of a cache with room for one more
abbrev roomy : ℕ → List TakenMark → Mark → CacheVerdict
roomy greatest taken mark = cache_verdict (length taken + 1) greatest taken mark

same-verdict : (capacity greatest : ℕ) (taken : List TakenMark) (mark : Mark) → kept_of greatest taken ≡ taken → (cache_verdict capacity greatest taken mark ≡ Full → ⊥)
    → roomy greatest taken mark ≡ cache_verdict capacity greatest taken mark
same-verdict capacity greatest taken mark all room = elim (cases_Bool (is_stale greatest mark)) [
  | inl stale ↦ rw stale refl
  | inr near ↦
      let held : length (kept_of greatest taken) ≡ length taken = ap length all in
      rw (near, sym held) (or-same (place_of mark (kept_of greatest taken)) (length (kept_of greatest taken)) capacity (rw near at room))
]

full-verdict : (capacity greatest : ℕ) (taken : List TakenMark) (mark : Mark) → kept_of greatest taken ≡ taken → cache_verdict capacity greatest taken mark ≡ Full
    → (roomy greatest taken mark ≡ Taken) × (capacity ≤ length taken)
full-verdict capacity greatest taken mark all full = elim (cases_Bool (is_stale greatest mark)) [
  | inl stale ↦ let never : Stale greatest ≡ Full = rw stale at full in cc
  | inr near ↦
      let held : length (kept_of greatest taken) ≡ length taken = ap length all in
      let both = or-full (place_of mark (kept_of greatest taken)) (length (kept_of greatest taken)) capacity (rw near at full) in
      (rw (near, sym held) both.0, omega (arith, both.1, held))
]

taken-verdict : (capacity greatest : ℕ) (taken : List TakenMark) (mark : Mark) → kept_of greatest taken ≡ taken → cache_verdict capacity greatest taken mark ≡ Taken
    → (length taken < capacity) × (greatest - mark.at ≤ skew)
taken-verdict capacity greatest taken mark all is = elim (cases_Bool (is_stale greatest mark)) [
  | inl stale ↦ let never : Stale greatest ≡ Taken = rw stale at is in cc
  | inr near ↦
      let few = or-taken (place_of mark (kept_of greatest taken)) (length (kept_of greatest taken)) capacity (rw near at is) in
      (omega (arith, few, ap length all), recent-mark greatest mark near)
]

-- one record more
pub marks-more : (greatest number : ℕ) (taken : List TakenMark) (records : List (List ℕ)) (body : List ℕ) → recent_marks greatest number taken (records ++ body ∷ [])
    ≡ with_taken (roomy greatest (recent_marks greatest number taken records) (mark_in body)) (recent_marks greatest number taken records)
    (record { mark = mark_in body; place = number + length records })
marks-more greatest number taken [] body =
    let none : number ≡ number + 0 = omega arith in
    ap (λ (n : ℕ). with_taken (roomy greatest taken (mark_in body)) taken (record { mark = mark_in body; place = n })) none
marks-more greatest number taken (b ∷ more) body =
    let next : List TakenMark = with_taken (roomy greatest taken (mark_in b)) taken (record { mark = mark_in b; place = number }) in
    let all : List TakenMark = recent_marks greatest (number + 1) next more in
    let place : number + 1 + length more ≡ number + length (b ∷ more) = omega arith in
    marks-more greatest (number + 1) next more body
    ∙ ap (λ (n : ℕ). with_taken (roomy greatest all (mark_in body)) all (record { mark = mark_in body; place = n })) place

taken-longer : (verdict : CacheVerdict) (taken : List TakenMark) (one : TakenMark) → length taken ≤ length (with_taken verdict taken one)
taken-longer Taken taken one = omega (arith, length-append taken (one ∷ []))
taken-longer (Stale moment) taken one = omega arith
taken-longer (Repeat place) taken one = omega arith
taken-longer Full taken one = omega arith

-- more records have no fewer marks
marks-grow : (greatest number : ℕ) (taken : List TakenMark) (records : List (List ℕ)) → length taken ≤ length (recent_marks greatest number taken records)
marks-grow greatest number taken [] = omega arith
marks-grow greatest number taken (b ∷ more) =
    let one : TakenMark = record { mark = mark_in b; place = number } in
    let next : List TakenMark = with_taken (roomy greatest taken (mark_in b)) taken one in
    omega (arith, taken-longer (roomy greatest taken (mark_in b)) taken one, marks-grow greatest (number + 1) next more)

pub marks-longer : (greatest number : ℕ) (taken : List TakenMark) (records more : List (List ℕ)) → length (recent_marks greatest number taken records) ≤ length (recent_marks greatest number taken (records ++ more))
marks-longer greatest number taken [] more = marks-grow greatest number taken more
marks-longer greatest number taken (b ∷ records) more =
    marks-longer greatest (number + 1) (with_taken (roomy greatest taken (mark_in b)) taken (record { mark = mark_in b; place = number })) records more

kept-all : (greatest : ℕ) (taken : List TakenMark) (one : TakenMark) → kept_of greatest taken ≡ taken → greatest - one.mark.at ≤ skew → kept_of greatest (taken ++ one ∷ []) ≡ taken ++ one ∷ []
kept-all greatest taken one all near =
    filter-append (is_recent greatest) taken (one ∷ [])
    ∙ rw (le-leb (greatest - one.mark.at) skew near, all) refl

-- what is left to show of a cache that took a record's mark, by the list of what it took
record FilledBy (cache : Cached) (taken : List TakenMark) (records : List (List ℕ)) : Type 0 where
  pub holds : Holds cache taken
  pub covers : Covers cache.greatest taken records
  pub all : kept_of cache.greatest taken ≡ taken
  pub few : length taken ≤ cache.capacity

filled-by : (cache : Cached) (taken : List TakenMark) (records : List (List ℕ)) → taken ≡ recent_marks cache.greatest 0 [] records → FilledBy cache taken records → Filled cache records
filled-by cache taken records is by = record {
  holds = subst (λ (t : List TakenMark). Holds cache t) is by.holds;
  covers = subst (λ (t : List TakenMark). Covers cache.greatest t records) is by.covers;
  all = subst (λ (t : List TakenMark). kept_of cache.greatest t ≡ t) is by.all;
  few = subst (λ (t : List TakenMark). length t ≤ cache.capacity) is by.few;
}

fill-by : (capacity greatest : ℕ) (new : Cached) (taken : List TakenMark) (records : List (List ℕ)) (body : List ℕ) (number : ℕ) (verdict : CacheVerdict) → new.greatest ≡ greatest → new.capacity ≡ capacity
    → (mark_in body).at ≤ greatest + skew → verdict ≡ cache_verdict capacity greatest taken (mark_in body) → (verdict ≡ Full → ⊥)
    → Holds new (with_taken verdict taken (record { mark = mark_in body; place = number })) → Covers greatest taken records → kept_of greatest taken ≡ taken → length taken ≤ capacity
    → FilledBy new (with_taken verdict taken (record { mark = mark_in body; place = number })) (records ++ body ∷ [])
fill-by capacity greatest new taken records body number Taken is cap ahead due room holds covers all few =
    let due_ = taken-verdict capacity greatest taken (mark_in body) all (sym due) in
    let one : TakenMark = record { mark = mark_in body; place = number } in
    record {
      holds = holds;
      covers = rw is (covers-taken greatest taken records body (mark_in body) number refl covers);
      all = rw is (kept-all greatest taken one all due_.1);
      few = omega (arith, cap, due_.0, length-append taken (one ∷ []));
    }
fill-by capacity greatest new taken records body number (Stale moment) is cap ahead due room holds covers all few = record {
  holds = holds;
  covers = rw is (covers-last greatest taken records body (λ near. absurd (never-stale (place_of (mark_in body) (kept_of greatest taken)) (length (kept_of greatest taken)) capacity moment (sym (due ∙ unstale capacity greatest taken (mark_in body) ahead near)))) covers);
  all = rw is all;
  few = omega (arith, cap, few);
}
fill-by capacity greatest new taken records body number (Repeat p) is cap ahead due room holds covers all few = record {
  holds = holds;
  covers = rw is (covers-last greatest taken records body (λ near. kept-place greatest (mark_in body) taken (repeat-place (place_of (mark_in body) (kept_of greatest taken)) (length (kept_of greatest taken)) capacity p (sym (due ∙ unstale capacity greatest taken (mark_in body) ahead near)))) covers);
  all = rw is all;
  few = omega (arith, cap, few);
}
fill-by capacity greatest new taken records body number Full is cap ahead due room holds covers all few = absurd (room refl)

pub fill-one : (old new : Cached) (records : List (List ℕ)) (body : List ℕ) (number : ℕ) (verdict : CacheVerdict) → new.greatest ≡ old.greatest → new.capacity ≡ old.capacity → length records ≡ number
    → (mark_in body).at ≤ old.greatest + skew → verdict ≡ cache_verdict old.capacity old.greatest (recent_marks old.greatest 0 [] records) (mark_in body) → (verdict ≡ Full → ⊥)
    → Holds new (with_taken verdict (recent_marks old.greatest 0 [] records) (record { mark = mark_in body; place = number })) → Filled old records → Filled new (records ++ body ∷ [])
fill-one old new records body number verdict is cap count ahead due room holds filled =
    let taken : List TakenMark = recent_marks old.greatest 0 [] records in
    let roomy_ : roomy old.greatest taken (mark_in body) ≡ verdict = same-verdict old.capacity old.greatest taken (mark_in body) filled.all (λ full. room (due ∙ full)) ∙ sym due in
    let marks : recent_marks old.greatest 0 [] (records ++ body ∷ []) ≡ with_taken verdict taken (record { mark = mark_in body; place = number })
    = marks-more old.greatest 0 [] records body
    ∙ ap (λ (v : CacheVerdict). with_taken v taken (record { mark = mark_in body; place = 0 + length records })) roomy_
    ∙ ap (λ (n : ℕ). with_taken verdict taken (record { mark = mark_in body; place = n })) (omega (arith, count)) in
    filled-by new (with_taken verdict taken (record { mark = mark_in body; place = number })) (records ++ body ∷ [])
    (sym marks ∙ ap (λ (n : ℕ). recent_marks n 0 [] (records ++ body ∷ [])) (sym is))
    (fill-by old.capacity old.greatest new taken records body number verdict is cap ahead due room holds filled.covers filled.all filled.few)

-- a cache without room for a record's mark
pub fill-full : (old : Cached) (records : List (List ℕ)) (body : List ℕ) → cache_verdict old.capacity old.greatest (recent_marks old.greatest 0 [] records) (mark_in body) ≡ Full → Filled old records
    → old.capacity + 1 ≤ length (recent_marks old.greatest 0 [] (records ++ body ∷ []))
fill-full old records body full filled =
    let taken : List TakenMark = recent_marks old.greatest 0 [] records in
    let both = full-verdict old.capacity old.greatest taken (mark_in body) filled.all full in
    let one : TakenMark = record { mark = mark_in body; place = 0 + length records } in
    let marks : recent_marks old.greatest 0 [] (records ++ body ∷ []) ≡ taken ++ one ∷ []
    = marks-more old.greatest 0 [] records body ∙ ap (λ (v : CacheVerdict). with_taken v taken one) both.0 in
    omega (arith, both.1, ap length marks, length-append taken (one ∷ []))
