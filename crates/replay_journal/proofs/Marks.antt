-- The marks of records, and what a cache that knows them says.
use Rattle.std.proofs.Common.{◌≡◌, inl, inr, ℕ, ◌+◌, ◌-◌, ◌≤◌, Bool, true, false, ◌||◌, nat_lt, nat_le, nat_eq, List, [], ◌∷◌, ◌++◌, length, Option, None, Some, refl, sym, ◌∙◌, subst, arith}
use Rattle.std.proofs.lemmas.Bool.{cases_Bool, eq-eqb, le-leb, ltb-false}
use Rattle.std.specs.Cmp.Lexicographic.{pointwise}
use Rattle.gss_base.specs.declared.mark.Mark.{Mark}
use Rattle.replay_cache.specs.declared.cache.TakenMark.{TakenMark}
use Rattle.replay_cache.specs.declared.cache.CacheVerdict.TheVariants.{Taken, Stale}
use Rattle.replay_cache.specs.Taking.{skew, same_mark, place_of, kept_of, is_stale, or_repeat, cache_verdict}
use Rattle.replay_cache.proofs.Indexing.{same-equal}
use Rattle.replay_journal.specs.Files.{mark_in}
use Rattle.replay_journal.specs.Journals.{HasPlace, Covers, Fresh, AllNear}

pointwise-same : (l : List ℕ) → pointwise nat_eq l l ≡ true
pointwise-same [] = refl
pointwise-same (x ∷ l) = rw (eq-eqb x x refl) (pointwise-same l)

pub same-self : (mark : Mark) → same_mark mark mark ≡ true
same-self mark = rw (pointwise-same mark.who, eq-eqb mark.at mark.at refl) refl

-- a place stays when one mark more is taken
place-more : (mark : Mark) (taken : List TakenMark) (one : TakenMark) → HasPlace (place_of mark taken) → HasPlace (place_of mark (taken ++ one ∷ []))
place-more mark [] one none = absurd none
place-more mark (t ∷ taken) one has = elim (cases_Bool (same_mark t.mark mark)) [
  | inl same ↦ rw same tt
  | inr other ↦ rw other (place-more mark taken one (rw other at has))
]

place-new : (mark : Mark) (place : ℕ) (taken : List TakenMark) → HasPlace (place_of mark (taken ++ record { mark = mark; place = place } ∷ []))
place-new mark place [] = rw (same-self mark) tt
place-new mark place (t ∷ taken) = elim (cases_Bool (same_mark t.mark mark)) [
  | inl same ↦ rw same tt
  | inr other ↦ rw other (place-new mark place taken)
]

-- and while it is recent
place-kept : (greatest : ℕ) (mark : Mark) (taken : List TakenMark) → greatest - mark.at ≤ skew → HasPlace (place_of mark taken) → HasPlace (place_of mark (kept_of greatest taken))
place-kept greatest mark [] recent none = none
place-kept greatest mark (t ∷ taken) recent has = elim (cases_Bool (same_mark t.mark mark)) [
  | inl same ↦
      let is : t.mark ≡ mark = same-equal t.mark mark same in
      let near : nat_le (greatest - t.mark.at) skew ≡ true = le-leb (greatest - t.mark.at) skew (subst (λ (m : Mark). greatest - m.at ≤ skew) (sym is) recent) in
      rw (near, same) tt
  | inr other ↦
      let rest : HasPlace (place_of mark (kept_of greatest taken)) = place-kept greatest mark taken recent (rw other at has) in
      elim (cases_Bool (nat_le (greatest - t.mark.at) skew)) [
        | inl near ↦ rw (near, other) rest
        | inr far ↦ rw far rest
      ]
]

pub covers-later : (old new : ℕ) (taken : List TakenMark) (records : List (List ℕ)) → old ≤ new → Covers old taken records → Covers new taken records
covers-later old new taken [] le covers = tt
covers-later old new taken (b ∷ more) le covers = ((λ near. covers.0 (omega (arith, le, near))), covers-later old new taken more le covers.1)

covers-more : (greatest : ℕ) (taken : List TakenMark) (one : TakenMark) (records : List (List ℕ)) → Covers greatest taken records → Covers greatest (taken ++ one ∷ []) records
covers-more greatest taken one [] covers = tt
covers-more greatest taken one (b ∷ more) covers = ((λ near. place-more (mark_in b) taken one (covers.0 near)), covers-more greatest taken one more covers.1)

covers-push : (greatest : ℕ) (taken : List TakenMark) (records : List (List ℕ)) (body : List ℕ) → HasPlace (place_of (mark_in body) taken) → Covers greatest taken records → Covers greatest taken (records ++ body ∷ [])
covers-push greatest taken [] body has covers = ((λ near. has), tt)
covers-push greatest taken (b ∷ more) body has covers = (covers.0, covers-push greatest taken more body has covers.1)

pub covers-taken : (greatest : ℕ) (taken : List TakenMark) (records : List (List ℕ)) (body : List ℕ) (mark : Mark) (place : ℕ) → mark_in body ≡ mark → Covers greatest taken records
    → Covers greatest (taken ++ record { mark = mark; place = place } ∷ []) (records ++ body ∷ [])
covers-taken greatest taken records body mark place is covers =
    covers-push greatest (taken ++ record { mark = mark; place = place } ∷ []) records body (rw is (place-new mark place taken)) (covers-more greatest taken (record { mark = mark; place = place }) records covers)

repeats : (place : Option ℕ) (held capacity : ℕ) → HasPlace place → or_repeat place held capacity ≡ Taken → ⊥
repeats None held capacity has is = has
repeats (Some place) held capacity has is = cc

pub recent-mark : (g : ℕ) (m : Mark) → is_stale g m ≡ false → g - m.at ≤ skew
recent-mark g m near =
    elim (cases_Bool (nat_lt skew (g - m.at))) [
      | inl far ↦
          let never : true ≡ false = rw far at near in
          cc
      | inr close ↦ ltb-false skew (g - m.at) close
    ]

taken-near : (capacity greatest : ℕ) (taken : List TakenMark) (mark : Mark) → cache_verdict capacity greatest taken mark ≡ Taken → greatest - mark.at ≤ skew
taken-near capacity greatest taken mark is = elim (cases_Bool (is_stale greatest mark)) [
  | inl stale ↦ let never : Stale greatest ≡ Taken = rw stale at is in cc
  | inr near ↦ recent-mark greatest mark near
]

pub taken-ahead : (capacity greatest : ℕ) (taken : List TakenMark) (mark : Mark) → cache_verdict capacity greatest taken mark ≡ Taken → mark.at ≤ greatest + skew
taken-ahead capacity greatest taken mark is = elim (cases_Bool (is_stale greatest mark)) [
  | inl stale ↦ let never : Stale greatest ≡ Taken = rw stale at is in cc
  | inr near ↦ elim (cases_Bool (nat_lt skew (mark.at - greatest))) [
    | inl far ↦ let never : true ≡ false = sym (or-yes (nat_lt skew (greatest - mark.at)) (nat_lt skew (mark.at - greatest)) far) ∙ near in cc
    | inr close ↦ omega (arith, ltb-false skew (mark.at - greatest) close)
  ]
]
  where
    or-yes : (a b : Bool) → b ≡ true → (a || b) ≡ true
    or-yes true b is = refl
    or-yes false b is = is

-- a verdict Taken is given only to a mark that is fresh to the records
pub taken-fresh : (capacity greatest : ℕ) (taken : List TakenMark) (mark : Mark) (records : List (List ℕ)) → Covers greatest taken records → AllNear greatest records → cache_verdict capacity greatest taken mark ≡ Taken → Fresh mark records
taken-fresh capacity greatest taken mark [] covers all is = tt
taken-fresh capacity greatest taken mark (b ∷ more) covers all is = (
  elim (cases_Bool (same_mark (mark_in b) mark)) [
    | inr other ↦ other
    | inl same ↦
        let is_mark : mark_in b ≡ mark = same-equal (mark_in b) mark same in
        let recent : greatest - mark.at ≤ skew = taken-near capacity greatest taken mark is in
        elim (cases_Bool (is_stale greatest mark)) [
          | inl stale ↦ let never : Stale greatest ≡ Taken = rw stale at is in cc
          | inr near ↦
              let has : HasPlace (place_of mark taken) = subst (λ (m : Mark). HasPlace (place_of m taken)) is_mark (covers.0 (subst (λ (m : Mark). greatest - m.at ≤ skew) (sym is_mark) recent)) in
              absurd (repeats (place_of mark (kept_of greatest taken)) (length (kept_of greatest taken)) capacity (place-kept greatest mark taken recent has) (rw near at is))
        ]
  ],
  omega (arith, all.1, taken-near capacity greatest taken mark is),
  taken-fresh capacity greatest taken mark more covers.1 all.2 is,
)
