-- The records of a file that is made anew.
use Rattle.std.proofs.Common.{◌≡◌, inl, inr, ℕ, ◌+◌, ◌-◌, ◌≤◌, ◌<◌, min, take, drop, length-drop, nat_le, true, false, List, [], ◌∷◌, ◌++◌, length, filter, refl, sym, ◌∙◌, ap, subst, arith, length-append, append_assoc}
use Rattle.std.proofs.lemmas.List.Elements.{filter-append}
use Rattle.std.proofs.lemmas.Bool.{cases_Bool, leb-true, leb-false, le-leb}
use Rattle.std.proofs.lemmas.List.{append-nil, take_all, drop_all}
use Rattle.gss_base.specs.declared.mark.Mark.{Mark}
use Rattle.replay_cache.specs.declared.cache.TakenMark.{TakenMark}
use Rattle.replay_cache.specs.Taking.{skew, same_mark}
use Rattle.replay_cache.proofs.Indexing.{same-equal}
use Rattle.replay_journal.specs.Files.{head, starts_open, mark_in, greatest_in, body_of, no_mark, is_recent_body, renewed, blocks, front, Sized, Rests}
use Rattle.replay_journal.specs.Journals.{Covers, Fresh, AllNear, IsRenewal, HasBase}
use Rattle.replay_journal.proofs.Scanning.{starts-long}

covers-recent : (greatest : ℕ) (taken : List TakenMark) (records : List (List ℕ)) → Covers greatest taken records → Covers greatest taken (filter (is_recent_body greatest) records)
covers-recent greatest taken [] covers = tt
covers-recent greatest taken (b ∷ more) covers = elim (cases_Bool (is_recent_body greatest b)) [
  | inl near ↦ rw near (covers.0, covers-recent greatest taken more covers.1)
  | inr far ↦ rw far (covers-recent greatest taken more covers.1)
]

-- a cache that knows the old records knows the new ones
pub covers-renewed : (greatest : ℕ) (taken : List TakenMark) (records : List (List ℕ)) → skew < greatest → mark_in (body_of no_mark greatest) ≡ no_mark → Covers greatest taken records
    → Covers greatest taken (renewed greatest records)
covers-renewed greatest taken records late nobody covers = (
  (λ near. absurd (never (subst (λ (m : Mark). greatest - m.at ≤ skew) nobody near))),
  covers-recent greatest taken records covers,
)
  where
    never : greatest - 0 ≤ skew → ⊥
    never near = omega (arith, near, late)

near-recent : (greatest : ℕ) (records : List (List ℕ)) → AllNear greatest records → AllNear greatest (filter (is_recent_body greatest) records)
near-recent greatest [] near = tt
near-recent greatest (b ∷ more) near = elim (cases_Bool (is_recent_body greatest b)) [
  | inl recent ↦ rw recent (near.0, near.1, near-recent greatest more near.2)
  | inr old_ ↦ rw old_ (near-recent greatest more near.2)
]

pub near-renewed : (greatest : ℕ) (records : List (List ℕ)) → mark_in (body_of no_mark greatest) ≡ no_mark → greatest_in (body_of no_mark greatest) ≡ greatest → AllNear greatest records
    → AllNear greatest (renewed greatest records)
near-renewed greatest records nobody tells near = (
  subst (λ (m : Mark). m.at ≤ greatest + skew) (sym nobody) (omega arith),
  omega (arith, tells),
  near-recent greatest records near,
)

fresh-recent : (greatest : ℕ) (mark : Mark) (records : List (List ℕ)) → greatest - mark.at ≤ skew → AllNear greatest records → Fresh mark (filter (is_recent_body greatest) records) → Fresh mark records
fresh-recent greatest mark [] late near fresh = tt
fresh-recent greatest mark (b ∷ more) late near fresh = elim (cases_Bool (is_recent_body greatest b)) [
  | inl recent ↦
      let here : Fresh mark (b ∷ filter (is_recent_body greatest) more) = rw recent at fresh in
      (here.0, here.1, fresh-recent greatest mark more late near.2 here.2)
  | inr old_ ↦ (
    elim (cases_Bool (same_mark (mark_in b) mark)) [
      | inr other ↦ other
      | inl same ↦
          let far : skew < greatest - (mark_in b).at = leb-false (greatest - (mark_in b).at) skew old_ in
          absurd (omega (arith, late, subst (λ (m : Mark). skew < greatest - m.at) (same-equal (mark_in b) mark same) far))
    ],
    omega (arith, late, near.1),
    fresh-recent greatest mark more late near.2 (rw old_ at fresh),
  )
]

-- a mark that is fresh to the new records is fresh to the old ones
pub renewal-known : (greatest : ℕ) (records : List (List ℕ)) → greatest_in (body_of no_mark greatest) ≡ greatest → AllNear greatest records → IsRenewal greatest records (renewed greatest records)
renewal-known greatest records tells near = record {
  is = refl;
  known = λ mark fresh. fresh-recent greatest mark records (subst (λ (n : ℕ). n - mark.at ≤ skew) tells fresh.1) near fresh.2;
}

pub sized-renewed : (greatest : ℕ) (records : List (List ℕ)) → length (body_of no_mark greatest) ≡ 44 → Sized records → Sized (renewed greatest records)
sized-renewed greatest records long sized = (long, sized-recent records sized)
  where
    sized-recent : (rs : List (List ℕ)) → Sized rs → Sized (filter (is_recent_body greatest) rs)
    sized-recent [] s = tt
    sized-recent (b ∷ more) s = elim (cases_Bool (is_recent_body greatest b)) [
      | inl recent ↦ rw recent (s.0, sized-recent more s.1)
      | inr old_ ↦ rw old_ (sized-recent more s.1)
    ]

pub rests-renewed : (greatest : ℕ) (records : List (List ℕ)) (c : List ℕ) → length (body_of no_mark greatest) ≡ 44 → Sized records → c ≡ front (renewed greatest records) ++ 0 ∷ [] → Rests (renewed greatest records) c
rests-renewed greatest records c long sized is = record {
  gate = 0;
  tail = [];
  split = is;
  sized = sized-renewed greatest records long sized;
  shut = λ open_. absurd (omega (arith, open_));
}

pub blocks-append : (one two : List (List ℕ)) → blocks (one ++ two) ≡ blocks one ++ blocks two
blocks-append [] two = refl
blocks-append (b ∷ more) two = ap (λ (l : List ℕ). 0x4a ∷ (b ++ l)) (blocks-append more two) ∙ ap (λ (l : List ℕ). 0x4a ∷ l) (sym (append_assoc b (blocks more) (blocks two)))

-- one record more was read
pub front-renewed : (greatest : ℕ) (done : List (List ℕ)) (body : List ℕ) → front (renewed greatest (done ++ body ∷ [])) ≡ front (renewed greatest done) ++ blocks (filter (is_recent_body greatest) (body ∷ []))
front-renewed greatest done body =
    let recent : List (List ℕ) → List (List ℕ) = filter (is_recent_body greatest) in
    ap (λ (l : List (List ℕ)). front (body_of no_mark greatest ∷ l)) (filter-append (is_recent_body greatest) done (body ∷ []))
    ∙ ap (λ (l : List ℕ). front [] ++ l) (blocks-append (renewed greatest done) (recent (body ∷ [])))
    ∙ sym (append_assoc (front []) (blocks (renewed greatest done)) (blocks (recent (body ∷ []))))

pub count-renewed : (greatest : ℕ) (done : List (List ℕ)) (body : List ℕ) → length (renewed greatest (done ++ body ∷ [])) ≡ length (renewed greatest done) + length (filter (is_recent_body greatest) (body ∷ []))
count-renewed greatest done body =
    omega (arith, ap length (filter-append (is_recent_body greatest) done (body ∷ [])), length-append (filter (is_recent_body greatest) done) (filter (is_recent_body greatest) (body ∷ [])))

pub old-body : (greatest : ℕ) (body : List ℕ) → skew < greatest - (mark_in body).at → is_recent_body greatest body ≡ false
old-body greatest body far = elim (cases_Bool (is_recent_body greatest body)) [
  | inr not_ ↦ not_
  | inl near ↦ absurd (omega (arith, leb-true (greatest - (mark_in body).at) skew near, far))
]

pub recent-body : (greatest : ℕ) (body : List ℕ) → greatest - (mark_in body).at ≤ skew → is_recent_body greatest body ≡ true
recent-body greatest body near = le-leb (greatest - (mark_in body).at) skew near

-- the first record of a file that is made anew
pub front-begun : (body : List ℕ) → (head ++ 0x4a ∷ []) ++ body ≡ front (body ∷ [])
front-begun body = append_assoc head (0x4a ∷ []) body ∙ ap (λ (l : List ℕ). head ++ 0x4a ∷ l) (sym (append-nil body))

-- where a file begins to have records, however short it is
pub from-eight : (file : List ℕ) (m : ℕ) → m ≡ min (length file) 8 → take (length file - m) (drop m file) ≡ drop 8 file
from-eight file m is = elim (cases_Bool (nat_le 8 (length file))) [
  | inl long ↦
      let eight : m ≡ 8 = omega (arith, is, leb-true 8 (length file) long) in
      ap (λ (n : ℕ). take (length file - n) (drop n file)) eight ∙ take_all (length file - 8) (drop 8 file) (omega (arith, length-drop 8 file))
  | inr short ↦
      let few : length file < 8 = leb-false 8 (length file) short in
      let all : m ≡ length file = omega (arith, is, few) in
      let none : drop m file ≡ [] = drop_all m file (omega (arith, all)) in
      ap (λ (l : List ℕ). take (length file - m) l) none ∙ take_all (length file - m) [] (omega arith) ∙ sym (drop_all 8 file (omega (arith, few)))
]

-- a file in which a record is read has the eight octets
pub long-file : (file rest : List ℕ) → starts_open rest ≡ true → (length file < 8 → length rest ≡ 0) → 8 ≤ length file
long-file file rest opens short = elim (cases_Bool (nat_le 8 (length file))) [
  | inl long ↦ leb-true 8 (length file) long
  | inr few ↦ absurd (omega (arith, starts-long rest opens, short (leb-false 8 (length file) few)))
]

pub new-base : (greatest : ℕ) (records : List (List ℕ)) (c : List ℕ) → IsRenewal greatest records (renewed greatest records) → Rests (renewed greatest records) c → HasBase (Unit {0}) greatest records c
new-base greatest records c renewal rests = record { base = renewed greatest records; based = inr (tt, renewal); rests = rests }

pub old-base : (greatest : ℕ) (records : List (List ℕ)) (c : List ℕ) → Rests records c → HasBase (Unit {0}) greatest records c
old-base greatest records c rests = record { base = records; based = inl refl; rests = rests }
