-- The order of use, by the history.
use Rattle.std.proofs.Common.{◌≡◌, ◌≢◌, ℕ, ◌+◌, ◌<◌, ◌≤◌, Bool, true, false, ◌==◌, List, [], ◌∷◌, ◌++◌, length, refl, sym, ◌∙◌, ap, subst, inl, inr, arith, if◌then◌else◌}
use Rattle.std.specs.List.{slice_get}
use Rattle.std.proofs.lemmas.Bool.{cases_eq, cases_Bool, eq-eqb, ne_eqb}
use Rattle.use_order.specs.Orders.{is_among, without}
use Rattle.use_order.specs.Links.{Distinct}
use Rattle.use_order.proofs.Rings.{among-here, among-later, distinct-push, among-without, distinct-without, gone-without}
use Rattle.accept_core.specs.declared.entry.Entry.{Entry}
use Rattle.accept_core.specs.declared.entry.Entry.TheVariants.{Opened, Auth, Went, Settled, Call, Ended}
use Rattle.gss_base.specs.declared.mech.MechKind.{MechKind}
use Rattle.accept_core.specs.History.{Standing, Unknown, Open, Whole, Over, standing, opened, IsOpen, is_whole}
use Rattle.accept_core.specs.Legal.{Legal}
use Rattle.accept_core.specs.Aging.{in_use, last_use, IsUsedLongestAgo, opened_at}
use Rattle.accept_core.proofs.Appended.{silent}

-- each is used before those behind it
abbrev pub Before : (ℕ → ℕ) → ℕ → List ℕ → Type 0
Before key n [] = Unit {0}
Before key n (x ∷ xs) = (n < key x) × Before key n xs

abbrev pub RisingBy : (ℕ → ℕ) → List ℕ → Type 0
RisingBy key [] = Unit {0}
RisingBy key (x ∷ xs) = Before key (key x) xs × RisingBy key xs

-- the order says which are complete, each once, by rising place of last use
pub record Uses (h : List Entry) : Type 0 where
  pub members : (id : ℕ) → is_among id (in_use h) ≡ is_whole (standing id h)
  pub distinct : Distinct (in_use h)
  pub rising : RisingBy (λ id. last_use id h) (in_use h)
  pub past : (id : ℕ) → is_whole (standing id h) ≡ true → last_use id h < length h

pub among-behind : (x y : ℕ) (xs : List ℕ) → is_among y xs ≡ true → is_among y (x ∷ xs) ≡ true
among-behind x y xs there =
    elim (cases_eq x y) [
      | inl same ↦ among-here y x xs same
      | inr ne ↦ among-later y x xs ne ∙ there
    ]

-- a list and another key, the same at its members
before-agree : (key other : ℕ → ℕ) (n : ℕ) (xs : List ℕ) → ((x : ℕ) → is_among x xs ≡ true → other x ≡ key x) → Before key n xs → Before other n xs
before-agree key other n [] same b = tt
before-agree key other n (x ∷ xs) same b =
    let low : n < key x = b.0 in (
      omega (arith, low, same x (among-here x x xs refl)),
      before-agree key other n xs (λ y there. same y (among-behind x y xs there)) b.1,
    )

rising-agree : (key other : ℕ → ℕ) (xs : List ℕ) → ((x : ℕ) → is_among x xs ≡ true → other x ≡ key x) → RisingBy key xs → RisingBy other xs
rising-agree key other [] same r = tt
rising-agree key other (x ∷ xs) same r = (
  subst (λ (n : ℕ). Before other n xs) (sym (same x (among-here x x xs refl)))
      (before-agree key other (key x) xs (λ y there. same y (among-behind x y xs there)) r.0),
  rising-agree key other xs (λ y there. same y (among-behind x y xs there)) r.1,
)

before-without : (key : ℕ → ℕ) (n x : ℕ) (xs : List ℕ) → Before key n xs → Before key n (without x xs)
before-without key n x [] b = b
before-without key n x (y ∷ ys) b =
    elim (cases_eq y x) [
      | inl same ↦ rw (eq-eqb y x same) b.1
      | inr ne ↦ rw (ne_eqb y x ne) (b.0, before-without key n x ys b.1)
    ]

rising-without : (key : ℕ → ℕ) (x : ℕ) (xs : List ℕ) → RisingBy key xs → RisingBy key (without x xs)
rising-without key x [] r = r
rising-without key x (y ∷ ys) r =
    elim (cases_eq y x) [
      | inl same ↦ rw (eq-eqb y x same) r.1
      | inr ne ↦ rw (ne_eqb y x ne) (before-without key (key y) x ys r.0, rising-without key x ys r.1)
    ]

before-push : (key : ℕ → ℕ) (n x : ℕ) (xs : List ℕ) → Before key n xs → n < key x → Before key n (xs ++ x ∷ [])
before-push key n x [] b lt = (lt, tt)
before-push key n x (y ∷ ys) b lt = (b.0, before-push key n x ys b.1 lt)

rising-push : (key : ℕ → ℕ) (x : ℕ) (xs : List ℕ) → RisingBy key xs → ((y : ℕ) → is_among y xs ≡ true → key y < key x) → RisingBy key (xs ++ x ∷ [])
rising-push key x [] r below = (tt, tt)
rising-push key x (y ∷ ys) r below = (
  before-push key (key y) x ys r.0 (below y (among-here y y ys refl)),
  rising-push key x ys r.1 (λ z there. below z (among-behind y z ys there)),
)

-- members of a list that was pushed to, or that lost one
pub among-pushed : (x y : ℕ) (ys : List ℕ) → y ≢ x → is_among x (ys ++ y ∷ []) ≡ is_among x ys
among-pushed x y [] ne = among-later x y [] ne
among-pushed x y (z ∷ zs) ne =
    ap (λ (rest : Bool). if z == x then true else rest) (among-pushed x y zs ne)

pub among-last : (x : ℕ) (ys : List ℕ) → is_among x (ys ++ x ∷ []) ≡ true
among-last x [] = among-here x x [] refl
among-last x (z ∷ zs) = among-behind z x (zs ++ x ∷ []) (among-last x zs)

pub among-other : (x y : ℕ) (ys : List ℕ) → y ≢ x → is_among x (without y ys) ≡ is_among x ys
among-other x y [] ne = refl
among-other x y (z ∷ zs) ne =
    elim (cases_eq z y) [
      | inl same ↦ rw (eq-eqb z y same) (sym (among-later x z zs (λ e. ne (sym same ∙ e))))
      | inr other ↦
          rw (ne_eqb z y other)
          (ap (λ (rest : Bool). if z == x then true else rest) (among-other x y zs ne))
    ]

among-of-without : (x y : ℕ) (ys : List ℕ) → is_among x (without y ys) ≡ true → is_among x ys ≡ true
among-of-without x y [] there = there
among-of-without x y (z ∷ zs) there =
    elim (cases_Bool (is_among x (z ∷ zs))) [
      | inl here ↦ here
      | inr away ↦ let none : true ≡ false = sym there ∙ among-without x y (z ∷ zs) away in absurd cc
    ]

pub before-among : (key : ℕ → ℕ) (n y : ℕ) (xs : List ℕ) → Before key n xs → is_among y xs ≡ true → n < key y
before-among key n y [] b there = absurd cc
before-among key n y (x ∷ xs) b there =
    elim (cases_eq x y) [
      | inl same ↦ let low : n < key x = b.0 in omega (arith, low, ap key same)
      | inr ne ↦ before-among key n y xs b.1 (sym (among-later y x xs ne) ∙ there)
    ]

-- what stands of an id
pub open-not-whole : (s : Standing) → IsOpen s → is_whole s ≡ false
open-not-whole Unknown o = refl
open-not-whole (Open at) o = refl
open-not-whole (Whole mech names ends) o = absurd o
open-not-whole Over o = refl

pub unopened : (width : ℕ) (h : List Entry) (id : ℕ) → Legal width h → opened h < id → standing id h ≡ Unknown
unopened width h id l lt = (silent width h id l lt).stands

-- no member but the given one is the one that was pushed or left
apart-from : (x y : ℕ) (xs : List ℕ) → is_among x xs ≡ false → is_among y xs ≡ true → x ≢ y
apart-from x y xs none there same = let both : true ≡ false = sym there ∙ ap (λ (z : ℕ). is_among z xs) (sym same) ∙ none in absurd cc

if-whole : (i id ends : ℕ) (mech : MechKind) (names : List ℕ) (other : Standing) → i ≢ id → is_whole (if i == id then Whole mech names ends else other) ≡ true → is_whole other ≡ true
if-whole i id ends mech names other ne w = rw (ne_eqb i id ne) at w

if-over : (i id : ℕ) (other : Standing) → is_whole (if i == id then Over else other) ≡ true → is_whole other ≡ true
if-over i id other w =
    elim (cases_eq i id) [
      | inl same ↦ let no : false ≡ true = rw (eq-eqb i id same) at w in absurd cc
      | inr ne ↦ rw (ne_eqb i id ne) at w
    ]

if-open : (i id at : ℕ) (other : Standing) → is_whole (if i == id then Open at else other) ≡ true → is_whole other ≡ true
if-open i id at other w =
    elim (cases_eq i id) [
      | inl same ↦ let no : false ≡ true = rw (eq-eqb i id same) at w in absurd cc
      | inr ne ↦ rw (ne_eqb i id ne) at w
    ]

pub uses : (width : ℕ) (h : List Entry) → Legal width h → Uses h
uses width [] l = record {
  members = λ id. refl;
  distinct = tt;
  rising = tt;
  past = λ id w. let no : false ≡ true = w in absurd cc;
}
uses width (Opened i at ∷ h) l =
    let u : Uses h = uses width h l.1 in
    let given : i ≡ opened h + 1 = l.0.0 in
    record {
      members = λ id.
          elim (cases_eq i id) [
            | inl same ↦
                rw (eq-eqb i id same)
                (u.members id ∙ ap is_whole (unopened width h id l.1 (omega (arith, given, same))))
            | inr ne ↦ rw (ne_eqb i id ne) (u.members id)
          ];
      distinct = u.distinct;
      rising = u.rising;
      past = λ id w. let low : last_use id h < length h = u.past id (if-open i id at (standing id h) w) in omega (arith, low);
    }
uses width (Auth i mark at ∷ h) l =
    let u : Uses h = uses width h l.1 in
    record {
      members = u.members;
      distinct = u.distinct;
      rising = u.rising;
      past = λ id w. let low : last_use id h < length h = u.past id w in omega (arith, low);
    }
uses width (Went i at ∷ h) l =
    let u : Uses h = uses width h l.1 in
    record {
      members = u.members;
      distinct = u.distinct;
      rising = u.rising;
      past = λ id w. let low : last_use id h < length h = u.past id w in omega (arith, low);
    }
uses width (Settled i mech names ends at ∷ h) l =
    let u : Uses h = uses width h l.1 in
    let new : is_among i (in_use h) ≡ false = u.members i ∙ open-not-whole (standing i h) l.0.0 in
    let elsewhere : (y : ℕ) → is_among y (in_use h) ≡ true → last_use y (Settled i mech names ends at ∷ h) ≡ last_use y h = λ y there.
    rw (ne_eqb i y (apart-from i y (in_use h) new there)) refl in
    record {
      members = λ id.
          elim (cases_eq i id) [
            | inl same ↦ rw (eq-eqb i id same, same) (among-last id (in_use h))
            | inr ne ↦ rw (ne_eqb i id ne) (among-pushed id i (in_use h) ne ∙ u.members id)
          ];
      distinct = distinct-push (in_use h) i u.distinct new;
      rising = rising-push (λ id. last_use id (Settled i mech names ends at ∷ h)) i (in_use h)
          (rising-agree (λ id. last_use id h) (λ id. last_use id (Settled i mech names ends at ∷ h)) (in_use h) elsewhere u.rising)
          (λ y there.
          let low : last_use y h < length h = u.past y (sym (u.members y) ∙ there) in
          let here : last_use i (Settled i mech names ends at ∷ h) ≡ length h = rw (eq-eqb i i refl) refl in
          omega (arith, low, here, elsewhere y there));
      past = λ id w.
          elim (cases_eq i id) [
            | inl same ↦ rw (eq-eqb i id same) (omega arith)
            | inr ne ↦
                let low : last_use id h < length h = u.past id (if-whole i id ends mech names (standing id h) ne w) in
                rw (ne_eqb i id ne) (omega (arith, low))
          ];
    }
uses width (Call i seq procedure args ∷ h) l =
    let u : Uses h = uses width h l.1 in
    let rest : List ℕ = without i (in_use h) in
    let new : is_among i rest ≡ false = gone-without i (in_use h) u.distinct in
    let elsewhere : (y : ℕ) → is_among y rest ≡ true → last_use y (Call i seq procedure args ∷ h) ≡ last_use y h = λ y there.
    rw (ne_eqb i y (apart-from i y rest new there)) refl in
    record {
      members = λ id.
          elim (cases_eq i id) [
            | inl same ↦
                let whole : is_whole (standing i h) ≡ true = l.0.whole in
                subst (λ (j : ℕ). is_among j (rest ++ i ∷ []) ≡ is_whole (standing j h)) same (among-last i rest ∙ sym whole)
            | inr ne ↦ among-pushed id i rest ne ∙ among-other id i (in_use h) ne ∙ u.members id
          ];
      distinct = distinct-push rest i (distinct-without i (in_use h) u.distinct) new;
      rising = rising-push (λ id. last_use id (Call i seq procedure args ∷ h)) i rest
          (rising-agree (λ id. last_use id h) (λ id. last_use id (Call i seq procedure args ∷ h)) rest elsewhere
          (rising-without (λ id. last_use id h) i (in_use h) u.rising))
          (λ y there.
          let low : last_use y h < length h = u.past y (sym (u.members y) ∙ among-of-without y i (in_use h) there) in
          let here : last_use i (Call i seq procedure args ∷ h) ≡ length h = rw (eq-eqb i i refl) refl in
          omega (arith, low, here, elsewhere y there));
      past = λ id w.
          elim (cases_eq i id) [
            | inl same ↦ rw (eq-eqb i id same) (omega arith)
            | inr ne ↦
                let low : last_use id h < length h = u.past id w in
                rw (ne_eqb i id ne) (omega (arith, low))
          ];
    }
uses width (Ended i cause ∷ h) l =
    let u : Uses h = uses width h l.1 in
    record {
      members = λ id.
          elim (cases_eq i id) [
            | inl same ↦ rw (eq-eqb i id same, ← same) (gone-without i (in_use h) u.distinct)
            | inr ne ↦ rw (ne_eqb i id ne) (among-other id i (in_use h) ne ∙ u.members id)
          ];
      distinct = distinct-without i (in_use h) u.distinct;
      rising = rising-without (λ id. last_use id h) i (in_use h) u.rising;
      past = λ id w. let low : last_use id h < length h = u.past id (if-over i id (standing id h) w) in omega (arith, low);
    }

first-of : (h : List Entry) (xs : List ℕ) → ((id : ℕ) → is_among id xs ≡ is_whole (standing id h)) → RisingBy (λ id. last_use id h) xs
    → IsUsedLongestAgo h (slice_get xs 0)
first-of h [] members rising = λ id. sym (members id)
first-of h (x ∷ xs) members rising = record {
  whole = sym (members x) ∙ among-here x x xs refl;
  oldest = λ other w ne.
      before-among (λ id. last_use id h) (last_use x h) other xs rising.0 (sym (among-later other x xs ne) ∙ members other ∙ w);
}

pub oldest-first : (width : ℕ) (h : List Entry) → Legal width h → IsUsedLongestAgo h (slice_get (in_use h) 0)
oldest-first width h l = let u : Uses h = uses width h l in first-of h (in_use h) u.members u.rising

-- ids rise
opened-past : (width : ℕ) (h : List Entry) (id : ℕ) → Legal width h → 0 < id → id ≤ opened h → opened_at id h < length h
opened-past width [] id l some few = absurd (omega (arith, some, few))
opened-past width (Opened i at ∷ h) id l some few =
    let given : i ≡ opened h + 1 = l.0.0 in
    elim (cases_eq i id) [
      | inl same ↦ rw (eq-eqb i id same) (omega arith)
      | inr ne ↦ rw (ne_eqb i id ne) (let low : opened_at id h < length h = opened-past width h id l.1 some (omega (arith, few, given, ne)) in omega (arith, low))
    ]
opened-past width (Auth i mark at ∷ h) id l some few = let low : opened_at id h < length h = opened-past width h id l.1 some few in omega (arith, low)
opened-past width (Went i at ∷ h) id l some few = let low : opened_at id h < length h = opened-past width h id l.1 some few in omega (arith, low)
opened-past width (Settled i mech names ends at ∷ h) id l some few = let low : opened_at id h < length h = opened-past width h id l.1 some few in omega (arith, low)
opened-past width (Call i seq procedure args ∷ h) id l some few = let low : opened_at id h < length h = opened-past width h id l.1 some few in omega (arith, low)
opened-past width (Ended i cause ∷ h) id l some few = let low : opened_at id h < length h = opened-past width h id l.1 some few in omega (arith, low)

pub ids-rise : (width : ℕ) (h : List Entry) (id other : ℕ) → Legal width h → 0 < id → id < other → other ≤ opened h → opened_at id h < opened_at other h
ids-rise width [] id other l some less few = absurd (omega (arith, some, less, few))
ids-rise width (Opened i at ∷ h) id other l some less few =
    let given : i ≡ opened h + 1 = l.0.0 in
    let apart : i ≢ id = λ e. omega (arith, e, given, less, few) in
    elim (cases_eq i other) [
      | inl same ↦
          rw (eq-eqb i other same, ne_eqb i id apart) (opened-past width h id l.1 some (omega (arith, same, given, less)))
      | inr ne ↦
          rw (ne_eqb i other ne, ne_eqb i id apart) (ids-rise width h id other l.1 some less (omega (arith, few, given, ne)))
    ]
ids-rise width (Auth i mark at ∷ h) id other l some less few = ids-rise width h id other l.1 some less few
ids-rise width (Went i at ∷ h) id other l some less few = ids-rise width h id other l.1 some less few
ids-rise width (Settled i mech names ends at ∷ h) id other l some less few = ids-rise width h id other l.1 some less few
ids-rise width (Call i seq procedure args ∷ h) id other l some less few = ids-rise width h id other l.1 some less few
ids-rise width (Ended i cause ∷ h) id other l some less few = ids-rise width h id other l.1 some less few
