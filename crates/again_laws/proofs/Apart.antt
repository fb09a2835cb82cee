-- Two acting calls with one transaction number would stand too near to each other.
use Rattle.std.proofs.Common.{◌≡◌, ◌≢◌, ℕ, zero, suc, ◌+◌, ◌-◌, ◌*◌, ◌<◌, ◌≤◌, ◌==◌, Bool, true, false, List, [], ◌∷◌, ◌++◌, length, drop, refl, sym, ap, ◌∙◌, arith, inl, inr, subst, append_assoc, nat_lt, length-append}
use Rattle.std.specs.Prelude.{if◌then◌else◌}
use Rattle.std.specs.List.{AllByRecursion}
use Rattle.std.proofs.lemmas.List.{map_push}
use Rattle.std.proofs.lemmas.Bool.{cases_eq, cases_Bool, eq-eqb, ne_eqb, true≢false, or_right, ltb-true, ltb-false}
use Rattle.seq_window.specs.Marks.{is_in}
use Rattle.again_calls.specs.Kept.{newest}
use Rattle.again_laws.specs.Acting.{Acted, NoneAgain, xids, OneEach}
use Rattle.again_laws.proofs.Counting.{Differ, few}

-- calls behind this one have other numbers, which lie above its own less the width of the window
abbrev pub Follow : ℕ → Acted → List Acted → Type 0
Follow width call calls = AllByRecursion (λ (one : Acted). (one.number ≢ call.number) × (call.number < one.number + width)) calls

-- so it is of each: what a legal log says of the numbers of a context's calls
abbrev pub Windowed : ℕ → List Acted → Type 0
Windowed width [] = Unit {0}
Windowed width (call ∷ calls) = Follow width call calls × Windowed width calls

-- of two calls the one with the greater transaction number has the greater number
abbrev pub Ordered : Acted → Acted → Type 0
Ordered a b = (a.xid < b.xid → a.number < b.number) × (b.xid < a.xid → b.number < a.number)

-- so it is of any two
abbrev pub Rising : List Acted → Type 0
Rising [] = Unit {0}
Rising (call ∷ calls) = AllByRecursion (λ (one : Acted). Ordered call one) calls × Rising calls

-- the numbers of the calls with a lower transaction number, and of the others
abbrev lows : ℕ → List Acted → List ℕ
lows x [] = []
lows x (b ∷ bs) = if nat_lt b.xid x then b.number ∷ lows x bs else lows x bs

abbrev highs : ℕ → List Acted → List ℕ
highs x [] = []
highs x (b ∷ bs) = if nat_lt b.xid x then highs x bs else b.number ∷ highs x bs

both : (x : ℕ) (bs : List Acted) → length (lows x bs) + length (highs x bs) ≡ length bs
both x [] = refl
both x (b ∷ bs) = elim (cases_Bool (nat_lt b.xid x)) [ inl y ↦ rw y (omega (arith, both x bs)) | inr n ↦ rw n (omega (arith, both x bs)) ]

-- what holds of all calls holds of the numbers
from-lows : (P : ℕ → Type 0) (x : ℕ) (bs : List Acted) → AllByRecursion (λ (b : Acted). b.xid < x → P b.number) bs → (n : ℕ) → is_in n (lows x bs) ≡ true → P n
from-lows P x [] all n e = absurd (true≢false (sym e))
from-lows P x (b ∷ bs) all n e =
    elim (cases_Bool (nat_lt b.xid x)) [
      | inl y ↦ elim (cases_eq n b.number) [
        | inl same ↦ subst (λ (k : ℕ). P k) (sym same) (all.0 (ltb-true b.xid x y))
        | inr ne ↦ from-lows P x bs all.1 n (rw (ne_eqb n b.number ne) at (rw y at e))
      ]
      | inr o ↦ from-lows P x bs all.1 n (rw o at e)
    ]

from-highs : (P : ℕ → Type 0) (x : ℕ) (bs : List Acted) → AllByRecursion (λ (b : Acted). x ≤ b.xid → P b.number) bs → (n : ℕ) → is_in n (highs x bs) ≡ true → P n
from-highs P x [] all n e = absurd (true≢false (sym e))
from-highs P x (b ∷ bs) all n e =
    elim (cases_Bool (nat_lt b.xid x)) [
      | inl y ↦ from-highs P x bs all.1 n (rw y at e)
      | inr o ↦ elim (cases_eq n b.number) [
        | inl same ↦ subst (λ (k : ℕ). P k) (sym same) (all.0 (ltb-false b.xid x o))
        | inr ne ↦ from-highs P x bs all.1 n (rw (ne_eqb n b.number ne) at (rw o at e))
      ]
    ]

off : (b : Bool) → (b ≡ true → ⊥) → b ≡ false
off true f = absurd (f refl)
off false f = refl

-- different numbers
abbrev DifferAll : List Acted → Type 0
DifferAll [] = Unit {0}
DifferAll (b ∷ bs) = AllByRecursion (λ (c : Acted). c.number ≢ b.number) bs × DifferAll bs

all-map : {A : Type 0} (P Q : A → Type 0) → ((a : A) → P a → Q a) → (xs : List A) → AllByRecursion P xs → AllByRecursion Q xs
all-map P Q f [] all = tt
all-map P Q f (x ∷ xs) all = (f x all.0, all-map P Q f xs all.1)

differ-lows : (x : ℕ) (bs : List Acted) → DifferAll bs → Differ (lows x bs)
differ-lows x [] d = tt
differ-lows x (b ∷ bs) d =
    elim (cases_Bool (nat_lt b.xid x)) [
      | inl y ↦ rw y (off (is_in b.number (lows x bs)) (λ e. from-lows (λ (n : ℕ). n ≢ b.number) x bs (all-map (λ (c : Acted). c.number ≢ b.number) (λ (c : Acted). c.xid < x → c.number ≢ b.number) (λ c ne lt. ne) bs d.0) b.number e refl), differ-lows x bs d.1)
      | inr o ↦ rw o (differ-lows x bs d.1)
    ]

differ-highs : (x : ℕ) (bs : List Acted) → DifferAll bs → Differ (highs x bs)
differ-highs x [] d = tt
differ-highs x (b ∷ bs) d =
    elim (cases_Bool (nat_lt b.xid x)) [
      | inl y ↦ rw y (differ-highs x bs d.1)
      | inr o ↦ rw o (off (is_in b.number (highs x bs)) (λ e. from-highs (λ (n : ℕ). n ≢ b.number) x bs (all-map (λ (c : Acted). c.number ≢ b.number) (λ (c : Acted). x ≤ c.xid → c.number ≢ b.number) (λ c ne le. ne) bs d.0) b.number e refl), differ-highs x bs d.1)
    ]

-- ---- between a call and another with its transaction number

-- calls between a call and those that are left
record Back (width : ℕ) (a : Acted) (bs rest : List Acted) : Type 0 where
  other : AllByRecursion (λ (b : Acted). b.xid ≢ a.xid) bs
  low : AllByRecursion (λ (b : Acted). (a.number < b.number + width) × Ordered a b) bs
  ahead : AllByRecursion (λ (b : Acted). Follow width b rest × AllByRecursion (λ (c : Acted). Ordered b c) rest) bs
  differ : DifferAll bs

all-and : {A : Type 0} (P Q R : A → Type 0) → ((a : A) → P a → Q a → R a) → (xs : List A) → AllByRecursion P xs → AllByRecursion Q xs → AllByRecursion R xs
all-and P Q R f [] p q = tt
all-and P Q R f (x ∷ xs) p q = (f x p.0 q.0, all-and P Q R f xs p.1 q.1)

near : (width : ℕ) (a one : Acted) (bs later : List Acted) → 0 < width → one.xid ≡ a.xid → Back width a bs (one ∷ later) → length bs + 2 ≤ 2 * width
near width a one bs later some same back =
    let l : length (lows a.xid bs) ≤ width - 1 = few (width - 1) (a.number + 1 - width) (lows a.xid bs) (differ-lows a.xid bs back.differ)
    (from-lows (λ (n : ℕ). (a.number + 1 - width ≤ n) × (n < a.number + 1 - width + (width - 1))) a.xid bs
    (all-map (λ (b : Acted). (a.number < b.number + width) × Ordered a b) (λ (b : Acted). b.xid < a.xid → (a.number + 1 - width ≤ b.number) × (b.number < a.number + 1 - width + (width - 1)))
    (λ b h lt. (omega (arith, h.0, some), omega (arith, h.0, h.1.1 lt, some))) bs back.low)) in
    let h : length (highs a.xid bs) ≤ width - 1 = few (width - 1) (one.number + 1) (highs a.xid bs) (differ-highs a.xid bs back.differ)
    (from-highs (λ (n : ℕ). (one.number + 1 ≤ n) × (n < one.number + 1 + (width - 1))) a.xid bs
    (all-and (λ (b : Acted). b.xid ≢ a.xid) (λ (b : Acted). Follow width b (one ∷ later) × AllByRecursion (λ (c : Acted). Ordered b c) (one ∷ later)) (λ (b : Acted). a.xid ≤ b.xid → (one.number + 1 ≤ b.number) × (b.number < one.number + 1 + (width - 1)))
    (λ b ne f le. let lt : one.number < b.number = f.1.0.1 (omega (arith, same, le, ne)) in (omega (arith, lt), omega (arith, f.0.0.1, some))) bs back.other back.ahead)) in
    omega (arith, l, h, both a.xid bs, some)

in-whole : (x : ℕ) (before xs : List ℕ) → is_in x (before ++ x ∷ xs) ≡ true
in-whole x [] xs = rw (eq-eqb x x refl) refl
in-whole x (b ∷ before) xs = or_right (x == b) (is_in x (before ++ x ∷ xs)) (in-whole x before xs)

in-drop : (n x : ℕ) (before xs : List ℕ) → n ≤ length before → is_in x (drop n (before ++ x ∷ xs)) ≡ true
in-drop zero x before xs le = in-whole x before xs
in-drop (suc n) x [] xs le = absurd (omega (arith, le))
in-drop (suc n) x (b ∷ before) xs le = in-drop n x before xs (omega (arith, le))

in-newest : (kept x : ℕ) (before xs : List ℕ) → length xs + 1 ≤ kept → is_in x (newest kept (before ++ x ∷ xs)) ≡ true
in-newest kept x before xs le = in-drop (length (before ++ x ∷ xs) - kept) x before xs (omega (arith, le, length-append before (x ∷ xs)))

all-push : {A : Type 0} (P : A → Type 0) (xs : List A) (x : A) → AllByRecursion P xs → P x → AllByRecursion P (xs ++ x ∷ [])
all-push P [] x all p = (p, tt)
all-push P (y ∷ xs) x all p = (all.0, all-push P xs x all.1 p)

differ-push : (bs : List Acted) (one : Acted) → DifferAll bs → AllByRecursion (λ (b : Acted). one.number ≢ b.number) bs → DifferAll (bs ++ one ∷ [])
differ-push [] one d all = (tt, tt)
differ-push (b ∷ bs) one d all = (all-push (λ (c : Acted). c.number ≢ b.number) bs one d.0 all.0, differ-push bs one d.1 all.1)

long-xids : (bs : List Acted) → length (xids bs) ≡ length bs
long-xids [] = refl
long-xids (b ∷ bs) = ap suc (long-xids bs)

scan : (kept width : ℕ) → 0 < width → 2 * width ≤ kept → (before : List ℕ) (a : Acted) (bs rest : List Acted) → NoneAgain kept (before ++ a.xid ∷ xids bs) (xids rest) → Back width a bs rest
    → Follow width a rest → AllByRecursion (λ (one : Acted). Ordered a one) rest → Windowed width rest → Rising rest → AllByRecursion (λ (one : Acted). one.xid ≢ a.xid) rest
scan kept width some wide before a bs [] none back follow ordered windowed rising = tt
scan kept width some wide before a bs (one ∷ later) none back follow ordered windowed rising =
    let ne : one.xid ≢ a.xid = λ same.
    let at : is_in a.xid (newest kept (before ++ a.xid ∷ xids bs)) ≡ true = in-newest kept a.xid before (xids bs) (omega (arith, near width a one bs later some same back, wide, long-xids bs)) in
    true≢false (sym at ∙ subst (λ (x : ℕ). is_in x (newest kept (before ++ a.xid ∷ xids bs)) ≡ false) same none.0) in
    let joined : (before ++ a.xid ∷ xids bs) ++ one.xid ∷ [] ≡ before ++ a.xid ∷ xids (bs ++ one ∷ []) =
    append_assoc before (a.xid ∷ xids bs) (one.xid ∷ []) ∙ ap (λ (l : List ℕ). before ++ a.xid ∷ l) (sym (map_push (λ (c : Acted). c.xid) bs one)) in (
      ne,
      scan kept width some wide before a (bs ++ one ∷ []) later (subst (λ (l : List ℕ). NoneAgain kept l (xids later)) joined none.1) (record {
        other = all-push (λ (b : Acted). b.xid ≢ a.xid) bs one back.other ne;
        low = all-push (λ (b : Acted). (a.number < b.number + width) × Ordered a b) bs one back.low (follow.0.1, ordered.0);
        ahead = all-push (λ (b : Acted). Follow width b later × AllByRecursion (λ (c : Acted). Ordered b c) later) bs one
            (all-map (λ (b : Acted). Follow width b (one ∷ later) × AllByRecursion (λ (c : Acted). Ordered b c) (one ∷ later)) (λ (b : Acted). Follow width b later × AllByRecursion (λ (c : Acted). Ordered b c) later)
            (λ b h. (h.0.1, h.1.1)) bs back.ahead) (windowed.0, rising.0);
        differ = differ-push bs one back.differ (all-map (λ (b : Acted). Follow width b (one ∷ later) × AllByRecursion (λ (c : Acted). Ordered b c) (one ∷ later)) (λ (b : Acted). one.number ≢ b.number) (λ b h. h.0.0.0) bs back.ahead);
      }) follow.1 ordered.1 windowed.1 rising.1,
    )

each-from : (kept width : ℕ) → 0 < width → 2 * width ≤ kept → (before : List ℕ) (calls : List Acted) → NoneAgain kept before (xids calls) → Windowed width calls → Rising calls → OneEach calls
each-from kept width some wide before [] none windowed rising = tt
each-from kept width some wide before (a ∷ rest) none windowed rising = (
  scan kept width some wide before a [] rest none.1 (record { other = tt; low = tt; ahead = tt; differ = tt }) windowed.0 rising.0 windowed.1 rising.1,
  each-from kept width some wide (before ++ a.xid ∷ []) rest none.1 windowed.1 rising.1,
)

-- where at least twice as many calls are kept as the window has numbers, no two have one transaction number
pub one-each : (kept width : ℕ) (calls : List Acted) → 0 < width → 2 * width ≤ kept → NoneAgain kept [] (xids calls) → Windowed width calls → Rising calls → OneEach calls
one-each kept width calls some wide none windowed rising = each-from kept width some wide [] calls none windowed rising
