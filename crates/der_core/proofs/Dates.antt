-- The days of the calendar as dates, both ways.
use Rattle.std.proofs.Common.{◌≡◌, ℕ, zero, suc, ◌+◌, ◌-◌, ◌<◌, ◌≤◌, true, leb, ℤ, pos, neg_ℤ, ◌+ℤ◌, ◌≤ℤ◌, rules, inl, inr, refl, sym, ap, subst, ◌∙◌, arith}
use Rattle.std.proofs.lemmas.Bool.{cases_lt, cases_eq, leb-true, le-leb, lt-leb}
use Rattle.jiff_core.specs.Calendar.{IsCivilDate, days_in_month, days_in_year, days_of_months, day_of_year, day_count}
use Rattle.jiff_core.proofs.CalendarLemmas.{days_in_month_bounds, day_count-epoch, day_count-end, day_count-next_year, day_count-day_of_year, day_of_year_bound, days_of_months-zero, days_of_months_more, days_of_months_all, days_of_months_mono}
use Rattle.jiff_core.proofs.SignedLemmas.{signed_arith}
use Rattle.der_core.specs.Time.{last, epoch, is_date, year_of, days_before, month_of, day_of}
use Rattle.der_core.proofs.Steps.{both}

-- ---- the last number at which a function that rises is at most x

last_is : (f : ℕ → ℕ) (k x n : ℕ) → ((m later : ℕ) → m ≤ later → f m ≤ f later) → n ≤ k → f n ≤ x → x < f (suc n) → last f k x ≡ n
unfolding last
last_is f zero x n rises few low high = omega arith
last_is f (suc k) x n rises few low high =
    elim (cases_eq n (suc k)) [
      | inl e ↦ (let at : f (suc k) ≤ x = subst (λ (m : ℕ). f m ≤ x) e low in rw (le-leb (f (suc k)) x at) (sym e))
      | inr ne ↦
          let fewer : n ≤ k = omega arith in
          let above : f (suc n) ≤ f (suc k) = rises (suc n) (suc k) (omega arith) in
          rw (lt-leb (f (suc k)) x (omega arith)) (last_is f k x n rises fewer low high)
    ]

last_low : (f : ℕ → ℕ) (k x : ℕ) → f 0 ≤ x → f (last f k x) ≤ x
unfolding last
last_low f zero x low = low
last_low f (suc k) x low =
    elim (cases_lt x (f (suc k))) [
      | inl above ↦ rw (lt-leb (f (suc k)) x above) (last_low f k x low)
      | inr at ↦ rw (le-leb (f (suc k)) x at) at
    ]

last_high : (f : ℕ → ℕ) (k x : ℕ) → x < f (suc k) → x < f (suc (last f k x))
unfolding last
last_high f zero x high = high
last_high f (suc k) x high =
    elim (cases_lt x (f (suc k))) [
      | inl above ↦ rw (lt-leb (f (suc k)) x above) (last_high f k x above)
      | inr at ↦ rw (le-leb (f (suc k)) x at) high
    ]

last_most : (f : ℕ → ℕ) (k x : ℕ) → last f k x ≤ k
unfolding last
last_most f zero x = omega arith
last_most f (suc k) x =
    elim (cases_lt x (f (suc k))) [
      | inl above ↦ rw (lt-leb (f (suc k)) x above) (omega (arith, last_most f k x))
      | inr at ↦ rw (le-leb (f (suc k)) x at) (omega arith)
    ]

-- ---- years

first_of : ℕ → ℕ
first_of n = day_count (pos (1970 + n)) 1 1

year_here : (n : ℕ) → neg_ℤ (pos 10000) ≤ℤ pos n
year_here n = search rules

first_next : (n : ℕ) → first_of (suc n) ≡ first_of n + days_in_year (pos (1970 + n))
unfolding first_of
first_next n =
    let next : pos (1970 + suc n) ≡ pos (1970 + n) +ℤ pos 1 = ap pos (omega arith) in
    day_count-next_year (pos (1970 + n)) (pos (1970 + suc n)) (year_here (1970 + n)) next

first_rises : (m later : ℕ) → m ≤ later → first_of m ≤ first_of later
first_rises m zero le = let e : m ≡ 0 = omega arith in rw e (omega arith)
first_rises m (suc later) le =
    elim (cases_eq m (suc later)) [
      | inl e ↦ rw e (omega arith)
      | inr ne ↦ omega (arith, first_rises m later (omega arith), first_next later)
    ]

pub record IsDay (y m d : ℕ) : Type 0 where
  pub from : 1970 ≤ y
  pub to : y ≤ 9999
  pub first : 1 ≤ m
  pub twelfth : m ≤ 12
  pub begins : 1 ≤ d
  pub ends : d ≤ days_in_month (pos y) m

pub is_day : (y m d : ℕ) → is_date y m d ≡ true → IsDay y m d
unfolding is_date
is_day y m d e =
    let a = both (leb 1970 y) _ e in
    let b = both (leb y 9999) _ a.1 in
    let c = both (leb 1 m) _ b.1 in
    let f = both (leb m 12) _ c.1 in
    let g = both (leb 1 d) _ f.1 in
    record { from = leb-true _ _ a.0; to = leb-true _ _ b.0; first = leb-true _ _ c.0; twelfth = leb-true _ _ f.0; begins = leb-true _ _ g.0; ends = leb-true _ _ g.1 }

pub is_date_from : (y m d : ℕ) → IsDay y m d → is_date y m d ≡ true
unfolding is_date
is_date_from y m d h = rw (le-leb 1970 y h.from, le-leb y 9999 h.to, le-leb 1 m h.first, le-leb m 12 h.twelfth, le-leb 1 d h.begins, le-leb d (days_in_month (pos y) m) h.ends) refl

civil_is : (y m d : ℕ) → IsDay y m d → IsCivilDate (pos y) m d
civil_is y m d h = ((omega (arith, signed_arith), omega (arith, signed_arith)), (h.first, h.twelfth), (h.begins, h.ends))

-- where a date stands in its year
in_year : (n m d day : ℕ) → IsDay (1970 + n) m d → day_count (pos (1970 + n)) m d ≡ day + epoch → day + epoch + 1 ≡ first_of n + (days_of_months (pos (1970 + n)) (m - 1) + d)
unfolding first_of
in_year n m d day h is =
    let place = day_count-day_of_year (pos (1970 + n)) m d h.begins in
    omega (arith, is, place)

year_at : (n m d day : ℕ) → IsDay (1970 + n) m d → day_count (pos (1970 + n)) m d ≡ day + epoch → year_of day ≡ 1970 + n
unfolding year_of first_of
year_at n m d day h is =
    let place = in_year n m d day h is in
    let most : day_of_year (pos (1970 + n)) m d ≤ days_in_year (pos (1970 + n)) = day_of_year_bound (pos (1970 + n)) m d (civil_is (1970 + n) m d h) in
    let few : n ≤ 8029 = omega (arith, h.to) in
    let low : first_of n ≤ day + epoch = omega (arith, h.begins, place) in
    let high : day + epoch < first_of (suc n) = omega (arith, first_next n, place, most) in
    ap (λ (k : ℕ). 1970 + k) (last_is first_of 8029 (day + epoch) n first_rises few low high)

before_at : (n m d day : ℕ) → IsDay (1970 + n) m d → day_count (pos (1970 + n)) m d ≡ day + epoch → days_before day + 1 ≡ days_of_months (pos (1970 + n)) (m - 1) + d
unfolding days_before first_of
before_at n m d day h is =
    let place = in_year n m d day h is in
    rw (year_at n m d day h is) (omega (arith, h.begins, place))

month_at : (n m d day : ℕ) → IsDay (1970 + n) m d → day_count (pos (1970 + n)) m d ≡ day + epoch → month_of day ≡ m
unfolding month_of
month_at n m d day h is =
    let before = before_at n m d day h is in
    let more = days_of_months_more (pos (1970 + n)) m h.first in
    let next : days_of_months (pos (1970 + n)) (suc (m - 1)) ≡ days_of_months (pos (1970 + n)) m = ap (days_of_months (pos (1970 + n))) (omega (arith, h.first)) in
    let low : days_of_months (pos (1970 + n)) (m - 1) ≤ days_before day = omega (arith, before, h.begins) in
    let high : days_before day < days_of_months (pos (1970 + n)) (suc (m - 1)) = omega (arith, before, more, next, h.ends) in
    let few : m - 1 ≤ 11 = omega (arith, h.twelfth) in
    let at : last (days_of_months (pos (1970 + n))) 11 (days_before day) ≡ m - 1 = last_is (days_of_months (pos (1970 + n))) 11 (days_before day) (m - 1) (days_of_months_mono (pos (1970 + n))) few low high in
    rw (year_at n m d day h is, at) (omega (arith, h.first))

day_at : (n m d day : ℕ) → IsDay (1970 + n) m d → day_count (pos (1970 + n)) m d ≡ day + epoch → day_of day ≡ d
unfolding day_of
day_at n m d day h is =
    let before = before_at n m d day h is in
    rw (month_at n m d day h is, year_at n m d day h is) (omega (arith, before, h.begins))

-- the parts of a day's date
pub record HasParts (day y m d : ℕ) : Type 0 where
  pub year : year_of day ≡ y
  pub month : month_of day ≡ m
  pub day_is : day_of day ≡ d

-- a date that the calendar has is found again by its number
pub date_again : (y m d day : ℕ) → is_date y m d ≡ true → day_count (pos y) m d ≡ day + epoch → HasParts day y m d
date_again y m d day e is = subst (λ (x : ℕ). is_date x m d ≡ true → day_count (pos x) m d ≡ day + epoch → HasParts day x m d) same at e is
  where
    h : IsDay y m d
    h = is_day y m d e

    same : 1970 + (y - 1970) ≡ y
    same = omega (arith, h.from)

    at : is_date (1970 + (y - 1970)) m d ≡ true → day_count (pos (1970 + (y - 1970))) m d ≡ day + epoch → HasParts day (1970 + (y - 1970)) m d
    at e is = (let g = is_day (1970 + (y - 1970)) m d e in record {
      year = year_at (y - 1970) m d day g is;
      month = month_at (y - 1970) m d day g is;
      day_is = day_at (y - 1970) m d day g is;
    })

first_is : first_of 0 ≡ 4371953
unfolding first_of
first_is = day_count-epoch

first_end : first_of 8030 ≡ 7304850
unfolding first_of
first_end = day_count-end

-- a day of a year, by the months that were before
date_by : (n k x : ℕ) → n ≤ 8029 → k ≤ 11 → first_of n ≤ x → days_of_months (pos (1970 + n)) k ≤ x - first_of n → x - first_of n < days_of_months (pos (1970 + n)) (suc k) → (is_date (1970 + n) (1 + k) (1 + (x - first_of n - days_of_months (pos (1970 + n)) k)) ≡ true) × (day_count (pos (1970 + n)) (1 + k) (1 + (x - first_of n - days_of_months (pos (1970 + n)) k)) ≡ x)
unfolding is_date first_of
date_by n k x few twelve low in_month before_next =
    let d : ℕ = 1 + (x - first_of n - days_of_months (pos (1970 + n)) k) in
    let prior : 1 + k - 1 ≡ k = omega arith in
    let after : 1 + k ≡ suc k = omega arith in
    let more = days_of_months_more (pos (1970 + n)) (1 + k) (omega arith) in
    let months : days_of_months (pos (1970 + n)) (suc k) ≡ days_of_months (pos (1970 + n)) k + days_in_month (pos (1970 + n)) (1 + k) = ap (days_of_months (pos (1970 + n))) (sym after) ∙ more ∙ ap (λ (m : ℕ). days_of_months (pos (1970 + n)) m + days_in_month (pos (1970 + n)) (1 + k)) prior in
    let place = day_count-day_of_year (pos (1970 + n)) (1 + k) (1 + (x - first_of n - days_of_months (pos (1970 + n)) k)) (omega arith) in
    let same : days_of_months (pos (1970 + n)) (1 + k - 1) ≡ days_of_months (pos (1970 + n)) k = ap (days_of_months (pos (1970 + n))) prior in
    let ends : d ≤ days_in_month (pos (1970 + n)) (1 + k) = omega (arith, months, in_month, before_next) in (
      is_date_from (1970 + n) (1 + k) d (record { from = omega arith; to = omega (arith, few); first = omega arith; twelfth = omega (arith, twelve); begins = omega arith; ends = ends }),
      omega (arith, place, same, low, in_month),
    )

-- the month in a year
date_in : (n x : ℕ) → n ≤ 8029 → first_of n ≤ x → x < first_of (suc n) → (is_date (1970 + n) (1 + last (days_of_months (pos (1970 + n))) 11 (x - first_of n)) (1 + (x - first_of n - days_of_months (pos (1970 + n)) (1 + last (days_of_months (pos (1970 + n))) 11 (x - first_of n) - 1))) ≡ true) × (day_count (pos (1970 + n)) (1 + last (days_of_months (pos (1970 + n))) 11 (x - first_of n)) (1 + (x - first_of n - days_of_months (pos (1970 + n)) (1 + last (days_of_months (pos (1970 + n))) 11 (x - first_of n) - 1))) ≡ x)
date_in n x few low high =
    let k_low = last_low (days_of_months (pos (1970 + n))) 11 (x - first_of n) (omega (arith, days_of_months-zero (pos (1970 + n)))) in
    let k_high = last_high (days_of_months (pos (1970 + n))) 11 (x - first_of n) (omega (arith, days_of_months_all (pos (1970 + n)), first_next n, low, high)) in
    let k_few = last_most (days_of_months (pos (1970 + n))) 11 (x - first_of n) in
    let e : 1 + last (days_of_months (pos (1970 + n))) 11 (x - first_of n) - 1 ≡ last (days_of_months (pos (1970 + n))) 11 (x - first_of n) = omega arith in
    rw e (date_by n (last (days_of_months (pos (1970 + n))) 11 (x - first_of n)) x few k_few low k_low k_high)

-- each day up to the year 9999 has a date
pub date_found : (day : ℕ) → day < 2932897 → (is_date (year_of day) (month_of day) (day_of day) ≡ true) × (day_count (pos (year_of day)) (month_of day) (day_of day) ≡ day + epoch)
unfolding year_of days_before month_of day_of first_of
date_found day small =
    let low = last_low first_of 8029 (day + epoch) (omega (arith, first_is)) in
    let high = last_high first_of 8029 (day + epoch) (omega (arith, first_end)) in
    let few = last_most first_of 8029 (day + epoch) in
    date_in (last first_of 8029 (day + epoch)) (day + epoch) few low high

in_first : (n m d : ℕ) → 1 ≤ d → day_count (pos (1970 + n)) m d + 1 ≡ first_of n + (days_of_months (pos (1970 + n)) (m - 1) + d)
unfolding first_of
in_first n m d begins = day_count-day_of_year (pos (1970 + n)) m d begins

within_at : (n m d : ℕ) → IsDay (1970 + n) m d → (epoch ≤ day_count (pos (1970 + n)) m d) × (day_count (pos (1970 + n)) m d < 7304850)
within_at n m d h =
    let place = in_first n m d h.begins in
    let most : days_of_months (pos (1970 + n)) (m - 1) + d ≤ days_in_year (pos (1970 + n)) = day_of_year_bound (pos (1970 + n)) m d (civil_is (1970 + n) m d h) in
    (omega (arith, place, first_is, first_rises 0 n (omega arith), h.begins), omega (arith, place, most, first_next n, first_end, first_rises (suc n) 8030 (omega (arith, h.to))))

-- the days of the years 1970 to 9999
pub date_within : (y m d : ℕ) → is_date y m d ≡ true → (epoch ≤ day_count (pos y) m d) × (day_count (pos y) m d < 7304850)
date_within y m d e =
    let h = is_day y m d e in
    let same : 1970 + (y - 1970) ≡ y = omega (arith, h.from) in
    subst (λ (x : ℕ). (epoch ≤ day_count (pos x) m d) × (day_count (pos x) m d < 7304850)) same (within_at (y - 1970) m d (subst (λ (x : ℕ). IsDay x m d) (sym same) h))

-- the bounds of a date's parts
pub record HasBounds (y m d : ℕ) : Type 0 where
  pub year : y ≤ 9999
  pub month : m ≤ 12
  pub day_is : d ≤ 31

pub date_bounds : (y m d : ℕ) → is_date y m d ≡ true → HasBounds y m d
date_bounds y m d e =
    let h = is_day y m d e in
    let b = days_in_month_bounds (pos y) m in
    record { year = h.to; month = h.twelfth; day_is = omega (arith, h.ends, b.0) }
