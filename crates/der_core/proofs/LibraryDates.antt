-- The dates of the library that the code uses, and the days of the calendar.
use Rattle.std.proofs.Common.{◌≡◌, ℕ, ◌+◌, ◌-◌, ◌<◌, ◌≤◌, true, false, ℤ, pos, negsuc, ◌-ℤ◌, ◌<ℤ◌, unsigned_abs, inl, inr, Some, None, cond, refl, sym, ap, ◌∙◌, arith}
use Rattle.std.proofs.lemmas.Bool.{cases_lt, false_from_ne_true}
use Rattle.std.proofs.lemmas.Int.{to_z-of_z, to_z_pos}
use mir.Val.{SFits, of_z, to_z}
use mir.Syntax.{Width, w8, w16, w32}
use Rattle.jiff_core.specs.declared.civil.date.Date.{Date}
use Rattle.jiff_core.specs.Calendar.{IsCivilDate, IsDate, day_count, days_from_civil}
use Rattle.jiff_core.specs.Date.{IsYmd, epoch_day}
use Rattle.jiff_core.proofs.CalendarLemmas.{day_count-epoch, day_count-lt_year}
use Rattle.jiff_core.proofs.DateLemmas.{civil}
use Rattle.jiff_core.proofs.SignedLemmas.{signed_arith}
use Rattle.der_core.specs.Time.{epoch, day_number, is_date, year_of, month_of, day_of}
use Rattle.der_core.proofs.Dates.{date_bounds, date_again, date_found, date_within, is_day, is_date_from}

-- the library has the date that the calendar has
pub library_has : (y m d : ℕ) → is_date y m d ≡ true → IsDate (pos y) (pos m) (pos d)
library_has y m d e =
    let h = is_day y m d e in
    ((omega (arith, signed_arith, h.to), omega (arith, signed_arith, h.to)), (omega (arith, signed_arith, h.first), omega (arith, signed_arith, h.twelfth)), (omega (arith, signed_arith, h.begins), omega (arith, signed_arith, h.ends)))

-- and the other way round
pub calendar_has : (y m d : ℕ) → 1970 ≤ y → IsDate (pos y) (pos m) (pos d) → is_date y m d ≡ true
calendar_has y m d from date = is_date_from y m d (record {
  from = from;
  to = omega (arith, signed_arith, date.0);
  first = omega (arith, signed_arith, date.1);
  twelfth = omega (arith, signed_arith, date.1);
  begins = omega (arith, signed_arith, date.2);
  ends = omega (arith, signed_arith, date.2);
})

pub calendar_lacks : (y m d : ℕ) → 1970 ≤ y → (IsDate (pos y) (pos m) (pos d) → ⊥) → is_date y m d ≡ false
calendar_lacks y m d from none = false_from_ne_true (is_date y m d) (λ e. none (library_has y m d e))

number_is : (y m d : ℕ) → is_date y m d ≡ true → days_from_civil (pos y) m d ≡ pos (day_number y m d)
unfolding days_from_civil
number_is y m d e =
    let w = date_within y m d e in
    rw day_count-epoch (omega (arith, signed_arith, w.0))

-- the library's number of a date
pub epoch_day_is : (date : Date) (y m d : ℕ) → IsYmd (pos y) (pos m) (pos d) date → is_date y m d ≡ true → epoch_day date ≡ pos (day_number y m d)
epoch_day_is date y m d parts e =
    let month : date.month ≡ m = omega (arith, signed_arith, parts.1) in
    let day : date.day ≡ d = omega (arith, signed_arith, parts.2) in
    rw (parts.0, month, day) (number_is y m d e)

-- the library's date of a day
pub record IsDateOf (day : ℕ) (y : ℤ) (m d : ℕ) : Type 0 where
  pub year : y ≡ pos (year_of day)
  pub month : m ≡ month_of day
  pub day_is : d ≡ day_of day

date_by_count : (day : ℕ) (y : ℤ) (m d : ℕ) → IsCivilDate y m d → day_count y m d ≡ day + epoch → IsDateOf day y m d
date_by_count day (pos n) m d has count =
    elim (cases_lt n 1970) [
      | inl early ↦
          let lt : pos n <ℤ pos 1970 = omega (arith, signed_arith, early) in
          absurd (omega (arith, day_count-lt_year (pos n) m d (pos 1970) 1 1 has (omega arith) lt, day_count-epoch, count))
      | inr from ↦
          let is = is_date_from n m d (record { from = from; to = omega (arith, signed_arith, has.0); first = has.1.0; twelfth = has.1.1; begins = has.2.0; ends = has.2.1 }) in
          let parts = date_again n m d day is count in
          record { year = ap pos (sym parts.year); month = sym parts.month; day_is = sym parts.day_is }
    ]
date_by_count day (negsuc n) m d has count =
    let lt : negsuc n <ℤ pos 1970 = omega (arith, signed_arith) in
    absurd (omega (arith, day_count-lt_year (negsuc n) m d (pos 1970) 1 1 has (omega arith) lt, day_count-epoch, count))

count_of : (y : ℤ) (m d day : ℕ) → days_from_civil y m d ≡ pos day → day_count y m d ≡ day + epoch
unfolding days_from_civil
count_of y m d day is =
    let at : pos (day_count y m d) -ℤ pos 4371953 ≡ pos day = rw day_count-epoch at is in
    omega (arith, signed_arith, at)

pub date_of_day : (date : Date) (day : ℕ) → epoch_day date ≡ pos day → IsDateOf day date.year date.month date.day
date_of_day date day is = date_by_count day date.year date.month date.day (civil date) (count_of date.year date.month date.day day is)

-- no number is answered for a date that the calendar lacks
pub lacks : (y m d n : ℕ) → (1970 ≤ y → y ≤ 9999 → m ≤ 12 → d ≤ 31 → ⊥) → None ≡ cond (is_date y m d) (Some n) None
lacks y m d n out =
    let e : is_date y m d ≡ false = false_from_ne_true (is_date y m d) (λ has.
    let h = is_day y m d has in
    let b = date_bounds y m d has in
    out h.from b.year b.month b.day_is) in
    rw e refl

-- a number that went through a signed type
back : (w : Width) (n : ℕ) → SFits w (pos n) → unsigned_abs (to_z w (of_z w (pos n))) ≡ n
back w n fits = rw (to_z-of_z w (pos n) fits) refl

-- the year of a date, as the code reads it
pub year_back : (day : ℕ) (z : ℤ) (n : ℕ) → day < 2932897 → z ≡ pos (year_of day) → n ≡ unsigned_abs (to_z w16 (of_z w16 z)) → (n ≡ year_of day) × (n < 10000)
year_back day z n small year is =
    let b = date_bounds (year_of day) (month_of day) (day_of day) (date_found day small).0 in
    let fits : SFits w16 (pos (year_of day)) = omega (arith, signed_arith, b.year) in
    let same : n ≡ year_of day = is ∙ ap (λ (x : ℤ). unsigned_abs (to_z w16 (of_z w16 x))) year ∙ back w16 (year_of day) fits in
    (same, omega (arith, same, b.year))

-- the number of a date that the library has, as the code reads it
pub number_back : (y m d n : ℕ) (z : ℤ) (date : Date) → y < 32768 → m < 128 → d < 128 → 1970 ≤ y → IsDate (to_z w16 y) (to_z w8 m) (to_z w8 d) → IsYmd (to_z w16 y) (to_z w8 m) (to_z w8 d) date → z ≡ epoch_day date → n ≡ unsigned_abs (to_z w32 (of_z w32 z)) → (Some n ≡ cond (is_date y m d) (Some (day_number y m d)) None) × (n < 2932897)
number_back y m d n z date ly lm ld from has parts number is =
    let ty : to_z w16 y ≡ pos y = to_z_pos w16 y ly in
    let tm : to_z w8 m ≡ pos m = to_z_pos w8 m lm in
    let td : to_z w8 d ≡ pos d = to_z_pos w8 d ld in
    let there : is_date y m d ≡ true = calendar_has y m d from (rw (ty, tm, td) at has) in
    let day = epoch_day_is date y m d (parts.0 ∙ ty, parts.1 ∙ tm, parts.2 ∙ td) there in
    let within = date_within y m d there in
    let fits : SFits w32 (pos (day_number y m d)) = omega (arith, signed_arith, within.1) in
    let same : n ≡ day_number y m d = is ∙ ap (λ (x : ℤ). unsigned_abs (to_z w32 (of_z w32 x))) (number ∙ day) ∙ back w32 (day_number y m d) fits in
    (rw (there, same) refl, omega (arith, same, within.1))

-- no number for a date that the library lacks
pub none_back : (y m d n : ℕ) → y < 32768 → m < 128 → d < 128 → (IsDate (to_z w16 y) (to_z w8 m) (to_z w8 d) → ⊥) → None ≡ cond (is_date y m d) (Some n) None
none_back y m d n ly lm ld none =
    let ty : to_z w16 y ≡ pos y = to_z_pos w16 y ly in
    let tm : to_z w8 m ≡ pos m = to_z_pos w8 m lm in
    let td : to_z w8 d ≡ pos d = to_z_pos w8 d ld in
    let absent : is_date y m d ≡ false = false_from_ne_true (is_date y m d) (λ there. none (rw (ty, tm, td) (library_has y m d there))) in
    rw absent refl
