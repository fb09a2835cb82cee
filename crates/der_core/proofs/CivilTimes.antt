-- Times as text: what is read is spelled so, and what is spelled so is read.
use Rattle.std.proofs.Common.{◌≡◌, ℕ, zero, suc, ◌+◌, ◌-◌, ◌*◌, ◌/◌, ◌%◌, ◌<◌, ◌≤◌, true, false, ◌&&◌, leb, ltb, eqb, List, [], ◌∷◌, ◌++◌, length, get_or, take, drop, pos, refl, sym, ap, subst, ◌∙◌, arith}
use Rattle.std.proofs.lemmas.Bool.{leb-true, le-leb, ltb-true, lt-ltb, eqb-true, eq-eqb, and_from, and_right}
use Rattle.std.proofs.lemmas.List.{take-append-drop, length-take, length-drop}
use Rattle.jiff_core.specs.Calendar.{day_count}
use Rattle.der_core.specs.Time.{epoch, day_number, is_date, year_of, month_of, day_of, seconds_to_10000, seconds_of, is_civil, civil_of, digits, numbers, are_digits, is_zulu, is_time, time_content}
use Rattle.der_core.specs.Law.{IsContent}
use Rattle.der_core.proofs.Steps.{passed, ok_is, both}
use Rattle.der_core.proofs.Dates.{date_again, date_found, date_within, date_bounds}

-- ---- digits

two_digits : (a b : ℕ) → 48 ≤ a → a ≤ 57 → 48 ≤ b → b ≤ 57 → (48 + ((a - 48) * 10 + (b - 48)) / 10 ≡ a) × (48 + ((a - 48) * 10 + (b - 48)) % 10 ≡ b)
two_digits a b la ha lb hb = (omega arith, omega arith)

record IsDigit (o : ℕ) : Type 0 where
  low : 48 ≤ o
  high : o ≤ 57

first_digit : (o : ℕ) (os : List ℕ) → are_digits (o ∷ os) ≡ true → IsDigit o × (are_digits os ≡ true)
first_digit o os e =
    let a = both (leb 48 o) _ e in
    let b = both (leb o 57) _ a.1 in
    (record { low = leb-true _ _ a.0; high = leb-true _ _ b.0 }, b.1)

digits_again : (n : ℕ) (os : List ℕ) → length os ≡ 2 * n → are_digits os ≡ true → digits (numbers os) ≡ os
digits_again zero [] sized e = refl
digits_again zero (a ∷ os) sized e = absurd (omega arith)
digits_again (suc n) [] sized e = absurd (omega arith)
digits_again (suc n) (a ∷ []) sized e = absurd (omega arith)
digits_again (suc n) (a ∷ b ∷ os) sized e =
    let p = first_digit a (b ∷ os) e in
    let q = first_digit b os p.1 in
    let t = two_digits a b p.0.low p.0.high q.0.low q.0.high in
    rw (t.0, t.1, digits_again n os (omega arith) q.1) refl

-- the second number is below 100
second_small : (os : List ℕ) (c y : ℕ) (ns : List ℕ) → numbers os ≡ c ∷ y ∷ ns → are_digits os ≡ true → y < 100
second_small [] c y ns is e = absurd cc
second_small (a ∷ []) c y ns is e = absurd cc
second_small (a ∷ b ∷ []) c y ns is e = absurd cc
second_small (a ∷ b ∷ d ∷ []) c y ns is e = absurd cc
second_small (a ∷ b ∷ d ∷ f ∷ os) c y ns is e =
    let p = first_digit a (b ∷ d ∷ f ∷ os) e in
    let q = first_digit b (d ∷ f ∷ os) p.1 in
    let r = first_digit d (f ∷ os) q.1 in
    let s = first_digit f os r.1 in
    let same : (d - 48) * 10 + (f - 48) ≡ y = cc in
    omega (arith, same, r.0.low, r.0.high, s.0.low, s.0.high)

-- ---- seconds

record IsCivil (c y m d h i s : ℕ) : Type 0 where
  date : is_date (c * 100 + y) m d ≡ true
  hour : h < 24
  minute : i < 60
  second : s < 60

civil_is : (c y m d h i s : ℕ) → is_civil (c ∷ y ∷ m ∷ d ∷ h ∷ i ∷ s ∷ []) ≡ true → IsCivil c y m d h i s
civil_is c y m d h i s e =
    let a = both (is_date (c * 100 + y) m d) _ e in
    let b = both (ltb h 24) _ a.1 in
    let f = both (ltb i 60) _ b.1 in
    record { date = a.0; hour = ltb-true _ _ b.0; minute = ltb-true _ _ f.0; second = ltb-true _ _ f.1 }

seconds_parts : (n h i s : ℕ) → h < 24 → i < 60 → s < 60 → ((n * 86400 + (h * 3600 + (i * 60 + s))) / 86400 ≡ n) × ((n * 86400 + (h * 3600 + (i * 60 + s))) % 86400 / 3600 ≡ h) × ((n * 86400 + (h * 3600 + (i * 60 + s))) % 3600 / 60 ≡ i) × ((n * 86400 + (h * 3600 + (i * 60 + s))) % 60 ≡ s)
seconds_parts n h i s lh li ls = (omega arith, omega arith, omega arith, omega arith)

civil_parts : (c y m d h i s : ℕ) → y < 100 → IsCivil c y m d h i s → (civil_of (seconds_of (c ∷ y ∷ m ∷ d ∷ h ∷ i ∷ s ∷ [])) ≡ c ∷ y ∷ m ∷ d ∷ h ∷ i ∷ s ∷ []) × (seconds_of (c ∷ y ∷ m ∷ d ∷ h ∷ i ∷ s ∷ []) < seconds_to_10000)
civil_parts c y m d h i s small civil =
    let within = date_within (c * 100 + y) m d civil.date in
    let count : day_count (pos (c * 100 + y)) m d ≡ day_number (c * 100 + y) m d + epoch = omega (arith, within.0) in
    let parts = date_again (c * 100 + y) m d (day_number (c * 100 + y) m d) civil.date count in
    let t = seconds_parts (day_number (c * 100 + y) m d) h i s civil.hour civil.minute civil.second in
    let century : (c * 100 + y) / 100 ≡ c = omega (arith, small) in
    let year : (c * 100 + y) % 100 ≡ y = omega (arith, small) in
    (rw (t.0, t.1, t.2, t.3, parts.year, parts.month, parts.day_is, century, year) refl, omega (arith, within.0, within.1, civil.hour, civil.minute, civil.second))

civil_again : (ns : List ℕ) → ((c y : ℕ) (rest : List ℕ) → ns ≡ c ∷ y ∷ rest → y < 100) → is_civil ns ≡ true → (civil_of (seconds_of ns) ≡ ns) × (seconds_of ns < seconds_to_10000)
civil_again [] small e = absurd cc
civil_again (c ∷ []) small e = absurd cc
civil_again (c ∷ y ∷ []) small e = absurd cc
civil_again (c ∷ y ∷ m ∷ []) small e = absurd cc
civil_again (c ∷ y ∷ m ∷ d ∷ []) small e = absurd cc
civil_again (c ∷ y ∷ m ∷ d ∷ h ∷ []) small e = absurd cc
civil_again (c ∷ y ∷ m ∷ d ∷ h ∷ i ∷ []) small e = absurd cc
civil_again (c ∷ y ∷ m ∷ d ∷ h ∷ i ∷ s ∷ []) small e = civil_parts c y m d h i s (small c y (m ∷ d ∷ h ∷ i ∷ s ∷ []) refl) (civil_is c y m d h i s e)
civil_again (c ∷ y ∷ m ∷ d ∷ h ∷ i ∷ s ∷ x ∷ rest) small e = absurd cc

zulu_is : (os : List ℕ) → is_zulu os ≡ true → os ≡ 90 ∷ []
zulu_is [] e = absurd cc
zulu_is (z ∷ []) e = ap (λ (o : ℕ). o ∷ []) (eqb-true z 90 e)
zulu_is (y ∷ z ∷ os) e = absurd cc

time_takes : (os : List ℕ) → is_time os ≡ true → (os ≡ digits (civil_of (seconds_of (numbers (take 14 os)))) ++ 90 ∷ []) × (seconds_of (numbers (take 14 os)) < seconds_to_10000)
unfolding is_time
time_takes os e =
    let a = both (are_digits (take 14 os)) _ e in
    let b = both (is_zulu (drop 14 os)) _ a.1 in
    let zulu = zulu_is (drop 14 os) b.0 in
    let sized : length (take 14 os) ≡ 14 = omega (arith, length-take 14 os, length-drop 14 os, ap length zulu) in
    let civil = civil_again (numbers (take 14 os)) (λ c y rest is. second_small (take 14 os) c y rest is a.0) b.1 in
    let spelled : digits (civil_of (seconds_of (numbers (take 14 os)))) ≡ take 14 os = ap digits civil.0 ∙ digits_again 7 (take 14 os) sized a.0 in
    let front : os ≡ take 14 os ++ drop 14 os = sym (take-append-drop 14 os) in
    (front ∙ ap (λ (x : List ℕ). x ++ drop 14 os) (sym spelled) ∙ ap (λ (x : List ℕ). digits (civil_of (seconds_of (numbers (take 14 os)))) ++ x) zulu, civil.1)

-- ---- again

digit_again : (n : ℕ) → n < 100 → (leb 48 (48 + n / 10) ≡ true) × (leb (48 + n / 10) 57 ≡ true) × (leb 48 (48 + n % 10) ≡ true) × (leb (48 + n % 10) 57 ≡ true) × ((48 + n / 10 - 48) * 10 + (48 + n % 10 - 48) ≡ n)
digit_again n small = (le-leb _ _ (omega arith), le-leb _ _ (omega arith), le-leb _ _ (omega arith), le-leb _ _ (omega arith), omega arith)

more_digits : (n : ℕ) (ns : List ℕ) → n < 100 → are_digits (digits ns) ≡ true → are_digits (digits (n ∷ ns)) ≡ true
more_digits n ns small e = (let t = digit_again n small in rw (t.0, t.1, t.2, t.3, e) refl)

more_numbers : (n : ℕ) (ns : List ℕ) → n < 100 → numbers (digits ns) ≡ ns → numbers (digits (n ∷ ns)) ≡ n ∷ ns
more_numbers n ns small e = (let t = digit_again n small in rw (t.4, e) refl)

record AreSmall (c y m d h i s : ℕ) : Type 0 where
  century : c < 100
  year : y < 100
  month : m < 100
  day : d < 100
  hour : h < 100
  minute : i < 100
  second : s < 100

seven : (c y m d h i s : ℕ) → AreSmall c y m d h i s → (are_digits (digits (c ∷ y ∷ m ∷ d ∷ h ∷ i ∷ s ∷ [])) ≡ true) × (numbers (digits (c ∷ y ∷ m ∷ d ∷ h ∷ i ∷ s ∷ [])) ≡ c ∷ y ∷ m ∷ d ∷ h ∷ i ∷ s ∷ [])
seven c y m d h i s a = (
  more_digits c (y ∷ m ∷ d ∷ h ∷ i ∷ s ∷ []) a.century (more_digits y (m ∷ d ∷ h ∷ i ∷ s ∷ []) a.year (more_digits m (d ∷ h ∷ i ∷ s ∷ []) a.month (more_digits d (h ∷ i ∷ s ∷ []) a.day (more_digits h (i ∷ s ∷ []) a.hour (more_digits i (s ∷ []) a.minute (more_digits s [] a.second refl)))))),
  more_numbers c (y ∷ m ∷ d ∷ h ∷ i ∷ s ∷ []) a.century (more_numbers y (m ∷ d ∷ h ∷ i ∷ s ∷ []) a.year (more_numbers m (d ∷ h ∷ i ∷ s ∷ []) a.month (more_numbers d (h ∷ i ∷ s ∷ []) a.day (more_numbers h (i ∷ s ∷ []) a.hour (more_numbers i (s ∷ []) a.minute (more_numbers s [] a.second refl)))))),
)

time_if : (os ns : List ℕ) → take 14 os ≡ digits ns → drop 14 os ≡ 90 ∷ [] → are_digits (digits ns) ≡ true → numbers (digits ns) ≡ ns → is_civil ns ≡ true → is_time os ≡ true
unfolding is_time
time_if os ns front back all again civil = rw (front, back, all, again, civil) refl

time_again : (t : ℕ) → t < seconds_to_10000 → (is_time (digits (civil_of t) ++ 90 ∷ []) ≡ true) × (seconds_of (numbers (take 14 (digits (civil_of t) ++ 90 ∷ []))) ≡ t)
time_again t small =
    let found = date_found (t / 86400) (omega arith) in
    let bounds = date_bounds (year_of (t / 86400)) (month_of (t / 86400)) (day_of (t / 86400)) found.0 in
    let are : AreSmall (year_of (t / 86400) / 100) (year_of (t / 86400) % 100) (month_of (t / 86400)) (day_of (t / 86400)) (t % 86400 / 3600) (t % 3600 / 60) (t % 60) = record { century = omega (arith, bounds.year); year = omega arith; month = omega (arith, bounds.month); day = omega (arith, bounds.day_is); hour = omega arith; minute = omega arith; second = omega arith } in
    let s = seven _ _ _ _ _ _ _ are in
    let year : year_of (t / 86400) / 100 * 100 + year_of (t / 86400) % 100 ≡ year_of (t / 86400) = omega arith in
    let hour : ltb (t % 86400 / 3600) 24 ≡ true = lt-ltb _ _ (omega arith) in
    let minute : ltb (t % 3600 / 60) 60 ≡ true = lt-ltb _ _ (omega arith) in
    let second : ltb (t % 60) 60 ≡ true = lt-ltb _ _ (omega arith) in
    let total : day_number (year_of (t / 86400)) (month_of (t / 86400)) (day_of (t / 86400)) * 86400 + (t % 86400 / 3600 * 3600 + (t % 3600 / 60 * 60 + t % 60)) ≡ t = omega (arith, found.1) in
    let civil : is_civil (civil_of t) ≡ true = rw (year, found.0, hour, minute, second) refl in
    let front : take 14 (digits (civil_of t) ++ 90 ∷ []) ≡ digits (civil_of t) = refl in
    (time_if (digits (civil_of t) ++ 90 ∷ []) (civil_of t) front refl s.0 s.1 civil, ap (λ (x : List ℕ). seconds_of (numbers x)) front ∙ ap seconds_of s.1 ∙ rw year total)

pub time_content_law : IsContent time_content
time_content_law = record {
  takes = λ i v bytes e.
      let p = passed (is_time i.octets) _ _ v e in
      let t = time_takes i.octets p.0 in
      let whole : seconds_of (numbers (take 14 i.octets)) * 1000000 / 1000000 ≡ seconds_of (numbers (take 14 i.octets)) = omega arith in
      let none : seconds_of (numbers (take 14 i.octets)) * 1000000 % 1000000 ≡ 0 = omega arith in
      subst (λ (w : ℕ). (i.octets ≡ digits (civil_of (w / 1000000)) ++ 90 ∷ []) × ((eqb (w % 1000000) 0 && ltb w (seconds_to_10000 * 1000000)) ≡ true)) (ok_is (seconds_of (numbers (take 14 i.octets)) * 1000000) v p.1)
      (rw whole t.0, and_from _ _ (eq-eqb _ _ none) (lt-ltb _ _ (omega (arith, t.1))));
  again = λ end v fits.
      let two = both (eqb (v % 1000000) 0) (ltb v (seconds_to_10000 * 1000000)) fits in
      let whole : v % 1000000 ≡ 0 = eqb-true _ _ two.0 in
      let small : v < seconds_to_10000 * 1000000 = ltb-true _ _ two.1 in
      let t = time_again (v / 1000000) (omega arith) in
      let same : v / 1000000 * 1000000 ≡ v = omega arith in
      rw (t.0, t.1, same) refl;
}

empty_no_zulu : (os : List ℕ) → length os ≡ 0 → is_zulu os ≡ false
empty_no_zulu [] none = refl
empty_no_zulu (o ∷ os) none = absurd (omega arith)

-- fewer than fifteen octets are no time
pub short_no_time : (os : List ℕ) → length os < 14 → is_time os ≡ false
unfolding is_time
short_no_time os few =
    let zulu : is_zulu (drop 14 os) ≡ false = empty_no_zulu (drop 14 os) (omega (arith, length-drop 14 os)) in
    rw zulu (and_right (are_digits (take 14 os)) false refl)

-- ---- fourteen digits

-- the seven numbers that they spell
pub fourteen : (ds : List ℕ) (c y m d h i s : ℕ) → length ds ≡ 14 → c ≡ (get_or ds 0 0 - 48) * 10 + (get_or ds 1 0 - 48) → y ≡ (get_or ds 2 0 - 48) * 10 + (get_or ds 3 0 - 48) → m ≡ (get_or ds 4 0 - 48) * 10 + (get_or ds 5 0 - 48) → d ≡ (get_or ds 6 0 - 48) * 10 + (get_or ds 7 0 - 48) → h ≡ (get_or ds 8 0 - 48) * 10 + (get_or ds 9 0 - 48) → i ≡ (get_or ds 10 0 - 48) * 10 + (get_or ds 11 0 - 48) → s ≡ (get_or ds 12 0 - 48) * 10 + (get_or ds 13 0 - 48) → numbers ds ≡ c ∷ y ∷ m ∷ d ∷ h ∷ i ∷ s ∷ []
fourteen [] c y m d h i s sized p q r t u v w = absurd (omega arith)
fourteen (o0 ∷ []) c y m d h i s sized p q r t u v w = absurd (omega arith)
fourteen (o0 ∷ o1 ∷ []) c y m d h i s sized p q r t u v w = absurd (omega arith)
fourteen (o0 ∷ o1 ∷ o2 ∷ []) c y m d h i s sized p q r t u v w = absurd (omega arith)
fourteen (o0 ∷ o1 ∷ o2 ∷ o3 ∷ []) c y m d h i s sized p q r t u v w = absurd (omega arith)
fourteen (o0 ∷ o1 ∷ o2 ∷ o3 ∷ o4 ∷ []) c y m d h i s sized p q r t u v w = absurd (omega arith)
fourteen (o0 ∷ o1 ∷ o2 ∷ o3 ∷ o4 ∷ o5 ∷ []) c y m d h i s sized p q r t u v w = absurd (omega arith)
fourteen (o0 ∷ o1 ∷ o2 ∷ o3 ∷ o4 ∷ o5 ∷ o6 ∷ []) c y m d h i s sized p q r t u v w = absurd (omega arith)
fourteen (o0 ∷ o1 ∷ o2 ∷ o3 ∷ o4 ∷ o5 ∷ o6 ∷ o7 ∷ []) c y m d h i s sized p q r t u v w = absurd (omega arith)
fourteen (o0 ∷ o1 ∷ o2 ∷ o3 ∷ o4 ∷ o5 ∷ o6 ∷ o7 ∷ o8 ∷ []) c y m d h i s sized p q r t u v w = absurd (omega arith)
fourteen (o0 ∷ o1 ∷ o2 ∷ o3 ∷ o4 ∷ o5 ∷ o6 ∷ o7 ∷ o8 ∷ o9 ∷ []) c y m d h i s sized p q r t u v w = absurd (omega arith)
fourteen (o0 ∷ o1 ∷ o2 ∷ o3 ∷ o4 ∷ o5 ∷ o6 ∷ o7 ∷ o8 ∷ o9 ∷ o10 ∷ []) c y m d h i s sized p q r t u v w = absurd (omega arith)
fourteen (o0 ∷ o1 ∷ o2 ∷ o3 ∷ o4 ∷ o5 ∷ o6 ∷ o7 ∷ o8 ∷ o9 ∷ o10 ∷ o11 ∷ []) c y m d h i s sized p q r t u v w = absurd (omega arith)
fourteen (o0 ∷ o1 ∷ o2 ∷ o3 ∷ o4 ∷ o5 ∷ o6 ∷ o7 ∷ o8 ∷ o9 ∷ o10 ∷ o11 ∷ o12 ∷ []) c y m d h i s sized p q r t u v w = absurd (omega arith)
fourteen (o0 ∷ o1 ∷ o2 ∷ o3 ∷ o4 ∷ o5 ∷ o6 ∷ o7 ∷ o8 ∷ o9 ∷ o10 ∷ o11 ∷ o12 ∷ o13 ∷ []) c y m d h i s sized p q r t u v w = rw (p, q, r, t, u, v, w) refl
fourteen (o0 ∷ o1 ∷ o2 ∷ o3 ∷ o4 ∷ o5 ∷ o6 ∷ o7 ∷ o8 ∷ o9 ∷ o10 ∷ o11 ∷ o12 ∷ o13 ∷ o14 ∷ os) c y m d h i s sized p q r t u v w = absurd (omega arith)
