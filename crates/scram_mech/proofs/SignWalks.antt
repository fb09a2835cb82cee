-- The signs of octets, and decimal numbers, are walked whole.
use Rattle.std.proofs.Common.{◌≡◌, ℕ, suc, ◌+◌, ◌-◌, ◌*◌, ◌/◌, ◌%◌, ◌^◌, ◌<◌, ◌≤◌, Bool, true, false, ◌&&◌, ◌||◌, ◌==◌, List, [], ◌∷◌, length, get_or, Some, nat_lt, nat_le, refl, ◌∙◌, arith, rules}
use Rattle.std.specs.List.{list_all}
use Rattle.std.specs.Fmt.{decimal}
use Rattle.std.proofs.lemmas.Bool.Decides.{nat_tests}
use Rattle.std.proofs.lemmas.Str.Parse.{IsNumeralModel, numerals_by_fold}
use Rattle.std.proofs.lemmas.Fmt.{digits_decimal, digits_value-decimal, first_decimal, length-decimal-le}
use Rattle.base64.specs.GeneralPurpose.{IsBytes}
use Rattle.scram_mech.specs.declared.digits.Digits.{Digits}
use Rattle.scram_mech.specs.declared.digits.Digits.TheVariants as digits
use Rattle.scram_mech.specs.declared.symbols.Spot.TheVariants.{First, Second, Third, Fourth, Padding, Full}
use Rattle.scram_mech.specs.declared.symbols.Symbols.{Symbols}
use Rattle.scram_mech.specs.Signs.{is_digit}
use Rattle.scram_mech.specs.Digits.{number_behind, number_of, digits_step, digits_end}
use Rattle.scram_mech.specs.Symbols.{sextet, symbols_step, symbols_end}
use Rattle.scram_mech.proofs.Walks.{walk, walk-step}
use Rattle.scram_mech.proofs.Sextets.{sign, sextet-of_sign, not_equals, and_true}
use Rattle.scram_mech.proofs.SymbolSteps.{st}
use Rattle.scram_mech.proofs.Signs64.{signs}

pub sign_step : (s : Symbols) (v : ℕ) → v < 64 → symbols_step s (sign v) ≡ sextet s v
unfolding symbols_step
sign_step s v lt = let e = sextet-of_sign v lt in rw (not_equals (sign v) v e, e) refl

-- the signs were walked to an end
pub record Walked (need left : ℕ) (octets : List ℕ) : Type 0 where
  pub last : Symbols
  pub passed : walk symbols_step (st First need left) octets ≡ Some last
  pub ended : symbols_end last ≡ true

pub first_on : (need left v : ℕ) → v < 64 → 1 ≤ left → symbols_step (st First need left) (sign v) ≡ Some (st Second need left)
first_on need left v lt room = let fits : nat_le 1 left ≡ true = grind (arith, nat_tests) in sign_step (st First need left) v lt ∙ rw fits refl

pub second_on : (need left v : ℕ) → v < 64 → 2 ≤ left → symbols_step (st Second need left) (sign v) ≡ Some (st (Third v) need left)
second_on need left v lt room = let fits : nat_le 2 left ≡ true = grind (arith, nat_tests) in sign_step (st Second need left) v lt ∙ rw fits refl

or_right : (b : Bool) → (b || true) ≡ true
or_right true = refl
or_right false = refl

pub second_last : (need left v : ℕ) → v < 64 → v % 16 ≡ 0 → need ≤ 1 → symbols_step (st Second need left) (sign v) ≡ Some (st (Third v) need left)
second_last need left v lt whole enough =
    let fits : nat_le need 1 ≡ true = grind (arith, nat_tests) in
    sign_step (st Second need left) v lt ∙ rw (whole, fits, or_right (nat_le 2 left)) refl

pub third_on : (before need left v : ℕ) → v < 64 → 3 ≤ left → symbols_step (st (Third before) need left) (sign v) ≡ Some (st (Fourth v) need left)
third_on before need left v lt room = let fits : nat_le 3 left ≡ true = grind (arith, nat_tests) in sign_step (st (Third before) need left) v lt ∙ rw fits refl

pub third_last : (before need left v : ℕ) → v < 64 → v % 4 ≡ 0 → need ≤ 2 → 2 ≤ left → symbols_step (st (Third before) need left) (sign v) ≡ Some (st (Fourth v) need left)
third_last before need left v lt whole enough room =
    let fits : nat_le need 2 ≡ true = grind (arith, nat_tests) in
    let some : (nat_le 3 left || ((left == 2) && true)) ≡ true = grind (arith, nat_tests) in
    sign_step (st (Third before) need left) v lt ∙ rw (whole, fits, some) refl

pub fourth_on : (before need left v : ℕ) → v < 64 → 3 ≤ left → symbols_step (st (Fourth before) need left) (sign v) ≡ Some (st First (need - 3) (left - 3))
fourth_on before need left v lt room = let fits : nat_lt left 3 ≡ false = grind (arith, nat_tests) in sign_step (st (Fourth before) need left) v lt ∙ rw fits refl

pub third_pad : (bits need left : ℕ) → bits % 16 ≡ 0 → need ≤ 1 → symbols_step (st (Third bits) need left) 61 ≡ Some (st Padding need left)
unfolding symbols_step
third_pad bits need left whole enough = let fits : nat_le need 1 ≡ true = grind (arith, nat_tests) in rw (whole, fits) refl

pub fourth_pad : (bits need left : ℕ) → bits % 4 ≡ 0 → need ≤ 2 → symbols_step (st (Fourth bits) need left) 61 ≡ Some (st Full need left)
unfolding symbols_step
fourth_pad bits need left whole enough = let fits : nat_le need 2 ≡ true = grind (arith, nat_tests) in rw (whole, fits) refl

pub last_pad : (need left : ℕ) → symbols_step (st Padding need left) 61 ≡ Some (st Full need left)
unfolding symbols_step
last_pad need left = refl

pub on : (s m : Symbols) (x : ℕ) (xs : List ℕ) → symbols_step s x ≡ Some m → walk symbols_step s (x ∷ xs) ≡ walk symbols_step m xs
on s m x xs e = walk-step symbols_step s m x xs e

pub signs-walk : (need left : ℕ) (octets : List ℕ) → IsBytes octets → need ≤ length octets → length octets ≤ left → Walked need left (signs octets)
unfolding walk signs
signs-walk need left [] bytes enough few =
    let none : (need == 0) ≡ true = grind (arith, nat_tests) in
    record { last = st First need left; passed = refl; ended = none }
signs-walk need left (a ∷ []) bytes enough few =
    let la : a < 256 = bytes 0 in
    record {
      last = st Full need left;
      passed =
          on (st First need left) (st Second need left) (sign (a / 4)) (sign (a % 4 * 16) ∷ 61 ∷ 61 ∷ []) (first_on need left (a / 4) (omega arith) few)
          ∙ (on (st Second need left) (st (Third (a % 4 * 16)) need left) (sign (a % 4 * 16)) (61 ∷ 61 ∷ []) (second_last need left (a % 4 * 16) (omega arith) (omega arith) enough)
          ∙ (on (st (Third (a % 4 * 16)) need left) (st Padding need left) 61 (61 ∷ []) (third_pad (a % 4 * 16) need left (omega arith) enough)
          ∙ on (st Padding need left) (st Full need left) 61 [] (last_pad need left)));
      ended = refl;
    }
signs-walk need left (a ∷ b ∷ []) bytes enough few =
    let la : a < 256 = bytes 0 in
    let lb : b < 256 = bytes 1 in
    let v = a % 4 * 16 + b / 16 in
    let w = b % 16 * 4 in
    record {
      last = st Full need left;
      passed =
          on (st First need left) (st Second need left) (sign (a / 4)) (sign v ∷ sign w ∷ 61 ∷ []) (first_on need left (a / 4) (omega arith) (omega arith))
          ∙ (on (st Second need left) (st (Third v) need left) (sign v) (sign w ∷ 61 ∷ []) (second_on need left v (omega arith) few)
          ∙ (on (st (Third v) need left) (st (Fourth w) need left) (sign w) (61 ∷ []) (third_last v need left w (omega arith) (omega arith) enough few)
          ∙ on (st (Fourth w) need left) (st Full need left) 61 [] (fourth_pad w need left (omega arith) enough)));
      ended = refl;
    }
signs-walk need left (a ∷ b ∷ c ∷ octets) bytes enough few =
    let la : a < 256 = bytes 0 in
    let lb : b < 256 = bytes 1 in
    let lc : c < 256 = bytes 2 in
    let v = a % 4 * 16 + b / 16 in
    let w = b % 16 * 4 + c / 64 in
    let others = signs-walk (need - 3) (left - 3) octets (λ i. bytes (suc (suc (suc i)))) (omega arith) (omega arith) in
    record {
      last = others.last;
      passed =
          on (st First need left) (st Second need left) (sign (a / 4)) (sign v ∷ sign w ∷ sign (c % 64) ∷ signs octets) (first_on need left (a / 4) (omega arith) (omega arith))
          ∙ (on (st Second need left) (st (Third v) need left) (sign v) (sign w ∷ sign (c % 64) ∷ signs octets) (second_on need left v (omega arith) (omega arith))
          ∙ (on (st (Third v) need left) (st (Fourth w) need left) (sign w) (sign (c % 64) ∷ signs octets) (third_on v need left w (omega arith) (omega arith))
          ∙ (on (st (Fourth w) need left) (st First (need - 3) (left - 3)) (sign (c % 64)) (signs octets) (fourth_on w need left (c % 64) (omega arith) (omega arith))
          ∙ others.passed)));
      ended = others.ended;
    }

-- ---- numbers

own : IsNumeralModel (λ ds. list_all is_digit ds ≡ true) (number_behind 0)
own = numerals_by_fold _ (search rules) number_behind (search rules)

pub decimal-digits : (n : ℕ) → n < 2 ^ 64 → list_all is_digit (decimal n) ≡ true
decimal-digits n small = digits_decimal own n small

pub number-decimal : (n : ℕ) → n < 2 ^ 64 → number_of (decimal n) ≡ n
unfolding number_of
number-decimal n small = digits_value-decimal own n small

digit_on : (left d : ℕ) → is_digit d ≡ true → 1 ≤ left → digits_step (digits.More left) d ≡ Some (digits.More (left - 1))
digit_on left d fits room = let some : (left == 0) ≡ false = grind (arith, nat_tests) in rw (fits, some) refl

first_digit_on : (d : ℕ) → is_digit d ≡ true → 48 < d → digits_step digits.First d ≡ Some (digits.More 9)
first_digit_on d fits low = let other : (d == 48) ≡ false = grind (arith, nat_tests) in rw (fits, other) refl

more_walk : (left : ℕ) (ds : List ℕ) → list_all is_digit ds ≡ true → length ds ≤ left → (last : Digits) × (walk digits_step (digits.More left) ds ≡ Some last) × (digits_end last ≡ true)
unfolding walk
more_walk left [] each few = (digits.More left, refl, refl)
more_walk left (d ∷ ds) each few =
    let t = and_true (is_digit d) (list_all is_digit ds) each in
    let r = more_walk (left - 1) ds t.1 (omega arith) in
    (r.0, walk-step digits_step (digits.More left) (digits.More (left - 1)) d ds (digit_on left d t.0 (omega arith)) ∙ r.1, r.2)

-- digits that don't begin with 0, at most ten
pub digits-walk : (ds : List ℕ) → list_all is_digit ds ≡ true → length ds ≤ 10 → 48 < get_or ds 0 0 → (last : Digits) × (walk digits_step digits.First ds ≡ Some last) × (digits_end last ≡ true)
unfolding walk
digits-walk [] each few first = absurd (omega arith)
digits-walk (d ∷ ds) each few first =
    let t = and_true (is_digit d) (list_all is_digit ds) each in
    let r = more_walk 9 ds t.1 (omega arith) in
    (r.0, walk-step digits_step digits.First (digits.More 9) d ds (first_digit_on d t.0 first) ∙ r.1, r.2)

pub decimal-walk : (n : ℕ) → 0 < n → n < 10 ^ 10 → (last : Digits) × (walk digits_step digits.First (decimal n) ≡ Some last) × (digits_end last ≡ true)
decimal-walk n some few =
    digits-walk (decimal n) (decimal-digits n (omega arith)) (length-decimal-le 10 n (omega arith) few (omega arith)) (first_decimal n some (omega arith))
