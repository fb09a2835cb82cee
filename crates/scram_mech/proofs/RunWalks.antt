-- Runs of octets of one class, and numbers, as they are read.
use Rattle.std.proofs.Common.{◌≡◌, ℕ, zero, suc, ◌+◌, ◌-◌, ◌<◌, ◌≤◌, Bool, true, false, not, cond, ◌||◌, ◌==◌, List, [], ◌∷◌, length, Option, Some, None, refl, sym, ◌∙◌, arith, subst}
use Rattle.std.specs.List.{list_all}
use Rattle.std.specs.Str.{IsAscii, IsUtf8}
use Rattle.std.proofs.lemmas.Str.{IsUtf8-from_ascii}
use Rattle.std.proofs.lemmas.Bool.Decides.{nat_tests}
use Rattle.scram_mech.specs.declared.run.Class.{Class}
use Rattle.scram_mech.specs.declared.run.Run.{Run}
use Rattle.scram_mech.specs.declared.digits.Digits.{Digits}
use Rattle.scram_mech.specs.declared.digits.Digits.TheVariants.{First, Zero, More}
use Rattle.scram_mech.specs.Signs.{is_digit, is_printable, is_line_name}
use Rattle.scram_mech.specs.Run.{has, run_step}
use Rattle.scram_mech.specs.Digits.{digit_step, digits_step}
use Rattle.scram_mech.proofs.Walks.{walk, walk-cons, walk-nil}
use Rattle.scram_mech.proofs.Sextets.{and_true}
use Rattle.scram_mech.proofs.SymbolSteps.{some_is}

abbrev pub run_of : Class → ℕ → ℕ → Run
run_of class need left = record { class = class; need = need; left = left }

pub record RunStep (class : Class) (need left x : ℕ) (y : Run) : Type 0 where
  pub fits : has class x ≡ true
  pub room : 1 ≤ left
  pub next : run_of class (need - 1) (left - 1) ≡ y

run_step_by : (class : Class) (need left x : ℕ) (y : Run) (none fits : Bool) → (left == 0) ≡ none → has class x ≡ fits → cond (none || not fits) None (Some (run_of class (need - 1) (left - 1))) ≡ Some y → RunStep class need left x y
run_step_by class need left x y true fits a b e = absurd cc
run_step_by class need left x y false false a b e = absurd cc
run_step_by class need left x y false true a b e = record { fits = b; room = grind (arith, nat_tests); next = some_is (run_of class (need - 1) (left - 1)) y e }

pub run-step : (class : Class) (need left x : ℕ) (y : Run) → run_step (run_of class need left) x ≡ Some y → RunStep class need left x y
run-step class need left x y e = run_step_by class need left x y (left == 0) (has class x) refl refl e

-- a run was read
pub record RunTaken (class : Class) (need left : ℕ) (octets : List ℕ) (end : Run) : Type 0 where
  pub each : list_all (has class) octets ≡ true
  pub few : length octets ≤ left
  pub next : run_of class (need - length octets) (left - length octets) ≡ end

all_more : (p : ℕ → Bool) (x : ℕ) (xs : List ℕ) → p x ≡ true → list_all p xs ≡ true → list_all p (x ∷ xs) ≡ true
all_more p x xs a b = rw (a, b) refl

no_less : (a : ℕ) → a - 0 ≡ a
no_less a = omega arith

less_one : (a n : ℕ) → a - 1 - n ≡ a - suc n
less_one a n = omega arith

same_run : (class : Class) {a b c d : ℕ} → a ≡ b → c ≡ d → run_of class b d ≡ run_of class a c
same_run class e f = λ i. run_of class (sym e i) (sym f i)

pub run-taken : (class : Class) (need left : ℕ) (octets : List ℕ) (end : Run) → walk run_step (run_of class need left) octets ≡ Some end → RunTaken class need left octets end
run-taken class need left [] end w =
    record { each = refl; few = omega arith; next = rw (no_less need, no_less left) (walk-nil run_step (run_of class need left) end w) }
run-taken class need left (x ∷ xs) end w =
    let m = walk-cons run_step (run_of class need left) x xs end w in
    let s = run-step class need left x m.0 m.1 in
    let r = run-taken class (need - 1) (left - 1) xs end (rw s.next m.2) in
    record {
      each = all_more (has class) x xs s.fits r.each;
      few = omega (arith, s.room, r.few);
      next = same_run class (less_one need (length xs)) (less_one left (length xs)) ∙ r.next;
    }

-- ---- numbers

digit_fits : (due : Digits) (x : ℕ) (y : Digits) (b : Bool) → is_digit x ≡ b → cond b (digit_step due x) None ≡ Some y → (is_digit x ≡ true) × (digit_step due x ≡ Some y)
digit_fits due x y true same e = (same, e)
digit_fits due x y false same e = absurd cc

pub digits-step : (due : Digits) (x : ℕ) (y : Digits) → digits_step due x ≡ Some y → (is_digit x ≡ true) × (digit_step due x ≡ Some y)
digits-step due x y e = digit_fits due x y (is_digit x) refl e

-- how many digits may come
abbrev pub digits_left : Digits → ℕ
digits_left First = 10
digits_left Zero = 0
digits_left (More left) = left

abbrev no_digits : Option Digits
no_digits = None

none_digit : (y : Digits) → no_digits ≡ Some y → ⊥
none_digit y e = cc

first_digit : (x : ℕ) (y : Digits) (b : Bool) → cond b (Some Zero) (Some (More 9)) ≡ Some y → digits_left y ≤ 9
first_digit x y true e = subst (λ (d : Digits). digits_left d ≤ 9) (some_is Zero y e) (omega arith)
first_digit x y false e = subst (λ (d : Digits). digits_left d ≤ 9) (some_is (More 9) y e) (omega arith)

more_digit : (left : ℕ) (y : Digits) (b : Bool) → (left == 0) ≡ b → cond b no_digits (Some (More (left - 1))) ≡ Some y → digits_left y + 1 ≤ left
more_digit left y true same e = absurd (none_digit y e)
more_digit left y false same e = subst (λ (d : Digits). digits_left d + 1 ≤ left) (some_is (More (left - 1)) y e) (grind (arith, nat_tests))

digit_less : (due : Digits) (x : ℕ) (y : Digits) → digit_step due x ≡ Some y → digits_left y + 1 ≤ digits_left due
digit_less First x y e = omega (arith, first_digit x y (x == 48) e)
digit_less Zero x y e = absurd (none_digit y e)
digit_less (More left) x y e = more_digit left y (left == 0) refl e

pub digits-taken : (due : Digits) (octets : List ℕ) (end : Digits) → walk digits_step due octets ≡ Some end → (list_all is_digit octets ≡ true) × (length octets ≤ digits_left due)
digits-taken due [] end w = (refl, omega arith)
digits-taken due (x ∷ xs) end w =
    let m = walk-cons digits_step due x xs end w in
    let s = digits-step due x m.0 m.1 in
    let r = digits-taken m.0 xs end m.2 in
    (all_more is_digit x xs s.0 r.0, omega (arith, r.1, digit_less due x m.0 s.1))

-- ---- printable octets are a text

all_first : (p : ℕ → Bool) (x : ℕ) (xs : List ℕ) → list_all p (x ∷ xs) ≡ true → (p x ≡ true) × (list_all p xs ≡ true)
all_first p x xs e = and_true (p x) (list_all p xs) e

printable_low : (x : ℕ) → is_printable x ≡ true → x < 128
printable_low x e = grind (arith, nat_tests)

line_low : (x : ℕ) → is_line_name x ≡ true → x < 128
line_low x e = printable_low x (and_true (is_printable x) (not (x == 58)) e).0

pub all-ascii : (p : ℕ → Bool) → ((x : ℕ) → p x ≡ true → x < 128) → (octets : List ℕ) → list_all p octets ≡ true → IsAscii octets
all-ascii p low [] e i = omega arith
all-ascii p low (x ∷ xs) e zero = low x (all_first p x xs e).0
all-ascii p low (x ∷ xs) e (suc i) = all-ascii p low xs (all_first p x xs e).1 i

pub line-text : (octets : List ℕ) → list_all is_line_name octets ≡ true → IsUtf8 octets
line-text octets e = IsUtf8-from_ascii octets (all-ascii is_line_name line_low octets e)
