-- Values are read exactly where the grammar has them.
use Rattle.std.proofs.Common.{◌≡◌, ℕ, ◌-◌, ◌<◌, ◌≤◌, ◌^◌, inl, inr, Bool, true, false, cond, ◌==◌, List, [], ◌∷◌, length, Option, Some, None, refl, sym, ◌∙◌, arith, subst, rules}
use Rattle.std.specs.List.{list_all}
use Rattle.std.specs.Fmt.{decimal}
use Rattle.std.proofs.lemmas.Bool.{cases_lt}
use Rattle.std.proofs.lemmas.Bool.Decides.{nat_tests}
use Rattle.std.proofs.lemmas.Str.Parse.{IsNumeralModel, numerals_by_fold, digits_value_short}
use Rattle.std.proofs.lemmas.Fmt.{decimal_digit, decimal-digits_value}
use Rattle.scram_mech.specs.declared.run.Class.{Class}
use Rattle.scram_mech.specs.declared.run.Class.TheVariants.{Nonce}
use Rattle.scram_mech.specs.declared.run.Run.{Run}
use Rattle.scram_mech.specs.declared.digits.Digits.{Digits}
use Rattle.scram_mech.specs.declared.digits.Digits.TheVariants as digits
use Rattle.scram_mech.specs.declared.symbols.Spot.TheVariants as spots
use Rattle.scram_mech.specs.declared.state.State.{State}
use Rattle.scram_mech.specs.declared.state.State.TheVariants as states
use Rattle.scram_mech.specs.Signs.{is_digit}
use Rattle.scram_mech.specs.State.{some, base64, rounds_number, ends}
use Rattle.scram_mech.specs.Run.{has, run_ends}
use Rattle.scram_mech.specs.Digits.{number_behind, number_of, digits_step, digits_end}
use Rattle.scram_mech.specs.Base64.{encoded, decoded}
use Rattle.scram_mech.specs.Grammar.{IsNonce, AreOctets}
use Rattle.scram_mech.proofs.Walks.{walk, walk-cons, walk-nil}
use Rattle.scram_mech.proofs.Sextets.{eq_of}
use Rattle.scram_mech.proofs.SymbolSteps.{st, some_is}
use Rattle.scram_mech.proofs.RunWalks.{run_of, run-taken, digits-step, digits-taken}
use Rattle.scram_mech.proofs.Signs64.{Decodes, decodes, encoded-signs}
use Rattle.scram_mech.proofs.ValueFacts.{symbols_walk, run_walk, digits_walk}
use Rattle.scram_mech.proofs.Pieces.{Takes}
use Rattle.scram_mech.proofs.Written.{AtComma, takes-rounds}
use Rattle.scram_mech.proofs.OneCut.{rounds-again}

-- ---- numbers

own : IsNumeralModel (λ ds. list_all is_digit ds ≡ true) (number_behind 0)
own = numerals_by_fold _ (search rules) number_behind (search rules)

abbrev none_digits : Option Digits
none_digits = None

no_digits : (d : Digits) → none_digits ≡ Some d → ⊥
no_digits d e = cc

zero_last : (xs : List ℕ) (end : Digits) → walk digits_step digits.Zero xs ≡ Some end → length xs ≡ 0
zero_last [] end w = refl
zero_last (x ∷ xs) end w = let m = walk-cons digits_step digits.Zero x xs end w in absurd (no_digits m.0 (digits-step digits.Zero x m.0 m.1).1)

not_zero : (x : ℕ) → (x == 48) ≡ false → x ≡ 48 → ⊥
not_zero x e same = grind (arith, nat_tests)

first_zero : (x : ℕ) (xs : List ℕ) (m end : Digits) (b : Bool) → (x == 48) ≡ b → cond b (Some digits.Zero) (Some (digits.More 9)) ≡ Some m → walk digits_step m xs ≡ Some end → x ≡ 48 → length (x ∷ xs) ≡ 1
first_zero x xs m end true e f w same = let rest = zero_last xs end (rw (some_is digits.Zero m f) w) in omega arith
first_zero x xs m end false e f w same = absurd (not_zero x e same)

empty_number : (end : Digits) → digits.First ≡ end → digits_end end ≡ true → ⊥
empty_number end e t = let f : digits_end digits.First ≡ true = subst (λ (d : Digits). digits_end d ≡ true) (sym e) t in cc

-- a number that is read is the decimal one of its value
decimal-read : (ds : List ℕ) (end : Digits) → walk digits_step digits.First ds ≡ Some end → digits_end end ≡ true → number_of ds < 2 ^ 64 → decimal (number_of ds) ≡ ds
unfolding number_of
decimal-read [] end w t small = absurd (empty_number end (walk-nil digits_step digits.First end w) t)
decimal-read (x ∷ xs) end w t small =
    let m = walk-cons digits_step digits.First x xs end w in
    let each = (digits-taken digits.First (x ∷ xs) end w).0 in
    decimal-digits_value own (x ∷ xs) each (omega arith) (λ same. first_zero x xs m.0 end (x == 48) refl (digits-step digits.First x m.0 m.1).1 m.2 same) small

short : (ds : List ℕ) → list_all is_digit ds ≡ true → length ds ≤ 10 → number_of ds < 10 ^ 10
unfolding number_of
short ds each few = digits_value_short own ds 10 each few

in_word : (n : ℕ) → n < 10 ^ 10 → n < 2 ^ 64
in_word n h = omega arith

pub rounds-found : (value rest : List ℕ) → Takes rounds_number value rest → (number_of value < 10 ^ 10) × (decimal (number_of value) ≡ value)
rounds-found value rest t =
    let w = digits_walk digits.First value t.last t.passed in
    let d = digits-taken digits.First value w.0 w.1 in
    let few = short value d.0 d.1 in
    (few, decimal-read value w.0 w.1 (subst (λ (s : State). ends s ≡ true) (sym w.2) t.ended) (in_word (number_of value) few))

zero_text : decimal 0 ≡ 48 ∷ []
zero_text = decimal_digit 0 (omega arith)

takes_zero : Takes rounds_number (48 ∷ []) []
unfolding walk
takes_zero = record { last = states.Digits digits.Zero; passed = refl; ended = refl; stops = tt }

any_number : (n : ℕ) → n < 10 ^ 10 → Takes rounds_number (decimal n) []
any_number n few = elim (cases_lt 0 n) [
  | inl some ↦ takes-rounds n some few
  | inr none ↦ let e : n ≡ 0 = omega arith in rw (e, zero_text) takes_zero
]

pub takes-number : (n : ℕ) (rest : List ℕ) → n < 10 ^ 10 → AtComma rest → Takes rounds_number (decimal n) rest
takes-number n rest few at = rounds-again (decimal n) [] rest (any_number n few) at

-- ---- base64

base64-decodes : (least most : ℕ) (value rest : List ℕ) → Takes (base64 least most) value rest → Decodes least most value
base64-decodes least most value rest t =
    let w = symbols_walk (st spots.First least most) value t.last t.passed in
    decodes least most value w.0 w.1 (subst (λ (s : State). ends s ≡ true) (sym w.2) t.ended)

pub octets-found : (least most : ℕ) (value rest : List ℕ) → Takes (base64 least most) value rest → AreOctets least most (decoded value) × (encoded (decoded value) ≡ value)
octets-found least most value rest t =
    let d = base64-decodes least most value rest t in
    (record { each = d.bytes; enough = d.enough; few = d.few }, encoded-signs (decoded value) ∙ sym d.spelled)

-- ---- octets of a class

pub record Classed (class : Class) (most : ℕ) (octets : List ℕ) : Type 0 where
  pub each : list_all (has class) octets ≡ true
  pub some : 1 ≤ length octets
  pub few : length octets ≤ most

pub run-found : (class : Class) (most : ℕ) (value rest : List ℕ) → Takes (some class most) value rest → Classed class most value
run-found class most value rest t =
    let w = run_walk (run_of class 1 most) value t.last t.passed in
    let r = run-taken class 1 most value w.0 w.1 in
    let ended : run_ends w.0 ≡ true = subst (λ (s : State). ends s ≡ true) (sym w.2) t.ended in
    let none : (1 - length value) ≡ 0 = eq_of (1 - length value) 0 (subst (λ (q : Run). run_ends q ≡ true) (sym r.next) ended) in
    record { each = r.each; some = omega arith; few = r.few }

pub nonce-found : (most : ℕ) (value rest : List ℕ) → Takes (some Nonce most) value rest → IsNonce most value
nonce-found most value rest t = let r = run-found Nonce most value rest t in record { each = r.each; some = r.some; few = r.few }
