-- Values of each kind are walked whole.
use Rattle.std.proofs.Common.{◌≡◌, ℕ, suc, ◌-◌, ◌≤◌, Bool, true, false, cond, ◌==◌, List, [], ◌∷◌, ◌++◌, length, Some, refl, ◌∙◌, arith}
use Rattle.std.specs.List.{list_all}
use Rattle.std.proofs.lemmas.Bool.Decides.{nat_tests}
use Rattle.scram_mech.specs.declared.run.Class.{Class}
use Rattle.scram_mech.specs.declared.run.Run.{Run}
use Rattle.scram_mech.specs.declared.name.Escape.TheVariants.{Outside}
use Rattle.scram_mech.specs.declared.name.Name.{Name}
use Rattle.scram_mech.specs.Signs.{is_printable}
use Rattle.scram_mech.specs.Run.{has, run_step}
use Rattle.scram_mech.specs.Name.{escape_of, escaped, name_step}
use Rattle.scram_mech.proofs.Walks.{walk, walk-step}
use Rattle.scram_mech.proofs.Sextets.{and_true}
use Rattle.scram_mech.proofs.RunWalks.{run_of}

-- ---- runs

run_on : (class : Class) (need left x : ℕ) → has class x ≡ true → 1 ≤ left → run_step (run_of class need left) x ≡ Some (run_of class (need - 1) (left - 1))
run_on class need left x fits room = let some : (left == 0) ≡ false = grind (arith, nat_tests) in rw (some, fits) refl

pub record Walked (class : Class) (need left : ℕ) (octets : List ℕ) : Type 0 where
  pub last : Run
  pub passed : walk run_step (run_of class need left) octets ≡ Some last
  pub kind : last.class ≡ class
  pub need_left : last.need ≡ need - length octets

pub run-walks : (class : Class) (need left : ℕ) (octets : List ℕ) → list_all (has class) octets ≡ true → length octets ≤ left → Walked class need left octets
unfolding walk
run-walks class need left [] each few = record { last = run_of class need left; passed = refl; kind = refl; need_left = omega arith }
run-walks class need left (x ∷ xs) each few =
    let t = and_true (has class x) (list_all (has class) xs) each in
    let r = run-walks class (need - 1) (left - 1) xs t.1 (omega arith) in
    record {
      last = r.last;
      passed = walk-step run_step (run_of class need left) (run_of class (need - 1) (left - 1)) x xs (run_on class need left x t.0 (omega arith)) ∙ r.passed;
      kind = r.kind;
      need_left = omega (arith, r.need_left);
    }

-- ---- names

abbrev pub name_of : ℕ → ℕ → Name
name_of need left = record { escape = Outside; need = need; left = left }

plain_step : (need left x : ℕ) → is_printable x ≡ true → (x == 44) ≡ false → (x == 61) ≡ false → 1 ≤ left → name_step (name_of need left) x ≡ Some (name_of (need - 1) (left - 1))
plain_step need left x fits comma equals room =
    let some : (left == 0) ≡ false = grind (arith, nat_tests) in
    rw (equals, fits, comma, some) refl

by_equals : (need left x : ℕ) (rest : List ℕ) → is_printable x ≡ true → 1 ≤ left → (x == 44) ≡ false → (b : Bool) → (x == 61) ≡ b → walk name_step (name_of need left) (cond b (61 ∷ 51 ∷ 68 ∷ []) (x ∷ []) ++ rest) ≡ walk name_step (name_of (need - 1) (left - 1)) rest
unfolding walk
by_equals need left x rest fits room e true f = let some : (left == 0) ≡ false = grind (arith, nat_tests) in rw some (rw some (rw some refl))
by_equals need left x rest fits room e false f = walk-step name_step (name_of need left) (name_of (need - 1) (left - 1)) x rest (plain_step need left x fits e f room)

by_comma : (need left x : ℕ) (rest : List ℕ) → is_printable x ≡ true → 1 ≤ left → (b : Bool) → (x == 44) ≡ b → walk name_step (name_of need left) (cond b (61 ∷ 50 ∷ 67 ∷ []) (cond (x == 61) (61 ∷ 51 ∷ 68 ∷ []) (x ∷ [])) ++ rest) ≡ walk name_step (name_of (need - 1) (left - 1)) rest
unfolding walk
by_comma need left x rest fits room true e = let some : (left == 0) ≡ false = grind (arith, nat_tests) in rw some (rw some (rw some refl))
by_comma need left x rest fits room false e = by_equals need left x rest fits room e (x == 61) refl

escape_walk : (need left x : ℕ) (rest : List ℕ) → is_printable x ≡ true → 1 ≤ left → walk name_step (name_of need left) (escape_of x ++ rest) ≡ walk name_step (name_of (need - 1) (left - 1)) rest
unfolding walk
escape_walk need left x rest fits room = by_comma need left x rest fits room (x == 44) refl

pub name-walks : (need left : ℕ) (name : List ℕ) → list_all is_printable name ≡ true → length name ≤ left → walk name_step (name_of need left) (escaped name) ≡ Some (name_of (need - length name) (left - length name))
unfolding walk escaped
name-walks need left [] each few = let a : need - 0 ≡ need = omega arith in let b : left - 0 ≡ left = omega arith in rw (a, b) refl
name-walks need left (x ∷ xs) each few =
    let t = and_true (is_printable x) (list_all is_printable xs) each in
    let a : need - 1 - length xs ≡ need - suc (length xs) = omega arith in
    let b : left - 1 - length xs ≡ left - suc (length xs) = omega arith in
    escape_walk need left x (escaped xs) t.0 (omega arith) ∙ (name-walks (need - 1) (left - 1) xs t.1 (omega arith) ∙ rw (a, b) refl)
