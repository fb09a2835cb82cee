-- What the values are that were read.
use Rattle.std.proofs.Common.{◌≡◌, ℕ, ◌≤◌, ◌-◌, true, List, [], ◌∷◌, length, Some, Result, Ok, refl, sym, ap, ◌∙◌, arith, subst, length-append}
use Rattle.scram_mech.specs.declared.run.Class.{Class}
use Rattle.scram_mech.specs.declared.run.Class.TheVariants.{LineName}
use Rattle.scram_mech.specs.declared.run.Run.{Run}
use Rattle.scram_mech.specs.declared.digits.Digits.{Digits}
use Rattle.scram_mech.specs.declared.digits.Digits.TheVariants.{First}
use Rattle.scram_mech.specs.declared.symbols.Spot.TheVariants as spots
use Rattle.scram_mech.specs.declared.symbols.Symbols.{Symbols}
use Rattle.scram_mech.specs.declared.refusal.Stuck.{Stuck}
use Rattle.scram_mech.specs.declared.state.State.{State}
use Rattle.scram_mech.specs.declared.state.State.TheVariants as states
use Rattle.scram_mech.specs.State.{some, base64, rounds_number, step, ends}
use Rattle.scram_mech.specs.Values.{value_at}
use Rattle.scram_mech.specs.Reading.{end_at}
use Rattle.scram_mech.specs.Run.{run_step, run_ends, IsLineName}
use Rattle.scram_mech.specs.Digits.{digits_step, AreDigits}
use Rattle.scram_mech.specs.Symbols.{symbols_step}
use Rattle.scram_mech.specs.Base64.{decoded, IsBase64, InRange}
use Rattle.scram_mech.proofs.Walks.{walk, walk-map, map_some, value-found}
use Rattle.scram_mech.proofs.Sextets.{eq_of}
use Rattle.scram_mech.proofs.SymbolSteps.{st}
use Rattle.scram_mech.proofs.Signs64.{Decodes, decodes, encoded-signs}
use Rattle.scram_mech.proofs.RunWalks.{run_of, RunTaken, run-taken, digits-taken}

-- the walk inside the kind of value that is read
pub symbols_walk : (s : Symbols) (octets : List ℕ) (last : State) → walk step (states.Symbols s) octets ≡ Some last → (e : Symbols) × (walk symbols_step s octets ≡ Some e) × (states.Symbols e ≡ last)
symbols_walk s octets last w = map_some states.Symbols (walk symbols_step s octets) last (sym (walk-map states.Symbols symbols_step step (λ t x. refl) s octets) ∙ w)

pub run_walk : (s : Run) (octets : List ℕ) (last : State) → walk step (states.Run s) octets ≡ Some last → (e : Run) × (walk run_step s octets ≡ Some e) × (states.Run e ≡ last)
run_walk s octets last w = map_some states.Run (walk run_step s octets) last (sym (walk-map states.Run run_step step (λ t x. refl) s octets) ∙ w)

pub digits_walk : (s : Digits) (octets : List ℕ) (last : State) → walk step (states.Digits s) octets ≡ Some last → (e : Digits) × (walk digits_step s octets ≡ Some e) × (states.Digits e ≡ last)
digits_walk s octets last w = map_some states.Digits (walk digits_step s octets) last (sym (walk-map states.Digits digits_step step (λ t x. refl) s octets) ∙ w)

abbrev read_by : State → List ℕ → Result (List ℕ × List ℕ) Stuck
read_by s octets = value_at s octets

abbrev answered : List ℕ → List ℕ → Result (List ℕ × List ℕ) Stuck
answered value rest = Ok (value, rest)

pub base64-decodes : (least most : ℕ) (octets value rest : List ℕ) → value_at (base64 least most) octets ≡ Ok (value, rest) → Decodes least most value
base64-decodes least most octets value rest e =
    let f = value-found (base64 least most) octets value rest e in
    let w = symbols_walk (st spots.First least most) value f.last f.passed in
    decodes least most value w.0 w.1 (subst (λ (s : State). ends s ≡ true) (sym w.2) f.ended)

pub base64-spelled : (least most : ℕ) (octets value rest : List ℕ) → value_at (base64 least most) octets ≡ Ok (value, rest) → IsBase64 (decoded value) value
base64-spelled least most octets value rest e =
    let d = base64-decodes least most octets value rest e in
    record { same = d.spelled ∙ sym (encoded-signs (decoded value)); octets = d.bytes }

pub base64-range : (least most : ℕ) (octets value rest : List ℕ) → value_at (base64 least most) octets ≡ Ok (value, rest) → InRange least most (decoded value)
base64-range least most octets value rest e =
    let d = base64-decodes least most octets value rest e in record { enough = d.enough; few = d.few }

pub number-digits : (octets value rest : List ℕ) → value_at rounds_number octets ≡ Ok (value, rest) → AreDigits value
number-digits octets value rest e =
    let f = value-found rounds_number octets value rest e in
    let w = digits_walk First value f.last f.passed in
    let t = digits-taken First value w.0 w.1 in
    record { each = t.0; few = t.1 }

-- octets of a class, one at least
pub run-found : (class : Class) (most : ℕ) (octets value rest : List ℕ) → value_at (some class most) octets ≡ Ok (value, rest) → (e : Run) × RunTaken class 1 most value e × (1 ≤ length value)
run-found class most octets value rest e =
    let f = value-found (some class most) octets value rest e in
    let w = run_walk (run_of class 1 most) value f.last f.passed in
    let t = run-taken class 1 most value w.0 w.1 in
    let ended : run_ends w.0 ≡ true = subst (λ (s : State). ends s ≡ true) (sym w.2) f.ended in
    let none : (1 - length value) ≡ 0 = eq_of (1 - length value) 0 (subst (λ (r : Run). run_ends r ≡ true) (sym t.next) ended) in
    (w.0, t, omega arith)

pub line-named : (octets value rest : List ℕ) → value_at (some LineName 255) octets ≡ Ok (value, rest) → IsLineName value
line-named octets value rest e =
    let r = run-found LineName 255 octets value rest e in record { each = r.1.each; some = r.2; few = r.1.few }

-- ---- by the state that a reader was given

pub at_start : (start given : State) (octets value rest : List ℕ) → given ≡ start → value_at given octets ≡ Ok (value, rest) → value_at start octets ≡ Ok (value, rest)
at_start start given octets value rest same e = subst (λ (s : State). read_by s octets ≡ answered value rest) same e

-- a whole of octets of a class has no more than there may be
pub whole-few : (class : Class) (most : ℕ) (octets value rest : List ℕ) → value_at (some class most) octets ≡ Ok (value, rest) → length rest ≡ 0 → length octets ≤ most
whole-few class most octets value rest e none =
    let r = run-found class most octets value rest e in
    let f = value-found (some class most) octets value rest e in
    omega (arith, ap length f.same, length-append value rest, r.1.few)

abbrev ended_with : Unit {0} → List ℕ → Result (Unit {0} × List ℕ) Stuck
ended_with u left = Ok (u, left)

pub nothing_left : (rest left : List ℕ) (u : Unit {0}) → end_at rest ≡ ended_with u left → length rest ≡ 0
nothing_left [] left u e = refl
nothing_left (x ∷ xs) left u e = absurd cc
