-- How many contexts live is how many are complete and how many negotiate.
use Rattle.std.proofs.Common.{◌≡◌, ℕ, ◌+◌, ◌≤◌, true, false, List, [], ◌∷◌, length, None, refl, sym, ◌∙◌, ap, inl, inr, arith, ◌⊎◌, length-append}
use Rattle.std.proofs.lemmas.Bool.{cases_eq, eq-eqb, ne_eqb}
use Rattle.use_order.specs.Orders.{is_among, without}
use Rattle.use_order.specs.Links.{Distinct}
use Rattle.use_order.proofs.Rings.{among-here, distinct-push, distinct-without, gone-without, length-without}
use Rattle.context_table.proofs.Queues.{without-absent}
use Rattle.accept_core.specs.declared.entry.Entry.{Entry}
use Rattle.accept_core.specs.declared.entry.Entry.TheVariants.{Opened, Auth, Went, Settled, Call, Ended}
use Rattle.accept_core.specs.History.{Standing, Unknown, Open, Whole, Over, standing, opened, living, IsOpen, IsLive, is_whole}
use Rattle.accept_core.specs.Legal.{Legal}
use Rattle.accept_core.specs.Aging.{in_use, most_whole}
use Rattle.accept_core.proofs.Uses.{uses, Uses, unopened, among-pushed, among-last, among-other}
use Rattle.history_laws.specs.Counting.{opening, is_open}
use Rattle.history_laws.specs.Before.{OpenBy}
use Rattle.accept_core.proofs.Appended.{live-end}

open-true : (s : Standing) → IsOpen s → is_open s ≡ true
open-true Unknown o = absurd o
open-true (Open at) o = refl
open-true (Whole mech names ends) o = absurd o
open-true Over o = absurd o

-- what lives is complete or negotiates, and not both
live-either : (s : Standing) → IsLive s → ((is_whole s ≡ true) × (is_open s ≡ false)) ⊎ ((is_whole s ≡ false) × (is_open s ≡ true))
live-either Unknown l = absurd l
live-either (Open at) l = inr (refl, refl)
live-either (Whole mech names ends) l = inl (refl, refl)
live-either Over l = absurd l

pub record Counts (h : List Entry) : Type 0 where
  pub members : (id : ℕ) → is_among id (opening h) ≡ is_open (standing id h)
  pub once : Distinct (opening h)
  pub lives : living h ≡ length (in_use h) + length (opening h)

pub counts : (width : ℕ) (h : List Entry) → Legal width h → Counts h
counts width [] l = record { members = λ id. refl; once = tt; lives = refl }
counts width (Opened i at ∷ h) l =
    let c : Counts h = counts width h l.1 in
    let given : i ≡ opened h + 1 = l.0.0 in
    let new : is_among i (opening h) ≡ false = c.members i ∙ ap is_open (unopened width h i l.1 (omega (arith, given))) in
    record {
      members = λ id.
          elim (cases_eq i id) [
            | inl same ↦ rw (eq-eqb i id same, same) (among-last id (opening h))
            | inr ne ↦ rw (ne_eqb i id ne) (among-pushed id i (opening h) ne ∙ c.members id)
          ];
      once = distinct-push (opening h) i c.once new;
      lives = omega (arith, c.lives, length-append (opening h) (i ∷ []));
    }
counts width (Auth i mark at ∷ h) l = let c : Counts h = counts width h l.1 in record { members = c.members; once = c.once; lives = c.lives }
counts width (Went i at ∷ h) l = let c : Counts h = counts width h l.1 in record { members = c.members; once = c.once; lives = c.lives }
counts width (Settled i mech names ends at ∷ h) l =
    let c : Counts h = counts width h l.1 in
    let there : is_among i (opening h) ≡ true = c.members i ∙ open-true (standing i h) l.0.0 in
    record {
      members = λ id.
          elim (cases_eq i id) [
            | inl same ↦ rw (eq-eqb i id same, ← same) (gone-without i (opening h) c.once)
            | inr ne ↦ rw (ne_eqb i id ne) (among-other id i (opening h) ne ∙ c.members id)
          ];
      once = distinct-without i (opening h) c.once;
      lives = omega (arith, c.lives, length-without i (opening h) there, length-append (in_use h) (i ∷ []));
    }
counts width (Call i seq procedure args ∷ h) l =
    let c : Counts h = counts width h l.1 in
    let u : Uses h = uses width h l.1 in
    let there : is_among i (in_use h) ≡ true = u.members i ∙ l.0.whole in
    record {
      members = c.members;
      once = c.once;
      lives = omega (arith, c.lives, length-without i (in_use h) there, length-append (without i (in_use h)) (i ∷ []));
    }
counts width (Ended i cause ∷ h) l =
    let c : Counts h = counts width h l.1 in
    let u : Uses h = uses width h l.1 in
    record {
      members = λ id.
          elim (cases_eq i id) [
            | inl same ↦ rw (eq-eqb i id same, ← same) (gone-without i (opening h) c.once)
            | inr ne ↦ rw (ne_eqb i id ne) (among-other id i (opening h) ne ∙ c.members id)
          ];
      once = distinct-without i (opening h) c.once;
      lives = elim (live-either (standing i h) (live-end width h i cause l.0)) [
        | inl w ↦
            let there : is_among i (in_use h) ≡ true = u.members i ∙ w.0 in
            let away : is_among i (opening h) ≡ false = c.members i ∙ w.1 in
            omega (arith, c.lives, length-without i (in_use h) there, ap (λ (x : List ℕ). length x) (without-absent i (opening h) away))
        | inr w ↦
            let away : is_among i (in_use h) ≡ false = u.members i ∙ w.0 in
            let there : is_among i (opening h) ≡ true = c.members i ∙ w.1 in
            omega (arith, c.lives, length-without i (opening h) there, ap (λ (x : List ℕ). length x) (without-absent i (in_use h) away))
      ];
    }

none-open : (xs : List ℕ) → ((id : ℕ) → is_among id xs ≡ false) → length xs ≡ 0
none-open [] none = refl
none-open (x ∷ xs) none = let both : true ≡ false = sym (among-here x x xs refl) ∙ none x in absurd cc

open-false : (s : Standing) → (IsOpen s → ⊥) → is_open s ≡ false
open-false Unknown never = refl
open-false (Open at) never = absurd (never tt)
open-false (Whole mech names ends) never = refl
open-false Over never = refl

pub full-of-one : (width : ℕ) (h : List Entry) (limit : ℕ) → Legal width h → length (in_use h) ≤ most_whole limit → limit ≤ living h → OpenBy h None → limit ≤ 1
full-of-one width h limit l share full none =
    let c : Counts h = counts width h l in
    let empty : length (opening h) ≡ 0 = none-open (opening h) (λ id. c.members id ∙ open-false (standing id h) (none id)) in
    omega (arith, share, full, c.lives, empty)
