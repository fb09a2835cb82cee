-- Every front of a value goes on to a whole one.
use Rattle.std.proofs.Common.{◌≡◌, ℕ, zero, suc, ◌-◌, ◌≤◌, ◌⊎◌, inl, inr, Bool, true, false, ◌&&◌, ◌||◌, ◌==◌, List, [], ◌∷◌, Some, nat_le, refl, ◌∙◌, arith, subst}
use Rattle.std.proofs.lemmas.Bool.{cases_lt}
use Rattle.std.proofs.lemmas.Bool.Decides.{nat_tests}
use Rattle.scram_mech.specs.declared.symbols.Spot.{Spot}
use Rattle.scram_mech.specs.declared.symbols.Spot.TheVariants.{First, Second, Third, Fourth, Padding, Full}
use Rattle.scram_mech.specs.declared.symbols.Symbols.{Symbols}
use Rattle.scram_mech.specs.Symbols.{may_be_last, symbols_step, symbols_end}
use Rattle.scram_mech.proofs.Walks.{walk, walk-cons, walk-nil, walk-step}
use Rattle.scram_mech.proofs.Sextets.{sign, and_true}
use Rattle.scram_mech.proofs.SymbolSteps.{st, last_of, first-step, second-step, third-step, fourth-step, padding-step, full-step}
use Rattle.scram_mech.proofs.SignWalks.{first_on, second_on, second_last, third_on, third_last, fourth_on, third_pad, fourth_pad, last_pad}

-- what holds of a state of base64 that was reached
abbrev Reachable : Spot → ℕ → ℕ → Type 0
Reachable First need left = need ≤ left
Reachable Second need left = (need ≤ left) × (1 ≤ left)
Reachable (Third bits) need left = (need ≤ left) × (1 ≤ left) × ((nat_le 2 left || may_be_last (st Second need left) bits 16 1) ≡ true)
Reachable (Fourth bits) need left = (need ≤ left) × (2 ≤ left) × ((nat_le 3 left || ((left == 2) && may_be_last (st Second need left) bits 4 2)) ≡ true)
Reachable Padding need left = Unit {0}
Reachable Full need left = Unit {0}

abbrev pub IsReachable : Symbols → Type 0
IsReachable s = Reachable s.spot s.need s.left

goes : (s y : Symbols) → s ≡ y → IsReachable s → IsReachable y
goes s y e r = subst IsReachable e r

less : (need left : ℕ) → 3 ≤ left → need ≤ left → need - 3 ≤ left - 3
less need left a b = omega arith

keeps : (spot : Spot) (need left x : ℕ) (y : Symbols) → Reachable spot need left → symbols_step (st spot need left) x ≡ Some y → IsReachable y
keeps First need left x y r e = let s = first-step need left x y e in goes (st Second need left) y s.next (r, s.room)
keeps Second need left x y r e = let s = second-step need left x y e in goes (st (Third s.bits) need left) y s.next (r.0, r.1, s.may)
keeps (Third bits) need left x y r e =
    elim (third-step bits need left x y e) [
      | inl p ↦ goes (st Padding need left) y p.next tt
      | inr s ↦ goes (st (Fourth s.bits) need left) y s.next (r.0, s.room, s.may)
    ]
keeps (Fourth bits) need left x y r e =
    elim (fourth-step bits need left x y e) [
      | inl p ↦ goes (st Full need left) y p.next tt
      | inr s ↦ goes (st First (need - 3) (left - 3)) y s.next (less need left s.room r.0)
    ]
keeps Padding need left x y r e = goes (st Full need left) y (padding-step need left x y e).1 tt
keeps Full need left x y r e = absurd (full-step need left x y e)

pub reaches : (s : Symbols) (octets : List ℕ) (end : Symbols) → IsReachable s → walk symbols_step s octets ≡ Some end → IsReachable end
reaches s [] end r w = goes s end (walk-nil symbols_step s end w) r
reaches s (x ∷ xs) end r w =
    let m = walk-cons symbols_step s x xs end w in
    reaches m.0 xs end (keeps s.spot s.need s.left x m.0 r m.1) m.2

-- octets that end a value
pub record Ends (s : Symbols) : Type 0 where
  pub more : List ℕ
  pub last : Symbols
  pub passed : walk symbols_step s more ≡ Some last
  pub ended : symbols_end last ≡ true

stop : (s : Symbols) → symbols_end s ≡ true → Ends s
unfolding walk
stop s e = record { more = []; last = s; passed = refl; ended = e }

further_on : (s m : Symbols) (x : ℕ) → symbols_step s x ≡ Some m → Ends m → Ends s
further_on s m x e r = record { more = x ∷ r.more; last = r.last; passed = walk-step symbols_step s m x r.more e ∙ r.passed; ended = r.ended }

full : (need left : ℕ) → Ends (st Full need left)
full need left = stop (st Full need left) refl

padding : (need left : ℕ) → Ends (st Padding need left)
padding need left = further_on (st Padding need left) (st Full need left) 61 (last_pad need left) (full need left)

no_need : (need left : ℕ) → need ≤ 0 → Ends (st First need left)
no_need need left none = stop (st First need left) (grind (arith, nat_tests))

-- with room for one octet, and for two
one_more : (need left : ℕ) → need ≤ 1 → 1 ≤ left → Ends (st First need left)
one_more need left a b =
    further_on (st First need left) (st Second need left) (sign 0) (first_on need left 0 (omega arith) b)
    (further_on (st Second need left) (st (Third 0) need left) (sign 0) (second_last need left 0 (omega arith) refl a)
    (further_on (st (Third 0) need left) (st Padding need left) 61 (third_pad 0 need left refl a) (padding need left)))

two_more : (need left : ℕ) → need ≤ 2 → 2 ≤ left → Ends (st First need left)
two_more need left a b =
    further_on (st First need left) (st Second need left) (sign 0) (first_on need left 0 (omega arith) (omega arith))
    (further_on (st Second need left) (st (Third 0) need left) (sign 0) (second_on need left 0 (omega arith) b)
    (further_on (st (Third 0) need left) (st (Fourth 0) need left) (sign 0) (third_last 0 need left 0 (omega arith) refl a b)
    (further_on (st (Fourth 0) need left) (st Full need left) 61 (fourth_pad 0 need left refl a) (full need left))))

group_more : (need left : ℕ) → 3 ≤ left → Ends (st First (need - 3) (left - 3)) → Ends (st First need left)
group_more need left b r =
    further_on (st First need left) (st Second need left) (sign 0) (first_on need left 0 (omega arith) (omega arith))
    (further_on (st Second need left) (st (Third 0) need left) (sign 0) (second_on need left 0 (omega arith) (omega arith))
    (further_on (st (Third 0) need left) (st (Fourth 0) need left) (sign 0) (third_on 0 need left 0 (omega arith) b)
    (further_on (st (Fourth 0) need left) (st First (need - 3) (left - 3)) (sign 0) (fourth_on 0 need left 0 (omega arith) b) r)))

pub from_first : (fuel need left : ℕ) → need ≤ fuel → need ≤ left → Ends (st First need left)
from_first zero need left a b = no_need need left a
from_first (suc fuel) need left a b =
    elim (cases_lt need 1) [
      | inl none ↦ no_need need left (omega arith)
      | inr some ↦ elim (cases_lt left 3) [
        | inr long ↦ group_more need left long (from_first fuel (need - 3) (left - 3) (omega arith) (omega arith))
        | inl short ↦ elim (cases_lt left 2) [
          | inl one ↦ one_more need left (omega arith) (omega arith)
          | inr two ↦ two_more need left (omega arith) two
        ]
      ]
    ]

or_cases : (b c : Bool) → (b || c) ≡ true → (b ≡ true) ⊎ (c ≡ true)
or_cases true c e = inl refl
or_cases false c e = inr e

le_of : (a b : ℕ) → nat_le a b ≡ true → a ≤ b
le_of a b e = grind (arith, nat_tests)

from_fourth : (bits need left : ℕ) → Reachable (Fourth bits) need left → Ends (st (Fourth bits) need left)
from_fourth bits need left r =
    elim (or_cases (nat_le 3 left) ((left == 2) && may_be_last (st Second need left) bits 4 2) r.2) [
      | inl a ↦
          let long = le_of 3 left a in
          further_on (st (Fourth bits) need left) (st First (need - 3) (left - 3)) (sign 0) (fourth_on bits need left 0 (omega arith) long) (from_first need (need - 3) (left - 3) (omega arith) (less need left long r.0))
      | inr b ↦
          let l = last_of (st Second need left) bits 4 2 (and_true (left == 2) (may_be_last (st Second need left) bits 4 2) b).1 in
          further_on (st (Fourth bits) need left) (st Full need left) 61 (fourth_pad bits need left l.0 l.1) (full need left)
    ]

third_two : (bits need left : ℕ) → need ≤ left → 2 ≤ left → Ends (st (Third bits) need left)
third_two bits need left a b =
    elim (cases_lt left 3) [
      | inr long ↦
          further_on (st (Third bits) need left) (st (Fourth 0) need left) (sign 0) (third_on bits need left 0 (omega arith) long)
          (further_on (st (Fourth 0) need left) (st First (need - 3) (left - 3)) (sign 0) (fourth_on 0 need left 0 (omega arith) long) (from_first need (need - 3) (left - 3) (omega arith) (less need left long a)))
      | inl short ↦
          further_on (st (Third bits) need left) (st (Fourth 0) need left) (sign 0) (third_last bits need left 0 (omega arith) refl (omega arith) b)
          (further_on (st (Fourth 0) need left) (st Full need left) 61 (fourth_pad 0 need left refl (omega arith)) (full need left))
    ]

from_third : (bits need left : ℕ) → Reachable (Third bits) need left → Ends (st (Third bits) need left)
from_third bits need left r =
    elim (or_cases (nat_le 2 left) (may_be_last (st Second need left) bits 16 1) r.2) [
      | inl a ↦ third_two bits need left r.0 (le_of 2 left a)
      | inr b ↦
          let l = last_of (st Second need left) bits 16 1 b in
          further_on (st (Third bits) need left) (st Padding need left) 61 (third_pad bits need left l.0 l.1) (padding need left)
    ]

from_second : (need left : ℕ) → Reachable Second need left → Ends (st Second need left)
from_second need left r =
    elim (cases_lt left 2) [
      | inr two ↦ further_on (st Second need left) (st (Third 0) need left) (sign 0) (second_on need left 0 (omega arith) two) (third_two 0 need left r.0 two)
      | inl one ↦
          further_on (st Second need left) (st (Third 0) need left) (sign 0) (second_last need left 0 (omega arith) refl (omega arith))
          (further_on (st (Third 0) need left) (st Padding need left) 61 (third_pad 0 need left refl (omega arith)) (padding need left))
    ]

from : (spot : Spot) (need left : ℕ) → Reachable spot need left → Ends (st spot need left)
from First need left r = from_first need need left (omega arith) r
from Second need left r = from_second need left r
from (Third bits) need left r = from_third bits need left r
from (Fourth bits) need left r = from_fourth bits need left r
from Padding need left r = padding need left
from Full need left r = full need left

pub symbols-complete : (least most : ℕ) (front : List ℕ) (m : Symbols) → least ≤ most → walk symbols_step (st First least most) front ≡ Some m → Ends m
symbols-complete least most front m range w = from m.spot m.need m.left (reaches (st First least most) front m range w)
