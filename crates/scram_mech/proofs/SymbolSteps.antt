-- What the steps of base64 took.
use Rattle.std.proofs.Common.{◌≡◌, ℕ, ◌-◌, ◌%◌, ◌≤◌, ◌⊎◌, inl, inr, Bool, true, false, cond, ◌&&◌, ◌||◌, ◌==◌, Option, Some, None, nat_lt, nat_le, nat_eq, refl, arith}
use Rattle.std.proofs.lemmas.Bool.Decides.{nat_tests}
use Rattle.scram_mech.specs.declared.symbols.Spot.{Spot}
use Rattle.scram_mech.specs.declared.symbols.Spot.TheVariants.{First, Second, Third, Fourth, Padding, Full}
use Rattle.scram_mech.specs.declared.symbols.Symbols.{Symbols}
use Rattle.scram_mech.specs.Signs.{sextet_of}
use Rattle.scram_mech.specs.Symbols.{at_if, may_be_last, pad, sextet, sextet_or, symbols_step}
use Rattle.scram_mech.proofs.Sextets.{eq_of, and_true}

abbrev pub st : Spot → ℕ → ℕ → Symbols
st spot need left = record { spot = spot; need = need; left = left }

abbrev some_of : {A : Type 0} → A → Option A
some_of x = Some x

pub some_is : {A : Type 0} (x y : A) → some_of x ≡ some_of y → x ≡ y
some_is x y e = cc

abbrev no_symbols : Option Symbols
no_symbols = None

none_not : (y : Symbols) → no_symbols ≡ Some y → ⊥
none_not y e = cc

at_if-some : (b : Bool) (s : Symbols) (spot : Spot) (y : Symbols) → at_if b s spot ≡ Some y → (b ≡ true) × (st spot s.need s.left ≡ y)
at_if-some true s spot y e = (refl, some_is (st spot s.need s.left) y e)
at_if-some false s spot y e = absurd cc

le_of : (a b : ℕ) → nat_le a b ≡ true → a ≤ b
le_of a b e = grind (arith, nat_tests)

-- a last octet leaves no bits over, and is enough
pub last_of : (s : Symbols) (bits unit octets : ℕ) → may_be_last s bits unit octets ≡ true → (bits % unit ≡ 0) × (s.need ≤ octets)
last_of s bits unit octets e =
    let t = and_true (bits % unit == 0) (nat_le s.need octets) e in
    (eq_of (bits % unit) 0 t.0, le_of s.need octets t.1)

-- a step is one by `=`, or one by a sign of six bits
pub record Signed (s : Symbols) (x : ℕ) (y : Symbols) : Type 0 where
  pub bits : ℕ
  pub sign : sextet_of x ≡ Some bits
  pub next : sextet s bits ≡ Some y

by_sign : (s : Symbols) (x : ℕ) (y : Symbols) (o : Option ℕ) → sextet_of x ≡ o → sextet_or s o ≡ Some y → Signed s x y
by_sign s x y None same e = absurd cc
by_sign s x y (Some bits) same e = record { bits = bits; sign = same; next = e }

by_equals : (s : Symbols) (x : ℕ) (y : Symbols) (b : Bool) → nat_eq x 61 ≡ b → cond b (pad s) (sextet_or s (sextet_of x)) ≡ Some y → ((x ≡ 61) × (pad s ≡ Some y)) ⊎ Signed s x y
by_equals s x y true same e = inl (eq_of x 61 same, e)
by_equals s x y false same e = inr (by_sign s x y (sextet_of x) refl e)

step-cases : (s : Symbols) (x : ℕ) (y : Symbols) → symbols_step s x ≡ Some y → ((x ≡ 61) × (pad s ≡ Some y)) ⊎ Signed s x y
unfolding symbols_step
step-cases s x y e = by_equals s x y (nat_eq x 61) refl e

pub record IsFirst (need left a : ℕ) (y : Symbols) : Type 0 where
  pub bits : ℕ
  pub sign : sextet_of a ≡ Some bits
  pub room : 1 ≤ left
  pub next : st Second need left ≡ y

pub first-step : (need left a : ℕ) (y : Symbols) → symbols_step (st First need left) a ≡ Some y → IsFirst need left a y
first-step need left a y e =
    elim (step-cases (st First need left) a y e) [
      | inl p ↦ absurd (none_not y p.1)
      | inr s ↦
          let t = at_if-some (nat_le 1 left) (st First need left) Second y s.next in
          record { bits = s.bits; sign = s.sign; room = le_of 1 left t.0; next = t.1 }
    ]

pub record IsSecond (need left b : ℕ) (y : Symbols) : Type 0 where
  pub bits : ℕ
  pub sign : sextet_of b ≡ Some bits
  pub may : (nat_le 2 left || may_be_last (st Second need left) bits 16 1) ≡ true
  pub next : st (Third bits) need left ≡ y

pub second-step : (need left b : ℕ) (y : Symbols) → symbols_step (st Second need left) b ≡ Some y → IsSecond need left b y
second-step need left b y e =
    elim (step-cases (st Second need left) b y e) [
      | inl p ↦ absurd (none_not y p.1)
      | inr s ↦
          let t = at_if-some (nat_le 2 left || may_be_last (st Second need left) s.bits 16 1) (st Second need left) (Third s.bits) y s.next in
          record { bits = s.bits; sign = s.sign; may = t.0; next = t.1 }
    ]

pub record IsPad (unit octets bits need left c : ℕ) (spot : Spot) (y : Symbols) : Type 0 where
  pub equals : c ≡ 61
  pub whole : bits % unit ≡ 0
  pub enough : need ≤ octets
  pub next : st spot need left ≡ y

pub record IsThird (need left c : ℕ) (y : Symbols) : Type 0 where
  pub bits : ℕ
  pub sign : sextet_of c ≡ Some bits
  pub may : (nat_le 3 left || ((left == 2) && may_be_last (st Second need left) bits 4 2)) ≡ true
  pub room : 2 ≤ left
  pub next : st (Fourth bits) need left ≡ y

third-room : (left : ℕ) (b : Bool) → (nat_le 3 left || ((left == 2) && b)) ≡ true → 2 ≤ left
third-room left b e = grind (arith, nat_tests)

pub third-step : (bits need left c : ℕ) (y : Symbols) → symbols_step (st (Third bits) need left) c ≡ Some y → IsPad 16 1 bits need left c Padding y ⊎ IsThird need left c y
third-step bits need left c y e =
    elim (step-cases (st (Third bits) need left) c y e) [
      | inl p ↦
          let t = at_if-some (may_be_last (st (Third bits) need left) bits 16 1) (st (Third bits) need left) Padding y p.1 in
          let l = last_of (st (Third bits) need left) bits 16 1 t.0 in
          inl (record { equals = p.0; whole = l.0; enough = l.1; next = t.1 })
      | inr s ↦
          let t = at_if-some (nat_le 3 left || ((left == 2) && may_be_last (st (Third bits) need left) s.bits 4 2)) (st (Third bits) need left) (Fourth s.bits) y s.next in
          inr (record { bits = s.bits; sign = s.sign; may = t.0; room = third-room left (may_be_last (st (Third bits) need left) s.bits 4 2) t.0; next = t.1 })
    ]

pub record IsFourth (need left d : ℕ) (y : Symbols) : Type 0 where
  pub bits : ℕ
  pub sign : sextet_of d ≡ Some bits
  pub room : 3 ≤ left
  pub next : st First (need - 3) (left - 3) ≡ y

group-room : (b : Bool) (s y : Symbols) → nat_lt s.left 3 ≡ b → cond b no_symbols (Some (st First (s.need - 3) (s.left - 3))) ≡ Some y → (3 ≤ s.left) × (st First (s.need - 3) (s.left - 3) ≡ y)
group-room true s y same e = absurd (none_not y e)
group-room false s y same e = (grind (arith, nat_tests), some_is (st First (s.need - 3) (s.left - 3)) y e)

pub fourth-step : (bits need left d : ℕ) (y : Symbols) → symbols_step (st (Fourth bits) need left) d ≡ Some y → IsPad 4 2 bits need left d Full y ⊎ IsFourth need left d y
fourth-step bits need left d y e =
    elim (step-cases (st (Fourth bits) need left) d y e) [
      | inl p ↦
          let t = at_if-some (may_be_last (st (Fourth bits) need left) bits 4 2) (st (Fourth bits) need left) Full y p.1 in
          let l = last_of (st (Fourth bits) need left) bits 4 2 t.0 in
          inl (record { equals = p.0; whole = l.0; enough = l.1; next = t.1 })
      | inr s ↦
          let t = group-room (nat_lt left 3) (st (Fourth bits) need left) y refl s.next in
          inr (record { bits = s.bits; sign = s.sign; room = t.0; next = t.1 })
    ]

pub padding-step : (need left d : ℕ) (y : Symbols) → symbols_step (st Padding need left) d ≡ Some y → (d ≡ 61) × (st Full need left ≡ y)
padding-step need left d y e =
    elim (step-cases (st Padding need left) d y e) [
      | inl p ↦ (p.0, some_is (st Full need left) y p.1)
      | inr s ↦ absurd (none_not y s.next)
    ]

pub full-step : (need left d : ℕ) (y : Symbols) → symbols_step (st Full need left) d ≡ Some y → ⊥
full-step need left d y e =
    elim (step-cases (st Full need left) d y e) [
      | inl p ↦ none_not y p.1
      | inr s ↦ none_not y s.next
    ]
