-- Signs of base64 and their six bits: the kit's table and the definition agree.
use Rattle.std.proofs.Common.{◌≡◌, ℕ, zero, suc, ◌<◌, Bool, true, false, ◌&&◌, Option, Some, None, nat_lt, nat_eq, get_or, refl, ap, arith, inl, inr, subst}
use Rattle.std.proofs.lemmas.Bool.{cases_lt}
use Rattle.std.proofs.lemmas.Bool.Decides.{nat_tests}
use Rattle.base64.specs.GeneralPurpose.{engine_symbols}
use Rattle.base64.specs.Engines.{standard}
use Rattle.scram_mech.specs.Signs.{sextet_of}

-- the sign of six bits
abbrev pub sign : ℕ → ℕ
sign k = get_or (engine_symbols standard) k 0

all_below : (ℕ → Bool) → ℕ → Bool
all_below p zero = true
all_below p (suc n) = p n && all_below p n

abbrev pub both_true : Bool → Bool → Type 0
both_true a b = (a ≡ true) × (b ≡ true)

pub and_true : (a b : Bool) → (a && b) ≡ true → both_true a b
and_true true b e = (refl, e)
and_true false b e = absurd cc

below-each : (p : ℕ → Bool) (n : ℕ) → all_below p n ≡ true → (k : ℕ) → k < n → p k ≡ true
unfolding all_below
below-each p zero e k lt = absurd (omega arith)
below-each p (suc n) e k lt =
    let t = and_true (p n) (all_below p n) e in
    elim (cases_lt k n) [
      | inl a ↦ below-each p n t.1 k a
      | inr b ↦ let same : k ≡ n = omega arith in rw same t.0
    ]

abbrev is_sign_of : Option ℕ → ℕ → Bool
is_sign_of None x = true
is_sign_of (Some v) x = nat_lt v 64 && nat_eq (sign v) x

abbrev has_bits : Option ℕ → ℕ → Bool
has_bits None k = false
has_bits (Some v) k = nat_eq v k

signs_checked : all_below (λ x. is_sign_of (sextet_of x) x) 123 ≡ true
unfolding sextet_of all_below
signs_checked = refl

bits_checked : all_below (λ k. has_bits (sextet_of (sign k)) k) 64 ≡ true
unfolding sextet_of all_below
bits_checked = refl

signs_low : (x v : ℕ) → sextet_of x ≡ Some v → x < 123
unfolding sextet_of
signs_low x v e = elim (cases_lt x 123) [ inl a ↦ a | inr b ↦ absurd (grind (arith, nat_tests)) ]

pub lt_of : (a b : ℕ) → nat_lt a b ≡ true → a < b
lt_of a b e = grind (arith, nat_tests)

pub eq_of : (a b : ℕ) → nat_eq a b ≡ true → a ≡ b
eq_of a b e = grind (arith, nat_tests)

-- a sign's six bits are below 64, and the sign is theirs
pub sextet-sign : (x v : ℕ) → sextet_of x ≡ Some v → (v < 64) × (sign v ≡ x)
sextet-sign x v e =
    let t : is_sign_of (Some v) x ≡ true = subst (λ (o : Option ℕ). is_sign_of o x ≡ true) e (below-each (λ y. is_sign_of (sextet_of y) y) 123 signs_checked x (signs_low x v e)) in
    let u = and_true (nat_lt v 64) (nat_eq (sign v) x) t in
    (lt_of v 64 u.0, eq_of (sign v) x u.1)

has_some : (o : Option ℕ) (k : ℕ) → has_bits o k ≡ true → o ≡ Some k
has_some None k e = absurd cc
has_some (Some v) k e = ap Some (eq_of v k e)

-- the sign of six bits has these
pub sextet-of_sign : (k : ℕ) → k < 64 → sextet_of (sign k) ≡ Some k
sextet-of_sign k lt = has_some (sextet_of (sign k)) k (below-each (λ y. has_bits (sextet_of (sign y)) y) 64 bits_checked k lt)

-- `=` is no sign of six bits
pub not_equals : (x v : ℕ) → sextet_of x ≡ Some v → nat_eq x 61 ≡ false
unfolding sextet_of
not_equals x v e = grind (arith, nat_tests)
