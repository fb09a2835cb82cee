-- Each octet but 0 has its inverse in the field, by a test of all of them that the checker computes.
use Rattle.std.proofs.Common.{◌≡◌, ℕ, ◌<◌, Bool, true, false, if◌then◌else◌, refl, get_or, eqb}
use Rattle.std.specs.Prelude.{nat_lt}
use Rattle.std.proofs.lemmas.Bool.{eqb-true, ltb-true, lt-ltb}
use Rattle.aes_cts.specs.Field.{times_x, product, times, power, inverse, affine_back}
use Rattle.aes_cts.specs.declared.tables.TheConstants.{SBOX}
use Rattle.aes_cts.proofs.Entries.{numbered, at-place, inverse-at}

-- the inverse of an octet, as the S-box tells it, is an octet; that of each octet but 0 makes 1 with it
inverse_test : ℕ → ℕ → Bool
inverse_test a s =
    if nat_lt (affine_back s) 256 then (if nat_lt 0 a then eqb (times a (affine_back s)) 1 else true) else false

inverse_checked : numbered inverse_test 0 SBOX ≡ true
unfolding numbered inverse_test times product times_x
inverse_checked = refl

both : (b c : Bool) → (if b then c else false) ≡ true → (b ≡ true) × (c ≡ true)
both true c h = (refl, h)
both false c h = cc

passes : (b c : Bool) → b ≡ true → (if b then c else true) ≡ true → c ≡ true
passes true c some h = h
passes false c some h = absurd cc

inverse-parts : (a : ℕ) → a < 256
    → (nat_lt (affine_back (get_or SBOX a 0)) 256 ≡ true) × ((if nat_lt 0 a then eqb (times a (affine_back (get_or SBOX a 0))) 1 else true) ≡ true)
unfolding inverse_test
inverse-parts a h =
    let i : ℕ = affine_back (get_or SBOX a 0) in
    both (nat_lt i 256) (if nat_lt 0 a then eqb (times a i) 1 else true) (at-place inverse_test SBOX inverse_checked refl a h)

pub inverse-lt : (a : ℕ) → a < 256 → inverse a < 256
inverse-lt a h = rw (← inverse-at a h) (ltb-true (affine_back (get_or SBOX a 0)) 256 (inverse-parts a h).0)

pub times-inverse : (a : ℕ) → 0 < a → a < 256 → times a (inverse a) ≡ 1
times-inverse a some h =
    let i : ℕ = affine_back (get_or SBOX a 0) in
    rw (← inverse-at a h) (eqb-true (times a i) 1 (passes (nat_lt 0 a) (eqb (times a i) 1) (lt-ltb 0 a some) (inverse-parts a h).1))

pub inverse-zero : inverse 0 ≡ 0
unfolding inverse power times product times_x
inverse-zero = refl
