-- The greatest common divisor, looked for from above.
use Rattle.std.proofs.Common.{◌≡◌, ℕ, zero, suc, ◌-◌, ◌%◌, ◌<◌, ◌==◌, ◌&&◌, true, false, refl, arith}
use Rattle.std.proofs.Math.Nat.{mod-one}
use Rattle.krb_derive.specs.Fold.{divisor_up_to}

pub divisor_up_to-less : (d a b : ℕ) → 0 < d → ((a % d == 0) && (b % d == 0)) ≡ false → divisor_up_to (d - 1) a b ≡ divisor_up_to d a b
unfolding divisor_up_to
divisor_up_to-less zero a b h out = absurd (omega arith)
divisor_up_to-less (suc d) a b h out =
    let less : suc d - 1 ≡ d = omega arith in
    rw (less, out) refl

pub divisor_up_to-here : (d a b : ℕ) → 0 < d → ((a % d == 0) && (b % d == 0)) ≡ true → divisor_up_to d a b ≡ d
unfolding divisor_up_to
divisor_up_to-here zero a b h both = absurd (omega arith)
divisor_up_to-here (suc d) a b h both = rw both refl

-- 1 divides both
pub above_one : (d a b : ℕ) → 0 < d → ((a % d == 0) && (b % d == 0)) ≡ false → 1 < d
above_one zero a b h out = absurd (omega arith)
above_one (suc zero) a b h out =
    let yes : ((a % 1 == 0) && (b % 1 == 0)) ≡ true = rw (mod-one a, mod-one b) refl in
    let wrong : true ≡ false = cc in
    cc
above_one (suc (suc d)) a b h out = omega arith
