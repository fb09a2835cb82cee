-- How long arguments are that are one opaque.
use Rattle.std.proofs.Common.{◌≡◌, ℕ, true, false, List, length, Result, Ok, Err, IfOk, is_ok, ap, ◌≤◌, arith}
use Rattle.rpc_msgs.specs.Words.{opaque}
use Rattle.rpc_msgs.proofs.WordLengths.{length-opaque}
use Rattle.rpc_program.specs.declared.limits.TheConstants.{MOST}

pub posted-fits : {V E : Type 0} (octets : List ℕ) (view : V → List ℕ) (r : Result V E) → IfOk r (λ v. (length (view v) ≤ 65536) × (octets ≡ opaque (view v))) → is_ok r ≡ true → length octets ≤ MOST
posted-fits octets view (Ok v) spelled ok = omega (arith, spelled.0, ap (length {A = ℕ}) spelled.1, length-opaque (view v))
posted-fits octets view (Err e) spelled ok = absurd (let f : false ≡ true = ok in cc)
