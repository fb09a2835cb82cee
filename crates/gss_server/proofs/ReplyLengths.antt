-- How long replies are.
use Rattle.std.proofs.Common.{◌≡◌, ℕ, ◌+◌, ◌≤◌, Bool, true, false, cond, List, [], ◌++◌, length, refl, ap, ◌∙◌, arith, eqb}
use Rattle.std.proofs.lemmas.List.{length-append}
use Rattle.rpc_msgs.specs.Words.{word, padding_length}
use Rattle.rpc_msgs.specs.Replies.{accepted_head, accepted_body, mismatch_octets, auth_error_octets}
use Rattle.rpc_msgs.proofs.WordLengths.{length-word, length-opaque}

two_words : (low high : ℕ) → length (word low ++ word high) ≡ 8
two_words low high = simp (length-append, length-word) (omega arith)

body-fits : (b c : Bool) (low high : ℕ) (result : List ℕ) → length (cond b result (cond c (word low ++ word high) [])) ≤ 8 + length result
body-fits true c low high result = omega arith
body-fits false true low high result = omega (arith, two_words low high)
body-fits false false low high result = omega arith

head-fits : (xid flavour : ℕ) (verf : List ℕ) (stat : ℕ) → length verf ≤ 400 → length (accepted_head xid flavour verf stat) ≤ 427
head-fits xid flavour verf stat few = simp (length-append, length-word, length-opaque) (omega arith)

-- the head with a MIC
mic-head : (xid flavour : ℕ) (verf : List ℕ) (stat : ℕ) → length verf ≡ 28 → length (accepted_head xid flavour verf stat) ≡ 52
mic-head xid flavour verf stat size =
    let padded : padding_length (length verf) ≡ 0 = rw size refl in
    simp (length-append, length-word, length-opaque) (omega (arith, size, padded))

-- a result behind a head with a MIC
pub signed-fits : (xid flavour : ℕ) (verf out written whole : List ℕ) (stat : ℕ) → length verf ≡ 28 → out ≡ [] → written ≡ out ++ accepted_head xid flavour verf stat → length whole ≤ length written + 131020 → length whole ≤ 131072
signed-fits xid flavour verf out written whole stat size none behind long =
    let same : written ≡ accepted_head xid flavour verf stat = behind ∙ ap (λ (zs : List ℕ). zs ++ accepted_head xid flavour verf stat) none in
    omega (arith, long, ap length same, mic-head xid flavour verf stat size)

pub accepted-fits : (xid flavour : ℕ) (verf : List ℕ) (stat low high : ℕ) (result : List ℕ) → length verf ≤ 400 → length result ≤ 130000 → length (accepted_head xid flavour verf stat ++ accepted_body stat low high result) ≤ 131072
accepted-fits xid flavour verf stat low high result few size =
    omega (arith, head-fits xid flavour verf stat few, length-append (accepted_head xid flavour verf stat) (accepted_body stat low high result), body-fits (eqb stat 0) (eqb stat 2) low high result)

pub mismatch-fits : (xid low high : ℕ) → length (mismatch_octets xid low high) ≤ 131072
mismatch-fits xid low high = simp (length-append, length-word) (omega arith)

pub auth_error-fits : (xid stat : ℕ) → length (auth_error_octets xid stat) ≤ 131072
auth_error-fits xid stat = simp (length-append, length-word) (omega arith)
