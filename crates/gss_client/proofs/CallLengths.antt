-- How long calls are.
use Rattle.std.proofs.Common.{◌≡◌, ℕ, ◌+◌, ◌≤◌, List, length, arith}
use Rattle.std.proofs.lemmas.List.{length-append}
use Rattle.rpc_msgs.specs.Words.{opaque}
use Rattle.rpc_msgs.specs.Auths.{AuthValue}
use Rattle.rpc_msgs.specs.Calls.{call_octets, secure_call}
use Rattle.rpc_msgs.proofs.WordLengths.{length-word, length-opaque}
use Rattle.rpcsec_msgs.specs.Cred.{CredValue, cred_octets}

pub cred-fits : (c : CredValue) → length c.context ≤ 64 → length (cred_octets c) ≤ 400
cred-fits c few =
    let all : length (cred_octets c) ≡ 16 + length (opaque c.context) = simp (length-append, length-word) (omega arith) in
    omega (arith, length-opaque c.context)

pub call-fits : (xid program version procedure : ℕ) (body : List ℕ) (verf : AuthValue) (args : List ℕ) → length body ≤ 400 → length verf.body ≤ 400 → length args ≤ 130000 → length (call_octets (secure_call xid program version procedure body verf args)) ≤ 131072
call-fits xid program version procedure body verf args few short fits =
    let all : length (call_octets (secure_call xid program version procedure body verf args)) ≡ 32 + length (opaque body) + length (opaque verf.body) + length args = simp (length-append, length-word) (omega arith) in
    omega (arith, length-opaque body, length-opaque verf.body)
