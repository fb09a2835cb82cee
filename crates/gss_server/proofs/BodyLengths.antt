-- How long the results of creations are.
use Rattle.std.proofs.Common.{◌≡◌, ℕ, ◌+◌, ◌≤◌, ◌++◌, length, refl, arith, lit≤, Option, Some, None}
use Rattle.std.proofs.lemmas.List.{length-append}
use Rattle.rpc_msgs.specs.Words.{word, opaque}
use Rattle.rpc_msgs.proofs.WordLengths.{length-word, length-opaque}
use Rattle.std.specs.Int.{w64, to_be_bytes}
use Rattle.rpcsec_msgs.specs.InitRes.{init_res_octets}
use Rattle.rpcsec_msgs.specs.declared.init_res.InitRes.{InitRes}
use Rattle.gss_server.specs.Hearing.{handle_or_none}

pub handle-size : (id : Option ℕ) → length (handle_or_none id) ≤ 8
handle-size None = lit≤ tt
handle-size (Some id) = omega (arith, handle-length id)
  where
    handle-length : (n : ℕ) → length (to_be_bytes w64 n) ≡ 8
    handle-length n = refl

pub init-fits : (r : InitRes) → length r.context ≤ 8 → length r.token ≤ 65536 → length (init_res_octets r) ≤ 130000
init-fits r few short =
    let tail : length (word r.major ++ (word r.minor ++ (word r.window ++ opaque r.token))) ≡ 12 + length (opaque r.token) = simp (length-append, length-word) (omega arith) in
    omega (arith, length-append (opaque r.context) (word r.major ++ (word r.minor ++ (word r.window ++ opaque r.token))), length-opaque r.context, length-opaque r.token)
