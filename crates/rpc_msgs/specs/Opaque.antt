-- Octets that are the whole of an argument or a result, RFC 4506.
use Rattle.std.specs.Prelude.{ℕ, List, Result, Ok}
use Rattle.rpc_msgs.specs.declared.xdr_reader.XdrRefusal.{XdrRefusal}
use Rattle.rpc_msgs.specs.Xdr.{whole, opaque_at, end_at, ◌>>=◌}

-- octets of variable length within a limit (section 4.10), and nothing after them
unfoldable pub opaque_alone : ℕ → List ℕ → Result (List ℕ) XdrRefusal
opaque_alone limit octets = do
  value ← opaque_at limit (whole octets)
  used_up ← end_at value.1
  Ok value.0
