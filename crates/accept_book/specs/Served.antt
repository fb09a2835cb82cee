-- The argument of a call that creates a context: its token (RFC 2203 section 5.2.2).
use Rattle.std.specs.Prelude.{ℕ, List, Result, Ok}
use Rattle.rpc_msgs.specs.Xdr.{whole, ◌>>=◌, opaque_at, end_at}
use Rattle.rpc_msgs.specs.declared.xdr_reader.XdrRefusal.{XdrRefusal}

-- one opaque of at most 65,536 octets, and nothing behind it
abbrev pub one_opaque : List ℕ → Result (List ℕ) XdrRefusal
one_opaque octets = do
  value ← opaque_at 65536 (whole octets)
  end ← end_at value.1
  Ok value.0
