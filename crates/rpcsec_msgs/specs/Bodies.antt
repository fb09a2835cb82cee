-- The bodies of calls and replies, RFC 2203 section 5.3.2.
use Rattle.std.specs.Prelude.{ℕ, ◌≤◌, List, ◌++◌, length, Result, Ok}
use Rattle.rpc_msgs.specs.Words.{opaque}
use Rattle.rpc_msgs.specs.Xdr.{whole, ◌>>=◌, opaque_at, end_at}
use Rattle.rpc_msgs.specs.declared.xdr_reader.XdrRefusal.{XdrRefusal}

-- no longer than a word can tell
abbrev pub IsLong : List ℕ → Type 0
IsLong octets = length octets ≤ 4294967295

-- a body by integrity: its octets and their MIC
abbrev pub checked_octets : List ℕ → List ℕ → List ℕ
checked_octets body tag = opaque body ++ opaque tag

-- the octets and the MIC that a body by integrity has
unfoldable pub checked_at : List ℕ → Result (List ℕ × List ℕ) XdrRefusal
checked_at octets = do
  body ← opaque_at 4294967295 (whole octets)
  tag ← opaque_at 4294967295 body.1
  end ← end_at tag.1
  Ok (body.0, tag.0)

-- the sealed token that a body by privacy is
unfoldable pub sealed_at : List ℕ → Result (List ℕ) XdrRefusal
sealed_at octets = do
  token ← opaque_at 4294967295 (whole octets)
  end ← end_at token.1
  Ok token.0
