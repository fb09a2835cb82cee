-- Credentials and verifiers, RFC 5531 section 8.2.
use Rattle.std.specs.Prelude.{ℕ, ◌<◌, ◌≤◌, ◌^◌, List, ◌++◌, length, Result, Ok}
use Rattle.rpc_msgs.specs.Words.{word, opaque}
use Rattle.rpc_msgs.specs.Xdr.{Input, ◌>>=◌, word_at, opaque_at}
use Rattle.rpc_msgs.specs.declared.auth.Auth.{Auth}
use Rattle.rpc_msgs.specs.declared.xdr_reader.XdrRefusal.{XdrRefusal}

-- a flavour and its body
pub record AuthValue : Type 0 where
  pub flavour : ℕ
  pub body : List ℕ

-- what a credential or verifier that was read holds
abbrev pub auth_value : Auth → AuthValue
auth_value a = record { flavour = a.flavour; body = a.body.now }

-- the one spelling: the flavour, then the body with its length
abbrev pub auth_octets : AuthValue → List ℕ
auth_octets a = word a.flavour ++ opaque a.body

-- what has a spelling
pub record IsAuth (a : AuthValue) : Type 0 where
  pub flavour : a.flavour < 2 ^ 32
  pub body : length a.body ≤ 400

-- the credential or verifier at the front, whose body has at most 400 octets
unfoldable pub auth_at : Input → Result (AuthValue × Input) XdrRefusal
auth_at i = do
  flavour ← word_at i
  body ← opaque_at 400 flavour.1
  Ok (record { flavour = flavour.0; body = body.0 }, body.1)
