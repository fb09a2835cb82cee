-- Calls of ONC RPC, RFC 5531 section 9.
use Rattle.std.specs.Prelude.{◌≡◌, ℕ, ◌==◌, ◌<◌, ◌^◌, if◌then◌else◌, List, ◌++◌, length, Result, Ok}
use Rattle.std.specs.Prelude.{Err}
use Rattle.rpc_msgs.specs.Words.{word}
use Rattle.rpc_msgs.specs.Xdr.{Input, whole, place, ◌>>=◌, word_at}
use Rattle.rpc_msgs.specs.declared.call.Call.{Call}
use Rattle.rpc_msgs.specs.declared.call.CallRefusal.{CallRefusal}
use Rattle.rpc_msgs.specs.declared.call.CallRefusal.TheVariants.{Unreadable, NotCall, RpcVersion}
use Rattle.rpc_msgs.specs.declared.numbers.TheConstants.{CALL, RPC_VERSION, RPCSEC_GSS}
use Rattle.rpc_msgs.specs.declared.xdr_reader.XdrRefusal.{XdrRefusal}
use Rattle.rpc_msgs.specs.Auths.{AuthValue, auth_value, auth_octets, IsAuth, auth_at}

-- what a call holds; `header` is how many octets there are up to the end of the credential
pub record CallValue : Type 0 where
  pub xid : ℕ
  pub program : ℕ
  pub version : ℕ
  pub procedure : ℕ
  pub cred : AuthValue
  pub verf : AuthValue
  pub header : ℕ
  pub args : List ℕ

-- what a call that was read holds
abbrev pub call_value : Call → CallValue
call_value c = record {
  xid = c.xid;
  program = c.program;
  version = c.version;
  procedure = c.procedure;
  cred = auth_value c.cred;
  verf = auth_value c.verf;
  header = c.header;
  args = c.args.now;
}

-- the octets up to the end of the credential: the xid, the kind, the RPC version, whose procedure
-- is called, the credential
abbrev pub header_octets : ℕ → ℕ → ℕ → ℕ → AuthValue → List ℕ
header_octets xid program version procedure cred =
    word xid ++ (word CALL ++ (word RPC_VERSION
    ++ (word program ++ (word version ++ (word procedure ++ auth_octets cred)))))

-- a call's one spelling: behind its header stand the verifier and the arguments
abbrev pub call_octets : CallValue → List ℕ
call_octets c =
    header_octets c.xid c.program c.version c.procedure c.cred ++ (auth_octets c.verf ++ c.args)

-- what has a spelling
pub record IsCall (c : CallValue) : Type 0 where
  pub xid : c.xid < 2 ^ 32
  pub program : c.program < 2 ^ 32
  pub version : c.version < 2 ^ 32
  pub procedure : c.procedure < 2 ^ 32
  pub cred : IsAuth c.cred
  pub verf : IsAuth c.verf
  pub header : c.header ≡ length (header_octets c.xid c.program c.version c.procedure c.cred)

-- a call whose credential is one of RPCSEC_GSS (RFC 2203 section 5)
abbrev pub secure_call : ℕ → ℕ → ℕ → ℕ → List ℕ → AuthValue → List ℕ → CallValue
secure_call xid program version procedure body verf args = record {
  xid = xid;
  program = program;
  version = version;
  procedure = procedure;
  cred = record { flavour = RPCSEC_GSS; body = body };
  verf = verf;
  header = length
      (header_octets xid program version procedure (record { flavour = RPCSEC_GSS; body = body }));
  args = args;
}

-- octets that end inside a call or whose values aren't XDR
abbrev pub readable : {A : Type 0} → Result A XdrRefusal → Result A CallRefusal
readable (Ok x) = Ok x
readable (Err e) = Err (Unreadable e.at)

-- a word of the call
unfoldable pub call_word_at : Input → Result (ℕ × Input) CallRefusal
call_word_at i = readable (word_at i)

-- the RPC version; the xid is what a reply to another version needs
unfoldable pub version_at : ℕ → Input → Result (ℕ × Input) CallRefusal
version_at xid i = do
  version ← call_word_at i
  if version.0 == RPC_VERSION then Ok (xid, version.1) else Err (RpcVersion xid)

-- the xid, behind which the kind is judged before the RPC version is read
unfoldable pub xid_at : Input → Result (ℕ × Input) CallRefusal
xid_at i = do
  xid ← call_word_at i
  kind ← call_word_at xid.1
  if kind.0 == CALL then version_at xid.0 kind.1 else Err NotCall

-- what stands behind the RPC version
unfoldable pub rest_at : ℕ → Input → Result CallValue XdrRefusal
rest_at xid i = do
  program ← word_at i
  version ← word_at program.1
  procedure ← word_at version.1
  cred ← auth_at procedure.1
  verf ← auth_at cred.1
  Ok (record {
    xid = xid;
    program = program.0;
    version = version.0;
    procedure = procedure.0;
    cred = cred.0;
    verf = verf.0;
    header = place cred.1;
    args = verf.1.octets;
  })

-- the call that octets are
unfoldable pub call_at : List ℕ → Result CallValue CallRefusal
call_at octets = do
  xid ← xid_at (whole octets)
  readable (rest_at xid.0 xid.1)
