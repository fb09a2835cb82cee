-- The body of a credential, RFC 2203 section 5.
use Rattle.std.specs.Prelude.{◌≡◌, ℕ, true, Bool, ◌==◌, ◌<◌, ◌≤◌, ◌^◌, ◌&&◌, ◌||◌, not, nat_le}
use Rattle.std.specs.Prelude.{if◌then◌else◌, List, ◌++◌, length, Result, Ok, Err}
use Rattle.rpc_msgs.specs.Words.{word, opaque}
use Rattle.rpc_msgs.specs.Xdr.{Input, whole, place, ◌>>=◌, word_at, opaque_at, end_at}
use Rattle.rpc_msgs.specs.declared.xdr_reader.XdrRefusal.{XdrRefusal}
use Rattle.rpcsec_msgs.specs.declared.numbers.TheConstants.{RPCSEC_GSS_VERS_1, RPCSEC_GSS_DATA}
use Rattle.rpcsec_msgs.specs.declared.numbers.TheConstants.{RPCSEC_GSS_DESTROY, RPC_GSS_SVC_NONE}
use Rattle.rpcsec_msgs.specs.declared.numbers.TheConstants.{RPC_GSS_SVC_PRIVACY}
use Rattle.rpcsec_msgs.specs.declared.cred.GssCred.{GssCred}
use Rattle.rpcsec_msgs.specs.declared.cred.CredRefusal.{CredRefusal}

-- what a credential holds: the procedure, the call's number, the service, and the context's handle
pub record CredValue : Type 0 where
  pub proc : ℕ
  pub seq : ℕ
  pub service : ℕ
  pub context : List ℕ

-- what a credential that was read holds
abbrev pub cred_value : GssCred → CredValue
cred_value c = record { proc = c.proc; seq = c.seq; service = c.service; context = c.context.now }

-- the services of a data call are none (1), integrity (2) and privacy (3); another call may have
-- any number there
abbrev pub is_service : ℕ → ℕ → Bool
is_service proc service = not (proc == RPCSEC_GSS_DATA)
    || (nat_le RPC_GSS_SVC_NONE service && nat_le service RPC_GSS_SVC_PRIVACY)

-- the one spelling: the version, the procedure, the number, the service, the handle
abbrev pub cred_octets : CredValue → List ℕ
cred_octets c =
    word RPCSEC_GSS_VERS_1 ++ (word c.proc ++ (word c.seq ++ (word c.service ++ opaque c.context)))

-- what has a spelling; the procedures are data (0), creation (1), its continuation (2) and
-- destruction (3)
pub record IsCred (c : CredValue) : Type 0 where
  pub proc : c.proc ≤ RPCSEC_GSS_DESTROY
  pub seq : c.seq < 2 ^ 32
  pub service : c.service < 2 ^ 32
  pub served : is_service c.proc c.service ≡ true
  pub context : length c.context ≤ 4294967295

-- ---- reading, with the place of the first octet that is wrong

-- a refusal of a value is one of the credential at its place
abbrev pub placed : {A : Type 0} → Result A XdrRefusal → Result A CredRefusal
placed (Ok x) = Ok x
placed (Err e) = Err (record { at = e.at })

-- a word of the credential
unfoldable pub cred_word_at : Input → Result (ℕ × Input) CredRefusal
cred_word_at i = placed (word_at i)

-- the version, which has to be 1
unfoldable pub version_at : Input → Result (Unit {0} × Input) CredRefusal
version_at i = do
  version ← cred_word_at i
  if version.0 == RPCSEC_GSS_VERS_1 then Ok (tt, version.1) else Err (record { at = place i })

-- the procedure, which has to be one of the four
unfoldable pub procedure_at : Input → Result (ℕ × Input) CredRefusal
procedure_at i = do
  proc ← cred_word_at i
  if nat_le proc.0 RPCSEC_GSS_DESTROY then Ok proc else Err (record { at = place i })

-- the service, which has to be one of the three if the call is a data call
unfoldable pub service_at : ℕ → Input → Result (ℕ × Input) CredRefusal
service_at proc i = do
  service ← cred_word_at i
  if is_service proc service.0 then Ok service else Err (record { at = place i })

-- the credential at the front, its fields in order
unfoldable pub cred_fields_at : Input → Result (CredValue × Input) CredRefusal
cred_fields_at i = do
  version ← version_at i
  proc ← procedure_at version.1
  seq ← cred_word_at proc.1
  service ← service_at proc.0 seq.1
  context ← placed (opaque_at 4294967295 service.1)
  Ok (record { proc = proc.0; seq = seq.0; service = service.0; context = context.0 }, context.1)

-- the credential that octets are
unfoldable pub cred_at : List ℕ → Result CredValue CredRefusal
cred_at octets = do
  cred ← cred_fields_at (whole octets)
  end ← placed (end_at cred.1)
  Ok cred.0
