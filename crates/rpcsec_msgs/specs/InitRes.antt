-- Results of creation calls, RFC 2203 section 5.2.3.1.
use Rattle.std.specs.Prelude.{◌≡◌, ◌≢◌, ℕ, ◌<◌, ◌≤◌, ◌^◌, List, ◌++◌, length, Result, Ok, Err}
use Rattle.rpc_msgs.specs.Words.{word, opaque}
use Rattle.rpc_msgs.specs.Xdr.{Input, whole, ◌>>=◌, word_at, opaque_at, end_at}
use Rattle.rpc_msgs.specs.declared.xdr_reader.XdrRefusal.{XdrRefusal}
use Rattle.rpc_msgs.specs.declared.xdr_reader.XdrWhy.TheVariants.{NoMemory}
use Rattle.rpcsec_msgs.specs.declared.init_res.InitRes.{InitRes}

-- the one spelling: the handle, the major and minor status, the window, the token
abbrev pub init_res_octets : InitRes → List ℕ
init_res_octets r =
    opaque r.context ++ (word r.major ++ (word r.minor ++ (word r.window ++ opaque r.token)))

-- what has a spelling
pub record IsInitRes (r : InitRes) : Type 0 where
  pub context : length r.context ≤ 64
  pub major : r.major < 2 ^ 32
  pub minor : r.minor < 2 ^ 32
  pub window : r.window < 2 ^ 32
  pub token : length r.token ≤ 65536

-- the result at the front: the handle has at most 64 octets, the token at most 65,536
unfoldable pub init_fields_at : Input → Result (InitRes × Input) XdrRefusal
init_fields_at i = do
  context ← opaque_at 64 i
  major ← word_at context.1
  minor ← word_at major.1
  window ← word_at minor.1
  token ← opaque_at 65536 window.1
  Ok (
    record {
      context = context.0;
      major = major.0;
      minor = minor.0;
      window = window.0;
      token =
          token.0;
    },
    token.1,
  )

-- the result that octets are
unfoldable pub init_res_at : List ℕ → Result InitRes XdrRefusal
init_res_at octets = do
  result ← init_fields_at (whole octets)
  end ← end_at result.1
  Ok result.0

-- the answer of a reading at the front that takes memory, and what it leaves
abbrev pub MayRead : {A B : Type 0} → (A → B) → Input → Result A XdrRefusal
    → Result (B × Input) XdrRefusal → Type 0
MayRead view left (Ok x) answer = answer ≡ Ok (view x, left)
MayRead view left (Err e) answer = e.why ≢ NoMemory → answer ≡ Err e
