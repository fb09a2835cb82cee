-- Replies of ONC RPC, RFC 5531 section 9.
use Rattle.std.specs.Prelude.{◌≡◌, ◌≢◌, ◌≤◌, ◌<◌, ◌^◌, ℕ, List, [], ◌++◌, length, if◌then◌else◌}
use Rattle.std.specs.Prelude.{nat_eq}
use Rattle.rpc_msgs.specs.Words.{word, opaque}
use Rattle.rpc_msgs.specs.declared.numbers.TheConstants.{REPLY, MSG_ACCEPTED, MSG_DENIED, SUCCESS}
use Rattle.rpc_msgs.specs.declared.numbers.TheConstants.{PROG_MISMATCH, RPC_MISMATCH, AUTH_ERROR}
use Rattle.rpc_msgs.specs.declared.reply.Reply.{Reply}
use Rattle.rpc_msgs.specs.declared.reply.Reply.TheVariants.{Accepted, Mismatch, AuthError}

-- what a reply holds
pub data ReplyValue : Type 0 where
  accepted : (xid flavour : ℕ) (verf : List ℕ) (stat low high : ℕ) (result : List ℕ) → ReplyValue
  mismatch : (xid low high : ℕ) → ReplyValue
  auth_error : (xid stat : ℕ) → ReplyValue

-- what a reply that was read or is to be written holds
abbrev pub reply_value : Reply → ReplyValue
reply_value (Accepted xid flavour verf stat low high result) =
    accepted xid flavour verf.now stat low high result.now
reply_value (Mismatch xid low high) = mismatch xid low high
reply_value (AuthError xid stat) = auth_error xid stat

-- an accepted reply up to its accept stat: the xid, the kind, the reply stat, the verifier
abbrev pub accepted_head : ℕ → ℕ → List ℕ → ℕ → List ℕ
accepted_head xid flavour verf stat =
    word xid ++ word REPLY ++ word MSG_ACCEPTED ++ word flavour ++ opaque verf ++ word stat

-- what follows the accept stat: the result at SUCCESS, the versions that are served at
-- PROG_MISMATCH
abbrev pub accepted_body : ℕ → ℕ → ℕ → List ℕ → List ℕ
accepted_body stat low high result = if nat_eq stat SUCCESS then result
    else (if nat_eq stat PROG_MISMATCH then (word low ++ word high) else [])

-- denied: RPC_MISMATCH with the versions of RPC that are served, or AUTH_ERROR with its reason
abbrev pub mismatch_octets : ℕ → ℕ → ℕ → List ℕ
mismatch_octets xid low high =
    word xid ++ word REPLY ++ word MSG_DENIED ++ word RPC_MISMATCH ++ word low ++ word high

-- denied by AUTH_ERROR: the reason why the caller isn't accepted
abbrev pub auth_error_octets : ℕ → ℕ → List ℕ
auth_error_octets xid stat =
    word xid ++ word REPLY ++ word MSG_DENIED ++ word AUTH_ERROR ++ word stat

-- a reply's one spelling
abbrev pub reply_octets : ReplyValue → List ℕ
reply_octets (accepted xid flavour verf stat low high result) =
    accepted_head xid flavour verf stat ++ accepted_body stat low high result
reply_octets (mismatch xid low high) = mismatch_octets xid low high
reply_octets (auth_error xid stat) = auth_error_octets xid stat

-- what has a spelling: a verifier of at most 400 octets, a result only at SUCCESS, versions only at
-- PROG_MISMATCH
abbrev pub IsReply : ReplyValue → Type 0
IsReply (accepted xid flavour verf stat low high result) =
    (length verf ≤ 400) × (stat ≢ SUCCESS → result ≡ []) × (stat ≢ PROG_MISMATCH → low ≡ 0)
    × (stat ≢ PROG_MISMATCH → high ≡ 0)
IsReply (mismatch xid low high) = Unit {0}
IsReply (auth_error xid stat) = Unit {0}

-- each number fits into a word
abbrev pub HasWords : ReplyValue → Type 0
HasWords (accepted xid flavour verf stat low high result) =
    (xid < 2 ^ 32) × (flavour < 2 ^ 32) × (stat < 2 ^ 32) × (low < 2 ^ 32) × (high < 2 ^ 32)
HasWords (mismatch xid low high) = (xid < 2 ^ 32) × (low < 2 ^ 32) × (high < 2 ^ 32)
HasWords (auth_error xid stat) = (xid < 2 ^ 32) × (stat < 2 ^ 32)
