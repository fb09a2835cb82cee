-- Reading a reply, RFC 5531 section 9: a refusal is at the first place at which no reply goes on.
use Rattle.std.specs.Prelude.{ℕ, ◌==◌, if◌then◌else◌, List, [], length, Result, Ok, Err}
use Rattle.rpc_msgs.specs.Auths.{AuthValue, auth_at}
use Rattle.rpc_msgs.specs.Replies.{ReplyValue, accepted, mismatch, auth_error}
use Rattle.rpc_msgs.specs.Xdr.{Input, whole, place, ◌>>=◌, word_at}
use Rattle.rpc_msgs.specs.declared.numbers.TheConstants.{REPLY, MSG_ACCEPTED, MSG_DENIED, SUCCESS}
use Rattle.rpc_msgs.specs.declared.numbers.TheConstants.{PROG_MISMATCH, RPC_MISMATCH, AUTH_ERROR}
use Rattle.rpc_msgs.specs.declared.reply_reading.ReplyRefusal.{ReplyRefusal}
use Rattle.rpc_msgs.specs.declared.xdr_reader.XdrRefusal.{XdrRefusal}

-- no reply goes on at this place
abbrev pub refused_at : ℕ → ReplyRefusal
refused_at at = record { at = at }

-- a refusal of a value is one of the reply at its place
abbrev pub located : {A : Type 0} → Result A XdrRefusal → Result A ReplyRefusal
located (Ok x) = Ok x
located (Err e) = Err (refused_at e.at)

-- a word of the reply
unfoldable pub reply_word_at : Input → Result (ℕ × Input) ReplyRefusal
reply_word_at i = located (word_at i)

-- the verifier of the reply
unfoldable pub reply_auth_at : Input → Result (AuthValue × Input) ReplyRefusal
reply_auth_at i = located (auth_at i)

-- a word that has to be this one
unfoldable pub due_at : ℕ → Input → Result (Unit {0} × Input) ReplyRefusal
due_at due i = do
  number ← reply_word_at i
  if number.0 == due then Ok (tt, number.1) else Err (refused_at (place i))

-- the reply, where nothing is left behind it
unfoldable pub done_at : ReplyValue → Input → Result ReplyValue ReplyRefusal
done_at v i = if length i.octets == 0 then Ok v else Err (refused_at (place i))

-- what follows PROG_MISMATCH
unfoldable pub range_at : ℕ → AuthValue → Input → Result ReplyValue ReplyRefusal
range_at xid verf i = do
  low ← reply_word_at i
  high ← reply_word_at low.1
  done_at (accepted xid verf.flavour verf.body PROG_MISMATCH low.0 high.0 []) high.1

-- what follows an accept stat
unfoldable pub body_at : ℕ → AuthValue → ℕ → Input → Result ReplyValue ReplyRefusal
body_at xid verf stat i =
    if stat == SUCCESS then Ok (accepted xid verf.flavour verf.body SUCCESS 0 0 i.octets)
    else (if stat == PROG_MISMATCH then range_at xid verf i
    else done_at (accepted xid verf.flavour verf.body stat 0 0 []) i)

-- what follows MSG_ACCEPTED: the verifier, the accept stat, and what belongs to that
unfoldable pub accepted_at : ℕ → Input → Result ReplyValue ReplyRefusal
accepted_at xid i = do
  verf ← reply_auth_at i
  stat ← reply_word_at verf.1
  body_at xid verf.0 stat.0 stat.1

-- what follows RPC_MISMATCH: the versions of RPC that are served
unfoldable pub mismatch_at : ℕ → Input → Result ReplyValue ReplyRefusal
mismatch_at xid i = do
  low ← reply_word_at i
  high ← reply_word_at low.1
  done_at (mismatch xid low.0 high.0) high.1

-- what follows AUTH_ERROR: its reason
unfoldable pub auth_error_at : ℕ → Input → Result ReplyValue ReplyRefusal
auth_error_at xid i = do
  stat ← reply_word_at i
  done_at (auth_error xid stat.0) stat.1

-- what follows MSG_DENIED: RPC_MISMATCH or AUTH_ERROR, with what belongs to it
unfoldable pub denied_at : ℕ → Input → Result ReplyValue ReplyRefusal
denied_at xid i = do
  why ← reply_word_at i
  if why.0 == RPC_MISMATCH then mismatch_at xid why.1
      else (if why.0 == AUTH_ERROR then auth_error_at xid why.1 else Err (refused_at (place i)))

-- what follows the kind
unfoldable pub state_at : ℕ → Input → Result ReplyValue ReplyRefusal
state_at xid i = do
  state ← reply_word_at i
  if state.0 == MSG_ACCEPTED then accepted_at xid state.1
      else (if state.0 == MSG_DENIED then denied_at xid state.1 else Err (refused_at (place i)))

-- the reply that octets are
unfoldable pub reply_at : List ℕ → Result ReplyValue ReplyRefusal
reply_at octets = do
  xid ← reply_word_at (whole octets)
  kind ← due_at REPLY xid.1
  state_at xid.0 kind.1
