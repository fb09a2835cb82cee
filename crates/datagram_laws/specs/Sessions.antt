-- The records of a session's calls over datagrams, by transaction number and number.
use Rattle.std.specs.Prelude.{◌≡◌, ℕ, ◌+◌, ◌<◌, ◌≤◌, ◌^◌, List, [], ◌∷◌, ◌++◌, length, Ok}
use Rattle.std.specs.List.{AllByRecursion}
use Rattle.sec_base.specs.declared.draw.Draw as draws
use Rattle.datagram_post.specs.declared.post.Post as posts
use Rattle.rpc_msgs.specs.Calls.{CallValue, call_at}
use Rattle.rpcsec_msgs.specs.Cred.{CredValue, cred_at}
use Rattle.gss_client.specs.Again.{later}
use Rattle.gss_client.specs.Session.{SessionState, session_after}
use Rattle.datagram_client.specs.Calls.{sends, Called}
use Rattle.again_laws.specs.Sending.{Sent, Sending}

-- a call that was made: with a confounder for the first time that it was sent, and for each time
-- that it was sent again
pub record Made : Type 0 where
  pub procedure : ℕ
  pub args : List ℕ
  pub first : List ℕ
  pub again : List (List ℕ)

-- the session behind it
abbrev pub behind : SessionState → Made → SessionState
behind s call = session_after (later (length call.again) s)

-- the datagrams of calls in a row
abbrev pub sent_octets : SessionState → List Made → List (List ℕ)
sent_octets s [] = []
sent_octets s (call ∷ calls) =
    sends s call.procedure call.args 0 (call.first ∷ call.again)
    ++ sent_octets (behind s call) calls

-- the transaction number and the number of a session's next record
abbrev pub next_of : SessionState → Sent
next_of s = record { xid = s.xid; number = s.number }

-- of a call's records, from that with the number so many later
abbrev pub times : SessionState → ℕ → List (List ℕ) → List Sent
times s n [] = []
times s n (confounder ∷ more) = next_of (later n s) ∷ times s (n + 1) more

-- of calls in a row
abbrev pub sent_by : SessionState → List Made → List Sent
sent_by s [] = []
sent_by s (call ∷ calls) = times s 0 (call.first ∷ call.again) ++ sent_by (behind s call) calls

-- these octets read as a call with this transaction number, whose credential has this number
-- (RFC 5531, 9; RFC 2203, 5.3.1)
pub record Says (octets : List ℕ) (sent : Sent) : Type 0 where
  pub call : CallValue
  pub cred : CredValue
  pub read : call_at octets ≡ Ok call
  pub xid : call.xid ≡ sent.xid
  pub inside : cred_at call.cred.body ≡ Ok cred
  pub number : cred.seq ≡ sent.number

-- so it is of each, in order
abbrev pub EachSays : List (List ℕ) → List Sent → Type 0
EachSays [] [] = Unit {0}
EachSays [] (one ∷ sent) = ⊥
EachSays (octets ∷ more) [] = ⊥
EachSays (octets ∷ more) (one ∷ sent) = Says octets one × EachSays more sent

-- a session and its calls: its program and version are words, the server's handle is short, the
-- transaction numbers don't begin anew, and the numbers end before 0x80000000
pub record AreMade (s : SessionState) (calls : List Made) : Type 0 where
  pub program : s.terms.program < 2 ^ 32
  pub version : s.terms.version < 2 ^ 32
  pub handle : length s.handle ≤ 64
  pub xids : s.xid + length calls < 2 ^ 32
  pub numbers : s.number + length (sent_by s calls) ≤ 0x80000000
  pub procedures : AllByRecursion (λ call. call.procedure < 2 ^ 32) calls

-- what a session's calls send are records of a session: each has a greater number than those before
-- it, and transaction numbers never fall
pub record AreSent (s : SessionState) (calls : List Made) : Type 0 where
  pub sending : Sending (sent_by s calls)
  pub says : EachSays (sent_octets s calls) (sent_by s calls)

-- so it is of each session and all calls
abbrev pub SendsLaw : Type 0
SendsLaw = (s : SessionState) (calls : List Made) → AreMade s calls → AreSent s calls

-- a call of a procedure was made and was answered: it sent its datagrams, and left the session
-- behind it
pub record IsMade {P : Type 0} (post : posts.Ghosts P) (s next : SessionState) (procedure : ℕ)
    (args : List ℕ) (old new : P) : Type 0 where
  pub call : Made
  pub same_procedure : call.procedure ≡ procedure
  pub same_args : call.args ≡ args
  pub sent : post.sent new ≡ post.sent old ++ sent_octets s (call ∷ [])
  pub left : next ≡ behind s call

-- so it is of each call that is answered, by what it did (`DatagramSession::call`)
abbrev pub MadeLaw : {P D : Type 0} → posts.Ghosts P → draws.Ghosts D → Type 0
MadeLaw {P} {D} post draw = (s : SessionState) (procedure : ℕ) (args : List ℕ) (tries : ℕ)
    (old new : P) (draw_old draw_new : D) (answer : SessionState × List ℕ)
    → Called post draw s procedure args tries old new draw_old draw_new (Ok answer)
    → IsMade post s answer.0 procedure args old new
