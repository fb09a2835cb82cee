-- The creation of a context over datagrams: the talk of a client over the replies alone, each of
-- which stands for the record that it would be on a link.
use Rattle.std.specs.Prelude.{◌≡◌, ◌⊎◌, ℕ, ◌+◌, ◌<◌, true, List, [], ◌∷◌, ◌++◌, length, map, Option}
use Rattle.std.specs.Prelude.{None, Some, Result, Ok, Err}
use Rattle.std.specs.List.{flat_map}
use Rattle.datagram_post.specs.declared.post.Post as posts
use Rattle.rpc_msgs.specs.Records.{last_fragment}
use Rattle.gss_client.specs.declared.refusal.ClientRefusal.{ClientRefusal}
use Rattle.gss_client.specs.declared.refusal.ClientRefusal.TheVariants as clients
use Rattle.gss_client.specs.Session.{SessionState, xid_after}
use Rattle.gss_client.specs.Talking.{Talking, said}
use Rattle.datagram_client.specs.declared.hearing.TheConstants.{FLOOD}
use Rattle.datagram_client.specs.declared.refusal.PostRefusal.{PostRefusal}
use Rattle.datagram_client.specs.declared.refusal.PostRefusal.TheVariants as refusals
use Rattle.datagram_client.specs.Hearing.{answers, AreOther, Hears}

-- the same refusal over a link, where a reply that doesn't come is the end of the stream
abbrev pub client_refusal : PostRefusal → ClientRefusal
client_refusal refusals.PostFault = clients.LinkFault
client_refusal refusals.NoReply = clients.PeerEnded
client_refusal refusals.Flood = clients.PeerEnded
client_refusal refusals.Spent = clients.PeerEnded
client_refusal (refusals.Refused denial) = clients.Refused denial
client_refusal (refusals.BadReply why) = clients.BadReply why
client_refusal (refusals.Negotiation refusal) = clients.Negotiation refusal
client_refusal refusals.NoMemory = clients.NoMemory

-- records as a stream that has them one after the other, each as one fragment
abbrev pub marked : List (List ℕ) → List ℕ
marked records = flat_map last_fragment records

-- ---- what was heard

-- a turn: the datagrams that were passed over, and the reply
pub record Turn : Type 0 where
  pub over : List (List ℕ)
  pub reply : List ℕ

abbrev pub heard_in : Turn → List (Option (List ℕ))
heard_in turn = map Some turn.over ++ Some turn.reply ∷ []

abbrev pub reply_in : Turn → List ℕ
reply_in turn = turn.reply

-- in these turns, whose calls have the transaction numbers from this one on, each reply is the
-- first datagram that answers its call; and so is none of those that were heard behind them
abbrev pub AreTurns : ℕ → List Turn → List (List ℕ) → Type 0
AreTurns xid [] over = AreOther xid over
AreTurns xid (turn ∷ turns) over =
    AreOther xid turn.over × (answers xid turn.reply ≡ true) × AreTurns (xid_after xid) turns over

-- how many datagrams were passed over
abbrev pub count_over : List Turn → ℕ
count_over [] = 0
count_over (turn ∷ turns) = length turn.over + count_over turns

-- ---- one turn

-- for a fault of the post or want of memory
abbrev pub IsUnsent : {A : Type 0} → Result A PostRefusal → Type 0
IsUnsent (Err refusals.PostFault) = Unit {0}
IsUnsent (Err refusals.NoMemory) = Unit {0}
IsUnsent answer = ⊥

-- a call was sent, as far as the post took it and there was memory, and its reply was heard
pub record Asked {P : Type 0} (post : posts.Ghosts P) (call : List ℕ) (xid count count' : ℕ)
    (old new : P) (result : Result (List ℕ) PostRefusal) : Type 0 where
  pub sent : (post.sent new ≡ post.sent old ++ call ∷ [])
      × Hears xid count count' (post.heard old) (post.heard new) result
      ⊎ (post.sent new ≡ post.sent old) × (post.heard new ≡ post.heard old) × IsUnsent result

-- ---- what came of it

-- over the stream of these replies the part of a talk writes these calls, each as one record, and
-- comes to this. Where the post failed or there was no memory, it writes more behind them.
abbrev pub Says : {A : Type 0} → Talking A → List (List ℕ) → List (List ℕ)
    → Result A PostRefusal → Type 0
Says part replies calls (Ok value) = part (marked replies) ≡ said (marked calls) (Ok value) []
Says part replies calls (Err refusals.PostFault) =
    (more : List ℕ) × ((part (marked replies)).written ≡ marked calls ++ more)
Says part replies calls (Err refusals.NoMemory) =
    (more : List ℕ) × ((part (marked replies)).written ≡ marked calls ++ more)
Says part replies calls (Err refusal) =
    part (marked replies) ≡ said (marked calls) (Err (client_refusal refusal)) []

-- what was heard behind the last reply, and how many datagrams were passed over in all: a refusal
-- of a reply ends with that reply, `NoReply` with the wait in which nothing came, and `Flood` with
-- the last datagram that may be passed over
abbrev pub EndsBy : {A : Type 0} → Result A PostRefusal → List (List ℕ)
    → List (Option (List ℕ)) → ℕ → Type 0
EndsBy (Ok value) over last count = (over ≡ []) × (last ≡ []) × (count < FLOOD)
EndsBy (Err (refusals.Refused denial)) over last count =
    (over ≡ []) × (last ≡ []) × (count < FLOOD)
EndsBy (Err (refusals.BadReply why)) over last count =
    (over ≡ []) × (last ≡ []) × (count < FLOOD)
EndsBy (Err (refusals.Negotiation refusal)) over last count =
    (over ≡ []) × (last ≡ []) × (count < FLOOD)
EndsBy (Err refusals.NoReply) over last count = (last ≡ None ∷ []) × (count < FLOOD)
EndsBy (Err refusals.Flood) over last count = (last ≡ []) × (count ≡ FLOOD)
EndsBy (Err refusals.Spent) over last count = ⊥
EndsBy (Err refusals.PostFault) over last count = last ≡ []
EndsBy (Err refusals.NoMemory) over last count = Unit {0}

-- a creation, or what is left of it from the call of this transaction number on, where so many
-- datagrams had been passed over before: it heard these turns, and sent these calls
pub record Creates {P : Type 0} (post : posts.Ghosts P) (part : Talking SessionState)
    (xid count : ℕ) (old new : P) (result : Result SessionState PostRefusal) : Type 0 where
  pub turns : List Turn
  pub over : List (List ℕ)
  pub last : List (Option (List ℕ))
  pub calls : List (List ℕ)
  pub are : AreTurns xid turns over
  pub heard : post.heard new
      ≡ post.heard old ++ (flat_map heard_in turns ++ (map Some over ++ last))
  pub sent : post.sent new ≡ post.sent old ++ calls
  pub says : Says part (map reply_in turns) calls result
  pub ends : EndsBy result over last (count + (count_over turns + length over))
