-- The calls of a session over datagrams, one after the other.
use Rattle.std.specs.Prelude.{◌≡◌, ◌⊎◌, ℕ, ◌<◌, Bool, true, false, List, [], ◌∷◌, length, Result}
use Rattle.std.specs.Prelude.{Ok, Err}
use Rattle.sec_base.specs.declared.draw.Draw as draws
use Rattle.datagram_post.specs.declared.post.Post as posts
use Rattle.gss_client.specs.Session.{SessionState}
use Rattle.client_options.specs.Command.{called_by}
use Rattle.client_options.specs.Endings as clients
use Rattle.client_options.specs.declared.command.Command.{Command}
use Rattle.client_options.specs.declared.ending.RunEnd.TheVariants as ends
use Rattle.datagram_client.specs.Calls.{Called, Left}
use Rattle.datagram_client.specs.declared.refusal.PostRefusal.{PostRefusal}
use Rattle.datagram_client.specs.declared.refusal.PostRefusal.TheVariants as refusals
use Rattle.datagram_options.specs.declared.ending.CallEnd.{CallEnd}
use Rattle.datagram_options.specs.declared.ending.CallEnd.TheVariants.{PostFault, NoReply, Flood}
use Rattle.datagram_options.specs.declared.ending.CallEnd.TheVariants.{As}

-- what is called, with which arguments in XDR, how often, and how often each call is sent at most
pub record AsksOf : Type 0 where
  pub command : Command
  pub args : List ℕ
  pub times : ℕ
  pub tries : ℕ

-- ---- ends

-- the end of a run whose session was refused
abbrev pub end_of_refusal : PostRefusal → CallEnd
end_of_refusal refusals.PostFault = PostFault
end_of_refusal refusals.NoReply = NoReply
end_of_refusal refusals.Flood = Flood
end_of_refusal refusals.Spent = As ends.Spent
end_of_refusal (refusals.Refused denial) = As (ends.Refused denial)
end_of_refusal (refusals.BadReply why) = As (ends.BadReply why)
end_of_refusal (refusals.Negotiation refusal) = As (ends.Negotiation refusal)
end_of_refusal refusals.NoMemory = As ends.NoMemory

-- the end of a run whose calls were all answered, by what leaving the context came to
abbrev pub end_of_leaving : Result (Unit {0}) PostRefusal → CallEnd
end_of_leaving (Ok _) = As ends.Finished
end_of_leaving (Err refusal) = end_of_refusal refusal

-- the ends of a session: each but that of want of memory, which may come before one too
abbrev pub is_session_end : CallEnd → Bool
is_session_end PostFault = true
is_session_end NoReply = true
is_session_end Flood = true
is_session_end (As end) = clients.is_begun end

-- ---- one call

-- a session made a call, as `DatagramSession::call` does
abbrev pub Calls : {P D : Type 0} → posts.Ghosts P → draws.Ghosts D → AsksOf → SessionState → P → P
    → D → D → Result (SessionState × List ℕ) PostRefusal → Type 0
Calls post draw asks s old new draw_old draw_new answer =
    Called post draw s (called_by asks.command).number asks.args asks.tries old new draw_old
    draw_new answer

-- it was answered a result of the procedure
pub record IsAnswered {P D : Type 0} (post : posts.Ghosts P) (draw : draws.Ghosts D)
    (asks : AsksOf) (s : SessionState) (old new : P) (draw_old draw_new : D)
    (answer : SessionState × List ℕ) : Type 0 where
  pub called : Calls post draw asks s old new draw_old draw_new (Ok answer)
  pub fits : (called_by asks.command).is_result answer.1 ≡ true

-- it was refused
pub record IsRefused {P D : Type 0} (post : posts.Ghosts P) (draw : draws.Ghosts D)
    (asks : AsksOf) (s : SessionState) (old new : P) (draw_old draw_new : D) (end : CallEnd) : Type
    0 where
  pub refusal : PostRefusal
  pub called : Calls post draw asks s old new draw_old draw_new (Err refusal)
  pub ends : end ≡ end_of_refusal refusal

-- it was answered octets that are no result of the procedure
pub record IsForeign {P D : Type 0} (post : posts.Ghosts P) (draw : draws.Ghosts D)
    (asks : AsksOf) (s : SessionState) (old new : P) (draw_old draw_new : D) (end : CallEnd) : Type
    0 where
  pub answer : SessionState × List ℕ
  pub called : Calls post draw asks s old new draw_old draw_new (Ok answer)
  pub other : (called_by asks.command).is_result answer.1 ≡ false
  pub ends : end ≡ As ends.Foreign

-- by what comes of it
abbrev pub Answered : {P D : Type 0} → posts.Ghosts P → draws.Ghosts D → AsksOf → SessionState → P
    → P → D → D → Result (SessionState × List ℕ) CallEnd → Type 0
Answered post draw asks s old new draw_old draw_new (Ok answer) =
    IsAnswered post draw asks s old new draw_old draw_new answer
Answered post draw asks s old new draw_old draw_new (Err end) =
    IsRefused post draw asks s old new draw_old draw_new end
    ⊎ IsForeign post draw asks s old new draw_old draw_new end

-- ---- calls in a row

-- these are the results of calls in a row: each call is made by the session behind the one before,
-- and `last` is the session behind all of them
abbrev pub AreCalls : {P D : Type 0} → posts.Ghosts P → draws.Ghosts D → AsksOf → SessionState
    → List (List ℕ) → SessionState → P → P → D → D → Type 0
AreCalls post draw asks s [] last old new draw_old draw_new =
    (last ≡ s) × (new ≡ old) × (draw_new ≡ draw_old)
AreCalls {P} {D} post draw asks s (result ∷ results) last old new draw_old draw_new =
    (next : SessionState) × (middle : P) × (draw_middle : D)
    × IsAnswered post draw asks s old middle draw_old draw_middle (next, result)
    × AreCalls post draw asks next results last middle new draw_middle draw_new

-- ---- the whole

-- the context was left, as `DatagramSession::leave` does
pub record Leaves {P : Type 0} (post : posts.Ghosts P) (s : SessionState) (old new : P)
    (end : CallEnd) : Type 0 where
  pub answer : Result (Unit {0}) PostRefusal
  pub left : Left post s old new answer
  pub ends : end ≡ end_of_leaving answer

-- all calls were answered, and then the context was left
pub record WereAll {P D : Type 0} (post : posts.Ghosts P) (draw : draws.Ghosts D) (asks : AsksOf)
    (s last : SessionState) (old new : P) (draw_old draw_new : D) (results : List (List ℕ))
    (end : CallEnd) : Type 0 where
  pub middle : P
  pub calls : AreCalls post draw asks s results last old middle draw_old draw_new
  pub all : length results ≡ asks.times
  pub leaves : Leaves post last middle new end

-- a call ended the session, behind fewer that were answered
pub record WereSome {P D : Type 0} (post : posts.Ghosts P) (draw : draws.Ghosts D) (asks : AsksOf)
    (s last : SessionState) (old new : P) (draw_old draw_new : D) (results : List (List ℕ))
    (end : CallEnd) : Type 0 where
  pub middle : P
  pub draw_middle : D
  pub calls : AreCalls post draw asks s results last old middle draw_old draw_middle
  pub fewer : length results < asks.times
  pub stops : Answered post draw asks last middle new draw_middle draw_new (Err end)

-- there was no memory for the results, and nothing was called
pub record WereNone {P D : Type 0} (old new : P) (draw_old draw_new : D)
    (results : List (List ℕ)) (end : CallEnd) : Type 0 where
  pub none : results ≡ []
  pub same : new ≡ old
  pub undrawn : draw_new ≡ draw_old
  pub ends : end ≡ As ends.NoMemory

-- what the calls of a session come to
abbrev pub Converses : {P D : Type 0} → posts.Ghosts P → draws.Ghosts D → AsksOf → SessionState → P
    → P → D → D → List (List ℕ) → CallEnd → Type 0
Converses post draw asks s old new draw_old draw_new results end =
    ((last : SessionState) × WereAll post draw asks s last old new draw_old draw_new results end)
    ⊎ ((last : SessionState) × WereSome post draw asks s last old new draw_old draw_new results end)
    ⊎ WereNone old new draw_old draw_new results end
