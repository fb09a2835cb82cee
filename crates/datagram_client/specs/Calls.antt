-- A call over datagrams: what it sends and what comes of it, by what it hears.
use Rattle.std.specs.Prelude.{◌≡◌, ℕ, ◌+◌, ◌<◌, ◌≤◌, IsTrue, List, [], ◌∷◌, ◌++◌, length, take}
use Rattle.std.specs.Prelude.{Option, None, Some, Result, Ok, Err}
use Rattle.std.specs.List.{flat_map, AllByRecursion}
use Rattle.sec_base.specs.declared.draw.Draw as draws
use Rattle.datagram_post.specs.declared.post.Post as posts
use Rattle.gss_client.specs.declared.refusal.ClientRefusal.TheVariants as clients
use Rattle.gss_client.specs.Again.{later, Verdict, passes, takes, refuses}
use Rattle.gss_client.specs.Calling.{data_call, destroy_call}
use Rattle.gss_client.specs.Session.{SessionState, session_after}
use Rattle.datagram_client.specs.declared.hearing.TheConstants.{FLOOD}
use Rattle.datagram_client.specs.declared.refusal.PostRefusal.{PostRefusal}
use Rattle.datagram_client.specs.declared.refusal.PostRefusal.TheVariants as refusals
use Rattle.datagram_client.specs.Hearing.{judged_datagram}

-- the call as it is sent with each of these confounders: with the one transaction number, and each
-- time the next number
abbrev pub sends : SessionState → ℕ → List ℕ → ℕ → List (List ℕ) → List (List ℕ)
sends s procedure args n [] = []
sends s procedure args n (confounder ∷ more) =
    data_call (later n s) procedure args confounder ∷ sends s procedure args (n + 1) more

-- how often nothing came, and how many datagrams came
abbrev pub count_none : List (Option (List ℕ)) → ℕ
count_none [] = 0
count_none (None ∷ heard) = count_none heard + 1
count_none (Some octets ∷ heard) = count_none heard

abbrev pub count_some : List (Option (List ℕ)) → ℕ
count_some [] = 0
count_some (None ∷ heard) = count_some heard
count_some (Some octets ∷ heard) = count_some heard + 1

-- each datagram was passed over: by the numbers that had been sent by then, of which the last is
-- the first and so many
abbrev pub Passed : SessionState → ℕ → List (Option (List ℕ)) → Type 0
Passed s n [] = Unit {0}
Passed s n (None ∷ heard) = Passed s (n + 1) heard
Passed s n (Some octets ∷ heard) =
    (judged_datagram (later n s) s.number octets ≡ passes) × Passed s n heard

-- a draw gave these confounders, 16 octets each, in order
pub record Drew {D : Type 0} (draw : draws.Ghosts D) (old new : D)
    (confounders : List (List ℕ)) : Type 0 where
  pub each : AllByRecursion (λ one. length one ≡ 16) confounders
  pub kept : IsTrue (draw.tells new) → IsTrue (draw.tells old)
  pub given : IsTrue (draw.tells new)
      → draw.given new ≡ draw.given old ++ flat_map (λ one. one) confounders

-- ---- one step

-- the call was sent whole, or for a fault or want of memory not at all
abbrev pub SentBy : Result (Unit {0}) PostRefusal → List (List ℕ) → List (List ℕ) → List ℕ → Type 0
SentBy (Ok _) old new octets = new ≡ old ++ octets ∷ []
SentBy (Err refusals.PostFault) old new octets = new ≡ old
SentBy (Err refusals.NoMemory) old new octets = new ≡ old
SentBy (Err refusal) old new octets = ⊥

-- a call was sent once
pub record SentOnce {P D : Type 0} (post : posts.Ghosts P) (draw : draws.Ghosts D)
    (s : SessionState) (procedure : ℕ) (args : List ℕ) (old new : P) (draw_old draw_new : D)
    (result : Result (Unit {0}) PostRefusal) : Type 0 where
  pub confounder : List ℕ
  pub drew : Drew draw draw_old draw_new (confounder ∷ [])
  pub sent : IsTrue (post.tells old)
      → SentBy result (post.sent old) (post.sent new) (data_call s procedure args confounder)
  pub heard : IsTrue (post.tells old) → post.heard new ≡ post.heard old
  pub tells : post.tells new ≡ post.tells old

-- ---- the whole call

-- a session's call heard these, all passed over, and then `last`; and sent itself once and again
-- with these confounders
pub record Course {P D : Type 0} (post : posts.Ghosts P) (draw : draws.Ghosts D) (s : SessionState)
    (procedure : ℕ) (args : List ℕ) (old new : P) (draw_old draw_new : D)
    (front : List (Option (List ℕ))) (confounders : List (List ℕ))
    (last : List (Option (List ℕ))) : Type 0 where
  pub drew : Drew draw draw_old draw_new confounders
  pub passed : Passed s 0 front
  pub heard : post.heard new ≡ post.heard old ++ (front ++ last)
  pub sent : post.sent new ≡ post.sent old ++ sends s procedure args 0 confounders

-- a datagram decided, behind others that were passed over, and fewer than `tries` waits in which
-- nothing came
pub record Decides {P D : Type 0} (post : posts.Ghosts P) (draw : draws.Ghosts D) (s : SessionState)
    (procedure : ℕ) (args : List ℕ) (tries : ℕ) (old new : P) (draw_old draw_new : D)
    (verdict : Verdict) : Type 0 where
  pub front : List (Option (List ℕ))
  pub octets : List ℕ
  pub confounders : List (List ℕ)
  pub course : Course post draw s procedure args old new draw_old draw_new front confounders
      (Some octets ∷ [])
  pub waits : count_none front < tries
  pub few : count_some front < FLOOD
  pub count : length confounders ≡ count_none front + 1
  pub is : judged_datagram (later (count_none front) s) s.number octets ≡ verdict

-- nothing decided: so often nothing came, so many datagrams were passed over, and it was sent so
-- often
pub record Ends {P D : Type 0} (post : posts.Ghosts P) (draw : draws.Ghosts D) (s : SessionState)
    (procedure : ℕ) (args : List ℕ) (old new : P) (draw_old draw_new : D)
    (Holds : List (Option (List ℕ)) → ℕ → Type 0) : Type 0 where
  pub heard : List (Option (List ℕ))
  pub confounders : List (List ℕ)
  pub course : Course post draw s procedure args old new draw_old draw_new heard confounders []
  pub holds : Holds heard (length confounders)

-- it broke off: a front of what was due was sent
pub record Breaks {P D : Type 0} (post : posts.Ghosts P) (draw : draws.Ghosts D) (s : SessionState)
    (procedure : ℕ) (args : List ℕ) (tries : ℕ) (old new : P) (draw_old draw_new : D) : Type
    0 where
  pub confounders : List (List ℕ)
  pub drew : Drew draw draw_old draw_new confounders
  pub many : length confounders ≤ tries
  pub count : ℕ
  pub sent : post.sent new ≡ post.sent old ++ take count (sends s procedure args 0 confounders)

-- nothing came so often, and it was sent as often
abbrev pub IsUnanswered : ℕ → List (Option (List ℕ)) → ℕ → Type 0
IsUnanswered tries heard sent = (count_none heard ≡ tries) × (sent ≡ tries)

-- as many datagrams were passed over as may be
abbrev pub IsFlooded : ℕ → List (Option (List ℕ)) → ℕ → Type 0
IsFlooded tries heard sent = (count_some heard ≡ FLOOD) × (count_none heard < tries)
    × (sent ≡ count_none heard + 1)

-- a send was due, and no number was left
abbrev pub IsSpent : SessionState → ℕ → List (Option (List ℕ)) → ℕ → Type 0
IsSpent s tries heard sent = (count_none heard < tries) × (sent ≡ count_none heard)
    × (s.number + count_none heard ≡ 0x80000000)

-- what a call did, by what it answers
abbrev pub Called : {P D : Type 0} → posts.Ghosts P → draws.Ghosts D → SessionState → ℕ → List ℕ
    → ℕ → P → P → D → D → Result (SessionState × List ℕ) PostRefusal → Type 0
Called post draw s procedure args tries old new draw_old draw_new (Ok answer) =
    (d : Decides post draw s procedure args tries old new draw_old draw_new (takes answer.1))
    × (answer.0 ≡ session_after (later (count_none d.front) s))
Called post draw s procedure args tries old new draw_old draw_new (Err (refusals.Refused denial)) =
    Decides post draw s procedure args tries old new draw_old draw_new
    (refuses (clients.Refused denial))
Called post draw s procedure args tries old new draw_old draw_new (Err (refusals.BadReply why)) =
    Decides post draw s procedure args tries old new draw_old draw_new
    (refuses (clients.BadReply why))
Called post draw s procedure args tries old new draw_old draw_new (Err refusals.NoReply) =
    Ends post draw s procedure args old new draw_old draw_new (IsUnanswered tries)
Called post draw s procedure args tries old new draw_old draw_new (Err refusals.Flood) =
    Ends post draw s procedure args old new draw_old draw_new (IsFlooded tries)
Called post draw s procedure args tries old new draw_old draw_new (Err refusals.Spent) =
    Ends post draw s procedure args old new draw_old draw_new (IsSpent s tries)
Called post draw s procedure args tries old new draw_old draw_new (Err refusals.PostFault) =
    Breaks post draw s procedure args tries old new draw_old draw_new
Called post draw s procedure args tries old new draw_old draw_new (Err refusals.NoMemory) =
    Breaks post draw s procedure args tries old new draw_old draw_new
Called post draw s procedure args tries old new draw_old draw_new
    (Err (refusals.Negotiation refusal)) = ⊥

-- ---- the end of a context

-- the call that destroys the context was sent once, or for a fault or want of memory not at all;
-- where no number was left, there is none; and nothing was heard
pub record Left {P : Type 0} (post : posts.Ghosts P) (s : SessionState) (old new : P)
    (result : Result (Unit {0}) PostRefusal) : Type 0 where
  pub sent : SentBy result (post.sent old) (post.sent new) (destroy_call s)
  pub heard : post.heard new ≡ post.heard old
