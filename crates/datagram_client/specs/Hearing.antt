-- What a client hears over datagrams.
use Rattle.std.specs.Prelude.{◌≡◌, ℕ, ◌+◌, ◌<◌, Bool, true, false, ◌&&◌, nat_le, nat_lt, is_ok}
use Rattle.std.specs.Prelude.{if◌then◌else◌, IsTrue, List, [], ◌∷◌, ◌++◌, length, map, Option}
use Rattle.std.specs.Prelude.{None, Some, Result, Ok, Err}
use Rattle.std.specs.List.{AllByRecursion}
use Rattle.datagram_post.specs.declared.post.Post as posts
use Rattle.datagram_post.specs.declared.post.PostFault.{PostFault}
use Rattle.gss_client.specs.declared.again.Judged.{Judged}
use Rattle.gss_client.specs.Again.{Verdict, passes, judged, Judges}
use Rattle.gss_client.specs.Judging.{answer_in}
use Rattle.gss_client.specs.Session.{SessionState}
use Rattle.datagram_client.specs.declared.hearing.Heard.{Heard}
use Rattle.datagram_client.specs.declared.hearing.Heard.TheVariants as heards
use Rattle.datagram_client.specs.declared.hearing.TheConstants.{MOST_OCTETS, FLOOD}
use Rattle.datagram_client.specs.declared.refusal.PostRefusal.{PostRefusal}
use Rattle.datagram_client.specs.declared.refusal.PostRefusal.TheVariants as refusals

-- ---- while the reply to a creation call is due

-- a datagram that isn't too long is an accepted reply to the call of this transaction number (C2,
-- C3, C4)
abbrev pub answers : ℕ → List ℕ → Bool
answers xid octets = nat_le (length octets) MOST_OCTETS && is_ok (answer_in xid octets)

-- datagrams that are passed over
abbrev pub AreOther : ℕ → List (List ℕ) → Type 0
AreOther xid over = AllByRecursion (λ octets. answers xid octets ≡ false) over

-- the next that is heard
abbrev pub HeardAs : ℕ → List (Option (List ℕ)) → List (Option (List ℕ)) → Heard → Type 0
HeardAs xid old new (heards.Reply reply) =
    (answers xid reply ≡ true) × (new ≡ old ++ Some reply ∷ [])
HeardAs xid old new heards.Other =
    (octets : List ℕ) × (answers xid octets ≡ false) × (new ≡ old ++ Some octets ∷ [])
HeardAs xid old new heards.Nothing = new ≡ old ++ None ∷ []
HeardAs xid old new heards.Fault = new ≡ old
HeardAs xid old new heards.NoMemory = (more : List (Option (List ℕ))) × (new ≡ old ++ more)

-- how the hearing ends, behind the datagrams that were passed over, of which so many were by then
abbrev pub HearingEnds : ℕ → List (List ℕ) → ℕ → List (Option (List ℕ)) → List (Option (List ℕ))
    → Result (List ℕ) PostRefusal → Type 0
HearingEnds xid over count old new (Ok reply) = (answers xid reply ≡ true) × (count < FLOOD)
    × (new ≡ old ++ (map Some over ++ Some reply ∷ []))
HearingEnds xid over count old new (Err refusals.NoReply) =
    (count < FLOOD) × (new ≡ old ++ (map Some over ++ None ∷ []))
HearingEnds xid over count old new (Err refusals.Flood) =
    (count ≡ FLOOD) × (new ≡ old ++ (map Some over ++ []))
HearingEnds xid over count old new (Err refusals.PostFault) = new ≡ old ++ (map Some over ++ [])
HearingEnds xid over count old new (Err refusals.NoMemory) =
    (more : List (Option (List ℕ))) × (new ≡ old ++ (map Some over ++ more))
HearingEnds xid over count old new (Err refusals.Spent) = ⊥
HearingEnds xid over count old new (Err (refusals.Refused denial)) = ⊥
HearingEnds xid over count old new (Err (refusals.BadReply why)) = ⊥
HearingEnds xid over count old new (Err (refusals.Negotiation refusal)) = ⊥

-- datagrams were heard up to the reply; so many had been passed over before, and so many by then
pub record Hears (xid count count' : ℕ) (old new : List (Option (List ℕ)))
    (result : Result (List ℕ) PostRefusal) : Type 0 where
  pub over : List (List ℕ)
  pub other : AreOther xid over
  pub counted : count' ≡ count + length over
  pub ends : HearingEnds xid over count' old new result

-- ---- while a call is due

-- a datagram as the answer to the session's call, which was sent with the numbers from `first` up
-- to the session's own: one that is too long is passed over
abbrev pub judged_datagram : SessionState → ℕ → List ℕ → Verdict
judged_datagram s first octets =
    if nat_lt MOST_OCTETS (length octets) then passes else judged s first octets

-- what was heard, and what it is to the call
abbrev pub HeardBy : Result (Option Judged) PostFault → SessionState → ℕ
    → List (Option (List ℕ)) → List (Option (List ℕ)) → Type 0
HeardBy (Ok None) s first old new = new ≡ old ++ None ∷ []
HeardBy (Ok (Some what)) s first old new = (octets : List ℕ)
    × Judges what (judged_datagram s first octets) × (new ≡ old ++ Some octets ∷ [])
HeardBy (Err fault) s first old new = new ≡ old

-- one `recv`, over a post that tells
pub record HeardOnce {P : Type 0} (post : posts.Ghosts P) (s : SessionState) (first : ℕ)
    (old new : P) (result : Result (Option Judged) PostFault) : Type 0 where
  pub heard : IsTrue (post.tells old) → HeardBy result s first (post.heard old) (post.heard new)
  pub sent : IsTrue (post.tells old) → post.sent new ≡ post.sent old
  pub tells : post.tells new ≡ post.tells old
