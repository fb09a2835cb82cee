-- A session is created where the one reply to its opening call is heard and its judgement stands.
use Rattle.std.proofs.Common.{◌≡◌, ℕ, suc, ◌≤◌, lit<, refl, ap, ◌∙◌, List, [], ◌++◌, length, Result, Ok, Err, append-nil, append_assoc}
use Rattle.rpc_msgs.specs.Records.{Fragments, last_fragment}
use Rattle.spnego_core.specs.declared.outcome.Outcome.{Outcome}
use Rattle.spnego_core.specs.Initiating.{Started, init_start}
use Rattle.gss_client.specs.declared.refusal.ClientRefusal.{ClientRefusal}
use Rattle.gss_client.specs.Start.{StartSays}
use Rattle.gss_client.specs.Creation.{OfferSays, CreatedSays}
use Rattle.gss_client.specs.Creation as created
use Rattle.gss_client.specs.declared.terms.Terms.{Terms}
use Rattle.gss_client.specs.Calling.{creation_call}
use Rattle.gss_client.specs.Hearing.{whole, next_of}
use Rattle.gss_client.specs.Judging.{creation_step}
use Rattle.gss_client.specs.Rank.{replies_left}
use Rattle.gss_client.specs.Session.{xid_after}
use Rattle.gss_client.specs.Talk.{turns, turns_by, begun, by_turn, creates, creates_by, created_from}
use Rattle.gss_client.specs.Talking.{Said, Talking, said, after, goes_on, judges, by_heard, listens, exchanges}
use Rattle.gss_client.proofs.NextRecord.{of-frame}

-- a record at the front of a stream is the next one
pub next-first : (octets rest : List ℕ) → length octets ≤ 131072 → next_of (last_fragment octets ++ rest) ≡ whole octets rest
next-first octets rest few = let cut : Fragments = record { earlier = []; last = octets } in of-frame cut rest (record { few = lit< tt; size = few })

listens-first : (octets rest : List ℕ) → length octets ≤ 131072 → listens (last_fragment octets ++ rest) ≡ said [] (Ok octets) rest
unfolding listens
listens-first octets rest few = ap by_heard (next-first octets rest few)

-- ---- what is written first

pub record Fronts {A : Type 0} (front : List ℕ) (s : Said A) : Type 0 where
  pub more : List ℕ
  pub same : s.written ≡ front ++ more

pub goes-front : {A B : Type 0} (front written rest : List ℕ) (next : A → Talking B) (answer : Result A ClientRefusal) (more : List ℕ) → written ≡ front ++ more → Fronts front (goes_on written rest next answer)
goes-front front written rest next (Ok x) more e = record { more = more ++ (next x rest).written; same = ap (λ (zs : List ℕ). zs ++ (next x rest).written) e ∙ append_assoc front more (next x rest).written }
goes-front front written rest next (Err refusal) more e = record { more = more; same = e }

pub exchange-front : (call stream : List ℕ) → Fronts (last_fragment call) (exchanges call stream)
unfolding exchanges
exchange-front call stream = record { more = (listens stream).written; same = refl }

turn-front : (terms : Terms) (xid proc : ℕ) (offer : OfferSays) (stream : List ℕ) → Fronts (last_fragment (creation_call terms xid proc offer.handle offer.token)) (turns terms xid proc offer stream)
unfolding turns_by
turn-front terms xid proc offer stream =
    let call : List ℕ = creation_call terms xid proc offer.handle offer.token in
    let f = exchange-front call stream in
    goes-front (last_fragment call) (exchanges call stream).written (exchanges call stream).rest (λ octets. judges (creation_step offer.end xid octets)) (exchanges call stream).answer f.more f.same

pub creates-front : (left : ℕ) (terms : Terms) (first xid proc : ℕ) (offer : OfferSays) (stream : List ℕ) → Fronts (last_fragment (creation_call terms xid proc offer.handle offer.token)) (creates (suc left) terms first xid proc offer stream)
unfolding creates_by
creates-front left terms first xid proc offer stream =
    let f = turn-front terms xid proc offer stream in
    goes-front (last_fragment (creation_call terms xid proc offer.handle offer.token)) (turns terms xid proc offer stream).written (turns terms xid proc offer stream).rest (by_turn terms first xid (creates left terms first (xid_after xid) 2)) (turns terms xid proc offer stream).answer f.more f.same

pub created-is : (start : StartSays) (started : Started) (stream : List ℕ) → init_start start.setup ≡ Ok started → created_from start stream ≡ creates (replies_left started.end) start.terms start.first 1 1 (record { end = started.end; handle = []; token = started.token }) stream
unfolding created_from
created-is start started stream starts = rw starts refl

-- ---- what comes of it

pub exchanged : (call reply rest : List ℕ) → length reply ≤ 131072 → exchanges call (last_fragment reply ++ rest) ≡ said (last_fragment call) (Ok reply) rest
unfolding exchanges
exchanged call reply rest few = rw (listens-first reply rest few, append-nil (last_fragment call)) refl

turned : (terms : Terms) (xid proc : ℕ) (offer : OfferSays) (reply rest : List ℕ) (what : CreatedSays) → length reply ≤ 131072 → creation_step offer.end xid reply ≡ Ok what → turns terms xid proc offer (last_fragment reply ++ rest) ≡ said (last_fragment (creation_call terms xid proc offer.handle offer.token)) (Ok what) rest
unfolding turns_by
turned terms xid proc offer reply rest what few judged =
    rw (exchanged (creation_call terms xid proc offer.handle offer.token) reply rest few, judged, append-nil (last_fragment (creation_call terms xid proc offer.handle offer.token))) refl

pub established : (left : ℕ) (terms : Terms) (first xid proc : ℕ) (offer : OfferSays) (reply rest : List ℕ) (outcome : Outcome) (handle : List ℕ) → length reply ≤ 131072 → creation_step offer.end xid reply ≡ Ok (created.Stands outcome handle)
    → creates (suc left) terms first xid proc offer (last_fragment reply ++ rest) ≡ said (last_fragment (creation_call terms xid proc offer.handle offer.token)) (Ok (begun terms first (xid_after xid) outcome handle)) rest
unfolding creates_by
established left terms first xid proc offer reply rest outcome handle few judged =
    rw (turned terms xid proc offer reply rest (created.Stands outcome handle) few judged, append-nil (last_fragment (creation_call terms xid proc offer.handle offer.token))) refl

-- a turn before the others
pub continued : (left : ℕ) (terms : Terms) (first xid proc : ℕ) (offer next : OfferSays) (reply rest : List ℕ) → length reply ≤ 131072 → creation_step offer.end xid reply ≡ Ok (created.Going next)
    → creates (suc left) terms first xid proc offer (last_fragment reply ++ rest) ≡ after (last_fragment (creation_call terms xid proc offer.handle offer.token)) (creates left terms first (xid_after xid) 2 next rest)
unfolding creates_by
continued left terms first xid proc offer next reply rest few judged = rw (turned terms xid proc offer reply rest (created.Going next) few judged) refl
