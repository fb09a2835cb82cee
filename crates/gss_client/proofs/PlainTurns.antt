-- A creation by the objects of Kerberos and SCRAM is the one by their credentials.
use Rattle.std.proofs.Common.{◌≡◌, refl, ap, subst, ◌∙◌, ℕ, zero, suc, Bool, List, [], arith, Option, Result, Ok, Err}
use Rattle.std.proofs.Math.Path.{fun_ext}
use Rattle.sec_base.specs.Link.{Wire}
use Rattle.spnego_core.specs.declared.outcome.Outcome.{Outcome}
use Rattle.spnego_core.specs.declared.refusal.NegRefusal.{NegRefusal}
use Rattle.spnego_core.specs.Ends.{EndSays}
use Rattle.spnego_core.specs.Initiating.{Started, sent_of, init_start}
use Rattle.init_ends.specs.Ends.{EndMeans}
use Rattle.init_ends.specs.Initiating.{end_start, end_step}
use Rattle.init_ends.specs.Plain.{objects_of, StandsAs, StartsAs}
use Rattle.init_ends.proofs.PlainSteps.{plain_law}
use Rattle.gss_client.specs.declared.conversation.Parting.{Parting}
use Rattle.gss_client.specs.Query.{QuerySays}
use Rattle.gss_client.specs.declared.refusal.ClientRefusal.{ClientRefusal}
use Rattle.gss_client.specs.declared.refusal.ClientRefusal.TheVariants.{Negotiation}
use Rattle.gss_client.specs.Creation.{CreatedMeans, CreatedSays, OfferMeans, OfferSays}
use Rattle.gss_client.specs.Creation as created
use Rattle.gss_client.specs.declared.terms.Terms.{Terms}
use Rattle.gss_client.specs.Calling.{creation_call}
use Rattle.gss_client.specs.Conversing.{TalkedBy, Talked}
use Rattle.gss_client.specs.Exchanging.{Talks}
use Rattle.gss_client.specs.Judging.{creation_by, creation_step}
use Rattle.gss_client.specs.Laws.{LeadsAs, CreatesAs, PlainCreation}
use Rattle.gss_client.specs.Session.{SessionState, xid_after}
use Rattle.gss_client.specs.Start.{StartSays, StartMeans, objects_start}
use Rattle.gss_client.specs.Talk.{turns_by, turns, begun, by_turn, creates_by, creates, begins_over, begins, created_over, created_from}
use Rattle.gss_client.specs.Talking.{Said, Talking, said, after, goes_on, ◌>>=◌, judges, exchanges}
use Rattle.gss_client.proofs.AnyCount.{count-law}
use Rattle.gss_client.proofs.Nearer.{few-left}
use Rattle.gss_client.proofs.PlainReplies.{replied-as}

-- ---- one turn

-- both wrote and left the same, and lead on alike
record SaysAs (one : Said CreatedMeans) (own : Said CreatedSays) : Type 0 where
  written : one.written ≡ own.written
  left : one.rest ≡ own.rest
  answers : CreatesAs one.answer own.answer

heard-as : (end : EndMeans) (plain : EndSays) (xid : ℕ) → StandsAs end plain → (written rest : List ℕ) (heard : Result (List ℕ) ClientRefusal)
    → SaysAs (goes_on written rest (λ reply. judges (creation_by end_step end xid reply)) heard) (goes_on written rest (λ reply. judges (creation_step plain xid reply)) heard)
heard-as end plain xid h written rest (Ok reply) = record { written = refl; left = refl; answers = replied-as end plain xid reply h }
heard-as end plain xid h written rest (Err refusal) = record { written = refl; left = refl; answers = refl }

called-as : (end : EndMeans) (plain : EndSays) (xid : ℕ) → StandsAs end plain → (call due stream : List ℕ) → call ≡ due
    → SaysAs ((exchanges call >>= λ reply. judges (creation_by end_step end xid reply)) stream) ((exchanges due >>= λ reply. judges (creation_step plain xid reply)) stream)
called-as end plain xid h call due stream e =
    subst (λ (c : List ℕ). SaysAs ((exchanges call >>= λ reply. judges (creation_by end_step end xid reply)) stream) ((exchanges c >>= λ reply. judges (creation_step plain xid reply)) stream)) e
    (heard-as end plain xid h (exchanges call stream).written (exchanges call stream).rest (exchanges call stream).answer)

turned-as : (terms : Terms) (xid proc : ℕ) (offer : OfferMeans) (own : OfferSays) (stream : List ℕ) → StandsAs offer.end own.end → offer.handle ≡ own.handle → offer.token ≡ own.token
    → SaysAs (turns_by end_step terms xid proc offer stream) (turns terms xid proc own stream)
unfolding turns_by
turned-as terms xid proc offer own stream h e f =
    called-as offer.end own.end xid h (creation_call terms xid proc offer.handle offer.token) (creation_call terms xid proc own.handle own.token) stream
    (ap (λ (handle : List ℕ). creation_call terms xid proc handle offer.token) e ∙ ap (creation_call terms xid proc own.handle) f)

-- ---- what follows a turn

-- two ways to go on that agree wherever their ends stand alike
abbrev Agree : (OfferMeans → Talking SessionState) → (OfferSays → Talking SessionState) → Type 0
Agree one two = (offer : OfferMeans) (own : OfferSays) (stream : List ℕ) → StandsAs offer.end own.end → offer.handle ≡ own.handle → offer.token ≡ own.token → one offer stream ≡ two own stream

led-as : (terms : Terms) (first xid : ℕ) (one : OfferMeans → Talking SessionState) (two : OfferSays → Talking SessionState) → Agree one two → (what : CreatedMeans) (plain : CreatedSays) (stream : List ℕ) → LeadsAs what plain
    → by_turn terms first xid one what stream ≡ by_turn terms first xid two plain stream
led-as terms first xid one two same (created.Going offer) (created.Going own) stream h = same offer own stream h.0 h.1 h.2
led-as terms first xid one two same (created.Going offer) (created.Stands outcome handle) stream h = absurd h
led-as terms first xid one two same (created.Stands outcome handle) (created.Going own) stream h = absurd h
led-as terms first xid one two same (created.Stands outcome handle) (created.Stands agreed given) stream h =
    ap (λ (o : Outcome). judges (Ok (begun terms first (xid_after xid) o handle)) stream) h.0 ∙ ap (λ (octets : List ℕ). judges (Ok (begun terms first (xid_after xid) agreed octets)) stream) h.1

answered-as : (terms : Terms) (first xid : ℕ) (one : OfferMeans → Talking SessionState) (two : OfferSays → Talking SessionState) → Agree one two → (written rest : List ℕ) (x : Result CreatedMeans ClientRefusal) (y : Result CreatedSays ClientRefusal) → CreatesAs x y
    → goes_on written rest (by_turn terms first xid one) x ≡ goes_on written rest (by_turn terms first xid two) y
answered-as terms first xid one two same written rest (Ok what) (Ok plain) h = ap (λ (s : Said SessionState). after written s) (led-as terms first xid one two same what plain rest h)
answered-as terms first xid one two same written rest (Ok what) (Err refusal) h = absurd h
answered-as terms first xid one two same written rest (Err refusal) (Ok plain) h = absurd h
answered-as terms first xid one two same written rest (Err refusal) (Err other) h = ap (λ (r : ClientRefusal). said written (Err r) rest) h

followed-as : (terms : Terms) (first xid : ℕ) (one : OfferMeans → Talking SessionState) (two : OfferSays → Talking SessionState) → Agree one two → (a : Said CreatedMeans) (b : Said CreatedSays) → SaysAs a b
    → goes_on a.written a.rest (by_turn terms first xid one) a.answer ≡ goes_on b.written b.rest (by_turn terms first xid two) b.answer
followed-as terms first xid one two same a b h =
    ap (λ (written : List ℕ). goes_on written a.rest (by_turn terms first xid one) a.answer) h.written
    ∙ (ap (λ (rest : List ℕ). goes_on b.written rest (by_turn terms first xid one) a.answer) h.left
    ∙ answered-as terms first xid one two same b.written b.rest a.answer b.answer h.answers)

-- ---- turn after turn

created-as : (left : ℕ) (terms : Terms) (first xid proc : ℕ) → Agree (creates_by end_step left terms first xid proc) (creates left terms first xid proc)
unfolding creates_by
created-as zero terms first xid proc offer own stream h e f = refl
created-as (suc left) terms first xid proc offer own stream h e f =
    followed-as terms first xid (creates_by end_step left terms first (xid_after xid) 2) (creates left terms first (xid_after xid) 2) (created-as left terms first (xid_after xid) 2)
    (turns_by end_step terms xid proc offer stream) (turns terms xid proc own stream) (turned-as terms xid proc offer own stream h e f)

-- ---- the whole creation

begun-as : (terms : Terms) (first : ℕ) (r : Result (EndMeans × List ℕ) NegRefusal) (s : Result Started NegRefusal) (stream : List ℕ) → StartsAs r (sent_of s) → begins_over terms first r stream ≡ begins terms first s stream
begun-as terms first (Ok started) (Ok plain) stream h =
    created-as 16 terms first 1 1 (record { end = started.0; handle = []; token = started.1 }) (record { end = plain.end; handle = []; token = plain.token }) stream h.0 refl h.1
    ∙ count-law 16 terms first 1 1 (record { end = plain.end; handle = []; token = plain.token }) stream (omega (arith, few-left plain.end))
begun-as terms first (Ok started) (Err refusal) stream h = absurd h
begun-as terms first (Err refusal) (Ok plain) stream h = absurd h
begun-as terms first (Err refusal) (Err other) stream h = ap (λ (r : NegRefusal). judges (Err (Negotiation r)) stream) h

whole-as : (start : StartSays) (stream : List ℕ) → created_over (objects_start start) stream ≡ created_from start stream
unfolding created_over created_from
whole-as start stream = begun-as start.terms start.first (end_start (objects_of start.setup)) (init_start start.setup) stream (plain_law.starts start.setup)

pub plain_creation : PlainCreation
plain_creation = record { replies = replied-as; whole = whole-as }

-- ---- talks by objects that got a plain start's credentials

created-is : (start : StartMeans) (own : StartSays) → start ≡ objects_start own → created_over start ≡ created_from own
created-is start own e = ap created_over e ∙ fun_ext (whole-as own)

pub created-plain : (start : StartMeans) (own : StartSays) (a b : Wire) (r : Result SessionState ClientRefusal) → start ≡ objects_start own → Talks (created_over start) a b r → Talks (created_from own) a b r
created-plain start own a b r e t = subst (λ (part : Talking SessionState). Talks part a b r) (created-is start own e) t

pub talked-plain : (tells : Bool) (given given' : List ℕ) (start : StartMeans) (own : StartSays) (times : ℕ) (query : QuerySays) (args : List ℕ) (a b : Wire) (outcome : Option Outcome) (results : List (List ℕ)) (parting : Parting) → start ≡ objects_start own
    → TalkedBy tells given given' (created_over start) times query args a b outcome results parting → Talked tells given given' own times query args a b outcome results parting
talked-plain tells given given' start own times query args a b outcome results parting e t =
    subst (λ (creation : Talking SessionState). TalkedBy tells given given' creation times query args a b outcome results parting) (created-is start own e) t
