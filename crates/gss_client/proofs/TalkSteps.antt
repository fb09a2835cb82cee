-- The steps of a session, each by its exchange and the judgement of its reply.
use Rattle.std.proofs.Common.{◌≡◌, ◌≢◌, ℕ, zero, suc, ◌-◌, ◌<◌, List, [], refl, ap, subst, sym, ◌∙◌, arith, Result, Ok, Err}
use Rattle.sec_base.specs.Link.{Wire}
use Rattle.sec_base.specs.Answers.{Gives}
use Rattle.mech_objects.specs.Meaning.{MechSays}
use Rattle.gss_client.specs.declared.refusal.ClientRefusal.{ClientRefusal}
use Rattle.gss_client.specs.declared.refusal.ClientRefusal.TheVariants.{Negotiation, NoMemory, BadReply}
use Rattle.gss_client.specs.declared.refusal.ReplyWhy.TheVariants.{Steps}
use Rattle.gss_client.specs.Start.{StartMeans}
use Rattle.gss_client.specs.declared.creation.Created.{Created}
use Rattle.gss_client.specs.Creation.{Machine, OfferOf, CreatedOf, CreatedMeans, created_means, reply_means}
use Rattle.gss_client.specs.Creation as created
use Rattle.gss_client.specs.declared.terms.Terms.{Terms}
use Rattle.spnego_core.specs.declared.outcome.Outcome.{Outcome}
use Rattle.spnego_core.specs.declared.refusal.NegRefusal.{NegRefusal}
use Rattle.spnego_core.specs.declared.refusal.NegRefusal.TheVariants as negs
use Rattle.init_ends.specs.Ends.{EndMeans}
use Rattle.init_ends.specs.Initiating.{end_start, end_step}
use Rattle.gss_client.specs.Calling.{creation_call, data_call, destroy_call}
use Rattle.gss_client.specs.Exchanging.{Done, Stopped, Talks}
use Rattle.gss_client.specs.Judging.{creation_by, result_taken, destroyed_in}
use Rattle.gss_client.specs.Session.{SessionState, xid_after}
use Rattle.gss_client.specs.Talk.{turns_by, begun, by_turn, creates_by, begins_over, created_over, calls, destroys}
use Rattle.gss_client.specs.Talking.{Talking, ◌>>=◌, judges, exchanges}
use Rattle.gss_client.proofs.Parts.{went-nothing, stopped-first, talks-then, talks-judged}

as-given : {A : Type 0} (r answer : Result A ClientRefusal) → r ≡ answer → Gives NoMemory (λ x. x) r answer
as-given (Ok x) answer e = sym e
as-given (Err refusal) answer e = λ memory. sym e

pub as-said : {X : Type 0} {D : X → Type 0} (r : Result (Created X D) ClientRefusal) (says : (x : X) × D x → MechSays) (answer : Result CreatedMeans ClientRefusal) → Gives NoMemory (λ c. created_means c says) r answer → Gives NoMemory (λ x. x) (reply_means r says) answer
as-said (Ok created) says answer g = g
as-said (Err refusal) says answer g = g

-- the call that was written is the one that is due
judged-reply : {A : Type 0} (call due : List ℕ) (judge : List ℕ → Result A ClientRefusal) (a b : Wire) (reply : List ℕ) (r : Result A ClientRefusal) → call ≡ due → Done (exchanges call) a b reply → Gives NoMemory (λ x. x) r (judge reply) → Talks (exchanges due >>= (λ octets. judges (judge octets))) a b r
judged-reply call due judge a b reply r e d g =
    talks-then (exchanges due) (λ octets. judges (judge octets)) a b b reply r (subst (λ (c : List ℕ). Done (exchanges c) a b reply) e d) (talks-judged (judge reply) r b g)

no-reply : {A : Type 0} (call due : List ℕ) (judge : List ℕ → Result A ClientRefusal) (a b : Wire) (refusal : ClientRefusal) → call ≡ due → Stopped (exchanges call) a b refusal → Stopped (exchanges due >>= (λ octets. judges (judge octets))) a b refusal
no-reply call due judge a b refusal e s =
    stopped-first (exchanges due) (λ octets. judges (judge octets)) a b refusal (subst (λ (c : List ℕ). Stopped (exchanges c) a b refusal) e s)

pub called : (s : SessionState) (procedure : ℕ) (args confounder call : List ℕ) (a b : Wire) (reply : List ℕ) (r : Result (SessionState × List ℕ) ClientRefusal) → call ≡ data_call s procedure args confounder → Done (exchanges call) a b reply → Gives NoMemory (λ x. x) r (result_taken s reply) → Talks (calls s procedure args confounder) a b r
unfolding calls
called s procedure args confounder call a b reply r e d g = judged-reply call (data_call s procedure args confounder) (result_taken s) a b reply r e d g

pub uncalled : (s : SessionState) (procedure : ℕ) (args confounder call : List ℕ) (a b : Wire) (refusal : ClientRefusal) → call ≡ data_call s procedure args confounder → Stopped (exchanges call) a b refusal → Stopped (calls s procedure args confounder) a b refusal
unfolding calls
uncalled s procedure args confounder call a b refusal e d = no-reply call (data_call s procedure args confounder) (result_taken s) a b refusal e d

pub destroyed : (s : SessionState) (call : List ℕ) (a b : Wire) (reply : List ℕ) (r : Result (Unit {0}) ClientRefusal) → call ≡ destroy_call s → Done (exchanges call) a b reply → Gives NoMemory (λ x. x) r (destroyed_in s.outcome s.terms.service s.number s.xid reply) → Talks (destroys s) a b r
unfolding destroys
destroyed s call a b reply r e d g = judged-reply call (destroy_call s) (destroyed_in s.outcome s.terms.service s.number s.xid) a b reply r e d g

pub undestroyed : (s : SessionState) (call : List ℕ) (a b : Wire) (refusal : ClientRefusal) → call ≡ destroy_call s → Stopped (exchanges call) a b refusal → Stopped (destroys s) a b refusal
unfolding destroys
undestroyed s call a b refusal e d = no-reply call (destroy_call s) (destroyed_in s.outcome s.terms.service s.number s.xid) a b refusal e d

pub turned : {E : Type 0} (machine : Machine E) (terms : Terms) (xid proc : ℕ) (offer : OfferOf E) (call : List ℕ) (a b : Wire) (reply : List ℕ) (r : Result (CreatedOf E) ClientRefusal) → call ≡ creation_call terms xid proc offer.handle offer.token → Done (exchanges call) a b reply → Gives NoMemory (λ x. x) r (creation_by machine offer.end xid reply) → Talks (turns_by machine terms xid proc offer) a b r
unfolding turns_by
turned machine terms xid proc offer call a b reply r e d g = judged-reply call (creation_call terms xid proc offer.handle offer.token) (creation_by machine offer.end xid) a b reply r e d g

pub unturned : {E : Type 0} (machine : Machine E) (terms : Terms) (xid proc : ℕ) (offer : OfferOf E) (call : List ℕ) (a b : Wire) (refusal : ClientRefusal) → call ≡ creation_call terms xid proc offer.handle offer.token → Stopped (exchanges call) a b refusal → Stopped (turns_by machine terms xid proc offer) a b refusal
unfolding turns_by
unturned machine terms xid proc offer call a b refusal e d = no-reply call (creation_call terms xid proc offer.handle offer.token) (creation_by machine offer.end xid) a b refusal e d

-- ---- turn after turn

-- no turn is left
pub no-turn : {E : Type 0} (machine : Machine E) (left : ℕ) (terms : Terms) (first xid proc : ℕ) (offer : OfferOf E) (a : Wire) → left ≡ 0 → Stopped (creates_by machine left terms first xid proc offer) a a (BadReply Steps)
unfolding creates_by
no-turn machine left terms first xid proc offer a e =
    subst (λ (n : ℕ). Stopped (creates_by machine n terms first xid proc offer) a a (BadReply Steps)) (sym e) (talks-judged (Err (BadReply Steps)) (Err (BadReply Steps)) a (λ memory. refl))

one-turn : {E : Type 0} (machine : Machine E) (left : ℕ) (terms : Terms) (first xid proc : ℕ) (offer : OfferOf E) → 0 < left → creates_by machine left terms first xid proc offer ≡ (turns_by machine terms xid proc offer >>= by_turn terms first xid (creates_by machine (left - 1) terms first (xid_after xid) 2))
unfolding creates_by
one-turn machine zero terms first xid proc offer h = absurd (omega arith)
one-turn machine (suc left) terms first xid proc offer h = let e : suc left - 1 ≡ left = omega arith in rw e refl

pub established-on : {E : Type 0} (machine : Machine E) (left : ℕ) (terms : Terms) (first xid proc : ℕ) (offer next : OfferOf E) (a b c : Wire) (r : Result SessionState ClientRefusal) → 0 < left → Done (turns_by machine terms xid proc offer) a b (created.Going next) → Talks (creates_by machine (left - 1) terms first (xid_after xid) 2 next) b c r → Talks (creates_by machine left terms first xid proc offer) a c r
established-on machine left terms first xid proc offer next a b c r h d t =
    subst (λ (part : Talking SessionState). Talks part a c r) (sym (one-turn machine left terms first xid proc offer h))
    (talks-then (turns_by machine terms xid proc offer) (by_turn terms first xid (creates_by machine (left - 1) terms first (xid_after xid) 2)) a b c (created.Going next) r d t)

pub established : {E : Type 0} (machine : Machine E) (left : ℕ) (terms : Terms) (first xid proc : ℕ) (offer : OfferOf E) (outcome : Outcome) (handle : List ℕ) (a b : Wire) → 0 < left → Done (turns_by machine terms xid proc offer) a b (created.Stands outcome handle) → Done (creates_by machine left terms first xid proc offer) a b (begun terms first (xid_after xid) outcome handle)
established machine left terms first xid proc offer outcome handle a b h d =
    subst (λ (part : Talking SessionState). Done part a b (begun terms first (xid_after xid) outcome handle)) (sym (one-turn machine left terms first xid proc offer h))
    (talks-then (turns_by machine terms xid proc offer) (by_turn terms first xid (creates_by machine (left - 1) terms first (xid_after xid) 2)) a b b (created.Stands outcome handle) (Ok (begun terms first (xid_after xid) outcome handle)) d
    (talks-judged (Ok (begun terms first (xid_after xid) outcome handle)) (Ok (begun terms first (xid_after xid) outcome handle)) b refl))

pub unestablished : {E : Type 0} (machine : Machine E) (left : ℕ) (terms : Terms) (first xid proc : ℕ) (offer : OfferOf E) (a b : Wire) (refusal : ClientRefusal) → 0 < left → Stopped (turns_by machine terms xid proc offer) a b refusal → Stopped (creates_by machine left terms first xid proc offer) a b refusal
unestablished machine left terms first xid proc offer a b refusal h s =
    subst (λ (part : Talking SessionState). Stopped part a b refusal) (sym (one-turn machine left terms first xid proc offer h))
    (stopped-first (turns_by machine terms xid proc offer) (by_turn terms first xid (creates_by machine (left - 1) terms first (xid_after xid) 2)) a b refusal s)

-- ---- the start

begun-with : (terms : Terms) (first : ℕ) (r : Result (EndMeans × List ℕ) NegRefusal) (end : EndMeans) (token : List ℕ) → r ≡ Ok (end, token) → begins_over terms first r ≡ creates_by end_step 16 terms first 1 1 (record { end = end; handle = []; token = token })
begun-with terms first r end token e = rw e refl

pub started : (start : StartMeans) (end : EndMeans) (token : List ℕ) (a b : Wire) (r : Result SessionState ClientRefusal) → end_start start.setup ≡ Ok (end, token) → Talks (creates_by end_step 16 start.terms start.first 1 1 (record { end = end; handle = []; token = token })) a b r → Talks (created_over start) a b r
unfolding created_over
started start end token a b r e t = subst (λ (part : Talking SessionState). Talks part a b r) (sym (begun-with start.terms start.first (end_start start.setup) end token e)) t

unstarted-is : (start : StartMeans) (refusal : NegRefusal) → end_start start.setup ≡ Err refusal → created_over start ≡ judges (Err (Negotiation refusal))
unfolding created_over
unstarted-is start refusal e = ap (begins_over start.terms start.first) e

pub unstarted : (start : StartMeans) (refusal : NegRefusal) (answer : ClientRefusal) (a : Wire) → (refusal ≢ negs.NoMemory → end_start start.setup ≡ Err refusal) → (refusal ≢ negs.NoMemory → answer ≡ Negotiation refusal) → (refusal ≡ negs.NoMemory → answer ≡ NoMemory) → Stopped (created_over start) a a answer
unstarted start refusal answer a is negotiation want = record {
  took = [];
  wrote = [];
  went = went-nothing a;
  front = ((created_over start a.coming).written, refl);
  whole = λ fault memory. sym (ap (λ (part : Talking SessionState). (part a.coming).written) (unstarted-is start refusal (is (λ e. memory (want e)))));
  cause = λ fault memory. ap (λ (part : Talking SessionState). (part a.coming).answer) (unstarted-is start refusal (is (λ e. memory (want e)))) ∙ ap (λ (d : ClientRefusal). Err d) (sym (negotiation (λ e. memory (want e))));
}
