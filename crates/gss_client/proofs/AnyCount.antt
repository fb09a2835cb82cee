-- A creation is the same for every count of turns that its end can't use up.
use Rattle.std.proofs.Common.{◌≡◌, ◌≤◌, subst, ℕ, zero, suc, ◌<◌, ◌==◌, Bool, true, false, not, List, refl, ap, sym, ◌∙◌, arith, Result, Ok, Err}
use Rattle.spnego_core.specs.declared.outcome.Outcome.{Outcome}
use Rattle.spnego_core.specs.declared.refusal.NegRefusal.{NegRefusal}
use Rattle.spnego_core.specs.Ends.{EndSays}
use Rattle.spnego_core.specs.Ends as ends
use Rattle.spnego_core.specs.EndSteps.{StepSays}
use Rattle.spnego_core.specs.EndSteps as steps
use Rattle.spnego_core.specs.Initiating.{init_step, step_of}
use Rattle.gss_client.specs.declared.refusal.ClientRefusal.{ClientRefusal}
use Rattle.gss_client.specs.declared.refusal.ClientRefusal.TheVariants.{BadReply}
use Rattle.gss_client.specs.declared.refusal.ReplyWhy.TheVariants.{Verifier, Steps, Width}
use Rattle.gss_client.specs.Creation.{OfferSays, CreatedSays}
use Rattle.gss_client.specs.Creation as created
use Rattle.gss_client.specs.declared.terms.Terms.{Terms}
use Rattle.gss_client.specs.Calling.{creation_call}
use Rattle.gss_client.specs.Judging.{◌>>=◌, due, GrantedValue, granted_in, negotiated, is_verified, by_step, creation_by, creation_step}
use Rattle.gss_client.specs.Laws.{CountLaw}
use Rattle.gss_client.specs.Rank.{replies_left, IsNearer}
use Rattle.gss_client.specs.Session.{SessionState, xid_after}
use Rattle.gss_client.specs.Talk.{turns_by, turns, by_turn, creates_by, creates}
use Rattle.gss_client.specs.Talking.{Said, Talking, after, goes_on, judges, exchanges}
use Rattle.gss_client.proofs.Nearer.{nearer}

-- ---- a reply that goes on leaves an end that takes fewer

goes-more : (count : ℕ) (offer next : OfferSays) (goes : Bool) → replies_left offer.end < count → (due (BadReply Steps) goes >>= λ unfinished. Ok (created.Going offer)) ≡ Ok (created.Going next) → replies_left next.end < count
goes-more count offer next true less e = let is : offer ≡ next = cc in subst (λ (o : OfferSays). replies_left o.end < count) is less
goes-more count offer next false less e = cc

goes-done : (outcome : Outcome) (handle : List ℕ) (next : OfferSays) (finished some proved : Bool) → (due (BadReply Steps) finished >>= λ one. due (BadReply Width) some >>= λ two. due (BadReply Verifier) proved >>= λ three. Ok (created.Stands outcome handle)) ≡ Ok (created.Going next) → ⊥
goes-done outcome handle next true true true e = cc
goes-done outcome handle next true true false e = cc
goes-done outcome handle next true false proved e = cc
goes-done outcome handle next false some proved e = cc

goes-step : (count : ℕ) (g : GrantedValue) (step : StepSays) (next : OfferSays) → IsNearer count step → by_step g step ≡ Ok (created.Going next) → replies_left next.end < count
unfolding by_step
goes-step count g (steps.More end token) next near e = goes-more count (record { end = end; handle = g.result.context; token = token }) next (g.result.major == 1) near e
goes-step count g (steps.Done outcome) next near e = absurd (goes-done outcome g.result.context next (g.result.major == 0) (not (g.result.window == 0)) (is_verified outcome g.answer g.result.window) e)

goes-end : (count : ℕ) (g : GrantedValue) (r : Result StepSays NegRefusal) (next : OfferSays) → ((step : StepSays) → r ≡ Ok step → IsNearer count step) → (negotiated r >>= λ step. by_step g step) ≡ Ok (created.Going next) → replies_left next.end < count
goes-end count g (Ok step) next near e = goes-step count g step next (near step refl) e
goes-end count g (Err refusal) next near e = cc

goes-granted : (end : EndSays) (r : Result GrantedValue ClientRefusal) (next : OfferSays) → (r >>= λ g. negotiated (step_of (init_step end g.result.token)) >>= λ step. by_step g step) ≡ Ok (created.Going next) → replies_left next.end < replies_left end
goes-granted end (Ok g) next e = goes-end (replies_left end) g (step_of (init_step end g.result.token)) next (nearer end g.result.token) e
goes-granted end (Err refusal) next e = cc

goes-reply : (end : EndSays) (xid : ℕ) (reply : List ℕ) (next : OfferSays) → creation_step end xid reply ≡ Ok (created.Going next) → replies_left next.end < replies_left end
unfolding creation_by
goes-reply end xid reply next e = goes-granted end (granted_in xid reply) next e

goes-heard : (end : EndSays) (xid : ℕ) (written rest : List ℕ) (heard : Result (List ℕ) ClientRefusal) (next : OfferSays) → (goes_on written rest (λ reply. judges (creation_step end xid reply)) heard).answer ≡ Ok (created.Going next) → replies_left next.end < replies_left end
goes-heard end xid written rest (Ok reply) next e = goes-reply end xid reply next e
goes-heard end xid written rest (Err refusal) next e = cc

goes-turn : (terms : Terms) (xid proc : ℕ) (offer next : OfferSays) (stream : List ℕ) → (turns terms xid proc offer stream).answer ≡ Ok (created.Going next) → replies_left next.end < replies_left offer.end
unfolding turns_by
goes-turn terms xid proc offer next stream e =
    let one : Said (List ℕ) = exchanges (creation_call terms xid proc offer.handle offer.token) stream in
    goes-heard offer.end xid one.written one.rest one.answer next e

-- ---- turn after turn

-- an end takes one reply at least
some-left : (end : EndSays) → 0 < replies_left end
some-left (ends.Opens opening) = omega arith
some-left (ends.Talks talking) = omega arith
some-left (ends.Signed signed) = omega arith

-- what follows a turn, by two ways to go on that agree on what it leads to
same-next : (terms : Terms) (first xid : ℕ) (one two : OfferSays → Talking SessionState) (what : CreatedSays) (stream : List ℕ) → ((next : OfferSays) → what ≡ created.Going next → one next stream ≡ two next stream) → by_turn terms first xid one what stream ≡ by_turn terms first xid two what stream
same-next terms first xid one two (created.Going offer) stream same = same offer refl
same-next terms first xid one two (created.Stands outcome handle) stream same = refl

same-after : (terms : Terms) (first xid : ℕ) (one two : OfferSays → Talking SessionState) (written rest : List ℕ) (answer : Result CreatedSays ClientRefusal) → ((next : OfferSays) → answer ≡ Ok (created.Going next) → one next rest ≡ two next rest) → goes_on written rest (by_turn terms first xid one) answer ≡ goes_on written rest (by_turn terms first xid two) answer
same-after terms first xid one two written rest (Ok what) same = ap (λ (s : Said SessionState). after written s) (same-next terms first xid one two what rest (λ next e. same next (ap (λ (c : CreatedSays). Ok c) e)))
same-after terms first xid one two written rest (Err refusal) same = refl

one-turn : (left : ℕ) (terms : Terms) (first xid proc : ℕ) (offer : OfferSays) (stream : List ℕ) → creates (suc left) terms first xid proc offer stream ≡ goes_on (turns terms xid proc offer stream).written (turns terms xid proc offer stream).rest (by_turn terms first xid (creates left terms first (xid_after xid) 2)) (turns terms xid proc offer stream).answer
unfolding creates_by
one-turn left terms first xid proc offer stream = refl

any-two : (left other : ℕ) (terms : Terms) (first xid proc : ℕ) (offer : OfferSays) (stream : List ℕ) → replies_left offer.end ≤ left → replies_left offer.end ≤ other → creates left terms first xid proc offer stream ≡ creates other terms first xid proc offer stream
any-two zero other terms first xid proc offer stream enough many = absurd (omega (arith, some-left offer.end))
any-two (suc left) zero terms first xid proc offer stream enough many = absurd (omega (arith, some-left offer.end))
any-two (suc left) (suc other) terms first xid proc offer stream enough many =
    one-turn left terms first xid proc offer stream
    ∙ (same-after terms first xid (creates left terms first (xid_after xid) 2) (creates other terms first (xid_after xid) 2) (turns terms xid proc offer stream).written (turns terms xid proc offer stream).rest (turns terms xid proc offer stream).answer
    (λ next e.
    let less : replies_left next.end < replies_left offer.end = goes-turn terms xid proc offer next stream e in
    any-two left other terms first (xid_after xid) 2 next (turns terms xid proc offer stream).rest (omega (arith, less, enough)) (omega (arith, less, many)))
    ∙ sym (one-turn other terms first xid proc offer stream))

pub count-law : CountLaw
count-law left terms first xid proc offer stream enough = any-two left (replies_left offer.end) terms first xid proc offer stream enough (omega arith)
