-- No judgement of a reply is a fault of the link.
use Rattle.std.specs.Prelude.{◌==◌, nat_le, not}
use Rattle.std.proofs.Common.{◌≡◌, length, ◌≢◌, ℕ, Bool, true, false, List, sym, ◌∙◌, Result, Ok, Err, IsErrOf, ap}
use Rattle.sec_base.specs.Answers.{Gives}
use Rattle.rpc_msgs.specs.Replies.{ReplyValue, accepted, mismatch, auth_error}
use Rattle.rpc_msgs.specs.ReplyReading.{reply_at}
use Rattle.rpc_msgs.specs.declared.reply_reading.ReplyRefusal.{ReplyRefusal}
use Rattle.rpc_msgs.specs.declared.xdr_reader.XdrRefusal.{XdrRefusal}
use Rattle.krb_tokens.specs.declared.end.Side.TheVariants.{Initiator}
use Rattle.rpcsec_bodies.specs.declared.refusal.BodyRefusal.{BodyRefusal}
use Rattle.rpcsec_bodies.specs.declared.refusal.BodyRefusal.TheVariants as bodies
use Rattle.rpcsec_bodies.specs.Opening.{unprotected}
use Rattle.rpcsec_msgs.specs.InitRes.{init_res_at}
use Rattle.spnego_core.specs.Outcome.{token_end}
use Rattle.rpcsec_msgs.specs.declared.init_res.InitRes.{InitRes}
use Rattle.spnego_core.specs.declared.outcome.Outcome.{Outcome}
use Rattle.spnego_core.specs.declared.refusal.NegRefusal.{NegRefusal}
use Rattle.spnego_core.specs.EndSteps.{StepOf}
use Rattle.spnego_core.specs.EndSteps as steps
use Rattle.gss_client.specs.declared.refusal.ClientRefusal.{ClientRefusal}
use Rattle.gss_client.specs.declared.refusal.ClientRefusal.TheVariants.{LinkFault, NoMemory}
use Rattle.rpcsec_bodies.specs.declared.service.Service.{Service}
use Rattle.gss_client.specs.declared.refusal.ClientRefusal.TheVariants.{Refused, Negotiation, BadReply}
use Rattle.gss_client.specs.declared.refusal.Denial.TheVariants.{Rpc, Auth, Accept, Gss}
use Rattle.gss_client.specs.declared.refusal.Denial.{Denial}
use Rattle.gss_client.specs.declared.refusal.ReplyWhy.{ReplyWhy}
use Rattle.gss_client.specs.declared.refusal.ReplyWhy.TheVariants.{Form, Xid, Verifier, Steps, Width, Body, Number}
use Rattle.gss_client.specs.Creation.{Machine, CreatedOf}
use Rattle.gss_client.specs.Creation as created
use Rattle.gss_client.specs.Judging.{AnswerValue, GrantedValue, ◌>>=◌, due, xid_of, place_of, formed, granted, answer_in, is_verified, placed, granted_in, negotiated, by_step, creation_by, verified_in, or_refused, call_result, holds_nothing, destroyed_in}

NoFault : {A : Type 0} → Result A ClientRefusal → Type 0
NoFault (Ok x) = Unit {0}
NoFault (Err refusal) = refusal ≢ LinkFault

fine : {A : Type 0} (x : A) → NoFault (Ok x)
unfolding NoFault
fine x = tt

bad : (why : ReplyWhy) → BadReply why ≢ LinkFault
bad why = λ e. cc

unheard : (refusal : NegRefusal) → Negotiation refusal ≢ LinkFault
unheard refusal = λ e. cc

denied : (denial : Denial) → Refused denial ≢ LinkFault
denied denial = λ e. cc

-- the rules that follow
follow : {A B : Type 0} (r : Result A ClientRefusal) (next : A → Result B ClientRefusal) → NoFault r → ((x : A) → NoFault (next x)) → NoFault (r >>= next)
unfolding NoFault
follow (Ok x) next p q = q x
follow (Err refusal) next p q = p

due-clear : (refusal : ClientRefusal) (holds : Bool) → refusal ≢ LinkFault → NoFault (due refusal holds)
unfolding NoFault
due-clear refusal true h = tt
due-clear refusal false h = h

formed-clear : (r : Result ReplyValue ReplyRefusal) → NoFault (formed r)
unfolding NoFault
formed-clear (Ok reply) = tt
formed-clear (Err refusal) = bad (Form refusal.at)

granted-clear : (size : ℕ) (reply : ReplyValue) → NoFault (granted size reply)
unfolding NoFault
granted-clear size (accepted xid flavour verf stat low high result) = tt
granted-clear size (mismatch xid low high) = denied (Rpc low high)
granted-clear size (auth_error xid stat) = denied (Auth stat)

answer-clear : (xid : ℕ) (octets : List ℕ) → NoFault (answer_in xid octets)
unfolding answer_in
answer-clear xid octets = follow _ _ (formed-clear (reply_at octets)) (λ (reply : ReplyValue). follow _ _ (due-clear (BadReply Xid) (xid_of reply == xid) (bad Xid)) (λ own. granted-clear (length octets) reply))

placed-clear : (answer : AnswerValue) (r : Result InitRes XdrRefusal) → NoFault (placed answer r)
unfolding NoFault
placed-clear answer (Ok result) = tt
placed-clear answer (Err refusal) = bad (Form (place_of answer refusal.at))

granted_in-clear : (xid : ℕ) (octets : List ℕ) → NoFault (granted_in xid octets)
unfolding granted_in
granted_in-clear xid octets =
    follow _ _ (answer-clear xid octets) (λ (answer : AnswerValue). follow _ _ (due-clear (Refused (Accept answer.stat)) (answer.stat == 0) (denied (Accept answer.stat))) (λ success. follow _ _ (placed-clear answer (init_res_at answer.result)) (λ (result : InitRes). follow _ _ (due-clear (Refused (Gss result.major result.minor)) (nat_le result.major 1) (denied (Gss result.major result.minor))) (λ status. fine (record { answer = answer; result = result })))))

negotiated-clear : {E : Type 0} (r : Result (StepOf E) NegRefusal) → NoFault (negotiated r)
unfolding NoFault
negotiated-clear (Ok step) = tt
negotiated-clear (Err refusal) = unheard refusal

by_step-clear : {E : Type 0} (g : GrantedValue) (step : StepOf E) → NoFault (by_step g step)
unfolding by_step
by_step-clear g (steps.More end token) =
    follow _ _ (due-clear (BadReply Steps) (g.result.major == 1) (bad Steps)) (λ u. fine (created.Going (record { end = end; handle = g.result.context; token = token })))
by_step-clear g (steps.Done outcome) =
    follow _ _ (due-clear (BadReply Steps) (g.result.major == 0) (bad Steps)) (λ u.
    follow _ _ (due-clear (BadReply Width) (not (g.result.window == 0)) (bad Width)) (λ v.
    follow _ _ (due-clear (BadReply Verifier) (is_verified outcome g.answer g.result.window) (bad Verifier)) (λ w. fine (created.Stands outcome g.result.context))))

creation-clear : {E : Type 0} (machine : Machine E) (end : E) (xid : ℕ) (octets : List ℕ) → NoFault (creation_by machine end xid octets)
unfolding creation_by
creation-clear machine end xid octets = follow _ _ (granted_in-clear xid octets) (λ (g : GrantedValue). follow _ _ (negotiated-clear (machine end g.result.token)) (λ step. by_step-clear g step))

verified-clear : (outcome : Outcome) (number xid : ℕ) (octets : List ℕ) → NoFault (verified_in outcome number xid octets)
unfolding verified_in
verified-clear outcome number xid octets =
    follow _ _ (answer-clear xid octets) (λ (answer : AnswerValue). follow _ _ (due-clear (BadReply Verifier) (is_verified outcome answer number) (bad Verifier)) (λ proved. follow _ _ (due-clear (Refused (Accept answer.stat)) (answer.stat == 0) (denied (Accept answer.stat))) (λ success. fine answer)))

or_refused-clear : (r : Result (List ℕ) BodyRefusal) → NoFault (or_refused r)
unfolding NoFault
or_refused-clear (Ok x) = tt
or_refused-clear (Err bodies.Protection) = bad Body
or_refused-clear (Err bodies.Number) = bad Number
or_refused-clear (Err bodies.NoMemory) = λ e. cc

call-clear : (outcome : Outcome) (service : Service) (number xid : ℕ) (octets : List ℕ) → NoFault (call_result outcome service number xid octets)
unfolding call_result
call-clear outcome service number xid octets = follow _ _ (verified-clear outcome number xid octets) (λ (answer : AnswerValue). or_refused-clear (unprotected (token_end outcome Initiator) service number answer.result))

destroyed-clear : (outcome : Outcome) (service : Service) (number xid : ℕ) (octets : List ℕ) → NoFault (destroyed_in outcome service number xid octets)
unfolding destroyed_in
destroyed-clear outcome service number xid octets = follow _ _ (verified-clear outcome number xid octets) (λ (answer : AnswerValue). due-clear (BadReply (Form (place_of answer 0))) (holds_nothing (token_end outcome Initiator) service number answer.result) (bad (Form (place_of answer 0))))

-- an answer of the code
none : {A B : Type 0} (view : A → B) (r : Result A ClientRefusal) (answer : Result B ClientRefusal) → NoFault answer → Gives NoMemory view r answer → IsErrOf r LinkFault → ⊥
unfolding NoFault
none view (Ok x) answer h g e = cc
none view (Err refusal) answer h g e =
    let clear : LinkFault ≢ NoMemory = λ f. cc in
    let is : refusal ≡ LinkFault = cc in
    let there : answer ≡ Err LinkFault = g (λ f. clear (sym is ∙ f)) ∙ ap (λ (d : ClientRefusal). Err d) is in
    never answer h there
  where
    never : {C : Type 0} (a : Result C ClientRefusal) → NoFault a → a ≡ Err LinkFault → ⊥
    never (Ok x) h f = cc
    never (Err d) h f = h cc

pub no-call-fault : (outcome : Outcome) (service : Service) (number xid : ℕ) (octets : List ℕ) (r : Result (List ℕ) ClientRefusal) → Gives NoMemory (λ x. x) r (call_result outcome service number xid octets) → IsErrOf r LinkFault → ⊥
no-call-fault outcome service number xid octets r g e = none (λ x. x) r (call_result outcome service number xid octets) (call-clear outcome service number xid octets) g e

pub no-destroy-fault : (outcome : Outcome) (service : Service) (number xid : ℕ) (octets : List ℕ) (r : Result (Unit {0}) ClientRefusal) → Gives NoMemory (λ x. x) r (destroyed_in outcome service number xid octets) → IsErrOf r LinkFault → ⊥
no-destroy-fault outcome service number xid octets r g e = none (λ x. x) r (destroyed_in outcome service number xid octets) (destroyed-clear outcome service number xid octets) g e

pub no-creation-fault : {A E : Type 0} (r : Result A ClientRefusal) (view : A → CreatedOf E) (machine : Machine E) (end : E) (xid : ℕ) (octets : List ℕ) → Gives NoMemory view r (creation_by machine end xid octets) → IsErrOf r LinkFault → ⊥
no-creation-fault r view machine end xid octets g e = none view r (creation_by machine end xid octets) (creation-clear machine end xid octets) g e
