-- A judgement of a reply to a creation call is no fault of the link, and no end of the stream.
use Rattle.std.specs.Prelude.{◌==◌, nat_le, not}
use Rattle.std.proofs.Common.{length, ℕ, Bool, true, false, List, Result, Ok, Err}
use Rattle.rpc_msgs.specs.Replies.{ReplyValue, accepted, mismatch, auth_error}
use Rattle.rpc_msgs.specs.ReplyReading.{reply_at}
use Rattle.rpc_msgs.specs.declared.reply_reading.ReplyRefusal.{ReplyRefusal}
use Rattle.rpc_msgs.specs.declared.xdr_reader.XdrRefusal.{XdrRefusal}
use Rattle.rpcsec_msgs.specs.InitRes.{init_res_at}
use Rattle.rpcsec_msgs.specs.declared.init_res.InitRes.{InitRes}
use Rattle.spnego_core.specs.declared.refusal.NegRefusal.{NegRefusal}
use Rattle.spnego_core.specs.EndSteps.{StepOf}
use Rattle.spnego_core.specs.EndSteps as steps
use Rattle.gss_client.specs.declared.refusal.ClientRefusal.{ClientRefusal}
use Rattle.gss_client.specs.declared.refusal.ClientRefusal.TheVariants as clients
use Rattle.gss_client.specs.declared.refusal.Denial.TheVariants.{Accept, Gss}
use Rattle.gss_client.specs.declared.refusal.ReplyWhy.TheVariants.{Xid, Verifier, Steps, Width}
use Rattle.gss_client.specs.Creation.{Machine}
use Rattle.gss_client.specs.Judging.{AnswerValue, GrantedValue, ◌>>=◌, due, xid_of, formed, granted, answer_in, is_verified, placed, granted_in, negotiated, by_step, creation_by}

abbrev pub Judges : ClientRefusal → Type 0
Judges clients.LinkFault = ⊥
Judges clients.PeerEnded = ⊥
Judges (clients.Refused denial) = Unit {0}
Judges (clients.Negotiation refusal) = Unit {0}
Judges (clients.BadReply why) = Unit {0}
Judges clients.NoMemory = Unit {0}

abbrev pub Judged : {A : Type 0} → Result A ClientRefusal → Type 0
Judged (Ok x) = Unit {0}
Judged (Err refusal) = Judges refusal

follow : {A B : Type 0} (r : Result A ClientRefusal) (next : A → Result B ClientRefusal) → Judged r → ((x : A) → Judged (next x)) → Judged (r >>= next)
follow (Ok x) next p q = q x
follow (Err refusal) next p q = p

due-judged : (refusal : ClientRefusal) (holds : Bool) → Judges refusal → Judged (due refusal holds)
due-judged refusal true h = tt
due-judged refusal false h = h

formed-judged : (r : Result ReplyValue ReplyRefusal) → Judged (formed r)
formed-judged (Ok reply) = tt
formed-judged (Err refusal) = tt

granted-judged : (size : ℕ) (reply : ReplyValue) → Judged (granted size reply)
granted-judged size (accepted xid flavour verf stat low high result) = tt
granted-judged size (mismatch xid low high) = tt
granted-judged size (auth_error xid stat) = tt

answer-judged : (xid : ℕ) (octets : List ℕ) → Judged (answer_in xid octets)
unfolding answer_in
answer-judged xid octets = follow _ _ (formed-judged (reply_at octets)) (λ (reply : ReplyValue). follow _ _ (due-judged (clients.BadReply Xid) (xid_of reply == xid) tt) (λ own. granted-judged (length octets) reply))

placed-judged : (answer : AnswerValue) (r : Result InitRes XdrRefusal) → Judged (placed answer r)
placed-judged answer (Ok result) = tt
placed-judged answer (Err refusal) = tt

granted_in-judged : (xid : ℕ) (octets : List ℕ) → Judged (granted_in xid octets)
unfolding granted_in
granted_in-judged xid octets =
    follow _ _ (answer-judged xid octets) (λ (answer : AnswerValue). follow _ _ (due-judged (clients.Refused (Accept answer.stat)) (answer.stat == 0) tt) (λ success. follow _ _ (placed-judged answer (init_res_at answer.result)) (λ (result : InitRes). follow _ _ (due-judged (clients.Refused (Gss result.major result.minor)) (nat_le result.major 1) tt) (λ status. tt))))

negotiated-judged : {E : Type 0} (r : Result (StepOf E) NegRefusal) → Judged (negotiated r)
negotiated-judged (Ok step) = tt
negotiated-judged (Err refusal) = tt

by_step-judged : {E : Type 0} (g : GrantedValue) (step : StepOf E) → Judged (by_step g step)
unfolding by_step
by_step-judged g (steps.More end token) = follow _ _ (due-judged (clients.BadReply Steps) (g.result.major == 1) tt) (λ u. tt)
by_step-judged g (steps.Done outcome) =
    follow _ _ (due-judged (clients.BadReply Steps) (g.result.major == 0) tt) (λ u.
    follow _ _ (due-judged (clients.BadReply Width) (not (g.result.window == 0)) tt) (λ v.
    follow _ _ (due-judged (clients.BadReply Verifier) (is_verified outcome g.answer g.result.window) tt) (λ w. tt)))

pub creation-judged : {E : Type 0} (machine : Machine E) (end : E) (xid : ℕ) (octets : List ℕ) → Judged (creation_by machine end xid octets)
unfolding creation_by
creation-judged machine end xid octets = follow _ _ (granted_in-judged xid octets) (λ (g : GrantedValue). follow _ _ (negotiated-judged (machine end g.result.token)) (λ step. by_step-judged g step))
