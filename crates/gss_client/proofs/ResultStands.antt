-- A result stands in its reply.
use Rattle.std.specs.Prelude.{◌==◌, ◌&&◌, is_ok}
use Rattle.std.proofs.Common.{◌≡◌, ℕ, Bool, true, false, List, length, refl, ap, ◌∙◌, subst, eqb-true, Result, Ok, Err}
use Rattle.krb_tokens.specs.declared.end.Side.TheVariants.{Initiator}
use Rattle.krb_tokens.specs.Mic.{checked_mic}
use Rattle.rpc_msgs.specs.Replies.{ReplyValue, accepted, mismatch, auth_error}
use Rattle.rpc_msgs.specs.ReplyReading.{reply_at}
use Rattle.rpc_msgs.specs.Words.{word}
use Rattle.rpc_msgs.specs.declared.reply_reading.ReplyRefusal.{ReplyRefusal}
use Rattle.rpcsec_bodies.specs.declared.refusal.BodyRefusal.{BodyRefusal}
use Rattle.rpcsec_bodies.specs.declared.refusal.BodyRefusal.TheVariants as bodies
use Rattle.rpcsec_bodies.proofs.Taken.{held-by}
use Rattle.spnego_core.specs.Outcome.{token_end}
use Rattle.spnego_core.specs.declared.outcome.Outcome.{Outcome}
use Rattle.gss_client.specs.declared.refusal.ClientRefusal.{ClientRefusal}
use Rattle.gss_client.specs.declared.refusal.ClientRefusal.TheVariants.{Refused, BadReply}
use Rattle.gss_client.specs.declared.refusal.Denial.TheVariants.{Accept}
use Rattle.gss_client.specs.declared.refusal.ReplyWhy.TheVariants.{Xid, Verifier}
use Rattle.gss_client.specs.Judging.{AnswerValue, ◌>>=◌, due, xid_of, formed, granted, answer_in, is_verified, succeeded, verified_in, or_refused, call_result, result_taken}
use Rattle.gss_client.specs.Laws.{StandsIn, ResultLaw}
use Rattle.gss_client.specs.Session.{SessionState, session_after}

-- what was taken by a chain of rules
record Both {A B : Type 0} (r : Result A ClientRefusal) (next : A → Result B ClientRefusal) (y : B) : Type 0 where
  value : A
  first : r ≡ Ok value
  second : next value ≡ Ok y

both : {A B : Type 0} (r : Result A ClientRefusal) (next : A → Result B ClientRefusal) (y : B) → (r >>= next) ≡ Ok y → Both r next y
both (Ok x) next y e = record { value = x; first = refl; second = e }
both (Err refusal) next y e = cc

held : (refusal : ClientRefusal) (b : Bool) (u : Unit {0}) → due refusal b ≡ Ok u → b ≡ true
held refusal true u e = refl
held refusal false u e = cc

formed-is : (r : Result ReplyValue ReplyRefusal) (reply : ReplyValue) → formed r ≡ Ok reply → r ≡ Ok reply
formed-is (Ok x) reply e = cc
formed-is (Err d) reply e = cc

-- the body that a result was taken from
content-is : (r : Result (List ℕ) BodyRefusal) (x : List ℕ) → or_refused r ≡ Ok x → r ≡ Ok x
content-is (Ok y) x e = cc
content-is (Err bodies.Protection) x e = cc
content-is (Err bodies.Number) x e = cc
content-is (Err bodies.NoMemory) x e = cc

ok-is : {E : Type 0} (r : Result (Unit {0}) E) → is_ok r ≡ true → r ≡ Ok tt
ok-is (Ok u) e = refl
ok-is (Err d) e = cc

and-both : (a b : Bool) → (a && b) ≡ true → (a ≡ true) × (b ≡ true)
and-both true b e = (refl, e)
and-both false b e = cc

-- ---- the reply

-- an accepted reply of this transaction number, flavour and stat
record IsGranted (octets : List ℕ) (xid : ℕ) (answer : AnswerValue) : Type 0 where
  low : ℕ
  high : ℕ
  reply : reply_at octets ≡ Ok (accepted xid answer.flavour answer.verf answer.stat low high answer.result)

granted-is : (octets : List ℕ) (xid : ℕ) (reply : ReplyValue) (answer : AnswerValue) → reply_at octets ≡ Ok reply → xid_of reply ≡ xid → granted (length octets) reply ≡ Ok answer → IsGranted octets xid answer
granted-is octets xid (accepted own flavour verf stat low high result) answer e f g =
    let is : (record { flavour = flavour; verf = verf; stat = stat; result = result; size = length octets }) ≡ answer = cc in
    record { low = low; high = high; reply = subst (λ (a : AnswerValue). reply_at octets ≡ Ok (accepted xid a.flavour a.verf a.stat low high a.result)) is (e ∙ ap (λ (n : ℕ). Ok (accepted n flavour verf stat low high result)) f) }
granted-is octets xid (mismatch own low high) answer e f g = cc
granted-is octets xid (auth_error own stat) answer e f g = cc

answer-is : (octets : List ℕ) (xid : ℕ) (answer : AnswerValue) → answer_in xid octets ≡ Ok answer → IsGranted octets xid answer
unfolding answer_in
answer-is octets xid answer e =
    let p = both (formed (reply_at octets)) _ answer e in
    let q = both (due (BadReply Xid) (xid_of p.value == xid)) _ answer p.second in
    granted-is octets xid p.value answer (formed-is _ p.value p.first) (eqb-true _ _ (held (BadReply Xid) _ q.value q.first)) q.second

-- the rules of a call's reply hold
record IsVerified (outcome : Outcome) (number xid : ℕ) (octets : List ℕ) (answer : AnswerValue) : Type 0 where
  granted : IsGranted octets xid answer
  flavour : answer.flavour ≡ 6
  proved : checked_mic (token_end outcome Initiator) answer.verf (word number) ≡ Ok tt
  stat : answer.stat ≡ 0

verified-is : (outcome : Outcome) (number xid : ℕ) (octets : List ℕ) (answer : AnswerValue) → verified_in outcome number xid octets ≡ Ok answer → IsVerified outcome number xid octets answer
unfolding verified_in
verified-is outcome number xid octets answer e =
    let p = both (answer_in xid octets) _ answer e in
    let q = both (due (BadReply Verifier) (is_verified outcome p.value number)) _ answer p.second in
    let r = both (succeeded p.value) _ answer q.second in
    let is : p.value ≡ answer = cc in
    let pair = and-both _ _ (held (BadReply Verifier) _ q.value q.first) in
    subst (λ (a : AnswerValue). IsVerified outcome number xid octets a) is (record {
      granted = answer-is octets xid p.value p.first;
      flavour = eqb-true _ _ pair.0;
      proved = ok-is _ pair.1;
      stat = eqb-true _ _ (held (Refused (Accept p.value.stat)) _ r.value r.first);
    })

stands-in : (s : SessionState) (octets result : List ℕ) → call_result s.outcome s.terms.service s.number s.xid octets ≡ Ok result → StandsIn s octets result
unfolding call_result
stands-in s octets result e =
    let p = both (verified_in s.outcome s.number s.xid octets) _ result e in
    let v = verified-is s.outcome s.number s.xid octets p.value p.first in
    record {
      verf = p.value.verf;
      low = v.granted.low;
      high = v.granted.high;
      body = p.value.result;
      reply = v.granted.reply ∙ (ap (λ (n : ℕ). Ok (accepted s.xid n p.value.verf p.value.stat v.granted.low v.granted.high p.value.result)) v.flavour ∙ ap (λ (n : ℕ). Ok (accepted s.xid 6 p.value.verf n v.granted.low v.granted.high p.value.result)) v.stat);
      proved = v.proved;
      held = held-by (token_end s.outcome Initiator) s.terms.service s.number p.value.result result (content-is _ result p.second);
    }

pub result-law : ResultLaw
unfolding result_taken
result-law s next octets result e =
    let p = both (call_result s.outcome s.terms.service s.number s.xid octets) _ (next, result) e in
    let pair : (session_after s, p.value) ≡ (next, result) = cc in
    let is : p.value ≡ result = ap (λ (q : SessionState × List ℕ). q.1) pair in
    stands-in s octets result (p.first ∙ ap (λ (o : List ℕ). Ok o) is)
