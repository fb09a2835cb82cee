-- How a client judges a reply: the first rule that applies decides.
use Rattle.std.specs.Prelude.{ℕ, ◌-◌, Bool, true, false, not, ◌==◌, ◌&&◌, nat_le, if◌then◌else◌}
use Rattle.std.specs.Prelude.{is_ok, List, length, Result, Ok, Err}
use Rattle.gss_base.specs.declared.status.TheConstants.{COMPLETE, CONTINUE_NEEDED}
use Rattle.krb_tokens.specs.declared.end.Side.TheVariants.{Initiator}
use Rattle.krb_tokens.specs.declared.end.TokenEnd.{TokenEnd}
use Rattle.krb_tokens.specs.Mic.{checked_mic}
use Rattle.rpc_msgs.specs.Words.{word}
use Rattle.rpc_msgs.specs.declared.numbers.TheConstants.{SUCCESS, RPCSEC_GSS}
use Rattle.rpc_msgs.specs.Replies.{ReplyValue, accepted, mismatch, auth_error}
use Rattle.rpc_msgs.specs.ReplyReading.{reply_at}
use Rattle.rpc_msgs.specs.declared.reply_reading.ReplyRefusal.{ReplyRefusal}
use Rattle.rpc_msgs.specs.declared.xdr_reader.XdrRefusal.{XdrRefusal}
use Rattle.rpcsec_bodies.specs.declared.refusal.BodyRefusal.{BodyRefusal}
use Rattle.rpcsec_bodies.specs.declared.refusal.BodyRefusal.TheVariants as bodies
use Rattle.rpcsec_bodies.specs.declared.service.Service.{Service}
use Rattle.rpcsec_bodies.specs.Opening.{unprotected}
use Rattle.rpcsec_msgs.specs.InitRes.{init_res_at}
use Rattle.rpcsec_msgs.specs.declared.init_res.InitRes.{InitRes}
use Rattle.spnego_core.specs.declared.outcome.Outcome.{Outcome}
use Rattle.spnego_core.specs.declared.refusal.NegRefusal.{NegRefusal}
use Rattle.spnego_core.specs.Ends.{EndSays}
use Rattle.spnego_core.specs.EndSteps.{StepOf}
use Rattle.spnego_core.specs.EndSteps as steps
use Rattle.spnego_core.specs.Outcome.{token_end}
use Rattle.gss_client.specs.declared.answer.Answer.{Answer}
use Rattle.gss_client.specs.declared.creation.Granted.{Granted}
use Rattle.gss_client.specs.declared.refusal.ClientRefusal.{ClientRefusal}
use Rattle.gss_client.specs.declared.refusal.ClientRefusal.TheVariants.{Refused, Negotiation}
use Rattle.gss_client.specs.declared.refusal.ClientRefusal.TheVariants.{BadReply, NoMemory}
use Rattle.gss_client.specs.declared.refusal.Denial.TheVariants.{Rpc, Auth, Accept, Gss}
use Rattle.gss_client.specs.declared.refusal.ReplyWhy.TheVariants.{Form, Xid, Verifier, Steps}
use Rattle.gss_client.specs.declared.refusal.ReplyWhy.TheVariants.{Width, Body, Number}
use Rattle.gss_client.specs.Creation.{Machine, plain_machine, CreatedOf, CreatedSays}
use Rattle.gss_client.specs.Creation as created
use Rattle.gss_client.specs.Session.{SessionState, session_after}

-- the rules that follow, unless one before applied
infixl 10 ◌>>=◌
-- the rule that follows takes what the one before found
abbrev pub ◌>>=◌ : {A B : Type 0} → Result A ClientRefusal → (A → Result B ClientRefusal)
    → Result B ClientRefusal
(Ok x) >>= next = next x
(Err refusal) >>= next = Err refusal

-- a rule: this refusal exactly where the test doesn't hold
abbrev pub due : ClientRefusal → Bool → Result (Unit {0}) ClientRefusal
due refusal holds = if holds then Ok tt else Err refusal

-- ---- every reply

-- an accepted reply: its verifier, its stat, what follows the stat, and how many octets the record
-- has
pub record AnswerValue : Type 0 where
  pub flavour : ℕ
  pub verf : List ℕ
  pub stat : ℕ
  pub result : List ℕ
  pub size : ℕ

-- the accepted reply that the code's `Answer` is
abbrev pub answer_value : Answer → AnswerValue
answer_value a = record {
  flavour = a.flavour;
  verf = a.verf.now;
  stat = a.stat;
  result =
      a.result.now;
  size = a.size;
}

-- a reply's transaction number: it is accepted, a mismatch of versions, or an auth error
abbrev pub xid_of : ReplyValue → ℕ
xid_of (accepted xid flavour verf stat low high result) = xid
xid_of (mismatch xid low high) = xid
xid_of (auth_error xid stat) = xid

-- the place in the record of an octet of what follows the stat
abbrev pub place_of : AnswerValue → ℕ → ℕ
place_of answer at = answer.size - (length answer.result - at)

-- C2
abbrev pub formed : Result ReplyValue ReplyRefusal → Result ReplyValue ClientRefusal
formed (Ok reply) = Ok reply
formed (Err refusal) = Err (BadReply (Form refusal.at))

-- C4: of a record of so many octets
abbrev pub granted : ℕ → ReplyValue → Result AnswerValue ClientRefusal
granted size (accepted xid flavour verf stat low high result) =
    Ok (record { flavour = flavour; verf = verf; stat = stat; result = result; size = size })
granted size (mismatch xid low high) = Err (Refused (Rpc low high))
granted size (auth_error xid stat) = Err (Refused (Auth stat))

-- C2, C3, C4: the accepted reply in a record, to the call of this transaction number
unfoldable pub answer_in : ℕ → List ℕ → Result AnswerValue ClientRefusal
answer_in xid octets = do
  reply ← formed (reply_at octets)
  -- C3
  own ← due (BadReply Xid) (xid_of reply == xid)
  granted (length octets) reply

-- the verifier is the acceptor's MIC over this number (RFC 2203 sections 5.2.3.1 and 5.3.3.2)
abbrev pub is_verified : Outcome → AnswerValue → ℕ → Bool
is_verified outcome answer number = answer.flavour == RPCSEC_GSS
    && is_ok (checked_mic (token_end outcome Initiator) answer.verf (word number))

-- C5, C13
abbrev pub succeeded : AnswerValue → Result (Unit {0}) ClientRefusal
succeeded answer = due (Refused (Accept answer.stat)) (answer.stat == SUCCESS)

-- ---- replies to creation calls

-- an accepted reply and the creation's result in it
pub record GrantedValue : Type 0 where
  pub answer : AnswerValue
  pub result : InitRes

-- the reply and the result that the code's `Granted` is
abbrev pub granted_value : Granted → GrantedValue
granted_value g = record { answer = answer_value g.answer; result = g.result }

-- C6: the place counts from the first octet of the record
abbrev pub placed : AnswerValue → Result InitRes XdrRefusal → Result InitRes ClientRefusal
placed answer (Ok result) = Ok result
placed answer (Err refusal) = Err (BadReply (Form (place_of answer refusal.at)))

-- C2 to C7: the creation's result in the reply to the call of this transaction number
unfoldable pub granted_in : ℕ → List ℕ → Result GrantedValue ClientRefusal
granted_in xid octets = do
  answer ← answer_in xid octets
  success ← succeeded answer
  result ← placed answer (init_res_at answer.result)
  -- C7: the context is complete, or a further token is due
  status ← due (Refused (Gss result.major result.minor)) (nat_le result.major CONTINUE_NEEDED)
  Ok (record { answer = answer; result = result })

-- C8
abbrev pub negotiated : {E : Type 0} → Result (StepOf E) NegRefusal
    → Result (StepOf E) ClientRefusal
negotiated (Ok step) = Ok step
negotiated (Err refusal) = Err (Negotiation refusal)

-- C9, C10, C11: whether the context stands behind the reply that finishes
abbrev pub done_by : GrantedValue → Outcome → Result (Unit {0}) ClientRefusal
done_by g outcome = do
  finished ← due (BadReply Steps) (g.result.major == COMPLETE)
  some ← due (BadReply Width) (not (g.result.window == 0))
  due (BadReply Verifier) (is_verified outcome g.answer g.result.window)

-- what the end's step leads to
unfoldable pub by_step : {E : Type 0} → GrantedValue → StepOf E
    → Result (CreatedOf E) ClientRefusal
by_step g (steps.More end token) = do
  -- C9
  unfinished ← due (BadReply Steps) (g.result.major == CONTINUE_NEEDED)
  Ok (created.Going (record { end = end; handle = g.result.context; token = token }))
by_step g (steps.Done outcome) = do
  -- C9, C10, C11
  finished ← due (BadReply Steps) (g.result.major == COMPLETE)
  some ← due (BadReply Width) (not (g.result.window == 0))
  proved ← due (BadReply Verifier) (is_verified outcome g.answer g.result.window)
  Ok (created.Stands outcome g.result.context)

-- C2 to C11: what a record leads to as the reply to a creation call, whose token the end takes
-- (RFC 2203 section 5.2.3)
unfoldable pub creation_by : {E : Type 0} → Machine E → E → ℕ → List ℕ
    → Result (CreatedOf E) ClientRefusal
creation_by machine end xid octets = do
  g ← granted_in xid octets
  step ← negotiated (machine end g.result.token)
  by_step g step

-- the same of an end over plain credentials
abbrev pub creation_step : EndSays → ℕ → List ℕ → Result CreatedSays ClientRefusal
creation_step end xid octets = creation_by plain_machine end xid octets

-- ---- replies to calls

-- C12, C13: the reply to the call of this number
unfoldable pub verified_in : Outcome → ℕ → ℕ → List ℕ → Result AnswerValue ClientRefusal
verified_in outcome number xid octets = do
  answer ← answer_in xid octets
  proved ← due (BadReply Verifier) (is_verified outcome answer number)
  success ← succeeded answer
  Ok answer

-- C14, C15: what is wrong with the body
abbrev pub or_refused : Result (List ℕ) BodyRefusal → Result (List ℕ) ClientRefusal
or_refused (Ok result) = Ok result
or_refused (Err bodies.Protection) = Err (BadReply Body)
or_refused (Err bodies.Number) = Err (BadReply Number)
or_refused (Err bodies.NoMemory) = Err NoMemory

-- C14, C15: the result in the body of a reply, by the service of the call
abbrev pub body_result : TokenEnd → ℕ → List ℕ → Service → Result (List ℕ) ClientRefusal
body_result end number body service = or_refused (unprotected end service number body)

-- C2 to C4, C12 to C15: the result in the reply to the call of this number and transaction
-- number (RFC 2203 section 5.3.3)
unfoldable pub call_result : Outcome → Service → ℕ → ℕ → List ℕ → Result (List ℕ) ClientRefusal
call_result outcome service number xid octets = do
  answer ← verified_in outcome number xid octets
  body_result (token_end outcome Initiator) number answer.result service

-- the session behind the call, and its result
unfoldable pub result_taken : SessionState → List ℕ → Result (SessionState × List ℕ) ClientRefusal
result_taken s octets = do
  result ← call_result s.outcome s.terms.service s.number s.xid octets
  Ok (session_after s, result)

-- ---- the reply to a destruction

-- a body's content has no octets
abbrev pub is_bare : Result (List ℕ) BodyRefusal → Bool
is_bare (Ok content) = length content == 0
is_bare (Err refusal) = false

-- no octets, or a body by this service that verifies and holds the number alone (RFC 2203,
-- section 5.4: the reply is protected as one to a data request is)
abbrev pub holds_nothing : TokenEnd → Service → ℕ → List ℕ → Bool
holds_nothing end service number body =
    if length body == 0 then true else is_bare (unprotected end service number body)

-- C16: what follows the stat holds nothing by the context's service
unfoldable pub destroyed_in : Outcome → Service → ℕ → ℕ → List ℕ
    → Result (Unit {0}) ClientRefusal
destroyed_in outcome service number xid octets = do
  answer ← verified_in outcome number xid octets
  due (BadReply (Form (place_of answer 0)))
      (holds_nothing (token_end outcome Initiator) service number answer.result)
