-- What a call says, and the replies to it: the parts of which the rule of a record is made.
use Rattle.std.specs.Prelude.{ℕ, ◌*◌, Bool, false, not, ◌==◌, ◌&&◌, nat_lt, List, []}
use Rattle.std.specs.Prelude.{◌∷◌, length, take, is_ok, Option, Some, None}
use Rattle.std.specs.Prelude.{if◌then◌else◌, Result, Ok, Err}
use Rattle.std.specs.Int.{w32, w64, from_be_bytes, to_be_bytes}
use Rattle.gss_base.specs.declared.status.TheConstants.{COMPLETE, CONTINUE_NEEDED}
use Rattle.rpc_msgs.specs.Words.{word}
use Rattle.rpc_msgs.specs.Calls.{CallValue}
use Rattle.rpc_msgs.specs.Replies.{accepted, auth_error, reply_octets}
use Rattle.rpc_msgs.specs.declared.numbers.TheConstants.{SUCCESS, AUTH_NONE, RPCSEC_GSS}
use Rattle.rpcsec_msgs.specs.Cred.{CredValue}
use Rattle.rpcsec_msgs.specs.declared.numbers.TheConstants.{RPCSEC_GSS_VERS_1}
use Rattle.rpcsec_msgs.specs.InitRes.{init_res_octets}
use Rattle.rpcsec_bodies.specs.declared.refusal.BodyRefusal.{BodyRefusal}
use Rattle.rpcsec_bodies.specs.Opening.{unprotected}
use Rattle.rpcsec_bodies.specs.Protection.{protected}
use Rattle.rpcsec_bodies.specs.Service.{service_of}
use Rattle.rpcsec_bodies.specs.declared.service.Service.{Service}
use Rattle.rpc_program.specs.Programs.{Serving}
use Rattle.krb_tokens.specs.Mic.{mic_of, checked_mic}
use Rattle.krb_tokens.specs.declared.end.Side.TheVariants.{Acceptor}
use Rattle.krb_tokens.specs.declared.end.TokenEnd.{TokenEnd}
use Rattle.spnego_core.specs.Outcome.{token_end}
use Rattle.accept_book.specs.Statuses.{major_status, book_error, book_number}
use Rattle.accept_core.specs.declared.answer.AdmitRefusal.{AdmitRefusal}
use Rattle.accept_core.specs.declared.answer.LookRefusal.{LookRefusal}
use Rattle.accept_book.specs.declared.book_answer.BookRefusal.{BookRefusal}
use Rattle.accept_book.specs.declared.book_answer.BookRefusal.TheVariants as books
use Rattle.accept_book.specs.declared.book_answer.Lease.{Lease}
use Rattle.accept_book.specs.declared.book_answer.Negotiated.{Negotiated}
use Rattle.accept_book.specs.declared.book_answer.Admitted.{Admitted}
use Rattle.accept_core.specs.declared.entry.Receipt.{Receipt}
use Rattle.accept_book.specs.declared.rule.Rule.{Rule}
use Rattle.accept_book.specs.Rules.{rule_number}

-- the moment and the draws of a record, and what the shared state answered, where it was asked
pub record KeptAnswers : Type 0 where
  pub now : ℕ
  pub draws : List ℕ
  pub negotiated : Option Negotiated
  pub looked : Option (Result Lease LookRefusal)
  pub admitted : Option (Result Admitted AdmitRefusal)
  pub ended : Option (Result Receipt AdmitRefusal)

-- what the shared state may be asked: to take a token of a creation, to show a context, to admit a
-- call by its number, service, procedure and arguments, to end a context
pub data Question : Type 0 where
  Negotiate : (id : Option ℕ) (token : List ℕ) (now : ℕ) (draws : List ℕ) → Question
  Look : (id now : ℕ) → Question
  Admit : (lease : Lease) (seq : ℕ) (service : Service) (procedure : ℕ) (args : List ℕ) → Question
  End : (lease : Lease) (seq : ℕ) → Question

-- a question with its answer; an admission is answered with an `A`: a book's receipt, or what a
-- server's state tells of it
pub data Asked (A : Type 0) : Type 0 where
  AskedStep : (id : Option ℕ) (token : List ℕ) (now : ℕ) (draws : List ℕ) (answer : Negotiated)
      → Asked A
  AskedLook : (id now : ℕ) (answer : Result Lease LookRefusal) → Asked A
  AskedAdmit : (lease : Lease) (seq : ℕ) (service : Service) (procedure : ℕ) (args : List ℕ)
      (answer : Result A AdmitRefusal) → Asked A
  AskedEnd : (lease : Lease) (seq : ℕ) (answer : Result Receipt AdmitRefusal) → Asked A

-- an answer, where it is Ok, seen by a function
abbrev pub with_ok : {A B E : Type 0} → (A → B) → Result A E → Result B E
with_ok view (Ok value) = Ok (view value)
with_ok view (Err refusal) = Err refusal

-- a question, the answer to an admission seen by a function
abbrev pub with_answer : {A B : Type 0} → (A → B) → Asked A → Asked B
with_answer view (AskedStep id token now draws answer) = AskedStep id token now draws answer
with_answer view (AskedLook id now answer) = AskedLook id now answer
with_answer view (AskedAdmit lease seq service procedure args answer) =
    AskedAdmit lease seq service procedure args (with_ok view answer)
with_answer view (AskedEnd lease seq answer) = AskedEnd lease seq answer

-- what a book has of a question: the receipt of an admission, and not what became of the call
abbrev pub booked : Asked Admitted → Asked Receipt
booked asked = with_answer (λ admitted. admitted.receipt) asked

-- the rule and the reply; the questions that are due and were answered, in order, and the next that
-- is due and wasn't, when there is no rule
pub record Ruling : Type 0 where
  pub rule : ℕ
  pub reply : Option (List ℕ)
  pub asked : List (Asked Admitted)
  pub due : Option Question

-- the rule with this number decides, and has this reply; nothing was asked
abbrev pub decided : ℕ → Option (List ℕ) → Ruling
decided rule reply = record { rule = rule; reply = reply; asked = []; due = None }

-- this rule decides, and has this reply
abbrev pub by : Rule → Option (List ℕ) → Ruling
by rule reply = decided (rule_number rule) reply

-- there was no memory, so that no rule decides
abbrev pub undecided : Ruling
undecided = decided 0 None

-- no rule decides before this question is answered
abbrev pub waiting : Question → Ruling
waiting question = record { rule = 0; reply = None; asked = []; due = Some question }

-- this question was asked and answered first, then the ruling goes on
abbrev pub asking : Asked Admitted → Ruling → Ruling
asking one ruling = record {
  rule = ruling.rule;
  reply = ruling.reply;
  asked =
      one ∷ ruling.asked;
  due = ruling.due;
}

-- ---- what a call says

-- a call that was read, with the octets of its record, and the moment, the draws, the program and
-- the width of windows with which it is answered
pub record Shown : Type 0 where
  pub record_octets : List ℕ
  pub call : CallValue
  pub now : ℕ
  pub draws : List ℕ
  pub serves : Serving

-- the first word is there and isn't the version
abbrev pub is_other_version : List ℕ → Bool
is_other_version body = if nat_lt (length body) 4 then false
    else not (from_be_bytes w32 (take 4 body) == RPCSEC_GSS_VERS_1)

-- a handle is the id in 8 octets
abbrev pub handle_of : ℕ → List ℕ
handle_of id = to_be_bytes w64 id

-- the id of a handle, None for a handle of another length
abbrev pub handle_id : List ℕ → Option ℕ
handle_id handle = if length handle == 8 then Some (from_be_bytes w64 handle) else None

-- ---- tokens of the context. Numbers: 1 for the window's MIC, twice the call's for a verifier, and
-- one more for a body

-- the end of a context's tokens at which its calls are answered, the acceptor's
abbrev pub end_of : Lease → TokenEnd
end_of lease = token_end lease.outcome Acceptor

-- the verifier is a MIC over the octets up to the end of the credential
unfoldable pub is_verified : Shown → Lease → Bool
is_verified s lease = s.call.verf.flavour == RPCSEC_GSS
    && is_ok (checked_mic (end_of lease) s.call.verf.body (take s.call.header s.record_octets))

-- the arguments of a body that was taken
abbrev pub taken_args : Result (List ℕ) BodyRefusal → Option (List ℕ)
taken_args (Ok args) = Some args
taken_args (Err refusal) = None

-- the arguments that a body carries by its service (RFC 2203 section 5.3.2)
unfoldable pub body_args : TokenEnd → CredValue → List ℕ → Option (List ℕ)
body_args end cred body = taken_args (unprotected end (service_of cred.service) cred.seq body)

-- the body of a reply with a result, by the call's service
unfoldable pub result_body : TokenEnd → CredValue → List ℕ → List ℕ → List ℕ
result_body end cred confounder result =
    protected end (service_of cred.service) cred.seq confounder result

-- ---- replies

-- the reply to an accepted call, its verifier of AUTH_NONE: status, versions of a mismatch, result
abbrev pub plain : Shown → ℕ → ℕ → ℕ → List ℕ → Option (List ℕ)
plain s stat low high result =
    Some (reply_octets (accepted s.call.xid AUTH_NONE [] stat low high result))

-- with the verifier of a reply: a MIC over the call's number
abbrev pub signed : Shown → CredValue → Lease → ℕ → ℕ → ℕ → List ℕ → Option (List ℕ)
signed s cred lease stat low high result =
    Some (reply_octets (accepted s.call.xid RPCSEC_GSS
    (mic_of (end_of lease) (2 * cred.seq) (word cred.seq)) stat low high result))

-- the reply to a call that is denied, with the authentication's status (RFC 5531 section 9)
abbrev pub denied : Shown → ℕ → Option (List ℕ)
denied s stat = Some (reply_octets (auth_error s.call.xid stat))

-- the results of a creation: a context that goes on, one that is complete, with a MIC over its
-- window, a refused token
abbrev pub going : Shown → ℕ → List ℕ → Option (List ℕ)
going s id token = plain s SUCCESS 0 0 (init_res_octets (record
    { context = handle_of id; major = CONTINUE_NEEDED; minor = 0; window = 0; token = token }))

-- the same of a context that is complete: the reply's verifier is a MIC over the window
-- (RFC 2203 section 5.2.3.1)
abbrev pub settled : Shown → Lease → List ℕ → Option (List ℕ)
settled s lease token =
    Some (reply_octets (accepted s.call.xid RPCSEC_GSS
    (mic_of (end_of lease) 1 (word s.serves.width)) SUCCESS 0 0 (init_res_octets (record {
      context = handle_of lease.id;
      major = COMPLETE;
      minor =
          0;
      window = s.serves.width;
      token = token;
    }))))

-- a negotiation token that says reject; none where the context was complete
abbrev pub refusal_token : BookRefusal → List ℕ
refusal_token books.AlreadyComplete = []
refusal_token refusal = 0xa1 ∷ 7 ∷ 0x30 ∷ 5 ∷ 0xa0 ∷ 3 ∷ 10 ∷ 1 ∷ 2 ∷ []

-- the same of a refused token: its status, no handle, and the token of the refusal
abbrev pub refused : Shown → BookRefusal → Option (List ℕ)
refused s refusal =
    plain s SUCCESS 0 0 (init_res_octets (record {
      context = [];
      major = major_status
          (book_error refusal);
      minor = book_number refusal;
      window = 0;
      token = refusal_token refusal;
    }))
