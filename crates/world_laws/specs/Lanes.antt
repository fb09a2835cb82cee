-- What a lane does: it has one record in hand at a time, and each event runs one question to the
-- book, or answers the record.
use Rattle.std.specs.Prelude.{◌≡◌, ◌⊎◌, ℕ, ◌+◌, ◌*◌, ◌==◌, true, if◌then◌else◌, List, [], ◌∷◌, ◌++◌}
use Rattle.std.specs.Prelude.{map, max, slice_set, take, Option, Some, None, option_map}
use Rattle.std.specs.Prelude.{option_to_list, Result, Ok, Err}
use Rattle.gss_base.specs.Name.{Name}
use Rattle.gss_base.specs.declared.mech.MechKind.{MechKind}
use Rattle.gss_base.specs.declared.mech.MechKind.TheVariants as kinds
use Rattle.krb_derive.specs.Making.{Making}
use Rattle.krb_files.specs.declared.keytab.Entry.{Entry}
use Rattle.krb_tokens.specs.declared.end.TokenEnd.{TokenEnd}
use Rattle.krb_tokens.specs.Makings.{mic_making, wrap_making, checking_mic, unwrapping}
use Rattle.ap_exchange.specs.declared.refusal.ApRefusal.{ApRefusal}
use Rattle.ap_exchange.specs.Exchange.{Exchange, exchange_of}
use Rattle.ap_exchange.specs.Judging.{client_granted}
use Rattle.rpc_msgs.specs.Words.{word}
use Rattle.rpc_msgs.specs.Calls.{CallValue, call_at}
use Rattle.rpc_msgs.specs.declared.call.CallRefusal.{CallRefusal}
use Rattle.rpc_msgs.specs.declared.xdr_reader.XdrRefusal.{XdrRefusal}
use Rattle.rpcsec_msgs.specs.Bodies.{checked_at, sealed_at}
use Rattle.rpcsec_msgs.specs.Cred.{CredValue, cred_at}
use Rattle.rpcsec_msgs.specs.declared.cred.CredRefusal.{CredRefusal}
use Rattle.scram_mech.specs.MechMaking.{MechMaking, typed}
use Rattle.spnego_msgs.specs.declared.neg_init.NegInit.{NegInit}
use Rattle.spnego_msgs.specs.declared.neg_resp.NegResp.{NegResp}
use Rattle.spnego_core.specs.declared.refusal.NegRefusal.{NegRefusal}
use Rattle.spnego_core.specs.declared.setup.AcceptSetup.{AcceptSetup}
use Rattle.spnego_core.specs.declared.accept_mech.AcceptMech.{AcceptMech}
use Rattle.spnego_core.specs.declared.accept_mech.AcceptMech.TheVariants as mechs
use Rattle.spnego_core.specs.declared.accept_end.AcceptEnd.{AcceptEnd}
use Rattle.spnego_core.specs.declared.accept_end.AcceptEnd.TheVariants as ends
use Rattle.spnego_core.specs.Accepting.{Fixed, Accepted}
use Rattle.spnego_core.specs.Choice.{best, is_first_named}
use Rattle.spnego_core.specs.Bare.{bare_oid}
use Rattle.spnego_core.specs.Tokens.{init_read, resp_read}
use Rattle.accept_core.specs.Stepping.{IsNext}
use Rattle.accept_book.specs.declared.book_answer.Lease.{Lease}
use Rattle.accept_book.specs.declared.book_answer.NegAnswer.{NegAnswer}
use Rattle.accept_book.specs.declared.book_answer.NegAnswer.TheVariants as answers
use Rattle.accept_book.specs.Booking.{BookOf, raised}
use Rattle.accept_core.specs.Entering.{id_of}
use Rattle.accept_book.specs.Found.{step_taken, stepped_from, makes_of, found_of, fixes_of}
use Rattle.accept_book.specs.RecordRule.{record_ruling}
use Rattle.accept_book.specs.RecordShown.{KeptAnswers, Question, Negotiate, Look, Admit, End, Asked}
use Rattle.accept_book.specs.RecordShown.{AskedStep, AskedLook, AskedAdmit, AskedEnd, Ruling}
use Rattle.accept_book.specs.RecordShown.{booked, end_of, body_args}
use Rattle.accept_book.specs.declared.book_answer.Admitted.{Admitted}
use Rattle.rpc_program.specs.Programs.{Serving, result_in}
use Rattle.rpc_program.specs.declared.outcome.Outcome.{Outcome}
use Rattle.gss_server.specs.Answers.{IsDecided, may_want}
use Rattle.gss_server.specs.Asking.{BookAnswers}
use Rattle.world_laws.specs.declared.event.Happened.{Happened}
use Rattle.world_laws.specs.declared.event.Happened.TheVariants.{Sent, Completed, Stepped, Refused}
use Rattle.world_laws.specs.declared.event.Happened.TheVariants.{Nothing}
use Rattle.world_laws.specs.Apart.{ToldApart}
use Rattle.world_laws.specs.Deeds.{Opened, Deed, quiet}
use Rattle.world_laws.specs.State.{InHand, Context, World}

-- ---- the record in hand

-- a lane without a record takes one, with the moment and the draws; another keeps what it has
abbrev pub in_hand : Option InHand → List ℕ → ℕ → List ℕ → InHand
in_hand None octets now draws =
    record {
      octets = octets;
      kept = record {
        now = now;
        draws = draws;
        negotiated = None;
        looked =
            None;
        admitted = None;
        ended = None;
      };
    }
in_hand (Some hand) octets now draws = hand

-- what the rule of a record says of the record in hand, by what the book answered so far and what
-- became of the call
abbrev pub ruling_of : Serving → InHand → Ruling
ruling_of serves hand = record_ruling hand.octets hand.kept serves

-- the question that was asked
abbrev pub question_of : Asked Admitted → Question
question_of (AskedStep id token now draws answer) = Negotiate id token now draws
question_of (AskedLook id now answer) = Look id now
question_of (AskedAdmit lease seq service procedure args answer) =
    Admit lease seq service procedure args
question_of (AskedEnd lease seq answer) = End lease seq

-- the answer is kept with the others
abbrev pub kept_with : KeptAnswers → Asked Admitted → KeptAnswers
kept_with k (AskedStep id token now draws answer) = record k { negotiated = Some answer }
kept_with k (AskedLook id now answer) = record k { looked = Some answer }
kept_with k (AskedAdmit lease seq service procedure args answer) =
    record k { admitted = Some answer }
kept_with k (AskedEnd lease seq answer) = record k { ended = Some answer }

-- the record in hand after one more question was answered
abbrev pub hand_after : InHand → Asked Admitted → InHand
hand_after hand asked = record { octets = hand.octets; kept = kept_with hand.kept asked }

-- ---- what a question's step hands out, finds and fixes

-- the call and its credential in a record
abbrev pub cred_with : CallValue → Result CredValue CredRefusal → Option (CallValue × CredValue)
cred_with call (Err refusal) = None
cred_with call (Ok cred) = Some (call, cred)

-- the same by how the record reads as a call
abbrev pub secure_call_by : Result CallValue CallRefusal → Option (CallValue × CredValue)
secure_call_by (Err refusal) = None
secure_call_by (Ok call) = cred_with call (cred_at call.cred.body)

-- the same of the record's octets, none where no call or no credential can be read
abbrev pub secure_call_in : List ℕ → Option (CallValue × CredValue)
secure_call_in octets = secure_call_by (call_at octets)

-- what is found verified in a body: its MIC, or what it opens to
abbrev pub found_in_checked : TokenEnd → Result (List ℕ × List ℕ) XdrRefusal → List Making
found_in_checked end (Ok body) = (checking_mic end body.1 body.0).found
found_in_checked end (Err refusal) = []

-- the same of a sealed body, as it was read
abbrev pub found_in_sealed : TokenEnd → Result (List ℕ) XdrRefusal → List Making
found_in_sealed end (Ok token) = (unwrapping end token).found
found_in_sealed end (Err refusal) = []

-- the same by the service: 2 is integrity, 3 is privacy (RFC 2203 section 5.3.2)
abbrev pub found_in_body : TokenEnd → ℕ → List ℕ → List Making
found_in_body end service body = if service == 2 then found_in_checked end (checked_at body)
    else if service == 3 then found_in_sealed end (sealed_at body) else []

-- and in a verifier, over the octets up to the end of the credential
abbrev pub found_in_header : TokenEnd → List ℕ → CallValue → List Making
found_in_header end octets call = (checking_mic end call.verf.body (take call.header octets)).found

-- what is found verified in a call that is admitted: in its verifier and in its body
abbrev pub found_in_call : Lease → List ℕ → Option (CallValue × CredValue) → List Making
found_in_call lease octets None = []
found_in_call lease octets (Some said) = found_in_header (end_of lease) octets said.0
    ++ found_in_body (end_of lease) said.1.service said.0.args

-- what is found verified in a call that ends its context: in its verifier alone
abbrev pub found_in_end : Lease → List ℕ → Option (CallValue × CredValue) → List Making
found_in_end lease octets None = []
found_in_end lease octets (Some said) = found_in_header (end_of lease) octets said.0

-- what a call's result is sent with: the MIC over the number and the result, or both sealed
abbrev pub result_makings : TokenEnd → ℕ → ℕ → List ℕ → List Making
result_makings end service seq result =
    if service == 2 then mic_making end (2 * seq + 1) (word seq ++ result) ∷ []
    else if service == 3 then wrap_making end (2 * seq + 1) true (word seq ++ result) ∷ []
    else []

-- the same of a call with this credential, nothing where it has no result
abbrev pub told_with : Lease → CredValue → Option (List ℕ) → List Making
told_with lease cred None = []
told_with lease cred (Some result) = result_makings (end_of lease) cred.service cred.seq result

-- the same of a call with these arguments, of which this became; nothing where its body gave none
abbrev pub result_with : Lease → Outcome → CredValue → Option (List ℕ) → List Making
result_with lease outcome cred None = []
result_with lease outcome cred (Some args) = told_with lease cred (result_in args outcome)

-- the same of the call in a record, whose arguments are those in its body by its service
abbrev pub made_for_call : Lease → Outcome → Option (CallValue × CredValue) → List Making
made_for_call lease outcome None = []
made_for_call lease outcome (Some said) =
    result_with lease outcome said.1 (body_args (end_of lease) said.1 said.0.args)

-- the step that a token came to, where it was taken: by the book as it stood with the record's
-- moment, and the context that was past
abbrev pub accepted_in : BookOf → Option ℕ → Option ℕ → List ℕ → ℕ → List ℕ → Option Accepted
accepted_in book past id token now draws =
    step_taken book.setup (raised book.core now) id past token now draws

-- what is handed out with a question's answer: by a token's step, or for an admitted call
abbrev pub makes_by : BookOf → Option ℕ → InHand → Asked Admitted → List MechMaking
makes_by book past hand (AskedStep id token now draws answer) =
    makes_of (accepted_in book past id token now draws)
makes_by book past hand (AskedLook id now answer) = []
makes_by book past hand (AskedAdmit lease seq service procedure args (Ok admitted)) =
    map typed (made_for_call lease admitted.outcome (secure_call_in hand.octets))
makes_by book past hand (AskedAdmit lease seq service procedure args (Err refusal)) = []
makes_by book past hand (AskedEnd lease seq answer) = []

-- what a question finds verified: in a token's step, in an admitted call, or in one that ends its
-- context
abbrev pub found_by : BookOf → Option ℕ → InHand → Asked Admitted → List MechMaking
found_by book past hand (AskedStep id token now draws answer) =
    found_of (accepted_in book past id token now draws)
found_by book past hand (AskedLook id now answer) = []
found_by book past hand (AskedAdmit lease seq service procedure args (Ok admitted)) =
    map typed (found_in_call lease hand.octets (secure_call_in hand.octets))
found_by book past hand (AskedAdmit lease seq service procedure args (Err refusal)) = []
found_by book past hand (AskedEnd lease seq (Ok receipt)) =
    map typed (found_in_end lease hand.octets (secure_call_in hand.octets))
found_by book past hand (AskedEnd lease seq (Err refusal)) = []

-- what was fixed, with the context's id
abbrev pub context_with : ℕ → Fixed → Context
context_with id fixed = record { id = id; fixed = fixed }

-- a step that met want of memory fixes nothing
abbrev pub unless_short : NegAnswer → Option Fixed → Option Fixed
unless_short (answers.Going id token) fixes = fixes
unless_short (answers.Settled lease token) fixes = fixes
unless_short (answers.Refused refusal) fixes = fixes
unless_short answers.NoMemory fixes = None

-- the context that a question fixes, with its id: only a token's step fixes one
abbrev pub fixes_by : BookOf → Option ℕ → Asked Admitted → Option Context
fixes_by book past (AskedStep id token now draws answer) =
    option_map (context_with (id_of id book.core.history))
    (unless_short answer.answer (fixes_of (accepted_in book past id token now draws)))
fixes_by book past (AskedLook id now answer) = None
fixes_by book past (AskedAdmit lease seq service procedure args answer) = None
fixes_by book past (AskedEnd lease seq answer) = None

-- ---- the ticket that a token's step opens

-- the request in a first token, which is Kerberos's where that is chosen and stands first in the
-- list that came
abbrev pub request_in : Option MechKind → Option (List ℕ) → Option (List ℕ)
request_in (Some kinds.Kerberos) token = token
request_in (Some kinds.Scram) token = None
request_in None token = None

-- the same of a NegTokenInit as it was read, by the mechanisms that the acceptor offers
abbrev pub request_of_init : AcceptSetup → Result NegInit NegRefusal → Option (List ℕ)
request_of_init setup (Err refusal) = None
request_of_init setup (Ok init) = if is_first_named init.list kinds.Kerberos
    then request_in (best setup.offer init.list) init.token else None

-- the request in a first token: in one that negotiates, or the token of one that doesn't, whose
-- frame has this identifier of Kerberos
abbrev pub request_of_first : AcceptSetup → List ℕ → Option (List ℕ) → Option (List ℕ)
request_of_first setup token None = request_of_init setup (init_read token)
request_of_first setup token (Some oid) = Some token

-- the mechanism's token in a NegTokenResp, none where it couldn't be read or has none
abbrev pub token_of_resp : Result NegResp NegRefusal → Option (List ℕ)
token_of_resp (Err refusal) = None
token_of_resp (Ok resp) = resp.token

-- the request in a later token, if Kerberos was chosen and waits for its request
abbrev pub request_of_resp : AcceptMech → Result NegResp NegRefusal → Option (List ℕ)
request_of_resp mechs.Kerberos resp = token_of_resp resp
request_of_resp mechs.Scram resp = None
request_of_resp (mechs.Proof end) resp = None

-- the request in a token, by what is due next to the end that takes it: the first token, one of the
-- mechanism, or the MIC over the list
abbrev pub request_of : AcceptSetup → AcceptEnd → List ℕ → Option (List ℕ)
request_of setup ends.New token = request_of_first setup token (bare_oid setup token)
request_of setup (ends.Runs running) token = request_of_resp running.mech (resp_read token)
request_of setup (ends.Owes owing) token = None

-- the ticket of a request whose authenticator was read too, none of one that was refused before
abbrev pub opened_of : Result Exchange ApRefusal → Option Opened
opened_of (Err refusal) = None
opened_of (Ok x) =
    Some (record { service = x.service; client = client_granted x.part; session = x.session })

-- the ticket of the request, where there is one, by a keytab and the acceptor's own name
abbrev pub opened_in : List Entry → Name → Option (List ℕ) → Option Opened
opened_in keytab own None = None
opened_in keytab own (Some token) = opened_of (exchange_of keytab own token)

-- the ticket that a question opens, which a token's step alone may do
abbrev pub opened_by : BookOf → Asked Admitted → Option Opened
opened_by book (AskedStep id token now draws answer) =
    opened_in book.setup.keytab book.setup.own
    (request_of book.setup (stepped_from (raised book.core now) id) token)
opened_by book (AskedLook id now answer) = None
opened_by book (AskedAdmit lease seq service procedure args answer) = None
opened_by book (AskedEnd lease seq answer) = None

-- ---- the event

-- a record's reply, or its rule where it has none; memory may be wanted where the answer takes some
abbrev pub IsAnswer : Ruling → Option Happened → Type 0
IsAnswer ruling None = may_want ruling ≡ true
IsAnswer ruling (Some (Sent octets)) = (ruling.reply ≡ Some octets) × IsDecided ruling
IsAnswer ruling (Some (Stepped rule)) =
    (ruling.reply ≡ None) × (rule ≡ ruling.rule) × IsDecided ruling
IsAnswer ruling (Some (Completed outcome)) = ⊥
IsAnswer ruling (Some Refused) = ⊥
IsAnswer ruling (Some Nothing) = ⊥

-- a reply for which there was no memory hands nothing out
abbrev pub if_answered : Option Happened → List MechMaking → List MechMaking
if_answered None makes = []
if_answered (Some happened) makes = makes

-- the world after a lane's event: what the lane has in hand, the book, and what the deed adds
abbrev pub with_lane : World → ℕ → Option InHand → BookOf → Deed → World
with_lane w lane hand book deed = record w {
  book = book;
  lanes = slice_set w.lanes lane hand;
  fixed = w.fixed ++ option_to_list deed.fixes;
  makings = w.makings ++ deed.makes;
}

-- the record is answered at once, or memory is wanted before the book is asked: the lane has no
-- record then
pub record AnswersAtOnce (old : World) (lane : ℕ) (hand : InHand) (deed : Deed) (new : World) : Type
    0 where
  pub answer : IsAnswer (ruling_of old.serves hand) deed.answer
  pub deed_is : deed ≡ quiet deed.answer
  pub new_is : new ≡ with_lane old lane None old.book (quiet deed.answer)

-- what follows the question: a further one is due, for which the record stays in hand, or the
-- record is answered
abbrev pub Follows : Serving → InHand → Option Happened → Option InHand → Type 0
Follows serves hand answer left =
    ((question : Question) × ((ruling_of serves hand).due ≡ Some question)
    × (answer ≡ Some (Stepped 0)) × (left ≡ Some hand))
    ⊎ (IsAnswer (ruling_of serves hand) answer × (left ≡ None))

-- the question that is due is asked, and the book answers it by its contract; what becomes of an
-- admitted call is free, but that its result is told apart from a list of mechanisms
pub record Asks (old : World) (lane : ℕ) (hand : InHand) (deed : Deed) (new : World) : Type 0 where
  pub asked : Asked Admitted
  pub due : (ruling_of old.serves hand).due ≡ Some (question_of asked)
  pub past : Option ℕ
  pub is_past : IsNext old.book.core.table (max old.book.core.cache.greatest hand.kept.now) past
  pub answers : BookAnswers old.book (booked asked) new.book
  pub told : ToldApart asked
  pub left : Option InHand
  pub follows : Follows old.serves (hand_after hand asked) deed.answer left
  pub makes : deed.makes ≡ if_answered deed.answer (makes_by old.book past hand asked)
  pub found : deed.found ≡ found_by old.book past hand asked
  pub opened : deed.opened ≡ opened_by old.book asked
  pub fixes : deed.fixes ≡ fixes_by old.book past asked
  pub new_is : new ≡ with_lane old lane left new.book deed

-- what a lane does: its record is answered at once, or the question that is due is asked
abbrev pub LaneMoves : World → ℕ → InHand → Deed → World → Type 0
LaneMoves old lane hand deed new =
    AnswersAtOnce old lane hand deed new ⊎ Asks old lane hand deed new
