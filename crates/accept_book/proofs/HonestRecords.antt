-- An honest record is answered by the admission of its number.
use Rattle.std.proofs.Common.{◌≡◌, ◌<◌, ◌*◌, ◌^◌, inl, inr, ℕ, true, false, refl, ap, ◌∙◌, arith, List, [], ◌++◌, length, take, drop, Some, None, Result, Ok, Err, is_ok}
use Rattle.std.specs.Prelude.{◌==◌, nat_lt}
use Rattle.std.proofs.lemmas.Bool.{eq-eqb, le-ltb}
use Rattle.std.proofs.lemmas.List.{length-append}
use Rattle.rpc_msgs.specs.Words.{word}
use Rattle.rpc_msgs.specs.Calls.{CallValue}
use Rattle.rpcsec_msgs.specs.Cred.{CredValue}
use Rattle.rpcsec_msgs.specs.Bodies.{IsLong, checked_at, sealed_at}
use Rattle.rpcsec_msgs.proofs.BodyLaws.{sealed-only, checked-only}
use Rattle.krb_derive.specs.declared.sealing.SealKeys.{SealKeys}
use Rattle.krb_derive.specs.Kept.{ForSealing}
use Rattle.krb_derive.specs.Sealing.{checksum_of}
use Rattle.krb_tokens.specs.declared.end.TokenEnd.{TokenEnd}
use Rattle.krb_tokens.specs.End.{sign_usage}
use Rattle.krb_tokens.specs.Mic.{checked_mic, mic_of}
use Rattle.krb_tokens.specs.Wrap.{unwrapped}
use Rattle.krb_tokens.specs.Tokens.{IsMicOf, mic_header_with}
use Rattle.krb_tokens.proofs.Accepted.{mic-all}
use Rattle.krb_tokens.proofs.AcceptedWraps.{wrap-all}
use Rattle.krb_tokens.proofs.Taken.{length-checksum_of}
use Rattle.rpcsec_bodies.specs.declared.service.Service.TheVariants as services
use Rattle.rpcsec_bodies.specs.Opening.{unprotected}
use Rattle.rpcsec_bodies.proofs.Taken.{checked-read, sealed-read}
use Rattle.rpc_program.specs.Programs.{Serving, result_in}
use Rattle.rpc_program.specs.declared.outcome.Outcome.{Outcome}
use Rattle.rpc_program.specs.declared.outcome.Outcome.TheVariants as outcomes
use Rattle.rpc_msgs.specs.Replies.{accepted}
use Rattle.rpc_msgs.specs.declared.numbers.TheConstants.{SUCCESS}
use Rattle.rpcsec_bodies.specs.Service.{number_of}
use Rattle.accept_core.specs.declared.answer.AdmitRefusal.{AdmitRefusal}
use Rattle.accept_core.specs.declared.answer.AdmitRefusal.TheVariants.{Gone, AboveMax, Below, Repeat, LogFull}
use Rattle.accept_book.specs.declared.book_answer.Lease.{Lease}
use Rattle.accept_book.specs.declared.book_answer.Admitted.{Admitted}
use Rattle.accept_book.specs.RecordShown.{KeptAnswers, AskedLook, asking, Shown, handle_id, end_of, is_verified, taken_args, body_args, result_body}
use Rattle.accept_book.specs.RecordRule.{unadmitted, outcome_ruling, admitted_ruling, ask_admit, data_ruling, call_ruling, record_ruling}
use Rattle.accept_book.specs.Honest.{caller_of, ByIntegrity, ByPrivacy, Carries, Honest, rule_of_refusal, rule_of_outcome, IsDone, HonestRuled}

-- ---- the body

header-long : (flags number : ℕ) → length (mic_header_with flags number) ≡ 16
unfolding mic_header_with
header-long flags number = refl

mic-long : (end : TokenEnd) (octets tag : List ℕ) → IsMicOf end octets tag → IsLong tag
mic-long end octets tag m =
    omega (arith, ap (length {A = ℕ}) m.spelled, length-append (mic_header_with m.flags m.number) (checksum_of end.key (sign_usage end.side) (octets ++ mic_header_with m.flags m.number)), header-long m.flags m.number, length-checksum_of end.key (sign_usage end.side) (octets ++ mic_header_with m.flags m.number))

pub checked-carried : (lease : Lease) (n : ℕ) (args body : List ℕ) → n < 2 ^ 32 → ByIntegrity (caller_of lease) n args body → unprotected (end_of lease) services.Integrity n body ≡ Ok args
checked-carried lease n args body h b =
    let read : checked_at body ≡ Ok (word n ++ args, b.tag) = ap checked_at b.spelled ∙ checked-only (word n ++ args) b.tag b.long (mic-long (caller_of lease) (word n ++ args) b.tag b.mic) in
    let good : checked_mic (end_of lease) b.tag (word n ++ args) ≡ Ok tt = mic-all (end_of lease) b.tag (word n ++ args) b.mic in
    checked-read (end_of lease) n args body b.tag h read good

sealed-carried : (keys : SealKeys) (lease : Lease) (n : ℕ) (args body : List ℕ) → ForSealing keys lease.outcome.key 24 → n < 2 ^ 32 → ByPrivacy (caller_of lease) n args body → unprotected (end_of lease) services.Privacy n body ≡ Ok args
sealed-carried keys lease n args body kept h b =
    let read : sealed_at body ≡ Ok b.token = ap sealed_at b.spelled ∙ sealed-only b.token b.long in
    let good : unwrapped (end_of lease) b.token ≡ Ok (record { sealed = true; content = word n ++ args }) = wrap-all keys (end_of lease) true b.token (word n ++ args) kept b.sealed in
    sealed-read (end_of lease) n args body b.token h read good

-- a body carries its arguments by its service
pub body-carried : (keys : SealKeys) (lease : Lease) (cred : CredValue) (n : ℕ) (args body : List ℕ) → ForSealing keys lease.outcome.key 24 → n < 2 ^ 32 → cred.seq ≡ n → Carries (caller_of lease) cred.service n args body → body_args (end_of lease) cred body ≡ Some args
unfolding body_args unprotected
body-carried keys lease cred n args body kept h e (inl b) = let s = b.0 in let same = b.1 in rw (s, same) refl
body-carried keys lease cred n args body kept h e (inr (inl b)) = let s = b.0 in rw (s, e) (ap taken_args (checked-carried lease n args body h b.1))
body-carried keys lease cred n args body kept h e (inr (inr b)) = let s = b.0 in rw (s, e) (ap taken_args (sealed-carried keys lease n args body kept h b.1))

-- ---- the ruling

pub shown_by : List ℕ → KeptAnswers → Serving → CallValue → Shown
shown_by octets kept serves call = record { record_octets = octets; call = call; now = kept.now; draws = kept.draws; serves = serves }

verified : (octets : List ℕ) (kept : KeptAnswers) (serves : Serving) (lease : Lease) (call : CallValue) → call.verf.flavour ≡ 6 → IsMicOf (caller_of lease) (take call.header octets) call.verf.body → is_verified (shown_by octets kept serves call) lease ≡ true
unfolding is_verified shown_by
verified octets kept serves lease call e m = let good : checked_mic (end_of lease) call.verf.body (take call.header octets) ≡ Ok tt = mic-all (end_of lease) call.verf.body (take call.header octets) m in rw (e, good) refl

data-ruled : (octets : List ℕ) (kept : KeptAnswers) (serves : Serving) (n procedure : ℕ) (args : List ℕ) (lease : Lease) (h : Honest serves.program octets (caller_of lease) n procedure args) → body_args (end_of lease) h.cred h.call.args ≡ Some args
    → data_ruling (shown_by octets kept serves h.call) h.cred lease kept.admitted ≡ ask_admit (shown_by octets kept serves h.call) h.cred lease args kept.admitted
unfolding data_ruling shown_by
data-ruled octets kept serves n procedure args lease h body =
    let seen : is_verified (shown_by octets kept serves h.call) lease ≡ true = verified octets kept serves lease h.call h.secured h.verifier in
    let program : (h.call.program == serves.program.id.number) ≡ true = rw h.number_called (eq-eqb serves.program.id.number serves.program.id.number refl) in
    let version : (h.call.version == serves.program.id.version) ≡ true = rw h.version_called (eq-eqb serves.program.id.version serves.program.id.version refl) in
    let has : serves.program.has h.call.procedure ≡ true = rw h.called h.served in
    let strong : nat_lt h.cred.service (number_of (serves.program.needs h.call.procedure)) ≡ false = rw h.called (le-ltb h.cred.service (number_of (serves.program.needs procedure)) h.allowed) in
    let proper : serves.program.takes h.call.procedure args ≡ true = rw h.called h.proper in
    rw (seen, program, version, has, strong, body) (rw proper refl)

pub honest-ruling : (octets : List ℕ) (kept : KeptAnswers) (serves : Serving) (n procedure : ℕ) (args : List ℕ) (lease : Lease) (h : Honest serves.program octets (caller_of lease) n procedure args) (id : ℕ) → body_args (end_of lease) h.cred h.call.args ≡ Some args
    → handle_id h.cred.context ≡ Some id → kept.looked ≡ Some (Ok lease)
    → record_ruling octets kept serves ≡ asking (AskedLook id kept.now (Ok lease)) (ask_admit (shown_by octets kept serves h.call) h.cred lease args kept.admitted)
unfolding record_ruling call_ruling shown_by
honest-ruling octets kept serves n procedure args lease h id body handle look =
    let flavour : (h.call.cred.flavour == 0) ≡ false = rw h.flavour refl in
    let gss : (h.call.cred.flavour == 6) ≡ true = rw h.flavour refl in
    let is_data : (h.cred.proc == 0) ≡ true = rw h.is_data refl in
    let first : (h.cred.proc == 1) ≡ false = rw h.is_data refl in
    let second : (h.cred.proc == 2) ≡ false = rw h.is_data refl in
    let inner = data-ruled octets kept serves n procedure args lease h body in
    rw (h.reads) (rw (flavour, gss, h.header) (rw (is_data, first, second) (rw (handle, look) (rw is_data (rw inner refl)))))

-- ---- what it is answered

-- the answer's own rule decides where the call is done
admitted-by : (s : Shown) (cred : CredValue) (lease : Lease) (args : List ℕ) (answer : Result Admitted AdmitRefusal) → (admitted_ruling s cred lease args answer).rule ≡ 23 → is_ok answer ≡ true
admitted-by s cred lease args (Ok admitted) rule = refl
admitted-by s cred lease args (Err Gone) rule = absurd (omega (arith, rule))
admitted-by s cred lease args (Err AboveMax) rule = absurd (omega (arith, rule))
admitted-by s cred lease args (Err (Below last)) rule = absurd (omega (arith, rule))
admitted-by s cred lease args (Err Repeat) rule = absurd (omega (arith, rule))
admitted-by s cred lease args (Err LogFull) rule = absurd (omega (arith, rule))

-- a result is replied
done-by : (s : Shown) (cred : CredValue) (lease : Lease) (n : ℕ) (args : List ℕ) (outcome : Outcome) (result : List ℕ) → cred.seq ≡ n → result_in args outcome ≡ Some result
    → IsDone (outcome_ruling s cred lease args outcome) (accepted s.call.xid 6 (mic_of (end_of lease) (2 * n) (word n)) SUCCESS 0 0 (result_body (end_of lease) cred (take 16 (drop 66 s.draws)) result))
done-by s cred lease n args outcomes.Args result seq is = let same : args ≡ result = cc in record { rule = refl; replied = rw (seq, same) refl }
done-by s cred lease n args (outcomes.Done octets) result seq is = let same : octets ≡ result = cc in record { rule = refl; replied = rw (seq, same) refl }
done-by s cred lease n args (outcomes.Refused why) result seq is = absurd cc
done-by s cred lease n args (outcomes.Mismatch low high) result seq is = absurd cc
done-by s cred lease n args outcomes.Gone result seq is = absurd cc
done-by s cred lease n args outcomes.NoMemory result seq is = absurd cc

-- its rule is that of what became of it
came-by : (s : Shown) (cred : CredValue) (lease : Lease) (args : List ℕ) (outcome : Outcome) → (outcome_ruling s cred lease args outcome).rule ≡ rule_of_outcome outcome
came-by s cred lease args outcomes.Args = refl
came-by s cred lease args (outcomes.Done octets) = refl
came-by s cred lease args (outcomes.Refused why) = refl
came-by s cred lease args (outcomes.Mismatch low high) = refl
came-by s cred lease args outcomes.Gone = refl
came-by s cred lease args outcomes.NoMemory = refl

came-none : (s : Shown) (cred : CredValue) (lease : Lease) (args : List ℕ) (outcome : Outcome) → (outcome_ruling s cred lease args outcome).asked ≡ []
came-none s cred lease args outcomes.Args = refl
came-none s cred lease args (outcomes.Done octets) = refl
came-none s cred lease args (outcomes.Refused why) = refl
came-none s cred lease args (outcomes.Mismatch low high) = refl
came-none s cred lease args outcomes.Gone = refl
came-none s cred lease args outcomes.NoMemory = refl

asked-by : (s : Shown) (cred : CredValue) (lease : Lease) (args : List ℕ) (answer : Result Admitted AdmitRefusal) → (admitted_ruling s cred lease args answer).asked ≡ []
asked-by s cred lease args (Ok admitted) = came-none s cred lease args admitted.outcome
asked-by s cred lease args (Err Gone) = refl
asked-by s cred lease args (Err AboveMax) = refl
asked-by s cred lease args (Err (Below last)) = refl
asked-by s cred lease args (Err Repeat) = refl
asked-by s cred lease args (Err LogFull) = refl

came-undue : (s : Shown) (cred : CredValue) (lease : Lease) (args : List ℕ) (outcome : Outcome) → (outcome_ruling s cred lease args outcome).due ≡ None
came-undue s cred lease args outcomes.Args = refl
came-undue s cred lease args (outcomes.Done octets) = refl
came-undue s cred lease args (outcomes.Refused why) = refl
came-undue s cred lease args (outcomes.Mismatch low high) = refl
came-undue s cred lease args outcomes.Gone = refl
came-undue s cred lease args outcomes.NoMemory = refl

undue-by : (s : Shown) (cred : CredValue) (lease : Lease) (args : List ℕ) (answer : Result Admitted AdmitRefusal) → (admitted_ruling s cred lease args answer).due ≡ None
undue-by s cred lease args (Ok admitted) = came-undue s cred lease args admitted.outcome
undue-by s cred lease args (Err Gone) = refl
undue-by s cred lease args (Err AboveMax) = refl
undue-by s cred lease args (Err (Below last)) = refl
undue-by s cred lease args (Err Repeat) = refl
undue-by s cred lease args (Err LogFull) = refl

refused-by : (s : Shown) (cred : CredValue) (lease : Lease) (refusal : AdmitRefusal) → (unadmitted s cred lease refusal).rule ≡ rule_of_refusal refusal
refused-by s cred lease Gone = refl
refused-by s cred lease AboveMax = refl
refused-by s cred lease (Below last) = refl
refused-by s cred lease Repeat = refl
refused-by s cred lease LogFull = refl

pub honest-ruled : (octets : List ℕ) (kept : KeptAnswers) (serves : Serving) (n procedure : ℕ) (args : List ℕ) (lease : Lease) (h : Honest serves.program octets (caller_of lease) n procedure args) (id : ℕ) → body_args (end_of lease) h.cred h.call.args ≡ Some args
    → handle_id h.cred.context ≡ Some id → kept.looked ≡ Some (Ok lease) → HonestRuled octets kept serves lease n procedure args h.call h.cred id
unfolding shown_by
honest-ruled octets kept serves n procedure args lease h id body handle look =
    let ruled = honest-ruling octets kept serves n procedure args lease h id body handle look in
    let seq = h.number in
    let called = h.called in
    record {
      due = λ none. rw (ruled, none, seq, called) refl;
      asked = λ answer some. rw (ruled, some, asked-by (shown_by octets kept serves h.call) h.cred lease args answer) (rw (seq, called) refl);
      undue = λ answer some. rw (ruled, some) (undue-by (shown_by octets kept serves h.call) h.cred lease args answer);
      admitted = λ answer some rule. admitted-by (shown_by octets kept serves h.call) h.cred lease args answer (rw (ruled, some) at rule);
      came = λ answer some. rw (ruled, some) (came-by (shown_by octets kept serves h.call) h.cred lease args answer.outcome);
      done = λ answer result some is.
          let d = done-by (shown_by octets kept serves h.call) h.cred lease n args answer.outcome result seq is in
          record { rule = rw (ruled, some) d.rule; replied = rw (ruled, some) d.replied };
      unserved = λ answer why some is. record { rule = rw (ruled, some, is) refl; replied = rw (ruled, some, is, seq) refl };
      mismatch = λ answer low high some is. record { rule = rw (ruled, some, is) refl; replied = rw (ruled, some, is, seq) refl };
      lost = λ answer some is. (rw (ruled, some, is) refl, rw (ruled, some, is) refl);
      memory = λ answer some is. rw (ruled, some, is) refl;
      refused = λ refusal some. rw (ruled, some) (refused-by (shown_by octets kept serves h.call) h.cred lease refusal);
    }

-- with the keys for what is sealed
pub honest-kept : (keys : SealKeys) (octets : List ℕ) (kept : KeptAnswers) (serves : Serving) (n procedure : ℕ) (args : List ℕ) (lease : Lease) (h : Honest serves.program octets (caller_of lease) n procedure args) (id : ℕ) → ForSealing keys lease.outcome.key 24
    → handle_id h.cred.context ≡ Some id → kept.looked ≡ Some (Ok lease) → HonestRuled octets kept serves lease n procedure args h.call h.cred id
honest-kept keys octets kept serves n procedure args lease h id for handle look =
    let number : n < 2 ^ 32 = omega (arith, h.few) in
    honest-ruled octets kept serves n procedure args lease h id (body-carried keys lease h.cred n args h.call.args for number h.number h.body) handle look
