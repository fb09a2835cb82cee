-- A token that is due to the book is due with the record's moment.
use Rattle.std.proofs.Common.{◌≡◌, ℕ, Bool, true, false, ◌==◌, ◌||◌, ◌&&◌, if◌then◌else◌, List, length, take, Option, Some, None, Result, Ok, Err, refl, subst}
use Rattle.std.specs.Prelude.{not}
use Rattle.rpc_msgs.specs.Calls.{CallValue, call_at}
use Rattle.rpc_msgs.specs.declared.call.CallRefusal.{CallRefusal}
use Rattle.rpc_msgs.specs.declared.call.CallRefusal.TheVariants.{Unreadable, NotCall, RpcVersion}
use Rattle.rpc_msgs.specs.declared.xdr_reader.XdrRefusal.{XdrRefusal}
use Rattle.rpcsec_msgs.specs.Cred.{CredValue, cred_at}
use Rattle.rpcsec_msgs.specs.declared.cred.CredRefusal.{CredRefusal}
use Rattle.accept_book.specs.Served.{one_opaque}
use Rattle.accept_core.specs.declared.answer.AdmitRefusal.{AdmitRefusal}
use Rattle.accept_core.specs.declared.answer.AdmitRefusal.TheVariants as admits
use Rattle.accept_core.specs.declared.answer.LookRefusal.{LookRefusal}
use Rattle.accept_core.specs.declared.answer.LookRefusal.TheVariants as looks
use Rattle.accept_book.specs.declared.book_answer.BookRefusal.{BookRefusal}
use Rattle.accept_book.specs.declared.book_answer.BookRefusal.TheVariants as books
use Rattle.accept_book.specs.declared.book_answer.Lease.{Lease}
use Rattle.accept_book.specs.declared.book_answer.NegAnswer.{NegAnswer}
use Rattle.accept_book.specs.declared.book_answer.NegAnswer.TheVariants as steps
use Rattle.accept_book.specs.declared.book_answer.Negotiated.{Negotiated}
use Rattle.accept_book.specs.declared.book_answer.Admitted.{Admitted}
use Rattle.rpc_program.specs.Programs.{Serving}
use Rattle.rpcsec_bodies.specs.Service.{service_of}
use Rattle.rpc_program.specs.declared.outcome.Outcome.{Outcome}
use Rattle.rpc_program.specs.declared.outcome.Outcome.TheVariants as outcomes
use Rattle.accept_core.specs.declared.entry.Receipt.{Receipt}
use Rattle.accept_book.specs.RecordShown.{KeptAnswers, Question, Negotiate, Look, Admit, End, Asked, AskedStep, AskedLook, AskedAdmit, AskedEnd, Ruling, decided, asking, Shown, handle_id, end_of, is_verified, body_args}
use Rattle.accept_book.specs.RecordRule.{is_other_program, is_other_version_of_it, is_no_procedure, is_weak, is_misplaced, plain_ruling, stepped, ask_step, continued, token_ruling, creation_ruling, unadmitted, outcome_ruling, admitted_ruling, ask_admit, args_ruling, data_ruling, ended_ruling, ask_end, destroy_ruling, looked_ruling, ask_look, id_ruling, cred_ruling, call_ruling, read_ruling, record_ruling}

abbrev pub AtMoment : ℕ → Option Question → Type 0
AtMoment now None = Unit {0}
AtMoment now (Some (Negotiate id token moment draws)) = moment ≡ now
AtMoment now (Some (Look id moment)) = Unit {0}
AtMoment now (Some (Admit lease seq service procedure args)) = Unit {0}
AtMoment now (Some (End lease seq)) = Unit {0}

record IsNow (now : ℕ) (ruling : Ruling) : Type 0 where
  pub due : AtMoment now ruling.due

decides : (now rule : ℕ) (reply : Option (List ℕ)) → IsNow now (decided rule reply)
decides now rule reply = record { due = tt }

either : (now : ℕ) (b : Bool) (first rest : Ruling) → IsNow now first → IsNow now rest → IsNow now (if b then first else rest)
either now true first rest f g = f
either now false first rest f g = g

asks : (now : ℕ) (one : Asked Admitted) (ruling : Ruling) → IsNow now ruling → IsNow now (asking one ruling)
asks now one ruling r = record { due = r.due }

plain-now : (s : Shown) → IsNow s.now (plain_ruling s)
unfolding plain_ruling
plain-now s =
    either s.now (is_other_program s) _ _ (decides s.now _ _)
    (either s.now (is_other_version_of_it s) _ _ (decides s.now _ _)
    (either s.now (is_no_procedure s) _ _ (decides s.now _ _)
    (either s.now (not (s.call.procedure == 0)) _ _ (decides s.now _ _)
    (either s.now (not (length s.call.args == 0)) _ _ (decides s.now _ _) (decides s.now _ _)))))

-- ---- creations

refused-now : (s : Shown) (refusal : BookRefusal) → IsNow s.now (stepped s (steps.Refused refusal))
refused-now s books.NoContext = decides s.now _ _
refused-now s books.AlreadyComplete = decides s.now _ _
refused-now s books.LogFull = decides s.now _ _
refused-now s books.TableFull = decides s.now _ _
refused-now s (books.Neg refusal) = decides s.now _ _
refused-now s (books.Stale greatest) = decides s.now _ _
refused-now s (books.Repeat place) = decides s.now _ _
refused-now s books.CacheFull = decides s.now _ _
refused-now s books.Journal = decides s.now _ _

stepped-now : (s : Shown) (answer : NegAnswer) → IsNow s.now (stepped s answer)
stepped-now s (steps.Going id token) = decides s.now _ _
stepped-now s (steps.Settled lease token) = decides s.now _ _
stepped-now s (steps.Refused refusal) = refused-now s refusal
stepped-now s steps.NoMemory = decides s.now _ _

step-now : (s : Shown) (id : Option ℕ) (token : List ℕ) (answer : Option Negotiated) → IsNow s.now (ask_step s id token answer)
step-now s id token None = record { due = refl }
step-now s id token (Some negotiated) =
    asks s.now (AskedStep id token s.now (take 66 s.draws) negotiated) (stepped s negotiated.answer) (stepped-now s negotiated.answer)

continued-now : (s : Shown) (token : List ℕ) (answer : Option Negotiated) (id : Option ℕ) → IsNow s.now (continued s token answer id)
continued-now s token answer None = decides s.now _ _
continued-now s token answer (Some id) = step-now s (Some id) token answer

token-now : (s : Shown) (cred : CredValue) (answer : Option Negotiated) (token : Result (List ℕ) XdrRefusal) → IsNow s.now (token_ruling s cred answer token)
token-now s cred answer (Err refusal) = decides s.now _ _
token-now s cred answer (Ok token) =
    either s.now (cred.proc == 1) _ _ (step-now s None token answer) (continued-now s token answer (handle_id cred.context))

creation-now : (s : Shown) (cred : CredValue) (answer : Option Negotiated) → IsNow s.now (creation_ruling s cred answer)
unfolding creation_ruling
creation-now s cred answer =
    either s.now (is_other_program s) _ _ (decides s.now _ _)
    (either s.now (is_other_version_of_it s) _ _ (decides s.now _ _) (token-now s cred answer (one_opaque s.call.args)))

-- ---- calls of a context

unadmitted-now : (s : Shown) (cred : CredValue) (lease : Lease) (refusal : AdmitRefusal) → IsNow s.now (unadmitted s cred lease refusal)
unadmitted-now s cred lease admits.Gone = decides s.now _ _
unadmitted-now s cred lease admits.AboveMax = decides s.now _ _
unadmitted-now s cred lease (admits.Below last) = decides s.now _ _
unadmitted-now s cred lease admits.Repeat = decides s.now _ _
unadmitted-now s cred lease admits.LogFull = decides s.now _ _

outcome-now : (s : Shown) (cred : CredValue) (lease : Lease) (args : List ℕ) (outcome : Outcome) → IsNow s.now (outcome_ruling s cred lease args outcome)
outcome-now s cred lease args outcomes.Args = decides s.now _ _
outcome-now s cred lease args (outcomes.Done result) = decides s.now _ _
outcome-now s cred lease args (outcomes.Refused why) = decides s.now _ _
outcome-now s cred lease args (outcomes.Mismatch low high) = decides s.now _ _
outcome-now s cred lease args outcomes.Gone = decides s.now _ _
outcome-now s cred lease args outcomes.NoMemory = decides s.now _ _

admitted-now : (s : Shown) (cred : CredValue) (lease : Lease) (args : List ℕ) (answer : Result Admitted AdmitRefusal) → IsNow s.now (admitted_ruling s cred lease args answer)
admitted-now s cred lease args (Ok admitted) = outcome-now s cred lease args admitted.outcome
admitted-now s cred lease args (Err refusal) = unadmitted-now s cred lease refusal

admit-now : (s : Shown) (cred : CredValue) (lease : Lease) (args : List ℕ) (answer : Option (Result Admitted AdmitRefusal)) → IsNow s.now (ask_admit s cred lease args answer)
admit-now s cred lease args None = record { due = tt }
admit-now s cred lease args (Some answer) =
    asks s.now (AskedAdmit lease cred.seq (service_of cred.service) s.call.procedure args answer) (admitted_ruling s cred lease args answer) (admitted-now s cred lease args answer)

args-now : (s : Shown) (cred : CredValue) (lease : Lease) (answer : Option (Result Admitted AdmitRefusal)) (args : Option (List ℕ)) → IsNow s.now (args_ruling s cred lease answer args)
args-now s cred lease answer None = decides s.now _ _
args-now s cred lease answer (Some args) =
    either s.now (not (s.serves.program.takes s.call.procedure args)) _ _ (decides s.now _ _) (admit-now s cred lease args answer)

data-now : (s : Shown) (cred : CredValue) (lease : Lease) (answer : Option (Result Admitted AdmitRefusal)) → IsNow s.now (data_ruling s cred lease answer)
unfolding data_ruling
data-now s cred lease answer =
    either s.now (not (is_verified s lease)) _ _ (decides s.now _ _)
    (either s.now (is_other_program s) _ _ (decides s.now _ _)
    (either s.now (is_other_version_of_it s) _ _ (decides s.now _ _)
    (either s.now (is_no_procedure s) _ _ (decides s.now _ _)
    (either s.now (is_weak s cred) _ _ (decides s.now _ _)
    (args-now s cred lease answer (body_args (end_of lease) cred s.call.args))))))

ended-now : (s : Shown) (cred : CredValue) (lease : Lease) (answer : Result Receipt AdmitRefusal) → IsNow s.now (ended_ruling s cred lease answer)
ended-now s cred lease (Ok receipt) = decides s.now _ _
ended-now s cred lease (Err refusal) = unadmitted-now s cred lease refusal

end-now : (s : Shown) (cred : CredValue) (lease : Lease) (answer : Option (Result Receipt AdmitRefusal)) → IsNow s.now (ask_end s cred lease answer)
end-now s cred lease None = record { due = tt }
end-now s cred lease (Some answer) = asks s.now (AskedEnd lease cred.seq answer) (ended_ruling s cred lease answer) (ended-now s cred lease answer)

destroy-now : (s : Shown) (cred : CredValue) (lease : Lease) (answer : Option (Result Receipt AdmitRefusal)) → IsNow s.now (destroy_ruling s cred lease answer)
unfolding destroy_ruling
destroy-now s cred lease answer =
    either s.now (not (is_verified s lease)) _ _ (decides s.now _ _)
    (either s.now (is_other_program s) _ _ (decides s.now _ _)
    (either s.now (is_other_version_of_it s) _ _ (decides s.now _ _) (end-now s cred lease answer)))

looked-now : (s : Shown) (cred : CredValue) (admitted : Option (Result Admitted AdmitRefusal)) (ended : Option (Result Receipt AdmitRefusal)) (answer : Result Lease LookRefusal)
    → IsNow s.now (looked_ruling s cred admitted ended answer)
looked-now s cred admitted ended (Ok lease) = either s.now (cred.proc == 0) _ _ (data-now s cred lease admitted) (destroy-now s cred lease ended)
looked-now s cred admitted ended (Err looks.NoContext) = decides s.now _ _
looked-now s cred admitted ended (Err looks.NotReady) = decides s.now _ _
looked-now s cred admitted ended (Err looks.Expired) = decides s.now _ _

look-now : (s : Shown) (cred : CredValue) (id : ℕ) (admitted : Option (Result Admitted AdmitRefusal)) (ended : Option (Result Receipt AdmitRefusal)) (looked : Option (Result Lease LookRefusal))
    → IsNow s.now (ask_look s cred id admitted ended looked)
look-now s cred id admitted ended None = record { due = tt }
look-now s cred id admitted ended (Some answer) =
    asks s.now (AskedLook id s.now answer) (looked_ruling s cred admitted ended answer) (looked-now s cred admitted ended answer)

id-now : (s : Shown) (cred : CredValue) (looked : Option (Result Lease LookRefusal)) (admitted : Option (Result Admitted AdmitRefusal)) (ended : Option (Result Receipt AdmitRefusal)) (id : Option ℕ)
    → IsNow s.now (id_ruling s cred looked admitted ended id)
id-now s cred looked admitted ended None = decides s.now _ _
id-now s cred looked admitted ended (Some id) = look-now s cred id admitted ended looked

-- ---- all calls

cred-now : (s : Shown) (answer : Option Negotiated) (looked : Option (Result Lease LookRefusal)) (admitted : Option (Result Admitted AdmitRefusal)) (ended : Option (Result Receipt AdmitRefusal))
    (cred : Result CredValue CredRefusal) → IsNow s.now (cred_ruling s answer looked admitted ended cred)
cred-now s answer looked admitted ended (Err refusal) = decides s.now _ _
cred-now s answer looked admitted ended (Ok cred) =
    either s.now (is_misplaced s.call cred) _ _ (decides s.now _ _)
    (either s.now (cred.proc == 1 || cred.proc == 2) _ _ (creation-now s cred answer) (id-now s cred looked admitted ended (handle_id cred.context)))

call-now : (s : Shown) (answer : Option Negotiated) (looked : Option (Result Lease LookRefusal)) (admitted : Option (Result Admitted AdmitRefusal)) (ended : Option (Result Receipt AdmitRefusal))
    → IsNow s.now (call_ruling s answer looked admitted ended)
unfolding call_ruling
call-now s answer looked admitted ended =
    either s.now (not (s.call.cred.flavour == 0) && not (s.call.cred.flavour == 6)) _ _ (decides s.now _ _)
    (either s.now (s.call.cred.flavour == 0) _ _ (plain-now s) (cred-now s answer looked admitted ended (cred_at s.call.cred.body)))

read-now : (octets : List ℕ) (kept : KeptAnswers) (serves : Serving) (call : Result CallValue CallRefusal) → IsNow kept.now (read_ruling octets kept serves call)
read-now octets kept serves (Err (Unreadable at)) = decides kept.now _ _
read-now octets kept serves (Err NotCall) = decides kept.now _ _
read-now octets kept serves (Err (RpcVersion xid)) = decides kept.now _ _
read-now octets kept serves (Ok call) =
    call-now (record { record_octets = octets; call = call; now = kept.now; draws = kept.draws; serves = serves }) kept.negotiated kept.looked kept.admitted kept.ended

record-now : (octets : List ℕ) (kept : KeptAnswers) (serves : Serving) → IsNow kept.now (record_ruling octets kept serves)
unfolding record_ruling
record-now octets kept serves = read-now octets kept serves (call_at octets)

pub due-moment : (octets : List ℕ) (kept : KeptAnswers) (serves : Serving) (id : Option ℕ) (token : List ℕ) (now : ℕ) (draws : List ℕ)
    → (record_ruling octets kept serves).due ≡ Some (Negotiate id token now draws) → now ≡ kept.now
due-moment octets kept serves id token now draws e = subst (AtMoment kept.now) e (record-now octets kept serves).due
