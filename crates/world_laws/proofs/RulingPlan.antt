-- What a record comes to, before any answer is there: a rule decides, or which question is asked and what follows each of its answers.
use Rattle.std.proofs.Common.{◌≡◌, ℕ, Bool, true, false, refl, ap, List, length, take, Option, Some, None, Result, Ok, Err}
use Rattle.std.specs.Prelude.{◌==◌, ◌||◌, ◌&&◌, not, if◌then◌else◌}
use Rattle.rpc_msgs.specs.Calls.{CallValue, call_at}
use Rattle.rpc_msgs.specs.declared.call.CallRefusal.{CallRefusal}
use Rattle.rpc_msgs.specs.declared.call.CallRefusal.TheVariants.{Unreadable, NotCall, RpcVersion}
use Rattle.rpc_msgs.specs.declared.xdr_reader.XdrRefusal.{XdrRefusal}
use Rattle.rpcsec_msgs.specs.Cred.{CredValue, cred_at}
use Rattle.rpcsec_msgs.specs.declared.cred.CredRefusal.{CredRefusal}
use Rattle.accept_book.specs.Served.{one_opaque}
use Rattle.accept_core.specs.declared.answer.AdmitRefusal.{AdmitRefusal}
use Rattle.accept_core.specs.declared.answer.AdmitRefusal.TheVariants as admits
use Rattle.accept_core.specs.declared.answer.LookRefusal.{LookRefusal}
use Rattle.accept_core.specs.declared.answer.LookRefusal.TheVariants as looks
use Rattle.accept_book.specs.declared.book_answer.BookRefusal.TheVariants as books
use Rattle.accept_book.specs.declared.book_answer.Lease.{Lease}
use Rattle.accept_book.specs.declared.book_answer.NegAnswer.{NegAnswer}
use Rattle.accept_book.specs.declared.book_answer.NegAnswer.TheVariants as steps
use Rattle.accept_book.specs.declared.book_answer.Negotiated.{Negotiated}
use Rattle.accept_book.specs.declared.book_answer.Admitted.{Admitted}
use Rattle.rpc_program.specs.Programs.{Serving}
use Rattle.rpcsec_bodies.specs.declared.service.Service.{Service}
use Rattle.rpcsec_bodies.specs.Service.{service_of}
use Rattle.rpc_program.specs.declared.outcome.Outcome.{Outcome}
use Rattle.rpc_program.specs.declared.outcome.Outcome.TheVariants as outcomes
use Rattle.accept_core.specs.declared.entry.Receipt.{Receipt}
use Rattle.accept_book.specs.RecordShown.{Negotiate, Look, Admit, End, AskedStep, AskedLook, AskedAdmit, AskedEnd, Ruling, decided, waiting, asking, Shown, handle_id, body_args, end_of, is_verified}
use Rattle.accept_book.specs.RecordRule.{is_other_program, is_other_version_of_it, is_no_procedure, is_weak, is_misplaced, plain_ruling, stepped, ask_step, continued, token_ruling, creation_ruling, unadmitted, outcome_ruling, admitted_ruling, ask_admit, args_ruling, data_ruling, ended_ruling, ask_end, destroy_ruling, looked_ruling, ask_look, id_ruling, cred_ruling, call_ruling, read_ruling, record_ruling}

-- ---- plans

-- a rule, and the reply
pub record Decision : Type 0 where
  pub rule : ℕ
  pub reply : Option (List ℕ)

abbrev pub ruled : Decision → Ruling
ruled d = decided d.rule d.reply

abbrev pub decision_of : Ruling → Decision
decision_of r = record { rule = r.rule; reply = r.reply }

-- behind a look: a rule decides, or an admission or an end is asked, and what follows its answer
pub data Late : Type 0 where
  Rules : (d : Decision) → Late
  Admits : (lease : Lease) (seq : ℕ) (service : Service) (procedure : ℕ) (args : List ℕ) (by : Result Admitted AdmitRefusal → Decision) → Late
  Ends : (lease : Lease) (seq : ℕ) (by : Result Receipt AdmitRefusal → Decision) → Late

pub data Plan : Type 0 where
  Decides : (d : Decision) → Plan
  Steps : (id : Option ℕ) (token : List ℕ) (now : ℕ) (draws : List ℕ) (by : Negotiated → Decision) → Plan
  Looks : (id now : ℕ) (by : Result Lease LookRefusal → Late) → Plan

-- the ruling of a plan, by the answers that are there
abbrev pub step_by : Option ℕ → List ℕ → ℕ → List ℕ → (Negotiated → Decision) → Option Negotiated → Ruling
step_by id token now draws by None = waiting (Negotiate id token now draws)
step_by id token now draws by (Some answer) = asking (AskedStep id token now draws answer) (ruled (by answer))

abbrev pub admit_by : Lease → ℕ → Service → ℕ → List ℕ → (Result Admitted AdmitRefusal → Decision) → Option (Result Admitted AdmitRefusal) → Ruling
admit_by lease seq service procedure args by None = waiting (Admit lease seq service procedure args)
admit_by lease seq service procedure args by (Some answer) = asking (AskedAdmit lease seq service procedure args answer) (ruled (by answer))

abbrev pub end_by : Lease → ℕ → (Result Receipt AdmitRefusal → Decision) → Option (Result Receipt AdmitRefusal) → Ruling
end_by lease seq by None = waiting (End lease seq)
end_by lease seq by (Some answer) = asking (AskedEnd lease seq answer) (ruled (by answer))

abbrev pub late_by : Late → Option (Result Admitted AdmitRefusal) → Option (Result Receipt AdmitRefusal) → Ruling
late_by (Rules d) admitted ended = ruled d
late_by (Admits lease seq service procedure args by) admitted ended = admit_by lease seq service procedure args by admitted
late_by (Ends lease seq by) admitted ended = end_by lease seq by ended

abbrev pub look_by : ℕ → ℕ → (Result Lease LookRefusal → Late) → Option (Result Lease LookRefusal) → Option (Result Admitted AdmitRefusal) → Option (Result Receipt AdmitRefusal) → Ruling
look_by id now by None admitted ended = waiting (Look id now)
look_by id now by (Some answer) admitted ended = asking (AskedLook id now answer) (late_by (by answer) admitted ended)

-- a ruling by four answers
abbrev pub Ruled : Type 0
Ruled = Option Negotiated → Option (Result Lease LookRefusal) → Option (Result Admitted AdmitRefusal) → Option (Result Receipt AdmitRefusal) → Ruling

abbrev pub plan_by : Plan → Ruled
plan_by (Decides d) negotiated looked admitted ended = ruled d
plan_by (Steps id token now draws by) negotiated looked admitted ended = step_by id token now draws by negotiated
plan_by (Looks id now by) negotiated looked admitted ended = look_by id now by looked admitted ended

pub record Planned (f : Ruled) : Type 0 where
  pub plan : Plan
  pub is : (n : Option Negotiated) (l : Option (Result Lease LookRefusal)) (a : Option (Result Admitted AdmitRefusal)) (e : Option (Result Receipt AdmitRefusal)) → f n l a e ≡ plan_by plan n l a e

pub record PlannedLate (f : Option (Result Admitted AdmitRefusal) → Option (Result Receipt AdmitRefusal) → Ruling) : Type 0 where
  pub late : Late
  pub is : (a : Option (Result Admitted AdmitRefusal)) (e : Option (Result Receipt AdmitRefusal)) → f a e ≡ late_by late a e

decides : (rule : ℕ) (reply : Option (List ℕ)) → Planned (λ n l a e. decided rule reply)
decides rule reply = record { plan = Decides (record { rule = rule; reply = reply }); is = λ n l a e. refl }

rules : (rule : ℕ) (reply : Option (List ℕ)) → PlannedLate (λ a e. decided rule reply)
rules rule reply = record { late = Rules (record { rule = rule; reply = reply }); is = λ a e. refl }

by-if : (b : Bool) (f g : Ruled) → Planned f → Planned g → Planned (λ n l a e. if b then f n l a e else g n l a e)
by-if true f g p q = record { plan = p.plan; is = p.is }
by-if false f g p q = record { plan = q.plan; is = q.is }

late-if : (b : Bool) (f g : Option (Result Admitted AdmitRefusal) → Option (Result Receipt AdmitRefusal) → Ruling) → PlannedLate f → PlannedLate g → PlannedLate (λ a e. if b then f a e else g a e)
late-if true f g p q = record { late = p.late; is = p.is }
late-if false f g p q = record { late = q.late; is = q.is }

-- ---- calls without authentication, and creations

plain-planned : (s : Shown) → Planned (λ n l a e. plain_ruling s)
unfolding plain_ruling
plain-planned s =
    by-if (is_other_program s) _ _ (decides _ _)
    (by-if (is_other_version_of_it s) _ _ (decides _ _)
    (by-if (is_no_procedure s) _ _ (decides _ _)
    (by-if (not (s.call.procedure == 0)) _ _ (decides _ _)
    (by-if (not (length s.call.args == 0)) _ _ (decides _ _) (decides _ _)))))

stepped-is : (s : Shown) (answer : NegAnswer) → stepped s answer ≡ ruled (decision_of (stepped s answer))
stepped-is s (steps.Going id token) = refl
stepped-is s (steps.Settled lease token) = refl
stepped-is s (steps.Refused books.NoContext) = refl
stepped-is s (steps.Refused books.AlreadyComplete) = refl
stepped-is s (steps.Refused books.LogFull) = refl
stepped-is s (steps.Refused books.TableFull) = refl
stepped-is s (steps.Refused (books.Neg refusal)) = refl
stepped-is s (steps.Refused (books.Stale greatest)) = refl
stepped-is s (steps.Refused (books.Repeat place)) = refl
stepped-is s (steps.Refused books.CacheFull) = refl
stepped-is s (steps.Refused books.Journal) = refl
stepped-is s steps.NoMemory = refl

step-is : (s : Shown) (id : Option ℕ) (token : List ℕ) (negotiated : Option Negotiated)
    → ask_step s id token negotiated ≡ step_by id token s.now (take 66 s.draws) (λ n. decision_of (stepped s n.answer)) negotiated
step-is s id token None = refl
step-is s id token (Some negotiated) = ap (asking (AskedStep id token s.now (take 66 s.draws) negotiated)) (stepped-is s negotiated.answer)

step-planned : (s : Shown) (id : Option ℕ) (token : List ℕ) → Planned (λ n l a e. ask_step s id token n)
step-planned s id token = record { plan = Steps id token s.now (take 66 s.draws) (λ n. decision_of (stepped s n.answer)); is = λ n l a e. step-is s id token n }

continued-planned : (s : Shown) (token : List ℕ) (id : Option ℕ) → Planned (λ n l a e. continued s token n id)
continued-planned s token None = decides _ _
continued-planned s token (Some id) = step-planned s (Some id) token

token-planned : (s : Shown) (cred : CredValue) (token : Result (List ℕ) XdrRefusal) → Planned (λ n l a e. token_ruling s cred n token)
token-planned s cred (Err refusal) = decides _ _
token-planned s cred (Ok token) = by-if (cred.proc == 1) _ _ (step-planned s None token) (continued-planned s token (handle_id cred.context))

creation-planned : (s : Shown) (cred : CredValue) → Planned (λ n l a e. creation_ruling s cred n)
unfolding creation_ruling
creation-planned s cred =
    by-if (is_other_program s) _ _ (decides _ _)
    (by-if (is_other_version_of_it s) _ _ (decides _ _) (token-planned s cred (one_opaque s.call.args)))

-- ---- behind a look

unadmitted-is : (s : Shown) (cred : CredValue) (lease : Lease) (refusal : AdmitRefusal) → unadmitted s cred lease refusal ≡ ruled (decision_of (unadmitted s cred lease refusal))
unadmitted-is s cred lease admits.Gone = refl
unadmitted-is s cred lease admits.AboveMax = refl
unadmitted-is s cred lease (admits.Below last) = refl
unadmitted-is s cred lease admits.Repeat = refl
unadmitted-is s cred lease admits.LogFull = refl

outcome-is : (s : Shown) (cred : CredValue) (lease : Lease) (args : List ℕ) (outcome : Outcome) → outcome_ruling s cred lease args outcome ≡ ruled (decision_of (outcome_ruling s cred lease args outcome))
outcome-is s cred lease args outcomes.Args = refl
outcome-is s cred lease args (outcomes.Done result) = refl
outcome-is s cred lease args (outcomes.Refused why) = refl
outcome-is s cred lease args (outcomes.Mismatch low high) = refl
outcome-is s cred lease args outcomes.Gone = refl
outcome-is s cred lease args outcomes.NoMemory = refl

admitted-is : (s : Shown) (cred : CredValue) (lease : Lease) (args : List ℕ) (answer : Result Admitted AdmitRefusal) → admitted_ruling s cred lease args answer ≡ ruled (decision_of (admitted_ruling s cred lease args answer))
admitted-is s cred lease args (Ok admitted) = outcome-is s cred lease args admitted.outcome
admitted-is s cred lease args (Err refusal) = unadmitted-is s cred lease refusal

admit-is : (s : Shown) (cred : CredValue) (lease : Lease) (args : List ℕ) (admitted : Option (Result Admitted AdmitRefusal))
    → ask_admit s cred lease args admitted ≡ admit_by lease cred.seq (service_of cred.service) s.call.procedure args (λ x. decision_of (admitted_ruling s cred lease args x)) admitted
admit-is s cred lease args None = refl
admit-is s cred lease args (Some answer) = ap (asking (AskedAdmit lease cred.seq (service_of cred.service) s.call.procedure args answer)) (admitted-is s cred lease args answer)

admit-planned : (s : Shown) (cred : CredValue) (lease : Lease) (args : List ℕ) → PlannedLate (λ a e. ask_admit s cred lease args a)
admit-planned s cred lease args =
    record { late = Admits lease cred.seq (service_of cred.service) s.call.procedure args (λ x. decision_of (admitted_ruling s cred lease args x)); is = λ a e. admit-is s cred lease args a }

args-planned : (s : Shown) (cred : CredValue) (lease : Lease) (args : Option (List ℕ)) → PlannedLate (λ a e. args_ruling s cred lease a args)
args-planned s cred lease None = rules _ _
args-planned s cred lease (Some args) = late-if (not (s.serves.program.takes s.call.procedure args)) _ _ (rules _ _) (admit-planned s cred lease args)

data-planned : (s : Shown) (cred : CredValue) (lease : Lease) → PlannedLate (λ a e. data_ruling s cred lease a)
unfolding data_ruling
data-planned s cred lease =
    late-if (not (is_verified s lease)) _ _ (rules _ _)
    (late-if (is_other_program s) _ _ (rules _ _)
    (late-if (is_other_version_of_it s) _ _ (rules _ _)
    (late-if (is_no_procedure s) _ _ (rules _ _)
    (late-if (is_weak s cred) _ _ (rules _ _) (args-planned s cred lease (body_args (end_of lease) cred s.call.args))))))

ended-is : (s : Shown) (cred : CredValue) (lease : Lease) (answer : Result Receipt AdmitRefusal) → ended_ruling s cred lease answer ≡ ruled (decision_of (ended_ruling s cred lease answer))
ended-is s cred lease (Ok receipt) = refl
ended-is s cred lease (Err refusal) = unadmitted-is s cred lease refusal

end-is : (s : Shown) (cred : CredValue) (lease : Lease) (ended : Option (Result Receipt AdmitRefusal)) → ask_end s cred lease ended ≡ end_by lease cred.seq (λ x. decision_of (ended_ruling s cred lease x)) ended
end-is s cred lease None = refl
end-is s cred lease (Some answer) = ap (asking (AskedEnd lease cred.seq answer)) (ended-is s cred lease answer)

end-planned : (s : Shown) (cred : CredValue) (lease : Lease) → PlannedLate (λ a e. ask_end s cred lease e)
end-planned s cred lease = record { late = Ends lease cred.seq (λ x. decision_of (ended_ruling s cred lease x)); is = λ a e. end-is s cred lease e }

destroy-planned : (s : Shown) (cred : CredValue) (lease : Lease) → PlannedLate (λ a e. destroy_ruling s cred lease e)
unfolding destroy_ruling
destroy-planned s cred lease =
    late-if (not (is_verified s lease)) _ _ (rules _ _)
    (late-if (is_other_program s) _ _ (rules _ _)
    (late-if (is_other_version_of_it s) _ _ (rules _ _) (end-planned s cred lease)))

looked-planned : (s : Shown) (cred : CredValue) (answer : Result Lease LookRefusal) → PlannedLate (λ a e. looked_ruling s cred a e answer)
looked-planned s cred (Ok lease) = late-if (cred.proc == 0) _ _ (data-planned s cred lease) (destroy-planned s cred lease)
looked-planned s cred (Err looks.NoContext) = rules _ _
looked-planned s cred (Err looks.NotReady) = rules _ _
looked-planned s cred (Err looks.Expired) = rules _ _

-- ---- all records

look-is : (s : Shown) (cred : CredValue) (id : ℕ) (a : Option (Result Admitted AdmitRefusal)) (e : Option (Result Receipt AdmitRefusal)) (looked : Option (Result Lease LookRefusal))
    → ask_look s cred id a e looked ≡ look_by id s.now (λ answer. (looked-planned s cred answer).late) looked a e
look-is s cred id a e None = refl
look-is s cred id a e (Some answer) = ap (asking (AskedLook id s.now answer)) ((looked-planned s cred answer).is a e)

id-planned : (s : Shown) (cred : CredValue) (id : Option ℕ) → Planned (λ n l a e. id_ruling s cred l a e id)
id-planned s cred None = decides _ _
id-planned s cred (Some id) = record { plan = Looks id s.now (λ answer. (looked-planned s cred answer).late); is = λ n l a e. look-is s cred id a e l }

cred-planned : (s : Shown) (cred : Result CredValue CredRefusal) → Planned (λ n l a e. cred_ruling s n l a e cred)
cred-planned s (Err refusal) = decides _ _
cred-planned s (Ok cred) =
    by-if (is_misplaced s.call cred) _ _ (decides _ _)
    (by-if (cred.proc == 1 || cred.proc == 2) _ _ (creation-planned s cred) (id-planned s cred (handle_id cred.context)))

call-planned : (s : Shown) → Planned (λ n l a e. call_ruling s n l a e)
unfolding call_ruling
call-planned s =
    by-if (not (s.call.cred.flavour == 0) && not (s.call.cred.flavour == 6)) _ _ (decides _ _)
    (by-if (s.call.cred.flavour == 0) _ _ (plain-planned s) (cred-planned s (cred_at s.call.cred.body)))

read-planned : (octets : List ℕ) (now : ℕ) (draws : List ℕ) (serves : Serving) (call : Result CallValue CallRefusal)
    → Planned (λ n l a e. read_ruling octets (record { now = now; draws = draws; negotiated = n; looked = l; admitted = a; ended = e }) serves call)
read-planned octets now draws serves (Err (Unreadable at)) = decides _ _
read-planned octets now draws serves (Err NotCall) = decides _ _
read-planned octets now draws serves (Err (RpcVersion xid)) = decides _ _
read-planned octets now draws serves (Ok call) = call-planned (record { record_octets = octets; call = call; now = now; draws = draws; serves = serves })

-- the ruling of a record by four answers
abbrev pub rulings : List ℕ → ℕ → List ℕ → Serving → Ruled
rulings octets now draws serves n l a e = record_ruling octets (record { now = now; draws = draws; negotiated = n; looked = l; admitted = a; ended = e }) serves

pub record-planned : (octets : List ℕ) (now : ℕ) (draws : List ℕ) (serves : Serving) → Planned (rulings octets now draws serves)
unfolding record_ruling
record-planned octets now draws serves = read-planned octets now draws serves (call_at octets)
