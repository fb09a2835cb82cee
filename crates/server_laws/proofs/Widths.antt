-- The questions of a record's rule, and whether it decides, don't depend on the width that its reply tells.
use Rattle.std.proofs.Common.{◌≡◌, ◌∙◌, inl, inr, ℕ, ◌<◌, Bool, true, false, refl, ap, sym, subst, List, [], Option, Some, None, Result, Ok, Err}
use Rattle.std.specs.Prelude.{◌==◌, ◌||◌, ◌&&◌, not, if◌then◌else◌, option_map, is_some}
use Rattle.rpc_msgs.specs.Calls.{CallValue, call_at}
use Rattle.rpc_msgs.specs.declared.call.CallRefusal.{CallRefusal}
use Rattle.rpc_msgs.specs.declared.call.CallRefusal.TheVariants.{Unreadable, NotCall, RpcVersion}
use Rattle.rpc_msgs.specs.declared.xdr_reader.XdrRefusal.{XdrRefusal}
use Rattle.rpcsec_msgs.specs.Cred.{CredValue, cred_at}
use Rattle.rpcsec_msgs.specs.declared.cred.CredRefusal.{CredRefusal}
use Rattle.rpc_program.specs.Programs.{Serving}
use Rattle.rpc_program.specs.declared.outcome.Outcome.{Outcome}
use Rattle.rpc_program.specs.declared.outcome.Outcome.TheVariants as outcomes
use Rattle.accept_book.specs.Served.{one_opaque}
use Rattle.accept_core.specs.declared.answer.AdmitRefusal.{AdmitRefusal}
use Rattle.accept_core.specs.declared.answer.AdmitRefusal.TheVariants as admits
use Rattle.accept_core.specs.declared.answer.LookRefusal.{LookRefusal}
use Rattle.accept_core.specs.declared.answer.LookRefusal.TheVariants as looks
use Rattle.accept_book.specs.declared.book_answer.BookRefusal.TheVariants as books
use Rattle.accept_book.specs.declared.book_answer.Lease.{Lease}
use Rattle.accept_book.specs.declared.book_answer.NegAnswer.{NegAnswer}
use Rattle.accept_book.specs.declared.book_answer.NegAnswer.TheVariants as steps
use Rattle.accept_book.specs.declared.book_answer.Negotiated.{Negotiated}
use Rattle.accept_book.specs.declared.book_answer.Admitted.{Admitted}
use Rattle.accept_core.specs.declared.entry.Receipt.{Receipt}
use Rattle.accept_book.specs.RecordShown.{KeptAnswers, AskedStep, AskedLook, AskedAdmit, AskedEnd, Ruling, asking, Shown, handle_id, body_args, end_of, is_verified}
use Rattle.accept_book.specs.RecordRule.{is_other_program, is_other_version_of_it, is_no_procedure, is_weak, is_misplaced, plain_ruling, stepped, ask_step, continued, token_ruling, creation_ruling, unadmitted, outcome_ruling, admitted_ruling, ask_admit, args_ruling, data_ruling, ended_ruling, ask_end, destroy_ruling, looked_ruling, ask_look, id_ruling, cred_ruling, call_ruling, read_ruling, record_ruling}
use Rattle.gss_server.specs.Answers.{may_want, may_wait}
use Rattle.gss_server.specs.Hearing.{serving}
use Rattle.server_laws.specs.Served.{IsOver}

-- a ruling but for the octets of its reply
abbrev blank : List ℕ → List ℕ
blank octets = []

abbrev pub bare : Ruling → Ruling
bare r = record { rule = r.rule; reply = option_map blank r.reply; asked = r.asked; due = r.due }

abbrev Same : Ruling → Ruling → Type 0
Same r q = bare r ≡ bare q

-- the same call, answered with another width
abbrev at_width : Shown → ℕ → Shown
at_width s v = record s { serves = serving s.serves.program v }

same-if : (b : Bool) (x y z w : Ruling) → Same x z → Same y w → Same (if b then x else y) (if b then z else w)
same-if true x y z w p q = p
same-if false x y z w p q = q

-- ---- calls without authentication, and creations

plain-same : (s : Shown) (v : ℕ) → Same (plain_ruling s) (plain_ruling (at_width s v))
unfolding plain_ruling
plain-same s v = refl

stepped-same : (s : Shown) (v : ℕ) (answer : NegAnswer) → Same (stepped s answer) (stepped (at_width s v) answer)
stepped-same s v (steps.Going id token) = refl
stepped-same s v (steps.Settled lease token) = refl
stepped-same s v (steps.Refused books.NoContext) = refl
stepped-same s v (steps.Refused books.AlreadyComplete) = refl
stepped-same s v (steps.Refused books.LogFull) = refl
stepped-same s v (steps.Refused books.TableFull) = refl
stepped-same s v (steps.Refused (books.Neg refusal)) = refl
stepped-same s v (steps.Refused (books.Stale greatest)) = refl
stepped-same s v (steps.Refused (books.Repeat place)) = refl
stepped-same s v (steps.Refused books.CacheFull) = refl
stepped-same s v (steps.Refused books.Journal) = refl
stepped-same s v steps.NoMemory = refl

step-same : (s : Shown) (v : ℕ) (id : Option ℕ) (token : List ℕ) (n : Option Negotiated) → Same (ask_step s id token n) (ask_step (at_width s v) id token n)
step-same s v id token None = refl
step-same s v id token (Some n) = ap (asking (AskedStep id token s.now _ n)) (stepped-same s v n.answer)

continued-same : (s : Shown) (v : ℕ) (token : List ℕ) (n : Option Negotiated) (id : Option ℕ) → Same (continued s token n id) (continued (at_width s v) token n id)
continued-same s v token n None = refl
continued-same s v token n (Some id) = step-same s v (Some id) token n

token-same : (s : Shown) (v : ℕ) (cred : CredValue) (n : Option Negotiated) (token : Result (List ℕ) XdrRefusal) → Same (token_ruling s cred n token) (token_ruling (at_width s v) cred n token)
token-same s v cred n (Err refusal) = refl
token-same s v cred n (Ok token) = same-if (cred.proc == 1) _ _ _ _ (step-same s v None token n) (continued-same s v token n (handle_id cred.context))

creation-same : (s : Shown) (v : ℕ) (cred : CredValue) (n : Option Negotiated) → Same (creation_ruling s cred n) (creation_ruling (at_width s v) cred n)
unfolding creation_ruling
creation-same s v cred n =
    same-if (is_other_program s) _ _ _ _ refl
    (same-if (is_other_version_of_it s) _ _ _ _ refl (token-same s v cred n (one_opaque s.call.args)))

-- ---- behind a look

unadmitted-same : (s : Shown) (v : ℕ) (cred : CredValue) (lease : Lease) (refusal : AdmitRefusal) → Same (unadmitted s cred lease refusal) (unadmitted (at_width s v) cred lease refusal)
unadmitted-same s v cred lease admits.Gone = refl
unadmitted-same s v cred lease admits.AboveMax = refl
unadmitted-same s v cred lease (admits.Below last) = refl
unadmitted-same s v cred lease admits.Repeat = refl
unadmitted-same s v cred lease admits.LogFull = refl

outcome-same : (s : Shown) (v : ℕ) (cred : CredValue) (lease : Lease) (args : List ℕ) (outcome : Outcome) → Same (outcome_ruling s cred lease args outcome) (outcome_ruling (at_width s v) cred lease args outcome)
outcome-same s v cred lease args outcomes.Args = refl
outcome-same s v cred lease args (outcomes.Done result) = refl
outcome-same s v cred lease args (outcomes.Refused why) = refl
outcome-same s v cred lease args (outcomes.Mismatch low high) = refl
outcome-same s v cred lease args outcomes.Gone = refl
outcome-same s v cred lease args outcomes.NoMemory = refl

admitted-same : (s : Shown) (v : ℕ) (cred : CredValue) (lease : Lease) (args : List ℕ) (answer : Result Admitted AdmitRefusal)
    → Same (admitted_ruling s cred lease args answer) (admitted_ruling (at_width s v) cred lease args answer)
admitted-same s v cred lease args (Ok admitted) = outcome-same s v cred lease args admitted.outcome
admitted-same s v cred lease args (Err refusal) = unadmitted-same s v cred lease refusal

admit-same : (s : Shown) (v : ℕ) (cred : CredValue) (lease : Lease) (args : List ℕ) (a : Option (Result Admitted AdmitRefusal)) → Same (ask_admit s cred lease args a) (ask_admit (at_width s v) cred lease args a)
admit-same s v cred lease args None = refl
admit-same s v cred lease args (Some answer) = ap (asking (AskedAdmit lease cred.seq _ s.call.procedure args answer)) (admitted-same s v cred lease args answer)

args-same : (s : Shown) (v : ℕ) (cred : CredValue) (lease : Lease) (a : Option (Result Admitted AdmitRefusal)) (args : Option (List ℕ))
    → Same (args_ruling s cred lease a args) (args_ruling (at_width s v) cred lease a args)
args-same s v cred lease a None = refl
args-same s v cred lease a (Some args) = same-if (not (s.serves.program.takes s.call.procedure args)) _ _ _ _ refl (admit-same s v cred lease args a)

data-same : (s : Shown) (v : ℕ) (cred : CredValue) (lease : Lease) (a : Option (Result Admitted AdmitRefusal)) → Same (data_ruling s cred lease a) (data_ruling (at_width s v) cred lease a)
unfolding data_ruling is_verified
data-same s v cred lease a =
    same-if (not (is_verified s lease)) _ _ _ _ refl
    (same-if (is_other_program s) _ _ _ _ refl
    (same-if (is_other_version_of_it s) _ _ _ _ refl
    (same-if (is_no_procedure s) _ _ _ _ refl
    (same-if (is_weak s cred) _ _ _ _ refl (args-same s v cred lease a (body_args (end_of lease) cred s.call.args))))))

ended-same : (s : Shown) (v : ℕ) (cred : CredValue) (lease : Lease) (answer : Result Receipt AdmitRefusal) → Same (ended_ruling s cred lease answer) (ended_ruling (at_width s v) cred lease answer)
ended-same s v cred lease (Ok receipt) = refl
ended-same s v cred lease (Err refusal) = unadmitted-same s v cred lease refusal

end-same : (s : Shown) (v : ℕ) (cred : CredValue) (lease : Lease) (e : Option (Result Receipt AdmitRefusal)) → Same (ask_end s cred lease e) (ask_end (at_width s v) cred lease e)
end-same s v cred lease None = refl
end-same s v cred lease (Some answer) = ap (asking (AskedEnd lease cred.seq answer)) (ended-same s v cred lease answer)

destroy-same : (s : Shown) (v : ℕ) (cred : CredValue) (lease : Lease) (e : Option (Result Receipt AdmitRefusal)) → Same (destroy_ruling s cred lease e) (destroy_ruling (at_width s v) cred lease e)
unfolding destroy_ruling is_verified
destroy-same s v cred lease e =
    same-if (not (is_verified s lease)) _ _ _ _ refl
    (same-if (is_other_program s) _ _ _ _ refl
    (same-if (is_other_version_of_it s) _ _ _ _ refl (end-same s v cred lease e)))

looked-same : (s : Shown) (v : ℕ) (cred : CredValue) (a : Option (Result Admitted AdmitRefusal)) (e : Option (Result Receipt AdmitRefusal)) (answer : Result Lease LookRefusal)
    → Same (looked_ruling s cred a e answer) (looked_ruling (at_width s v) cred a e answer)
looked-same s v cred a e (Ok lease) = same-if (cred.proc == 0) _ _ _ _ (data-same s v cred lease a) (destroy-same s v cred lease e)
looked-same s v cred a e (Err looks.NoContext) = refl
looked-same s v cred a e (Err looks.NotReady) = refl
looked-same s v cred a e (Err looks.Expired) = refl

-- ---- all records

look-same : (s : Shown) (v : ℕ) (cred : CredValue) (id : ℕ) (a : Option (Result Admitted AdmitRefusal)) (e : Option (Result Receipt AdmitRefusal)) (l : Option (Result Lease LookRefusal))
    → Same (ask_look s cred id a e l) (ask_look (at_width s v) cred id a e l)
look-same s v cred id a e None = refl
look-same s v cred id a e (Some answer) = ap (asking (AskedLook id s.now answer)) (looked-same s v cred a e answer)

id-same : (s : Shown) (v : ℕ) (cred : CredValue) (l : Option (Result Lease LookRefusal)) (a : Option (Result Admitted AdmitRefusal)) (e : Option (Result Receipt AdmitRefusal)) (id : Option ℕ)
    → Same (id_ruling s cred l a e id) (id_ruling (at_width s v) cred l a e id)
id-same s v cred l a e None = refl
id-same s v cred l a e (Some id) = look-same s v cred id a e l

cred-same : (s : Shown) (v : ℕ) (n : Option Negotiated) (l : Option (Result Lease LookRefusal)) (a : Option (Result Admitted AdmitRefusal)) (e : Option (Result Receipt AdmitRefusal)) (cred : Result CredValue CredRefusal)
    → Same (cred_ruling s n l a e cred) (cred_ruling (at_width s v) n l a e cred)
cred-same s v n l a e (Err refusal) = refl
cred-same s v n l a e (Ok cred) =
    same-if (is_misplaced s.call cred) _ _ _ _ refl
    (same-if (cred.proc == 1 || cred.proc == 2) _ _ _ _ (creation-same s v cred n) (id-same s v cred l a e (handle_id cred.context)))

call-same : (s : Shown) (v : ℕ) (n : Option Negotiated) (l : Option (Result Lease LookRefusal)) (a : Option (Result Admitted AdmitRefusal)) (e : Option (Result Receipt AdmitRefusal))
    → Same (call_ruling s n l a e) (call_ruling (at_width s v) n l a e)
unfolding call_ruling
call-same s v n l a e =
    same-if (not (s.call.cred.flavour == 0) && not (s.call.cred.flavour == 6)) _ _ _ _ refl
    (same-if (s.call.cred.flavour == 0) _ _ _ _ (plain-same s v) (cred-same s v n l a e (cred_at s.call.cred.body)))

read-same : (octets : List ℕ) (kept : KeptAnswers) (serves : Serving) (v : ℕ) (call : Result CallValue CallRefusal) → Same (read_ruling octets kept serves call) (read_ruling octets kept (serving serves.program v) call)
read-same octets kept serves v (Err (Unreadable at)) = refl
read-same octets kept serves v (Err NotCall) = refl
read-same octets kept serves v (Err (RpcVersion xid)) = refl
read-same octets kept serves v (Ok call) =
    call-same (record { record_octets = octets; call = call; now = kept.now; draws = kept.draws; serves = serves }) v kept.negotiated kept.looked kept.admitted kept.ended

record-same : (octets : List ℕ) (kept : KeptAnswers) (serves : Serving) (v : ℕ) → Same (record_ruling octets kept serves) (record_ruling octets kept (serving serves.program v))
unfolding record_ruling
record-same octets kept serves v = read-same octets kept serves v (call_at octets)

-- ---- so its questions are the same, and so is whether it decides

pub same-asked : (octets : List ℕ) (kept : KeptAnswers) (serves : Serving) (v : ℕ) → (record_ruling octets kept serves).asked ≡ (record_ruling octets kept (serving serves.program v)).asked
same-asked octets kept serves v = ap (λ (r : Ruling). r.asked) (record-same octets kept serves v)

bare-some : (reply : Option (List ℕ)) → is_some (option_map blank reply) ≡ is_some reply
bare-some None = refl
bare-some (Some octets) = refl

bare-want : (r : Ruling) → may_want (bare r) ≡ may_want r
bare-want r = ap (λ (b : Bool). b || (r.rule == 0 && may_wait r.due)) (bare-some r.reply)

over : (r q : Ruling) → Same r q → IsOver r → IsOver q
over r q same (inl decided) = inl (subst (λ (x : Ruling). 0 < x.rule) same decided)
over r q same (inr wanted) = inr (sym (bare-want q) ∙ (sym (ap may_want same) ∙ (bare-want r ∙ wanted)))

-- over with another width, and so with this one
pub same-over : (octets : List ℕ) (kept : KeptAnswers) (serves : Serving) (v : ℕ) → IsOver (record_ruling octets kept (serving serves.program v)) → IsOver (record_ruling octets kept serves)
same-over octets kept serves v is = over (record_ruling octets kept (serving serves.program v)) (record_ruling octets kept serves) (sym (record-same octets kept serves v)) is
