-- What a question that is due says of its record, by the rule of a record.
use Rattle.std.proofs.Common.{◌≡◌, ℕ, Bool, true, false, refl, sym, ◌∙◌, subst, List, length, take, Option, Some, None, Result, Ok, Err}
use Rattle.std.specs.Prelude.{◌==◌, ◌||◌, ◌&&◌, not, if◌then◌else◌}
use Rattle.std.proofs.lemmas.Option.{none-some, same_Some}
use Rattle.rpc_msgs.specs.Calls.{CallValue, call_at}
use Rattle.rpc_msgs.specs.declared.call.CallRefusal.{CallRefusal}
use Rattle.rpc_msgs.specs.declared.call.CallRefusal.TheVariants.{Unreadable, NotCall, RpcVersion}
use Rattle.rpc_msgs.specs.declared.xdr_reader.XdrRefusal.{XdrRefusal}
use Rattle.rpcsec_msgs.specs.Cred.{CredValue, cred_at}
use Rattle.rpcsec_msgs.specs.declared.cred.CredRefusal.{CredRefusal}
use Rattle.accept_book.specs.Served.{one_opaque}
use Rattle.accept_core.specs.declared.answer.AdmitRefusal.{AdmitRefusal}
use Rattle.accept_core.specs.declared.answer.AdmitRefusal.TheVariants as admits
use Rattle.accept_core.specs.declared.answer.LookRefusal.{LookRefusal}
use Rattle.accept_core.specs.declared.answer.LookRefusal.TheVariants as looks
use Rattle.accept_book.specs.declared.book_answer.BookRefusal.TheVariants as books
use Rattle.accept_book.specs.declared.book_answer.Lease.{Lease}
use Rattle.accept_book.specs.declared.book_answer.NegAnswer.{NegAnswer}
use Rattle.accept_book.specs.declared.book_answer.NegAnswer.TheVariants as steps
use Rattle.accept_book.specs.declared.book_answer.Negotiated.{Negotiated}
use Rattle.accept_book.specs.declared.book_answer.Admitted.{Admitted}
use Rattle.rpc_program.specs.Programs.{Serving}
use Rattle.rpcsec_bodies.specs.Service.{service_of}
use Rattle.rpc_program.specs.declared.outcome.Outcome.{Outcome}
use Rattle.rpc_program.specs.declared.outcome.Outcome.TheVariants as outcomes
use Rattle.accept_core.specs.declared.entry.Receipt.{Receipt}
use Rattle.accept_book.specs.RecordShown.{KeptAnswers, Question, Negotiate, Look, Admit, End, Ruling, waiting, Shown, handle_id, body_args, end_of, is_verified}
use Rattle.accept_book.specs.RecordRule.{is_other_program, is_other_version_of_it, is_no_procedure, is_weak, is_misplaced, plain_ruling, stepped, ask_step, continued, token_ruling, creation_ruling, unadmitted, outcome_ruling, ask_admit, args_ruling, data_ruling, ask_end, destroy_ruling, looked_ruling, ask_look, id_ruling, cred_ruling, call_ruling, read_ruling, record_ruling}

abbrev pub shown : List ℕ → KeptAnswers → Serving → CallValue → Shown
shown octets kept serves call = record { record_octets = octets; call = call; now = kept.now; draws = kept.draws; serves = serves }

-- an admission is due: by what the call says, and the lease that was looked at
pub record Admitting (octets : List ℕ) (kept : KeptAnswers) (serves : Serving) (lease : Lease) (seq procedure : ℕ) (said : List ℕ) : Type 0 where
  pub call : CallValue
  pub cred : CredValue
  pub read : call_at octets ≡ Ok call
  pub cred_read : cred_at call.cred.body ≡ Ok cred
  pub looked : kept.looked ≡ Some (Ok lease)
  pub verified : is_verified (shown octets kept serves call) lease ≡ true
  pub args : List ℕ
  pub args_are : body_args (end_of lease) cred call.args ≡ Some args
  pub proper : serves.program.takes call.procedure args ≡ true
  pub seq_is : seq ≡ cred.seq
  pub procedure_is : procedure ≡ call.procedure
  pub said_is : said ≡ args

-- the end of a context is due
pub record Ending (octets : List ℕ) (kept : KeptAnswers) (serves : Serving) (lease : Lease) (seq : ℕ) : Type 0 where
  pub call : CallValue
  pub cred : CredValue
  pub read : call_at octets ≡ Ok call
  pub cred_read : cred_at call.cred.body ≡ Ok cred
  pub looked : kept.looked ≡ Some (Ok lease)
  pub verified : is_verified (shown octets kept serves call) lease ≡ true
  pub seq_is : seq ≡ cred.seq

-- what is due of a context that stands
abbrev pub DueLater : List ℕ → KeptAnswers → Serving → Question → Type 0
DueLater octets kept serves (Negotiate id token now draws) = ⊥
DueLater octets kept serves (Look id now) = (now ≡ kept.now) × (kept.looked ≡ None)
DueLater octets kept serves (Admit lease seq service procedure said) = Admitting octets kept serves lease seq procedure said
DueLater octets kept serves (End lease seq) = Ending octets kept serves lease seq

abbrev pub DueIs : List ℕ → KeptAnswers → Serving → Question → Type 0
DueIs octets kept serves (Negotiate id token now draws) = (now ≡ kept.now) × (draws ≡ take 66 kept.draws)
DueIs octets kept serves (Look id now) = (now ≡ kept.now) × (kept.looked ≡ None)
DueIs octets kept serves (Admit lease seq service procedure said) = Admitting octets kept serves lease seq procedure said
DueIs octets kept serves (End lease seq) = Ending octets kept serves lease seq

abbrev Says : (Question → Type 0) → Ruling → Type 0
Says P r = (question : Question) → r.due ≡ Some question → P question

none-says : (P : Question → Type 0) (found : Option Question) → found ≡ None → (question : Question) → found ≡ Some question → P question
none-says P found e question due = absurd (none-some question (sym e ∙ due))

waiting-says : (P : Question → Type 0) (q : Question) → P q → Says P (waiting q)
waiting-says P q p question due = subst P (same_Some q question due) p

if-says : (P : Question → Type 0) (b : Bool) (x y : Ruling) → (b ≡ true → Says P x) → (b ≡ false → Says P y) → Says P (if b then x else y)
if-says P true x y p q = p refl
if-says P false x y p q = q refl

-- a row that decides, and what stands behind it
row-says : (P : Question → Type 0) (b : Bool) (x y : Ruling) → x.due ≡ None → (b ≡ false → Says P y) → Says P (if b then x else y)
row-says P b x y e q = if-says P b x y (λ t. none-says P x.due e) q

later-says : (octets : List ℕ) (kept : KeptAnswers) (serves : Serving) (question : Question) → DueLater octets kept serves question → DueIs octets kept serves question
later-says octets kept serves (Negotiate id token now draws) d = absurd d
later-says octets kept serves (Look id now) d = d
later-says octets kept serves (Admit lease seq service procedure said) d = d
later-says octets kept serves (End lease seq) d = d

not-off : (b : Bool) → not b ≡ false → b ≡ true
not-off true e = refl
not-off false e = sym e

-- ---- creations

both-due : (b : Bool) (x y : Ruling) → x.due ≡ None → y.due ≡ None → (if b then x else y).due ≡ None
both-due true x y p q = p
both-due false x y p q = q

pub plain-due : (s : Shown) → (plain_ruling s).due ≡ None
unfolding plain_ruling
plain-due s =
    both-due (is_other_program s) _ _ refl
    (both-due (is_other_version_of_it s) _ _ refl
    (both-due (is_no_procedure s) _ _ refl (both-due (not (s.call.procedure == 0)) _ _ refl (both-due (not (length s.call.args == 0)) _ _ refl refl))))

pub stepped-due : (s : Shown) (answer : NegAnswer) → (stepped s answer).due ≡ None
stepped-due s (steps.Going id token) = refl
stepped-due s (steps.Settled lease token) = refl
stepped-due s (steps.Refused books.NoContext) = refl
stepped-due s (steps.Refused books.AlreadyComplete) = refl
stepped-due s (steps.Refused books.LogFull) = refl
stepped-due s (steps.Refused books.TableFull) = refl
stepped-due s (steps.Refused (books.Neg refusal)) = refl
stepped-due s (steps.Refused (books.Stale greatest)) = refl
stepped-due s (steps.Refused (books.Repeat place)) = refl
stepped-due s (steps.Refused books.CacheFull) = refl
stepped-due s (steps.Refused books.Journal) = refl
stepped-due s steps.NoMemory = refl

step-says : (octets : List ℕ) (kept : KeptAnswers) (serves : Serving) (call : CallValue) (id : Option ℕ) (token : List ℕ) (found : Option Negotiated)
    → Says (DueIs octets kept serves) (ask_step (shown octets kept serves call) id token found)
step-says octets kept serves call id token None = waiting-says (DueIs octets kept serves) (Negotiate id token kept.now (take 66 kept.draws)) (refl, refl)
step-says octets kept serves call id token (Some n) = none-says (DueIs octets kept serves) _ (stepped-due (shown octets kept serves call) n.answer)

continued-says : (octets : List ℕ) (kept : KeptAnswers) (serves : Serving) (call : CallValue) (token : List ℕ) (found : Option Negotiated) (id : Option ℕ)
    → Says (DueIs octets kept serves) (continued (shown octets kept serves call) token found id)
continued-says octets kept serves call token found None = none-says (DueIs octets kept serves) _ refl
continued-says octets kept serves call token found (Some id) = step-says octets kept serves call (Some id) token found

token-says : (octets : List ℕ) (kept : KeptAnswers) (serves : Serving) (call : CallValue) (cred : CredValue) (found : Option Negotiated) (token : Result (List ℕ) XdrRefusal)
    → Says (DueIs octets kept serves) (token_ruling (shown octets kept serves call) cred found token)
token-says octets kept serves call cred found (Err refusal) = none-says (DueIs octets kept serves) _ refl
token-says octets kept serves call cred found (Ok token) =
    if-says (DueIs octets kept serves) (cred.proc == 1) _ _ (λ t. step-says octets kept serves call None token found) (λ f. continued-says octets kept serves call token found (handle_id cred.context))

creation-says : (octets : List ℕ) (kept : KeptAnswers) (serves : Serving) (call : CallValue) (cred : CredValue) (found : Option Negotiated)
    → Says (DueIs octets kept serves) (creation_ruling (shown octets kept serves call) cred found)
unfolding creation_ruling
creation-says octets kept serves call cred found =
    row-says (DueIs octets kept serves) (is_other_program (shown octets kept serves call)) _ _ refl
    (λ p. row-says (DueIs octets kept serves) (is_other_version_of_it (shown octets kept serves call)) _ _ refl (λ v. token-says octets kept serves call cred found (one_opaque call.args)))

-- ---- contexts that stand

unadmitted-due : (s : Shown) (cred : CredValue) (lease : Lease) (refusal : AdmitRefusal) → (unadmitted s cred lease refusal).due ≡ None
unadmitted-due s cred lease admits.Gone = refl
unadmitted-due s cred lease admits.AboveMax = refl
unadmitted-due s cred lease (admits.Below last) = refl
unadmitted-due s cred lease admits.Repeat = refl
unadmitted-due s cred lease admits.LogFull = refl

outcome-due : (s : Shown) (cred : CredValue) (lease : Lease) (args : List ℕ) (outcome : Outcome) → (outcome_ruling s cred lease args outcome).due ≡ None
outcome-due s cred lease args outcomes.Args = refl
outcome-due s cred lease args (outcomes.Done result) = refl
outcome-due s cred lease args (outcomes.Refused why) = refl
outcome-due s cred lease args (outcomes.Mismatch low high) = refl
outcome-due s cred lease args outcomes.Gone = refl
outcome-due s cred lease args outcomes.NoMemory = refl

-- what was read of a call, and the lease that was looked at
record ReadCall (octets : List ℕ) (kept : KeptAnswers) (serves : Serving) (call : CallValue) (cred : CredValue) (lease : Lease) : Type 0 where
  read : call_at octets ≡ Ok call
  cred_read : cred_at call.cred.body ≡ Ok cred
  looked : kept.looked ≡ Some (Ok lease)

record Data (octets : List ℕ) (kept : KeptAnswers) (serves : Serving) (call : CallValue) (cred : CredValue) (lease : Lease) : Type 0 where
  read : ReadCall octets kept serves call cred lease
  verified : is_verified (shown octets kept serves call) lease ≡ true

admit-says : (octets : List ℕ) (kept : KeptAnswers) (serves : Serving) (call : CallValue) (cred : CredValue) (lease : Lease) (args : List ℕ) (found : Option (Result Admitted AdmitRefusal)) → Data octets kept serves call cred lease
    → body_args (end_of lease) cred call.args ≡ Some args → serves.program.takes call.procedure args ≡ true → Says (DueLater octets kept serves) (ask_admit (shown octets kept serves call) cred lease args found)
admit-says octets kept serves call cred lease args None d args_are proper = waiting-says (DueLater octets kept serves) (Admit lease cred.seq (service_of cred.service) call.procedure args) (record {
  call = call;
  cred = cred;
  read = d.read.read;
  cred_read = d.read.cred_read;
  looked = d.read.looked;
  verified = d.verified;
  args = args;
  args_are = args_are;
  proper = proper;
  seq_is = refl;
  procedure_is = refl;
  said_is = refl;
})
admit-says octets kept serves call cred lease args (Some (Ok admitted)) d args_are proper = none-says (DueLater octets kept serves) _ (outcome-due (shown octets kept serves call) cred lease args admitted.outcome)
admit-says octets kept serves call cred lease args (Some (Err refusal)) d args_are proper = none-says (DueLater octets kept serves) _ (unadmitted-due (shown octets kept serves call) cred lease refusal)

args-says : (octets : List ℕ) (kept : KeptAnswers) (serves : Serving) (call : CallValue) (cred : CredValue) (lease : Lease) (found : Option (Result Admitted AdmitRefusal)) (args : Option (List ℕ)) → Data octets kept serves call cred lease
    → body_args (end_of lease) cred call.args ≡ args → Says (DueLater octets kept serves) (args_ruling (shown octets kept serves call) cred lease found args)
args-says octets kept serves call cred lease found None d e = none-says (DueLater octets kept serves) _ refl
args-says octets kept serves call cred lease found (Some args) d e =
    row-says (DueLater octets kept serves) (not (serves.program.takes call.procedure args)) _ _ refl (λ p. admit-says octets kept serves call cred lease args found d e (not-off (serves.program.takes call.procedure args) p))

data-says : (octets : List ℕ) (kept : KeptAnswers) (serves : Serving) (call : CallValue) (cred : CredValue) (lease : Lease) (found : Option (Result Admitted AdmitRefusal)) → ReadCall octets kept serves call cred lease
    → Says (DueLater octets kept serves) (data_ruling (shown octets kept serves call) cred lease found)
unfolding data_ruling
data-says octets kept serves call cred lease found r =
    row-says (DueLater octets kept serves) (not (is_verified (shown octets kept serves call) lease)) _ _ refl
    (λ v. row-says (DueLater octets kept serves) (is_other_program (shown octets kept serves call)) _ _ refl
    (λ p. row-says (DueLater octets kept serves) (is_other_version_of_it (shown octets kept serves call)) _ _ refl
    (λ w. row-says (DueLater octets kept serves) (is_no_procedure (shown octets kept serves call)) _ _ refl
    (λ l. row-says (DueLater octets kept serves) (is_weak (shown octets kept serves call) cred) _ _ refl
    (λ u. args-says octets kept serves call cred lease found (body_args (end_of lease) cred call.args)
    (record { read = r; verified = not-off (is_verified (shown octets kept serves call) lease) v }) refl)))))

end-says : (octets : List ℕ) (kept : KeptAnswers) (serves : Serving) (call : CallValue) (cred : CredValue) (lease : Lease) (found : Option (Result Receipt AdmitRefusal)) → ReadCall octets kept serves call cred lease
    → is_verified (shown octets kept serves call) lease ≡ true → Says (DueLater octets kept serves) (ask_end (shown octets kept serves call) cred lease found)
end-says octets kept serves call cred lease None r verified = waiting-says (DueLater octets kept serves) (End lease cred.seq) (record {
  call = call;
  cred = cred;
  read = r.read;
  cred_read = r.cred_read;
  looked = r.looked;
  verified = verified;
  seq_is = refl;
})
end-says octets kept serves call cred lease (Some (Ok receipt)) r verified = none-says (DueLater octets kept serves) _ refl
end-says octets kept serves call cred lease (Some (Err refusal)) r verified = none-says (DueLater octets kept serves) _ (unadmitted-due (shown octets kept serves call) cred lease refusal)

destroy-says : (octets : List ℕ) (kept : KeptAnswers) (serves : Serving) (call : CallValue) (cred : CredValue) (lease : Lease) (found : Option (Result Receipt AdmitRefusal)) → ReadCall octets kept serves call cred lease
    → Says (DueLater octets kept serves) (destroy_ruling (shown octets kept serves call) cred lease found)
unfolding destroy_ruling
destroy-says octets kept serves call cred lease found r =
    row-says (DueLater octets kept serves) (not (is_verified (shown octets kept serves call) lease)) _ _ refl
    (λ v. row-says (DueLater octets kept serves) (is_other_program (shown octets kept serves call)) _ _ refl
    (λ p. row-says (DueLater octets kept serves) (is_other_version_of_it (shown octets kept serves call)) _ _ refl
    (λ w. end-says octets kept serves call cred lease found r (not-off (is_verified (shown octets kept serves call) lease) v))))

looked-says : (octets : List ℕ) (kept : KeptAnswers) (serves : Serving) (call : CallValue) (cred : CredValue) (admitted : Option (Result Admitted AdmitRefusal)) (ended : Option (Result Receipt AdmitRefusal)) (answer : Result Lease LookRefusal)
    → call_at octets ≡ Ok call → cred_at call.cred.body ≡ Ok cred → kept.looked ≡ Some answer → Says (DueLater octets kept serves) (looked_ruling (shown octets kept serves call) cred admitted ended answer)
looked-says octets kept serves call cred admitted ended (Ok lease) read cred_read looked =
    if-says (DueLater octets kept serves) (cred.proc == 0) _ _ (λ t. data-says octets kept serves call cred lease admitted (record { read = read; cred_read = cred_read; looked = looked }))
    (λ f. destroy-says octets kept serves call cred lease ended (record { read = read; cred_read = cred_read; looked = looked }))
looked-says octets kept serves call cred admitted ended (Err looks.NoContext) read cred_read looked = none-says (DueLater octets kept serves) _ refl
looked-says octets kept serves call cred admitted ended (Err looks.NotReady) read cred_read looked = none-says (DueLater octets kept serves) _ refl
looked-says octets kept serves call cred admitted ended (Err looks.Expired) read cred_read looked = none-says (DueLater octets kept serves) _ refl

look-says : (octets : List ℕ) (kept : KeptAnswers) (serves : Serving) (call : CallValue) (cred : CredValue) (id : ℕ) (admitted : Option (Result Admitted AdmitRefusal)) (ended : Option (Result Receipt AdmitRefusal)) (looked : Option (Result Lease LookRefusal))
    → call_at octets ≡ Ok call → cred_at call.cred.body ≡ Ok cred → kept.looked ≡ looked → Says (DueLater octets kept serves) (ask_look (shown octets kept serves call) cred id admitted ended looked)
look-says octets kept serves call cred id admitted ended None read cred_read looked = waiting-says (DueLater octets kept serves) (Look id kept.now) (refl, looked)
look-says octets kept serves call cred id admitted ended (Some answer) read cred_read looked = looked-says octets kept serves call cred admitted ended answer read cred_read looked

pub id-says : (octets : List ℕ) (kept : KeptAnswers) (serves : Serving) (call : CallValue) (cred : CredValue) (id : Option ℕ) → call_at octets ≡ Ok call → cred_at call.cred.body ≡ Ok cred
    → Says (DueLater octets kept serves) (id_ruling (shown octets kept serves call) cred kept.looked kept.admitted kept.ended id)
id-says octets kept serves call cred None read cred_read = none-says (DueLater octets kept serves) _ refl
id-says octets kept serves call cred (Some id) read cred_read = look-says octets kept serves call cred id kept.admitted kept.ended kept.looked read cred_read refl

-- ---- all calls

cred-says : (octets : List ℕ) (kept : KeptAnswers) (serves : Serving) (call : CallValue) (cred : Result CredValue CredRefusal) → call_at octets ≡ Ok call → cred_at call.cred.body ≡ cred
    → Says (DueIs octets kept serves) (cred_ruling (shown octets kept serves call) kept.negotiated kept.looked kept.admitted kept.ended cred)
cred-says octets kept serves call (Err refusal) read e = none-says (DueIs octets kept serves) _ refl
cred-says octets kept serves call (Ok cred) read e =
    row-says (DueIs octets kept serves) (is_misplaced call cred) _ _ refl
    (λ m. if-says (DueIs octets kept serves) (cred.proc == 1 || cred.proc == 2) _ _ (λ t. creation-says octets kept serves call cred kept.negotiated)
    (λ f question due. later-says octets kept serves question (id-says octets kept serves call cred (handle_id cred.context) read e question due)))

call-says : (octets : List ℕ) (kept : KeptAnswers) (serves : Serving) (call : CallValue) → call_at octets ≡ Ok call
    → Says (DueIs octets kept serves) (call_ruling (shown octets kept serves call) kept.negotiated kept.looked kept.admitted kept.ended)
unfolding call_ruling
call-says octets kept serves call read =
    row-says (DueIs octets kept serves) (not (call.cred.flavour == 0) && not (call.cred.flavour == 6)) _ _ refl
    (λ v. row-says (DueIs octets kept serves) (call.cred.flavour == 0) _ _ (plain-due (shown octets kept serves call)) (λ f. cred-says octets kept serves call (cred_at call.cred.body) read refl))

read-says : (octets : List ℕ) (kept : KeptAnswers) (serves : Serving) (call : Result CallValue CallRefusal) → call_at octets ≡ call → Says (DueIs octets kept serves) (read_ruling octets kept serves call)
read-says octets kept serves (Err (Unreadable at)) e = none-says (DueIs octets kept serves) _ refl
read-says octets kept serves (Err NotCall) e = none-says (DueIs octets kept serves) _ refl
read-says octets kept serves (Err (RpcVersion xid)) e = none-says (DueIs octets kept serves) _ refl
read-says octets kept serves (Ok call) e = call-says octets kept serves call e

pub due-says : (octets : List ℕ) (kept : KeptAnswers) (serves : Serving) (question : Question) → (record_ruling octets kept serves).due ≡ Some question → DueIs octets kept serves question
unfolding record_ruling
due-says octets kept serves question due = read-says octets kept serves (call_at octets) refl question due
