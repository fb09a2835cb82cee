-- What records ask, stage by stage.
use Rattle.std.proofs.Common.{◌≡◌, ◌<◌, ◌≤◌, ◌+◌, ℕ, lit<, Bool, true, false, refl, arith, List, [], length, Option, Some, None, Result, Ok, Err}
use Rattle.std.specs.List.{list_any}
use Rattle.std.specs.Prelude.{◌==◌, ◌||◌, ◌&&◌, not, if◌then◌else◌}
use Rattle.rpc_msgs.specs.Calls.{CallValue, call_at}
use Rattle.rpc_msgs.specs.declared.call.CallRefusal.{CallRefusal}
use Rattle.rpc_msgs.specs.declared.call.CallRefusal.TheVariants.{Unreadable, NotCall, RpcVersion}
use Rattle.rpc_msgs.specs.declared.xdr_reader.XdrRefusal.{XdrRefusal}
use Rattle.rpcsec_msgs.specs.Cred.{CredValue, cred_at}
use Rattle.rpcsec_msgs.specs.declared.cred.CredRefusal.{CredRefusal}
use Rattle.rpc_program.specs.Programs.{Serving}
use Rattle.rpc_program.specs.declared.outcome.Outcome.{Outcome}
use Rattle.rpc_program.specs.declared.outcome.Outcome.TheVariants as outcomes
use Rattle.accept_book.specs.Served.{one_opaque}
use Rattle.accept_core.specs.declared.answer.AdmitRefusal.{AdmitRefusal}
use Rattle.accept_core.specs.declared.answer.AdmitRefusal.TheVariants as admits
use Rattle.accept_core.specs.declared.answer.LookRefusal.{LookRefusal}
use Rattle.accept_core.specs.declared.answer.LookRefusal.TheVariants as looks
use Rattle.accept_book.specs.declared.book_answer.BookRefusal.TheVariants as books
use Rattle.accept_book.specs.declared.book_answer.Lease.{Lease}
use Rattle.accept_book.specs.declared.book_answer.NegAnswer.{NegAnswer}
use Rattle.accept_book.specs.declared.book_answer.NegAnswer.TheVariants as steps
use Rattle.accept_book.specs.declared.book_answer.Negotiated.{Negotiated}
use Rattle.accept_book.specs.declared.book_answer.Admitted.{Admitted}
use Rattle.accept_core.specs.declared.entry.Receipt.{Receipt}
use Rattle.accept_book.specs.RecordShown.{KeptAnswers, Asked, Ruling, asking, Shown, handle_id, body_args, end_of, is_verified}
use Rattle.accept_book.specs.RecordRule.{is_other_program, is_other_version_of_it, is_no_procedure, is_weak, is_misplaced, plain_ruling, stepped, ask_step, continued, token_ruling, creation_ruling, unadmitted, outcome_ruling, ask_admit, args_ruling, data_ruling, ask_end, destroy_ruling, looked_ruling, ask_look, id_ruling, cred_ruling, call_ruling, read_ruling, record_ruling}
use Rattle.accept_book.specs.Asking.{takes_number}

-- at most so many questions were asked, and none took a number where one of the first rules decides
pub record At (n : ℕ) (r : Ruling) : Type 0 where
  pub few : length r.asked ≤ n
  pub early : 0 < r.rule → r.rule ≤ 14 → list_any takes_number r.asked ≡ false

none-at : (n : ℕ) (r : Ruling) → r.asked ≡ [] → At n r
none-at n r e = record { few = rw e (omega arith); early = λ a b. rw e refl }

by-if : (n : ℕ) (b : Bool) (x y : Ruling) → At n x → At n y → At n (if b then x else y)
by-if n true x y p q = p
by-if n false x y p q = q

-- one more question, which takes no number
asking-at : (n : ℕ) (one : Asked Admitted) (r : Ruling) → takes_number one ≡ false → At n r → At (n + 1) (asking one r)
asking-at n one r e p = record { few = omega (arith, p.few); early = λ a b. rw (e, p.early a b) refl }

-- a question behind which only later rules decide, and which is the only one
late-at : (one : Asked Admitted) (r : Ruling) → r.asked ≡ [] → 14 < r.rule → At 1 (asking one r)
late-at one r e late = record { few = rw e (omega arith); early = λ a b. absurd (omega (arith, late, b)) }

plain-at : (s : Shown) → At 0 (plain_ruling s)
unfolding plain_ruling
plain-at s =
    by-if 0 (is_other_program s) _ _ (none-at 0 _ refl)
    (by-if 0 (is_other_version_of_it s) _ _ (none-at 0 _ refl)
    (by-if 0 (is_no_procedure s) _ _ (none-at 0 _ refl)
    (by-if 0 (not (s.call.procedure == 0)) _ _ (none-at 0 _ refl)
    (by-if 0 (not (length s.call.args == 0)) _ _ (none-at 0 _ refl) (none-at 0 _ refl)))))

stepped-none : (s : Shown) (answer : NegAnswer) → (stepped s answer).asked ≡ []
stepped-none s (steps.Going id token) = refl
stepped-none s (steps.Settled lease token) = refl
stepped-none s (steps.Refused books.NoContext) = refl
stepped-none s (steps.Refused books.AlreadyComplete) = refl
stepped-none s (steps.Refused books.LogFull) = refl
stepped-none s (steps.Refused books.TableFull) = refl
stepped-none s (steps.Refused (books.Neg refusal)) = refl
stepped-none s (steps.Refused (books.Stale greatest)) = refl
stepped-none s (steps.Refused (books.Repeat place)) = refl
stepped-none s (steps.Refused books.CacheFull) = refl
stepped-none s (steps.Refused books.Journal) = refl
stepped-none s steps.NoMemory = refl

step-at : (s : Shown) (id : Option ℕ) (token : List ℕ) (negotiated : Option Negotiated) → At 1 (ask_step s id token negotiated)
step-at s id token None = none-at 1 _ refl
step-at s id token (Some negotiated) = asking-at 0 _ (stepped s negotiated.answer) refl (none-at 0 _ (stepped-none s negotiated.answer))

continued-at : (s : Shown) (token : List ℕ) (negotiated : Option Negotiated) (id : Option ℕ) → At 1 (continued s token negotiated id)
continued-at s token negotiated None = none-at 1 _ refl
continued-at s token negotiated (Some id) = step-at s (Some id) token negotiated

token-at : (s : Shown) (cred : CredValue) (negotiated : Option Negotiated) (token : Result (List ℕ) XdrRefusal) → At 1 (token_ruling s cred negotiated token)
token-at s cred negotiated (Err refusal) = none-at 1 _ refl
token-at s cred negotiated (Ok token) = by-if 1 (cred.proc == 1) _ _ (step-at s None token negotiated) (continued-at s token negotiated (handle_id cred.context))

creation-at : (s : Shown) (cred : CredValue) (negotiated : Option Negotiated) → At 1 (creation_ruling s cred negotiated)
unfolding creation_ruling
creation-at s cred negotiated =
    by-if 1 (is_other_program s) _ _ (none-at 1 _ refl)
    (by-if 1 (is_other_version_of_it s) _ _ (none-at 1 _ refl) (token-at s cred negotiated (one_opaque s.call.args)))

-- a refused number
unadmitted-none : (s : Shown) (cred : CredValue) (lease : Lease) (refusal : AdmitRefusal) → (unadmitted s cred lease refusal).asked ≡ []
unadmitted-none s cred lease admits.Gone = refl
unadmitted-none s cred lease admits.AboveMax = refl
unadmitted-none s cred lease (admits.Below last) = refl
unadmitted-none s cred lease admits.Repeat = refl
unadmitted-none s cred lease admits.LogFull = refl

unadmitted-late : (s : Shown) (cred : CredValue) (lease : Lease) (refusal : AdmitRefusal) → 14 < (unadmitted s cred lease refusal).rule
unadmitted-late s cred lease admits.Gone = lit< tt
unadmitted-late s cred lease admits.AboveMax = lit< tt
unadmitted-late s cred lease (admits.Below last) = lit< tt
unadmitted-late s cred lease admits.Repeat = lit< tt
unadmitted-late s cred lease admits.LogFull = lit< tt

-- what became of an admitted call: a late rule, or memory was wanted
came-at : (s : Shown) (cred : CredValue) (lease : Lease) (args : List ℕ) (outcome : Outcome) (one : Asked Admitted) → At 1 (asking one (outcome_ruling s cred lease args outcome))
came-at s cred lease args outcomes.Args one = late-at one _ refl (lit< tt)
came-at s cred lease args (outcomes.Done result) one = late-at one _ refl (lit< tt)
came-at s cred lease args (outcomes.Refused why) one = late-at one _ refl (lit< tt)
came-at s cred lease args (outcomes.Mismatch low high) one = late-at one _ refl (lit< tt)
came-at s cred lease args outcomes.Gone one = late-at one _ refl (lit< tt)
came-at s cred lease args outcomes.NoMemory one = record { few = omega arith; early = λ some b. absurd (omega (arith, some)) }

admit-at : (s : Shown) (cred : CredValue) (lease : Lease) (args : List ℕ) (admitted : Option (Result Admitted AdmitRefusal)) → At 1 (ask_admit s cred lease args admitted)
admit-at s cred lease args None = none-at 1 _ refl
admit-at s cred lease args (Some (Ok admitted)) = came-at s cred lease args admitted.outcome _
admit-at s cred lease args (Some (Err refusal)) = late-at _ (unadmitted s cred lease refusal) (unadmitted-none s cred lease refusal) (unadmitted-late s cred lease refusal)

args-at : (s : Shown) (cred : CredValue) (lease : Lease) (admitted : Option (Result Admitted AdmitRefusal)) (args : Option (List ℕ)) → At 1 (args_ruling s cred lease admitted args)
args-at s cred lease admitted None = none-at 1 _ refl
args-at s cred lease admitted (Some args) = by-if 1 (not (s.serves.program.takes s.call.procedure args)) _ _ (none-at 1 _ refl) (admit-at s cred lease args admitted)

data-at : (s : Shown) (cred : CredValue) (lease : Lease) (admitted : Option (Result Admitted AdmitRefusal)) → At 1 (data_ruling s cred lease admitted)
unfolding data_ruling
data-at s cred lease admitted =
    by-if 1 (not (is_verified s lease)) _ _ (none-at 1 _ refl)
    (by-if 1 (is_other_program s) _ _ (none-at 1 _ refl)
    (by-if 1 (is_other_version_of_it s) _ _ (none-at 1 _ refl)
    (by-if 1 (is_no_procedure s) _ _ (none-at 1 _ refl)
    (by-if 1 (is_weak s cred) _ _ (none-at 1 _ refl) (args-at s cred lease admitted (body_args (end_of lease) cred s.call.args))))))

end-at : (s : Shown) (cred : CredValue) (lease : Lease) (ended : Option (Result Receipt AdmitRefusal)) → At 1 (ask_end s cred lease ended)
end-at s cred lease None = none-at 1 _ refl
end-at s cred lease (Some (Ok receipt)) = late-at _ _ refl (lit< tt)
end-at s cred lease (Some (Err refusal)) = late-at _ (unadmitted s cred lease refusal) (unadmitted-none s cred lease refusal) (unadmitted-late s cred lease refusal)

destroy-at : (s : Shown) (cred : CredValue) (lease : Lease) (ended : Option (Result Receipt AdmitRefusal)) → At 1 (destroy_ruling s cred lease ended)
unfolding destroy_ruling
destroy-at s cred lease ended =
    by-if 1 (not (is_verified s lease)) _ _ (none-at 1 _ refl)
    (by-if 1 (is_other_program s) _ _ (none-at 1 _ refl)
    (by-if 1 (is_other_version_of_it s) _ _ (none-at 1 _ refl) (end-at s cred lease ended)))

looked-at : (s : Shown) (cred : CredValue) (admitted : Option (Result Admitted AdmitRefusal)) (ended : Option (Result Receipt AdmitRefusal)) (answer : Result Lease LookRefusal) → At 1 (looked_ruling s cred admitted ended answer)
looked-at s cred admitted ended (Ok lease) = by-if 1 (cred.proc == 0) _ _ (data-at s cred lease admitted) (destroy-at s cred lease ended)
looked-at s cred admitted ended (Err looks.NoContext) = none-at 1 _ refl
looked-at s cred admitted ended (Err looks.NotReady) = none-at 1 _ refl
looked-at s cred admitted ended (Err looks.Expired) = none-at 1 _ refl

look-at : (s : Shown) (cred : CredValue) (id : ℕ) (admitted : Option (Result Admitted AdmitRefusal)) (ended : Option (Result Receipt AdmitRefusal)) (looked : Option (Result Lease LookRefusal)) → At 2 (ask_look s cred id admitted ended looked)
look-at s cred id admitted ended None = none-at 2 _ refl
look-at s cred id admitted ended (Some answer) = asking-at 1 _ (looked_ruling s cred admitted ended answer) refl (looked-at s cred admitted ended answer)

id-at : (s : Shown) (cred : CredValue) (looked : Option (Result Lease LookRefusal)) (admitted : Option (Result Admitted AdmitRefusal)) (ended : Option (Result Receipt AdmitRefusal)) (id : Option ℕ) → At 2 (id_ruling s cred looked admitted ended id)
id-at s cred looked admitted ended None = none-at 2 _ refl
id-at s cred looked admitted ended (Some id) = look-at s cred id admitted ended looked

one-two : (r : Ruling) → At 1 r → At 2 r
one-two r p = record { few = omega (arith, p.few); early = p.early }

none-two : (r : Ruling) → At 0 r → At 2 r
none-two r p = record { few = omega (arith, p.few); early = p.early }

cred-at : (s : Shown) (negotiated : Option Negotiated) (looked : Option (Result Lease LookRefusal)) (admitted : Option (Result Admitted AdmitRefusal)) (ended : Option (Result Receipt AdmitRefusal)) (cred : Result CredValue CredRefusal) → At 2 (cred_ruling s negotiated looked admitted ended cred)
cred-at s negotiated looked admitted ended (Err refusal) = none-at 2 _ refl
cred-at s negotiated looked admitted ended (Ok cred) =
    by-if 2 (is_misplaced s.call cred) _ _ (none-at 2 _ refl)
    (by-if 2 (cred.proc == 1 || cred.proc == 2) _ _ (one-two _ (creation-at s cred negotiated)) (id-at s cred looked admitted ended (handle_id cred.context)))

call-at : (s : Shown) (negotiated : Option Negotiated) (looked : Option (Result Lease LookRefusal)) (admitted : Option (Result Admitted AdmitRefusal)) (ended : Option (Result Receipt AdmitRefusal)) → At 2 (call_ruling s negotiated looked admitted ended)
unfolding call_ruling
call-at s negotiated looked admitted ended =
    by-if 2 (not (s.call.cred.flavour == 0) && not (s.call.cred.flavour == 6)) _ _ (none-at 2 _ refl)
    (by-if 2 (s.call.cred.flavour == 0) _ _ (none-two _ (plain-at s)) (cred-at s negotiated looked admitted ended (cred_at s.call.cred.body)))

read-at : (octets : List ℕ) (kept : KeptAnswers) (serves : Serving) (call : Result CallValue CallRefusal) → At 2 (read_ruling octets kept serves call)
read-at octets kept serves (Err (Unreadable at)) = none-at 2 _ refl
read-at octets kept serves (Err NotCall) = none-at 2 _ refl
read-at octets kept serves (Err (RpcVersion xid)) = none-at 2 _ refl
read-at octets kept serves (Ok call) = call-at _ kept.negotiated kept.looked kept.admitted kept.ended

pub record-at : (octets : List ℕ) (kept : KeptAnswers) (serves : Serving) → At 2 (record_ruling octets kept serves)
unfolding record_ruling
record-at octets kept serves = read-at octets kept serves (call_at octets)
