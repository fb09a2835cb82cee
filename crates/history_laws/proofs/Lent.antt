-- A record takes numbers only of the lease that its own look gave.
use Rattle.std.proofs.lemmas.List.{map-append}
use Rattle.std.proofs.Common.{◌≡◌, ℕ, map, Bool, true, false, refl, sym, subst, inl, inr, List, [], ◌∷◌, ◌++◌, append-nil, append_assoc, length, Option, Some, None, Result, Ok, Err}
use Rattle.std.specs.Prelude.{◌==◌, ◌||◌, ◌&&◌, not, if◌then◌else◌}
use Rattle.rpc_msgs.specs.Calls.{CallValue, call_at}
use Rattle.rpc_msgs.specs.declared.call.CallRefusal.{CallRefusal}
use Rattle.rpc_msgs.specs.declared.call.CallRefusal.TheVariants.{Unreadable, NotCall, RpcVersion}
use Rattle.rpc_msgs.specs.declared.xdr_reader.XdrRefusal.{XdrRefusal}
use Rattle.rpcsec_msgs.specs.Cred.{CredValue, cred_at}
use Rattle.rpcsec_msgs.specs.declared.cred.CredRefusal.{CredRefusal}
use Rattle.accept_core.specs.declared.answer.AdmitRefusal.{AdmitRefusal}
use Rattle.accept_core.specs.declared.answer.AdmitRefusal.TheVariants as admits
use Rattle.accept_core.specs.declared.answer.LookRefusal.{LookRefusal}
use Rattle.accept_core.specs.declared.answer.LookRefusal.TheVariants as looks
use Rattle.accept_core.specs.declared.entry.Receipt.{Receipt}
use Rattle.accept_book.specs.declared.book_answer.Admitted.{Admitted}
use Rattle.accept_book.specs.declared.book_answer.BookRefusal.TheVariants as books
use Rattle.accept_book.specs.declared.book_answer.Lease.{Lease}
use Rattle.accept_book.specs.declared.book_answer.NegAnswer.{NegAnswer}
use Rattle.accept_book.specs.declared.book_answer.NegAnswer.TheVariants as steps
use Rattle.accept_book.specs.declared.book_answer.Negotiated.{Negotiated}
use Rattle.accept_book.specs.RecordShown.{KeptAnswers, Asked, AskedStep, AskedLook, AskedAdmit, AskedEnd, booked, Ruling, Shown, handle_id, body_args, end_of, is_verified}
use Rattle.accept_book.specs.RecordRule.{is_other_program, is_other_version_of_it, is_no_procedure, is_weak, is_misplaced, plain_ruling, stepped, ask_step, continued, token_ruling, creation_ruling, unadmitted, outcome_ruling, ask_admit, args_ruling, data_ruling, ask_end, destroy_ruling, looked_ruling, ask_look, id_ruling, cred_ruling, call_ruling, read_ruling, record_ruling}
use Rattle.rpc_program.specs.Programs.{Serving}
use Rattle.rpc_program.specs.declared.outcome.Outcome.{Outcome}
use Rattle.rpc_program.specs.declared.outcome.Outcome.TheVariants as outcomes
use Rattle.accept_book.specs.Served.{one_opaque}
use Rattle.history_laws.specs.Before.{Gives, IsGiven}
use Rattle.history_laws.specs.Lent.{Takes, AllLent}

-- ---- lists of questions

-- what is asked after these takes numbers of leases that were given
abbrev pub LentFrom : {A : Type 0} → List (Asked A) → List (Asked A) → Type 0
LentFrom before [] = Unit {0}
LentFrom before (one ∷ more) = ((lease : Lease) → Takes lease one → IsGiven lease before) × LentFrom (before ++ one ∷ []) more

given-left : {A : Type 0} (lease : Lease) (xs ys : List (Asked A)) → IsGiven lease xs → IsGiven lease (xs ++ ys)
given-left {A} lease [] ys none = absurd none
given-left {A} lease (x ∷ xs) ys (inl gives) = inl gives
given-left {A} lease (x ∷ xs) ys (inr later) = inr (given-left lease xs ys later)

given-right : {A : Type 0} (lease : Lease) (xs ys : List (Asked A)) → IsGiven lease ys → IsGiven lease (xs ++ ys)
given-right {A} lease [] ys given = given
given-right {A} lease (x ∷ xs) ys given = inr (given-right lease xs ys given)

-- what was asked still before doesn't matter
lent-behind : {A : Type 0} (front before asked : List (Asked A)) → LentFrom before asked → LentFrom (front ++ before) asked
lent-behind {A} front before [] l = tt
lent-behind {A} front before (one ∷ more) l = (
  λ lease takes. given-right lease front before (l.0 lease takes),
  subst (λ (xs : List (Asked A)). LentFrom xs more) (sym (append_assoc front before (one ∷ []))) (lent-behind front (before ++ one ∷ []) more l.1),
)

pub lent-any : {A : Type 0} (front asked : List (Asked A)) → LentFrom [] asked → LentFrom front asked
lent-any {A} front asked l = subst (λ (xs : List (Asked A)). LentFrom xs asked) (append-nil front) (lent-behind front [] asked l)

pub lent-join : {A : Type 0} (before first second : List (Asked A)) → LentFrom before first → LentFrom [] second → LentFrom before (first ++ second)
lent-join {A} before [] second f s = lent-any before second s
lent-join {A} before (one ∷ more) second f s = (f.0, lent-join (before ++ one ∷ []) more second f.1 s)

pub lent-at : {A : Type 0} (before earlier : List (Asked A)) (one : Asked A) (later : List (Asked A)) → LentFrom before (earlier ++ one ∷ later) → (lease : Lease) → Takes lease one → IsGiven lease (before ++ earlier)
lent-at {A} before [] one later l lease takes = given-left lease before [] (l.0 lease takes)
lent-at {A} before (first ∷ earlier) one later l lease takes =
    subst (λ (xs : List (Asked A)). IsGiven lease xs) (append_assoc before (first ∷ []) earlier) (lent-at (before ++ first ∷ []) earlier one later l.1 lease takes)

-- ---- what a ruling asks

-- nothing that takes a number; or numbers of one lease alone
abbrev Of : Option Lease → Lease → Type 0
Of None lease = ⊥
Of (Some own) lease = own ≡ lease

abbrev Only : Option Lease → List (Asked Admitted) → Type 0
Only own [] = Unit {0}
Only own (one ∷ more) = ((lease : Lease) → Takes lease one → Of own lease) × Only own more

none-only : (own : Option Lease) (r : Ruling) → r.asked ≡ [] → Only own r.asked
none-only own r e = subst (Only own) (sym e) tt

by-if : (P : List (Asked Admitted) → Type 0) (b : Bool) (x y : Ruling) → P x.asked → P y.asked → P (if b then x else y).asked
by-if P true x y p q = p
by-if P false x y p q = q

plain-only : (s : Shown) → Only None (plain_ruling s).asked
unfolding plain_ruling
plain-only s =
    by-if (Only None) (is_other_program s) _ _ tt
    (by-if (Only None) (is_other_version_of_it s) _ _ tt
    (by-if (Only None) (is_no_procedure s) _ _ tt
    (by-if (Only None) (not (s.call.procedure == 0)) _ _ tt
    (by-if (Only None) (not (length s.call.args == 0)) _ _ tt tt))))

stepped-only : (s : Shown) (answer : NegAnswer) → Only None (stepped s answer).asked
stepped-only s (steps.Going id token) = tt
stepped-only s (steps.Settled lease token) = tt
stepped-only s (steps.Refused books.NoContext) = tt
stepped-only s (steps.Refused books.AlreadyComplete) = tt
stepped-only s (steps.Refused books.LogFull) = tt
stepped-only s (steps.Refused books.TableFull) = tt
stepped-only s (steps.Refused (books.Neg refusal)) = tt
stepped-only s (steps.Refused (books.Stale greatest)) = tt
stepped-only s (steps.Refused (books.Repeat place)) = tt
stepped-only s (steps.Refused books.CacheFull) = tt
stepped-only s (steps.Refused books.Journal) = tt
stepped-only s steps.NoMemory = tt

step-only : (s : Shown) (id : Option ℕ) (token : List ℕ) (negotiated : Option Negotiated) → Only None (ask_step s id token negotiated).asked
step-only s id token None = tt
step-only s id token (Some negotiated) = (λ lease no. absurd no, stepped-only s negotiated.answer)

continued-only : (s : Shown) (token : List ℕ) (negotiated : Option Negotiated) (id : Option ℕ) → Only None (continued s token negotiated id).asked
continued-only s token negotiated None = tt
continued-only s token negotiated (Some id) = step-only s (Some id) token negotiated

token-only : (s : Shown) (cred : CredValue) (negotiated : Option Negotiated) (token : Result (List ℕ) XdrRefusal) → Only None (token_ruling s cred negotiated token).asked
token-only s cred negotiated (Err refusal) = tt
token-only s cred negotiated (Ok token) = by-if (Only None) (cred.proc == 1) _ _ (step-only s None token negotiated) (continued-only s token negotiated (handle_id cred.context))

creation-only : (s : Shown) (cred : CredValue) (negotiated : Option Negotiated) → Only None (creation_ruling s cred negotiated).asked
unfolding creation_ruling
creation-only s cred negotiated =
    by-if (Only None) (is_other_program s) _ _ tt
    (by-if (Only None) (is_other_version_of_it s) _ _ tt (token-only s cred negotiated (one_opaque s.call.args)))

unadmitted-only : (own : Option Lease) (s : Shown) (cred : CredValue) (lease : Lease) (refusal : AdmitRefusal) → Only own (unadmitted s cred lease refusal).asked
unadmitted-only own s cred lease admits.Gone = tt
unadmitted-only own s cred lease admits.AboveMax = tt
unadmitted-only own s cred lease (admits.Below last) = tt
unadmitted-only own s cred lease admits.Repeat = tt
unadmitted-only own s cred lease admits.LogFull = tt

-- whatever became of a call, it asks for nothing more
came-only : (own : Option Lease) (s : Shown) (cred : CredValue) (lease : Lease) (args : List ℕ) (outcome : Outcome) → Only own (outcome_ruling s cred lease args outcome).asked
came-only own s cred lease args outcomes.Args = tt
came-only own s cred lease args (outcomes.Done result) = tt
came-only own s cred lease args (outcomes.Refused why) = tt
came-only own s cred lease args (outcomes.Mismatch low high) = tt
came-only own s cred lease args outcomes.Gone = tt
came-only own s cred lease args outcomes.NoMemory = tt

admit-only : (s : Shown) (cred : CredValue) (lease : Lease) (args : List ℕ) (admitted : Option (Result Admitted AdmitRefusal)) → Only (Some lease) (ask_admit s cred lease args admitted).asked
admit-only s cred lease args None = tt
admit-only s cred lease args (Some (Ok admitted)) = (λ other takes. takes, came-only (Some lease) s cred lease args admitted.outcome)
admit-only s cred lease args (Some (Err refusal)) = (λ other takes. takes, unadmitted-only (Some lease) s cred lease refusal)

args-only : (s : Shown) (cred : CredValue) (lease : Lease) (admitted : Option (Result Admitted AdmitRefusal)) (args : Option (List ℕ)) → Only (Some lease) (args_ruling s cred lease admitted args).asked
args-only s cred lease admitted None = tt
args-only s cred lease admitted (Some args) = by-if (Only (Some lease)) (not (s.serves.program.takes s.call.procedure args)) _ _ tt (admit-only s cred lease args admitted)

data-only : (s : Shown) (cred : CredValue) (lease : Lease) (admitted : Option (Result Admitted AdmitRefusal)) → Only (Some lease) (data_ruling s cred lease admitted).asked
unfolding data_ruling
data-only s cred lease admitted =
    by-if (Only (Some lease)) (not (is_verified s lease)) _ _ tt
    (by-if (Only (Some lease)) (is_other_program s) _ _ tt
    (by-if (Only (Some lease)) (is_other_version_of_it s) _ _ tt
    (by-if (Only (Some lease)) (is_no_procedure s) _ _ tt
    (by-if (Only (Some lease)) (is_weak s cred) _ _ tt (args-only s cred lease admitted (body_args (end_of lease) cred s.call.args))))))

end-only : (s : Shown) (cred : CredValue) (lease : Lease) (ended : Option (Result Receipt AdmitRefusal)) → Only (Some lease) (ask_end s cred lease ended).asked
end-only s cred lease None = tt
end-only s cred lease (Some (Ok receipt)) = (λ other takes. takes, tt)
end-only s cred lease (Some (Err refusal)) = (λ other takes. takes, unadmitted-only (Some lease) s cred lease refusal)

destroy-only : (s : Shown) (cred : CredValue) (lease : Lease) (ended : Option (Result Receipt AdmitRefusal)) → Only (Some lease) (destroy_ruling s cred lease ended).asked
unfolding destroy_ruling
destroy-only s cred lease ended =
    by-if (Only (Some lease)) (not (is_verified s lease)) _ _ tt
    (by-if (Only (Some lease)) (is_other_program s) _ _ tt
    (by-if (Only (Some lease)) (is_other_version_of_it s) _ _ tt (end-only s cred lease ended)))

-- ---- so it is of each record

lent-none : (before asked : List (Asked Admitted)) → Only None asked → LentFrom before asked
lent-none before [] o = tt
lent-none before (one ∷ more) o = (λ lease takes. absurd (o.0 lease takes), lent-none (before ++ one ∷ []) more o.1)

lent-of : (own : Lease) (before asked : List (Asked Admitted)) → IsGiven own before → Only (Some own) asked → LentFrom before asked
lent-of own before [] given o = tt
lent-of own before (one ∷ more) given o =
    (λ lease takes. subst (λ (l : Lease). IsGiven l before) (o.0 lease takes) given, lent-of own (before ++ one ∷ []) more (given-left own before (one ∷ []) given) o.1)

abbrev Lends : List (Asked Admitted) → Type 0
Lends asked = LentFrom [] asked

lends-looked : (s : Shown) (cred : CredValue) (id : ℕ) (admitted : Option (Result Admitted AdmitRefusal)) (ended : Option (Result Receipt AdmitRefusal)) (answer : Result Lease LookRefusal)
    → LentFrom (AskedLook id s.now answer ∷ []) (looked_ruling s cred admitted ended answer).asked
lends-looked s cred id admitted ended (Ok lease) =
    by-if (LentFrom (AskedLook id s.now (Ok lease) ∷ [])) (cred.proc == 0) _ _
    (lent-of lease (AskedLook id s.now (Ok lease) ∷ []) (data_ruling s cred lease admitted).asked (inl refl) (data-only s cred lease admitted))
    (lent-of lease (AskedLook id s.now (Ok lease) ∷ []) (destroy_ruling s cred lease ended).asked (inl refl) (destroy-only s cred lease ended))
lends-looked s cred id admitted ended (Err looks.NoContext) = tt
lends-looked s cred id admitted ended (Err looks.NotReady) = tt
lends-looked s cred id admitted ended (Err looks.Expired) = tt

lends-look : (s : Shown) (cred : CredValue) (id : ℕ) (admitted : Option (Result Admitted AdmitRefusal)) (ended : Option (Result Receipt AdmitRefusal)) (looked : Option (Result Lease LookRefusal))
    → Lends (ask_look s cred id admitted ended looked).asked
lends-look s cred id admitted ended None = tt
lends-look s cred id admitted ended (Some answer) = (λ lease no. absurd no, lends-looked s cred id admitted ended answer)

lends-id : (s : Shown) (cred : CredValue) (looked : Option (Result Lease LookRefusal)) (admitted : Option (Result Admitted AdmitRefusal)) (ended : Option (Result Receipt AdmitRefusal)) (id : Option ℕ)
    → Lends (id_ruling s cred looked admitted ended id).asked
lends-id s cred looked admitted ended None = tt
lends-id s cred looked admitted ended (Some id) = lends-look s cred id admitted ended looked

lends-cred : (s : Shown) (negotiated : Option Negotiated) (looked : Option (Result Lease LookRefusal)) (admitted : Option (Result Admitted AdmitRefusal)) (ended : Option (Result Receipt AdmitRefusal)) (cred : Result CredValue CredRefusal)
    → Lends (cred_ruling s negotiated looked admitted ended cred).asked
lends-cred s negotiated looked admitted ended (Err refusal) = tt
lends-cred s negotiated looked admitted ended (Ok cred) =
    by-if Lends (is_misplaced s.call cred) _ _ tt
    (by-if Lends (cred.proc == 1 || cred.proc == 2) _ _ (lent-none [] _ (creation-only s cred negotiated)) (lends-id s cred looked admitted ended (handle_id cred.context)))

lends-call : (s : Shown) (negotiated : Option Negotiated) (looked : Option (Result Lease LookRefusal)) (admitted : Option (Result Admitted AdmitRefusal)) (ended : Option (Result Receipt AdmitRefusal))
    → Lends (call_ruling s negotiated looked admitted ended).asked
unfolding call_ruling
lends-call s negotiated looked admitted ended =
    by-if Lends (not (s.call.cred.flavour == 0) && not (s.call.cred.flavour == 6)) _ _ tt
    (by-if Lends (s.call.cred.flavour == 0) _ _ (lent-none [] _ (plain-only s)) (lends-cred s negotiated looked admitted ended (cred_at s.call.cred.body)))

lends-read : (octets : List ℕ) (kept : KeptAnswers) (serves : Serving) (call : Result CallValue CallRefusal) → Lends (read_ruling octets kept serves call).asked
lends-read octets kept serves (Err (Unreadable at)) = tt
lends-read octets kept serves (Err NotCall) = tt
lends-read octets kept serves (Err (RpcVersion xid)) = tt
lends-read octets kept serves (Ok call) = lends-call _ kept.negotiated kept.looked kept.admitted kept.ended

pub lends-record : (octets : List ℕ) (kept : KeptAnswers) (serves : Serving) → LentFrom [] (record_ruling octets kept serves).asked
unfolding record_ruling
lends-record octets kept serves = lends-read octets kept serves (call_at octets)

-- ---- in any place

pub at-place : {A : Type 0} (asked : List (Asked A)) → LentFrom [] asked → AllLent asked
at-place {A} asked l earlier one later is lease takes = lent-at [] earlier one later (subst (λ (xs : List (Asked A)). LentFrom [] xs) is l) lease takes

-- ---- what a book has of the questions

gives-booked : (lease : Lease) (one : Asked Admitted) → Gives lease one → Gives lease (booked one)
gives-booked lease (AskedStep id token now draws answer) gives = gives
gives-booked lease (AskedLook id now answer) gives = gives
gives-booked lease (AskedAdmit other seq service procedure args answer) gives = gives
gives-booked lease (AskedEnd other seq answer) gives = gives

pub given-booked : (lease : Lease) (asked : List (Asked Admitted)) → IsGiven lease asked → IsGiven lease (map booked asked)
given-booked lease [] given = given
given-booked lease (one ∷ more) (inl gives) = inl (gives-booked lease one gives)
given-booked lease (one ∷ more) (inr later) = inr (given-booked lease more later)

takes-booked : (lease : Lease) (one : Asked Admitted) → Takes lease (booked one) → Takes lease one
takes-booked lease (AskedStep id token now draws answer) takes = takes
takes-booked lease (AskedLook id now answer) takes = takes
takes-booked lease (AskedAdmit other seq service procedure args answer) takes = takes
takes-booked lease (AskedEnd other seq answer) takes = takes

-- leases are given before they are taken from, whether it is told what became of calls or not
pub lent-booked : (before asked : List (Asked Admitted)) → LentFrom before asked → LentFrom (map booked before) (map booked asked)
lent-booked before [] l = tt
lent-booked before (one ∷ more) l = (
  λ lease takes. given-booked lease before (l.0 lease (takes-booked lease one takes)),
  subst (λ (xs : List (Asked Receipt)). LentFrom xs (map booked more)) (map-append booked before (one ∷ [])) (lent-booked (before ++ one ∷ []) more l.1),
)
