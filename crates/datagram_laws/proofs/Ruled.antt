-- A call that is done was admitted, and its reply says the outcome of that answer.
use Rattle.std.proofs.Common.{◌≡◌, ◌≢◌, ℕ, Bool, true, false, not, ◌==◌, ◌&&◌, ◌||◌, List, [], ◌∷◌, Option, Some, None, Result, Ok, Err, refl, sym, ap, ◌∙◌, subst}
use Rattle.std.specs.Prelude.{if◌then◌else◌}
use Rattle.std.proofs.lemmas.Bool.{true≢false, eq-eqb, ne_eqb}
use Rattle.rpc_msgs.specs.Calls.{CallValue, call_at}
use Rattle.rpc_msgs.specs.declared.call.CallRefusal.{CallRefusal}
use Rattle.rpc_msgs.specs.declared.xdr_reader.XdrRefusal.{XdrRefusal}
use Rattle.rpcsec_msgs.specs.Cred.{CredValue, cred_at}
use Rattle.rpcsec_msgs.specs.declared.cred.CredRefusal.{CredRefusal}
use Rattle.accept_core.specs.declared.answer.AdmitRefusal.{AdmitRefusal}
use Rattle.accept_core.specs.declared.answer.AdmitRefusal.TheVariants as admits
use Rattle.accept_core.specs.declared.answer.LookRefusal.{LookRefusal}
use Rattle.accept_core.specs.declared.answer.LookRefusal.TheVariants as looks
use Rattle.accept_book.specs.declared.book_answer.Admitted.{Admitted}
use Rattle.rpc_program.specs.Programs.{Serving}
use Rattle.rpc_program.specs.declared.outcome.Outcome.{Outcome}
use Rattle.rpc_program.specs.declared.outcome.Outcome.TheVariants as outcomes
use Rattle.rpcsec_bodies.specs.Service.{service_of}
use Rattle.accept_core.specs.declared.entry.Receipt.{Receipt}
use Rattle.accept_book.specs.declared.book_answer.BookRefusal.TheVariants as books
use Rattle.accept_book.specs.declared.book_answer.Lease.{Lease}
use Rattle.accept_book.specs.declared.book_answer.NegAnswer.{NegAnswer}
use Rattle.accept_book.specs.declared.book_answer.NegAnswer.TheVariants as steps
use Rattle.accept_book.specs.declared.book_answer.Negotiated.{Negotiated}
use Rattle.accept_book.specs.Served.{one_opaque}
use Rattle.accept_book.specs.RecordRule.{is_other_program, is_other_version_of_it, is_no_procedure, is_weak, is_misplaced, outcome_ruling, plain_ruling, stepped, ask_step, continued, token_ruling, creation_ruling, unadmitted, ask_admit, args_ruling, data_ruling, ask_end, destroy_ruling, looked_ruling, ask_look, id_ruling, cred_ruling, call_ruling, read_ruling, record_ruling}
use Rattle.accept_book.specs.RecordShown.{AskedLook, AskedAdmit, KeptAnswers, Ruling, Shown, is_verified, handle_id, body_args, end_of}
use Rattle.datagram_laws.specs.Done.{IsDone, DoneLaw, shown_as}

-- if the ruling is of the rule of calls that are done, it is of one that was admitted
record Done (s : Shown) (r : Ruling) : Type 0 where
  done : r.rule ≡ 23 → IsDone s r

-- the same behind a look that showed this lease
record IsTaken (s : Shown) (cred : CredValue) (lease : Lease) (r : Ruling) : Type 0 where
  args : List ℕ
  admitted : Admitted
  procedure : s.serves.program.has s.call.procedure ≡ true
  opened : body_args (end_of lease) cred s.call.args ≡ Some args
  asked : r.asked ≡ AskedAdmit lease cred.seq (service_of cred.service) s.call.procedure args (Ok admitted) ∷ []
  known : admitted.outcome ≢ outcomes.NoMemory
  reply : r.reply ≡ (outcome_ruling s cred lease args admitted.outcome).reply

record Taken (s : Shown) (cred : CredValue) (lease : Lease) (r : Ruling) : Type 0 where
  done : r.rule ≡ 23 → IsTaken s cred lease r

is-other : (rule : ℕ) → (rule == 23) ≡ false → rule ≡ 23 → ⊥
is-other rule ne e = true≢false (sym (eq-eqb rule 23 e) ∙ ne)

other : (s : Shown) (r : Ruling) → (r.rule == 23) ≡ false → Done s r
other s r ne = record { done = λ e. absurd (is-other r.rule ne e) }

row : (s : Shown) (b : Bool) (x y : Ruling) → (x.rule == 23) ≡ false → (b ≡ false → Done s y) → Done s (if b then x else y)
row s true x y ne q = other s x ne
row s false x y ne q = q refl

either : (s : Shown) (b : Bool) (x y : Ruling) → Done s x → Done s y → Done s (if b then x else y)
either s true x y p q = p
either s false x y p q = q

late-other : (s : Shown) (cred : CredValue) (lease : Lease) (r : Ruling) → (r.rule == 23) ≡ false → Taken s cred lease r
late-other s cred lease r ne = record { done = λ e. absurd (is-other r.rule ne e) }

late-row : (s : Shown) (cred : CredValue) (lease : Lease) (b : Bool) (x y : Ruling) → (x.rule == 23) ≡ false → (b ≡ false → Taken s cred lease y) → Taken s cred lease (if b then x else y)
late-row s cred lease true x y ne q = late-other s cred lease x ne
late-row s cred lease false x y ne q = q refl

late-either : (s : Shown) (cred : CredValue) (lease : Lease) (b : Bool) (x y : Ruling) → Taken s cred lease x → Taken s cred lease y → Taken s cred lease (if b then x else y)
late-either s cred lease true x y p q = p
late-either s cred lease false x y p q = q

-- ---- calls without authentication, and creations

null-only : (procedure : ℕ) → procedure ≢ 0 → not (procedure == 0) ≡ false → ⊥
null-only procedure ne e = true≢false (sym (ap not (ne_eqb procedure 0 ne)) ∙ e)

plain-done : (s : Shown) → s.call.procedure ≢ 0 → Done s (plain_ruling s)
unfolding plain_ruling
plain-done s ne =
    row s (is_other_program s) _ _ refl (λ a.
    row s (is_other_version_of_it s) _ _ refl (λ b.
    row s (is_no_procedure s) _ _ refl (λ c.
    row s (not (s.call.procedure == 0)) _ _ refl (λ d. absurd (null-only s.call.procedure ne d)))))

stepped-other : (s : Shown) (answer : NegAnswer) → ((stepped s answer).rule == 23) ≡ false
stepped-other s (steps.Going id token) = refl
stepped-other s (steps.Settled lease token) = refl
stepped-other s (steps.Refused books.NoContext) = refl
stepped-other s (steps.Refused books.AlreadyComplete) = refl
stepped-other s (steps.Refused books.LogFull) = refl
stepped-other s (steps.Refused books.TableFull) = refl
stepped-other s (steps.Refused (books.Neg refusal)) = refl
stepped-other s (steps.Refused (books.Stale greatest)) = refl
stepped-other s (steps.Refused (books.Repeat place)) = refl
stepped-other s (steps.Refused books.CacheFull) = refl
stepped-other s (steps.Refused books.Journal) = refl
stepped-other s steps.NoMemory = refl

step-done : (s : Shown) (id : Option ℕ) (token : List ℕ) (negotiated : Option Negotiated) → Done s (ask_step s id token negotiated)
step-done s id token None = other s _ refl
step-done s id token (Some negotiated) = other s _ (stepped-other s negotiated.answer)

continued-done : (s : Shown) (token : List ℕ) (negotiated : Option Negotiated) (id : Option ℕ) → Done s (continued s token negotiated id)
continued-done s token negotiated None = other s _ refl
continued-done s token negotiated (Some id) = step-done s (Some id) token negotiated

token-done : (s : Shown) (cred : CredValue) (negotiated : Option Negotiated) (token : Result (List ℕ) XdrRefusal) → Done s (token_ruling s cred negotiated token)
token-done s cred negotiated (Err refusal) = other s _ refl
token-done s cred negotiated (Ok token) = either s (cred.proc == 1) _ _ (step-done s None token negotiated) (continued-done s token negotiated (handle_id cred.context))

creation-done : (s : Shown) (cred : CredValue) (negotiated : Option Negotiated) → Done s (creation_ruling s cred negotiated)
unfolding creation_ruling
creation-done s cred negotiated =
    row s (is_other_program s) _ _ refl (λ a. row s (is_other_version_of_it s) _ _ refl (λ b. token-done s cred negotiated (one_opaque s.call.args)))

-- ---- calls of a context

unadmitted-other : (s : Shown) (cred : CredValue) (lease : Lease) (refusal : AdmitRefusal) → ((unadmitted s cred lease refusal).rule == 23) ≡ false
unadmitted-other s cred lease admits.Gone = refl
unadmitted-other s cred lease admits.AboveMax = refl
unadmitted-other s cred lease (admits.Below last) = refl
unadmitted-other s cred lease admits.Repeat = refl
unadmitted-other s cred lease admits.LogFull = refl

-- what became of a call asks nothing more
unasked : (s : Shown) (cred : CredValue) (lease : Lease) (args : List ℕ) (outcome : Outcome) → (outcome_ruling s cred lease args outcome).asked ≡ []
unasked s cred lease args outcomes.Args = refl
unasked s cred lease args (outcomes.Done result) = refl
unasked s cred lease args (outcomes.Refused why) = refl
unasked s cred lease args (outcomes.Mismatch low high) = refl
unasked s cred lease args outcomes.Gone = refl
unasked s cred lease args outcomes.NoMemory = refl

-- of an admitted call's outcomes these are of the rule of calls that are done
known-done : (s : Shown) (cred : CredValue) (lease : Lease) (args : List ℕ) (outcome : Outcome) → (outcome_ruling s cred lease args outcome).rule ≡ 23 → outcome ≢ outcomes.NoMemory
known-done s cred lease args outcomes.Args e = λ same. absurd cc
known-done s cred lease args (outcomes.Done result) e = λ same. absurd cc
known-done s cred lease args (outcomes.Refused why) e = λ same. absurd cc
known-done s cred lease args (outcomes.Mismatch low high) e = λ same. absurd cc
known-done s cred lease args outcomes.Gone e = λ same. absurd cc
known-done s cred lease args outcomes.NoMemory e = absurd (is-other 0 refl e)

admit-done : (s : Shown) (cred : CredValue) (lease : Lease) (args : List ℕ) (answer : Option (Result Admitted AdmitRefusal)) → s.serves.program.has s.call.procedure ≡ true → body_args (end_of lease) cred s.call.args ≡ Some args
    → Taken s cred lease (ask_admit s cred lease args answer)
admit-done s cred lease args None has opened = late-other s cred lease _ refl
admit-done s cred lease args (Some (Ok a)) has opened =
    record { done = λ e. record { args = args; admitted = a; procedure = has; opened = opened; asked = ap (λ l. AskedAdmit lease cred.seq (service_of cred.service) s.call.procedure args (Ok a) ∷ l) (unasked s cred lease args a.outcome); known = known-done s cred lease args a.outcome e; reply = refl } }
admit-done s cred lease args (Some (Err refusal)) has opened = late-other s cred lease _ (unadmitted-other s cred lease refusal)

args-done : (s : Shown) (cred : CredValue) (lease : Lease) (answer : Option (Result Admitted AdmitRefusal)) (args : Option (List ℕ)) → s.serves.program.has s.call.procedure ≡ true → body_args (end_of lease) cred s.call.args ≡ args
    → Taken s cred lease (args_ruling s cred lease answer args)
args-done s cred lease answer None has opened = late-other s cred lease _ refl
args-done s cred lease answer (Some args) has opened = late-row s cred lease (not (s.serves.program.takes s.call.procedure args)) _ _ refl (λ a. admit-done s cred lease args answer has opened)

has-it : (s : Shown) → is_no_procedure s ≡ false → s.serves.program.has s.call.procedure ≡ true
has-it s e = not-off (s.serves.program.has s.call.procedure) e
  where
    not-off : (b : Bool) → not b ≡ false → b ≡ true
    not-off true e = refl
    not-off false e = absurd (true≢false e)

data-done : (s : Shown) (cred : CredValue) (lease : Lease) (answer : Option (Result Admitted AdmitRefusal)) → Taken s cred lease (data_ruling s cred lease answer)
unfolding data_ruling
data-done s cred lease answer =
    late-row s cred lease (not (is_verified s lease)) _ _ refl (λ a.
    late-row s cred lease (is_other_program s) _ _ refl (λ b.
    late-row s cred lease (is_other_version_of_it s) _ _ refl (λ c.
    late-row s cred lease (is_no_procedure s) _ _ refl (λ d.
    late-row s cred lease (is_weak s cred) _ _ refl (λ f.
    args-done s cred lease answer (body_args (end_of lease) cred s.call.args) (has-it s d) refl)))))

end-done : (s : Shown) (cred : CredValue) (lease : Lease) (answer : Option (Result Receipt AdmitRefusal)) → Taken s cred lease (ask_end s cred lease answer)
end-done s cred lease None = late-other s cred lease _ refl
end-done s cred lease (Some (Ok receipt)) = late-other s cred lease _ refl
end-done s cred lease (Some (Err refusal)) = late-other s cred lease _ (unadmitted-other s cred lease refusal)

destroy-done : (s : Shown) (cred : CredValue) (lease : Lease) (answer : Option (Result Receipt AdmitRefusal)) → Taken s cred lease (destroy_ruling s cred lease answer)
unfolding destroy_ruling
destroy-done s cred lease answer =
    late-row s cred lease (not (is_verified s lease)) _ _ refl (λ a.
    late-row s cred lease (is_other_program s) _ _ refl (λ b.
    late-row s cred lease (is_other_version_of_it s) _ _ refl (λ c. end-done s cred lease answer)))

lease-done : (s : Shown) (cred : CredValue) (admitted : Option (Result Admitted AdmitRefusal)) (ended : Option (Result Receipt AdmitRefusal)) (lease : Lease) → Taken s cred lease (looked_ruling s cred admitted ended (Ok lease))
lease-done s cred admitted ended lease = late-either s cred lease (cred.proc == 0) _ _ (data-done s cred lease admitted) (destroy-done s cred lease ended)

shown-done : (s : Shown) (cred : CredValue) (id : ℕ) (admitted : Option (Result Admitted AdmitRefusal)) (ended : Option (Result Receipt AdmitRefusal)) (lease : Lease)
    → cred_at s.call.cred.body ≡ Ok cred → handle_id cred.context ≡ Some id → Done s (ask_look s cred id admitted ended (Some (Ok lease)))
shown-done s cred id admitted ended lease read handle = record {
  done = λ e. let t = (lease-done s cred admitted ended lease).done e in record {
    cred = cred;
    id = id;
    lease = lease;
    args = t.args;
    admitted = t.admitted;
    read = read;
    handle = handle;
    procedure = t.procedure;
    opened = t.opened;
    asked = ap (λ l. AskedLook id s.now (Ok lease) ∷ l) t.asked;
    known = t.known;
    reply = t.reply;
  };
}

look-done : (s : Shown) (cred : CredValue) (id : ℕ) (admitted : Option (Result Admitted AdmitRefusal)) (ended : Option (Result Receipt AdmitRefusal)) (looked : Option (Result Lease LookRefusal))
    → cred_at s.call.cred.body ≡ Ok cred → handle_id cred.context ≡ Some id → Done s (ask_look s cred id admitted ended looked)
look-done s cred id admitted ended None read handle = other s _ refl
look-done s cred id admitted ended (Some (Ok lease)) read handle = shown-done s cred id admitted ended lease read handle
look-done s cred id admitted ended (Some (Err looks.NoContext)) read handle = other s _ refl
look-done s cred id admitted ended (Some (Err looks.NotReady)) read handle = other s _ refl
look-done s cred id admitted ended (Some (Err looks.Expired)) read handle = other s _ refl

id-done : (s : Shown) (cred : CredValue) (looked : Option (Result Lease LookRefusal)) (admitted : Option (Result Admitted AdmitRefusal)) (ended : Option (Result Receipt AdmitRefusal)) (id : Option ℕ)
    → cred_at s.call.cred.body ≡ Ok cred → handle_id cred.context ≡ id → Done s (id_ruling s cred looked admitted ended id)
id-done s cred looked admitted ended None read handle = other s _ refl
id-done s cred looked admitted ended (Some id) read handle = look-done s cred id admitted ended looked read handle

-- ---- all calls

cred-done : (s : Shown) (negotiated : Option Negotiated) (looked : Option (Result Lease LookRefusal)) (admitted : Option (Result Admitted AdmitRefusal)) (ended : Option (Result Receipt AdmitRefusal)) (cred : Result CredValue CredRefusal)
    → cred_at s.call.cred.body ≡ cred → Done s (cred_ruling s negotiated looked admitted ended cred)
cred-done s negotiated looked admitted ended (Err refusal) read = other s _ refl
cred-done s negotiated looked admitted ended (Ok cred) read =
    row s (is_misplaced s.call cred) _ _ refl (λ a.
    either s (cred.proc == 1 || cred.proc == 2) _ _ (creation-done s cred negotiated) (id-done s cred looked admitted ended (handle_id cred.context) read refl))

call-done : (s : Shown) (negotiated : Option Negotiated) (looked : Option (Result Lease LookRefusal)) (admitted : Option (Result Admitted AdmitRefusal)) (ended : Option (Result Receipt AdmitRefusal)) → s.call.procedure ≢ 0
    → Done s (call_ruling s negotiated looked admitted ended)
unfolding call_ruling
call-done s negotiated looked admitted ended ne =
    row s (not (s.call.cred.flavour == 0) && not (s.call.cred.flavour == 6)) _ _ refl (λ a.
    either s (s.call.cred.flavour == 0) _ _ (plain-done s ne) (cred-done s negotiated looked admitted ended (cred_at s.call.cred.body) refl))

record-done : (octets : List ℕ) (kept : KeptAnswers) (serves : Serving) (call : CallValue) → call_at octets ≡ Ok call → call.procedure ≢ 0 → Done (shown_as octets kept serves call) (record_ruling octets kept serves)
unfolding record_ruling
record-done octets kept serves call read ne =
    subst (λ (r : Result CallValue CallRefusal). Done (shown_as octets kept serves call) (read_ruling octets kept serves r)) (sym read)
    (call-done (shown_as octets kept serves call) kept.negotiated kept.looked kept.admitted kept.ended ne)

pub done-law : DoneLaw
done-law octets kept serves call called = (record-done octets kept serves call called.read called.procedure).done called.rule
