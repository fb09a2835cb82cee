-- The rule of a record: which rule answers it, with what reply, and which questions it asks of the
-- shared state, in which order and with which arguments; all of it a function of the record's
-- octets, of the answers that were kept, of the program that is served and of the windows' width.
use Rattle.std.specs.Prelude.{◌≡◌, ℕ, Bool, true, false, not, ◌==◌, ◌&&◌, ◌||◌, nat_lt, List, []}
use Rattle.std.specs.Prelude.{◌∷◌, length, take, drop, Option, Some, None, if◌then◌else◌}
use Rattle.std.specs.Prelude.{Result, Ok, Err}
use Rattle.rpc_msgs.specs.Calls.{CallValue, call_at}
use Rattle.rpc_msgs.specs.Replies.{mismatch, reply_octets}
use Rattle.rpc_msgs.specs.declared.call.CallRefusal.{CallRefusal}
use Rattle.rpc_msgs.specs.declared.call.CallRefusal.TheVariants.{Unreadable, NotCall, RpcVersion}
use Rattle.rpc_msgs.specs.declared.xdr_reader.XdrRefusal.{XdrRefusal}
use Rattle.rpc_msgs.specs.declared.numbers.TheConstants.{RPC_VERSION, SUCCESS, PROG_UNAVAIL}
use Rattle.rpc_msgs.specs.declared.numbers.TheConstants.{PROG_MISMATCH, PROC_UNAVAIL, GARBAGE_ARGS}
use Rattle.rpc_msgs.specs.declared.numbers.TheConstants.{SYSTEM_ERR, AUTH_BADCRED}
use Rattle.rpc_msgs.specs.declared.numbers.TheConstants.{AUTH_REJECTEDCRED, AUTH_TOOWEAK}
use Rattle.rpc_msgs.specs.declared.numbers.TheConstants.{RPCSEC_GSS_CREDPROBLEM}
use Rattle.rpc_msgs.specs.declared.numbers.TheConstants.{RPCSEC_GSS_CTXPROBLEM, AUTH_NONE}
use Rattle.rpc_msgs.specs.declared.numbers.TheConstants.{RPCSEC_GSS, NULL}
use Rattle.rpcsec_msgs.specs.Cred.{CredValue, cred_at}
use Rattle.rpcsec_msgs.specs.declared.numbers.TheConstants.{RPCSEC_GSS_DATA, RPCSEC_GSS_INIT}
use Rattle.rpcsec_msgs.specs.declared.numbers.TheConstants.{RPCSEC_GSS_CONTINUE_INIT}
use Rattle.rpcsec_msgs.specs.declared.cred.CredRefusal.{CredRefusal}
use Rattle.accept_book.specs.Served.{one_opaque}
use Rattle.rpcsec_bodies.specs.Service.{number_of, service_of}
use Rattle.rpc_program.specs.Programs.{Serving, stat_number}
use Rattle.rpc_program.specs.declared.outcome.Outcome.{Outcome}
use Rattle.rpc_program.specs.declared.outcome.Outcome.TheVariants as outcomes
use Rattle.accept_core.specs.declared.answer.AdmitRefusal.{AdmitRefusal}
use Rattle.accept_core.specs.declared.answer.AdmitRefusal.TheVariants as admits
use Rattle.accept_core.specs.declared.answer.LookRefusal.{LookRefusal}
use Rattle.accept_core.specs.declared.answer.LookRefusal.TheVariants as looks
use Rattle.accept_book.specs.declared.book_answer.BookRefusal.TheVariants as books
use Rattle.accept_book.specs.declared.book_answer.Lease.{Lease}
use Rattle.accept_book.specs.declared.book_answer.NegAnswer.{NegAnswer}
use Rattle.accept_book.specs.declared.book_answer.NegAnswer.TheVariants as steps
use Rattle.accept_book.specs.declared.book_answer.Negotiated.{Negotiated}
use Rattle.accept_book.specs.declared.book_answer.Admitted.{Admitted}
use Rattle.accept_core.specs.declared.entry.Receipt.{Receipt}
use Rattle.accept_book.specs.declared.rule.Rule.TheVariants as rules
use Rattle.accept_book.specs.RecordShown.{KeptAnswers, Negotiate, Look, Admit, End, AskedStep}
use Rattle.accept_book.specs.RecordShown.{AskedLook, AskedAdmit, AskedEnd, Ruling, by, undecided}
use Rattle.accept_book.specs.RecordShown.{waiting, asking, Shown, is_other_version, handle_id}
use Rattle.accept_book.specs.RecordShown.{end_of, is_verified, body_args, result_body, plain}
use Rattle.accept_book.specs.RecordShown.{signed, denied, going, settled, refused}

-- rows of a condition and what it decides: the first whose condition holds, else what stands behind
-- them
abbrev pub first_of : List (Bool × Ruling) → Ruling → Ruling
first_of [] last = last
first_of (row ∷ rows) last = if row.0 then row.1 else first_of rows last

-- the call is for another program than the one that is served
abbrev pub is_other_program : Shown → Bool
is_other_program s = not (s.call.program == s.serves.program.id.number)

-- the call is for another version of the program
abbrev pub is_other_version_of_it : Shown → Bool
is_other_version_of_it s = not (s.call.version == s.serves.program.id.version)

-- the program has no such procedure
abbrev pub is_no_procedure : Shown → Bool
is_no_procedure s = not (s.serves.program.has s.call.procedure)

-- the call's service is less than its procedure needs: by number, none, integrity, privacy
abbrev pub is_weak : Shown → CredValue → Bool
is_weak s cred = nat_lt cred.service (number_of (s.serves.program.needs s.call.procedure))

-- the call is for another version: the one that is served is told (RFC 5531 section 9)
abbrev pub other_version : Shown → Option (List ℕ)
other_version s =
    plain s PROG_MISMATCH s.serves.program.id.version s.serves.program.id.version []

-- the same, signed
abbrev pub other_version_signed : Shown → CredValue → Lease → Option (List ℕ)
other_version_signed s cred lease = signed s cred lease PROG_MISMATCH
    s.serves.program.id.version s.serves.program.id.version []

-- the call is of no context that is known
abbrev pub no_context : Shown → Ruling
no_context s = by rules.NoContext (denied s RPCSEC_GSS_CREDPROBLEM)

-- ---- calls without authentication

-- a call without authentication: it is served if it is NULL and has no arguments
unfoldable pub plain_ruling : Shown → Ruling
plain_ruling s = first_of (
    (is_other_program s, by rules.Program (plain s PROG_UNAVAIL 0 0 []))
    ∷ (is_other_version_of_it s, by rules.Version (other_version s))
    ∷ (is_no_procedure s, by rules.Procedure (plain s PROC_UNAVAIL 0 0 []))
    ∷ (not (s.call.procedure == NULL), by rules.Weak (denied s AUTH_TOOWEAK))
    ∷ (not (length s.call.args == 0), by rules.Arguments (plain s GARBAGE_ARGS 0 0 []))
    ∷ []) (by rules.Done (plain s SUCCESS 0 0 []))

-- ---- INIT and CONTINUE_INIT

-- what a step of a creation was answered
abbrev pub stepped : Shown → NegAnswer → Ruling
stepped s (steps.Going id token) = by rules.Going (going s id token)
stepped s (steps.Settled lease token) = by rules.Settled (settled s lease token)
stepped s (steps.Refused books.NoContext) = no_context s
stepped s (steps.Refused refusal) = by rules.Refused (refused s refusal)
stepped s steps.NoMemory = undecided

-- a creation asks for the step of its token, and the answer decides
abbrev pub ask_step : Shown → Option ℕ → List ℕ → Option Negotiated → Ruling
ask_step s id token None = waiting (Negotiate id token s.now (take 66 s.draws))
ask_step s id token (Some negotiated) =
    asking (AskedStep id token s.now (take 66 s.draws) negotiated) (stepped s negotiated.answer)

-- by the id of a later token
abbrev pub continued : Shown → List ℕ → Option Negotiated → Option ℕ → Ruling
continued s token negotiated None = no_context s
continued s token negotiated (Some id) = ask_step s (Some id) token negotiated

-- by the token
abbrev pub token_ruling : Shown → CredValue → Option Negotiated → Result (List ℕ) XdrRefusal
    → Ruling
token_ruling s cred negotiated (Err refusal) = by rules.Arguments (plain s GARBAGE_ARGS 0 0 [])
token_ruling s cred negotiated (Ok token) = if cred.proc == RPCSEC_GSS_INIT
    then ask_step s None token negotiated else continued s token negotiated (handle_id cred.context)

-- a call that creates a context or goes on with its creation: program and version, then its token
unfoldable pub creation_ruling : Shown → CredValue → Option Negotiated → Ruling
creation_ruling s cred negotiated = first_of (
    (is_other_program s, by rules.Program (plain s PROG_UNAVAIL 0 0 []))
    ∷ (is_other_version_of_it s, by rules.Version (other_version s))
    ∷ []) (token_ruling s cred negotiated (one_opaque s.call.args))

-- ---- DATA and DESTROY

-- a call of the context that a lease shows: verifier, program and version are judged, then `rest`
-- decides (RFC 2203 sections 5.3.3.3 and 5.4)
abbrev pub in_context : Shown → CredValue → Lease → Ruling → Ruling
in_context s cred lease rest = first_of (
    (not (is_verified s lease), by rules.Verifier (denied s RPCSEC_GSS_CREDPROBLEM))
    ∷ (is_other_program s, by rules.Program (signed s cred lease PROG_UNAVAIL 0 0 []))
    ∷ (is_other_version_of_it s, by rules.Version (other_version_signed s cred lease))
    ∷ []) rest

-- a call whose verifier, program and version are right
pub record IsInContext (s : Shown) (lease : Lease) : Type 0 where
  pub verified : is_verified s lease ≡ true
  pub program : is_other_program s ≡ false
  pub version : is_other_version_of_it s ≡ false

-- the number of a call wasn't taken
abbrev pub unadmitted : Shown → CredValue → Lease → AdmitRefusal → Ruling
unadmitted s cred lease admits.Gone = by rules.Gone (denied s RPCSEC_GSS_CREDPROBLEM)
unadmitted s cred lease admits.AboveMax = by rules.AboveMax (denied s RPCSEC_GSS_CTXPROBLEM)
unadmitted s cred lease (admits.Below last) = by rules.Below None
unadmitted s cred lease admits.Repeat = by rules.Repeat None
unadmitted s cred lease admits.LogFull = by rules.LogFull (signed s cred lease SYSTEM_ERR 0 0 [])

-- the draws 66 to 81 are a sealed reply's confounder
abbrev pub result_reply : Shown → CredValue → Lease → List ℕ → Option (List ℕ)
result_reply s cred lease result =
    signed s cred lease SUCCESS 0 0
    (result_body (end_of lease) cred (take 16 (drop 66 s.draws)) result)

-- what became of an admitted call: its result, or why it has none, is signed; where that isn't
-- known nothing is said (RFC 5531 section 9)
abbrev pub outcome_ruling : Shown → CredValue → Lease → List ℕ → Outcome → Ruling
outcome_ruling s cred lease args outcomes.Args = by rules.Done (result_reply s cred lease args)
outcome_ruling s cred lease args (outcomes.Done result) =
    by rules.Done (result_reply s cred lease result)
outcome_ruling s cred lease args (outcomes.Refused why) =
    by rules.Done (signed s cred lease (stat_number why) 0 0 [])
outcome_ruling s cred lease args (outcomes.Mismatch low high) =
    by rules.Done (signed s cred lease PROG_MISMATCH low high [])
outcome_ruling s cred lease args outcomes.Gone = by rules.Lost None
outcome_ruling s cred lease args outcomes.NoMemory = undecided

-- what an admission was answered: the call is done, or its number is refused
abbrev pub admitted_ruling : Shown → CredValue → Lease → List ℕ → Result Admitted AdmitRefusal
    → Ruling
admitted_ruling s cred lease args (Ok admitted) =
    outcome_ruling s cred lease args admitted.outcome
admitted_ruling s cred lease args (Err refusal) = unadmitted s cred lease refusal

-- a data call asks for its admission, and the answer decides
abbrev pub ask_admit : Shown → CredValue → Lease → List ℕ → Option (Result Admitted AdmitRefusal)
    → Ruling
ask_admit s cred lease args None =
    waiting (Admit lease cred.seq (service_of cred.service) s.call.procedure args)
ask_admit s cred lease args (Some answer) =
    asking (AskedAdmit lease cred.seq (service_of cred.service) s.call.procedure args answer)
    (admitted_ruling s cred lease args answer)

-- by the arguments that the body carries
abbrev pub args_ruling : Shown → CredValue → Lease → Option (Result Admitted AdmitRefusal)
    → Option (List ℕ) → Ruling
args_ruling s cred lease admitted None = by rules.Body (signed s cred lease GARBAGE_ARGS 0 0 [])
args_ruling s cred lease admitted (Some args) =
    first_of ((
      not (s.serves.program.takes s.call.procedure args),
      by rules.Arguments
          (signed s cred lease GARBAGE_ARGS 0 0 []),
    ) ∷ []) (ask_admit s cred lease args admitted)

-- a data call of the context that a lease shows: procedure and protection, then its body
unfoldable pub data_ruling : Shown → CredValue → Lease → Option (Result Admitted AdmitRefusal)
    → Ruling
data_ruling s cred lease admitted = in_context s cred lease (first_of (
    (is_no_procedure s, by rules.Procedure (signed s cred lease PROC_UNAVAIL 0 0 []))
    ∷ (is_weak s cred, by rules.Weak (denied s AUTH_TOOWEAK))
    ∷ []) (args_ruling s cred lease admitted (body_args (end_of lease) cred s.call.args)))

-- what the end of a context was answered: it is ended, or the call's number is refused
abbrev pub ended_ruling : Shown → CredValue → Lease → Result Receipt AdmitRefusal → Ruling
ended_ruling s cred lease (Ok receipt) = by rules.Ended (signed s cred lease SUCCESS 0 0 [])
ended_ruling s cred lease (Err refusal) = unadmitted s cred lease refusal

-- a call that destroys its context asks for the end, and the answer decides
abbrev pub ask_end : Shown → CredValue → Lease → Option (Result Receipt AdmitRefusal) → Ruling
ask_end s cred lease None = waiting (End lease cred.seq)
ask_end s cred lease (Some answer) =
    asking (AskedEnd lease cred.seq answer) (ended_ruling s cred lease answer)

-- a call that destroys the context that a lease shows (RFC 2203 section 5.4)
unfoldable pub destroy_ruling : Shown → CredValue → Lease → Option (Result Receipt AdmitRefusal)
    → Ruling
destroy_ruling s cred lease ended = in_context s cred lease (ask_end s cred lease ended)

-- what a look was answered
abbrev pub looked_ruling : Shown → CredValue → Option (Result Admitted AdmitRefusal)
    → Option (Result Receipt AdmitRefusal) → Result Lease LookRefusal → Ruling
looked_ruling s cred admitted ended (Ok lease) = if cred.proc == RPCSEC_GSS_DATA
    then data_ruling s cred lease admitted else destroy_ruling s cred lease ended
looked_ruling s cred admitted ended (Err looks.NoContext) = no_context s
looked_ruling s cred admitted ended (Err looks.NotReady) = no_context s
looked_ruling s cred admitted ended (Err looks.Expired) =
    by rules.Expired (denied s RPCSEC_GSS_CTXPROBLEM)

-- a data or destroying call asks for a look at the context of its handle, and the answer decides
abbrev pub ask_look : Shown → CredValue → ℕ → Option (Result Admitted AdmitRefusal)
    → Option (Result Receipt AdmitRefusal) → Option (Result Lease LookRefusal) → Ruling
ask_look s cred id admitted ended None = waiting (Look id s.now)
ask_look s cred id admitted ended (Some answer) =
    asking (AskedLook id s.now answer) (looked_ruling s cred admitted ended answer)

-- by the id of the handle
abbrev pub id_ruling : Shown → CredValue → Option (Result Lease LookRefusal)
    → Option (Result Admitted AdmitRefusal) → Option (Result Receipt AdmitRefusal) → Option ℕ
    → Ruling
id_ruling s cred looked admitted ended None = no_context s
id_ruling s cred looked admitted ended (Some id) = ask_look s cred id admitted ended looked

-- ---- all calls

-- a control call has procedure 0, a creation no handle
abbrev pub is_misplaced : CallValue → CredValue → Bool
is_misplaced call cred = (not (cred.proc == RPCSEC_GSS_DATA) && not (call.procedure == NULL))
    || (cred.proc == RPCSEC_GSS_INIT && not (length cred.context == 0))

-- by the credential
abbrev pub cred_ruling : Shown → Option Negotiated → Option (Result Lease LookRefusal)
    → Option (Result Admitted AdmitRefusal) → Option (Result Receipt AdmitRefusal)
    → Result CredValue CredRefusal → Ruling
cred_ruling s negotiated looked admitted ended (Err refusal) = by rules.Credential
    (denied s (if is_other_version s.call.cred.body then AUTH_REJECTEDCRED else AUTH_BADCRED))
cred_ruling s negotiated looked admitted ended (Ok cred) =
    first_of ((is_misplaced s.call cred, by rules.Credential (denied s AUTH_BADCRED)) ∷ [])
    (if cred.proc == RPCSEC_GSS_INIT || cred.proc == RPCSEC_GSS_CONTINUE_INIT then creation_ruling s
    cred negotiated else id_ruling s cred looked admitted ended (handle_id cred.context))

-- a call by the flavour of its credential: AUTH_NONE, RPCSEC_GSS, or one that isn't served
-- (RFC 5531 section 10)
unfoldable pub call_ruling : Shown → Option Negotiated → Option (Result Lease LookRefusal)
    → Option (Result Admitted AdmitRefusal) → Option (Result Receipt AdmitRefusal) → Ruling
call_ruling s negotiated looked admitted ended =
    first_of ((
      not (s.call.cred.flavour == AUTH_NONE)
          && not (s.call.cred.flavour == RPCSEC_GSS),
      by rules.Flavour (denied s AUTH_TOOWEAK),
    ) ∷ [])
    (if s.call.cred.flavour == AUTH_NONE then plain_ruling s
    else cred_ruling s negotiated looked admitted ended (cred_at s.call.cred.body))

-- a record by how its octets read: not at all, as no call, as another version of RPC, or as a call
-- (RFC 5531 section 9)
abbrev pub read_ruling : List ℕ → KeptAnswers → Serving → Result CallValue CallRefusal → Ruling
read_ruling octets kept serves (Err (Unreadable at)) = by rules.Unreadable None
read_ruling octets kept serves (Err NotCall) = by rules.NotCall None
read_ruling octets kept serves (Err (RpcVersion xid)) =
    by rules.RpcVersion (Some (reply_octets (mismatch xid RPC_VERSION RPC_VERSION)))
read_ruling octets kept serves (Ok call) =
    call_ruling (record {
      record_octets = octets;
      call = call;
      now = kept.now;
      draws =
          kept.draws;
      serves = serves;
    }) kept.negotiated kept.looked kept.admitted kept.ended

-- the rule of a record, by the kept answers, the program that is served and the width of the
-- windows
unfoldable pub record_ruling : List ℕ → KeptAnswers → Serving → Ruling
record_ruling octets kept serves = read_ruling octets kept serves (call_at octets)
