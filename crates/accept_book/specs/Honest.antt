-- Records of honest callers: a data call of a context, made with the context's key by its initiator
-- (RFC 2203 sections 5.3.1 and 5.3.2), and what it is answered.
use Rattle.std.specs.Prelude.{◌≡◌, ◌⊎◌, ◌<◌, ◌≤◌, ◌^◌, ℕ, ◌*◌, true, List, [], ◌∷◌, ◌++◌}
use Rattle.std.specs.Prelude.{length, slice_index, take, drop, is_ok, Some, None, Result, Ok, Err}
use Rattle.rpc_msgs.specs.Words.{word, opaque}
use Rattle.rpc_msgs.specs.Calls.{CallValue, header_octets, call_octets, secure_call, call_at}
use Rattle.rpc_msgs.specs.Replies.{ReplyValue, accepted, reply_octets}
use Rattle.rpc_msgs.specs.declared.numbers.TheConstants.{SUCCESS, PROG_MISMATCH}
use Rattle.rpc_program.specs.declared.program.ProgramId.{ProgramId}
use Rattle.rpcsec_msgs.specs.Cred.{CredValue, cred_octets, cred_at}
use Rattle.rpcsec_msgs.specs.Bodies.{IsLong, checked_octets}
use Rattle.krb_tokens.specs.declared.end.Side.TheVariants.{Initiator}
use Rattle.krb_tokens.specs.declared.end.TokenEnd.{TokenEnd}
use Rattle.krb_tokens.specs.Mic.{mic_of}
use Rattle.krb_tokens.specs.Wrap.{wrap_of}
use Rattle.krb_tokens.specs.Tokens.{IsMicOf, IsWrapOf}
use Rattle.spnego_core.specs.Outcome.{token_end}
use Rattle.rpcsec_bodies.specs.Service.{number_of, service_of}
use Rattle.rpc_program.specs.Programs.{ProgramSays, Serving, result_in, stat_number}
use Rattle.rpc_program.specs.declared.outcome.Outcome.{Outcome}
use Rattle.rpc_program.specs.declared.outcome.Outcome.TheVariants as outcomes
use Rattle.rpc_program.specs.declared.outcome.Unserved.{Unserved}
use Rattle.accept_core.specs.declared.answer.AdmitRefusal.{AdmitRefusal}
use Rattle.accept_core.specs.declared.answer.AdmitRefusal.TheVariants.{Gone, AboveMax, Below}
use Rattle.accept_core.specs.declared.answer.AdmitRefusal.TheVariants.{Repeat, LogFull}
use Rattle.accept_book.specs.declared.book_answer.Lease.{Lease}
use Rattle.accept_book.specs.declared.book_answer.Admitted.{Admitted}
use Rattle.accept_book.specs.RecordShown.{KeptAnswers, Ruling, Admit, AskedLook, AskedAdmit}
use Rattle.accept_book.specs.RecordShown.{handle_id, end_of, result_body}
use Rattle.accept_book.specs.RecordRule.{record_ruling}

-- the end of the context at which its calls are made
abbrev pub caller_of : Lease → TokenEnd
caller_of lease = token_end lease.outcome Initiator

-- the number and the arguments, and their MIC
pub record ByIntegrity (end : TokenEnd) (n : ℕ) (args body : List ℕ) : Type 0 where
  pub tag : List ℕ
  pub mic : IsMicOf end (word n ++ args) tag
  pub long : IsLong (word n ++ args)
  pub spelled : body ≡ checked_octets (word n ++ args) tag

-- the number and the arguments, sealed
pub record ByPrivacy (end : TokenEnd) (n : ℕ) (args body : List ℕ) : Type 0 where
  pub token : List ℕ
  pub sealed : IsWrapOf end true (word n ++ args) token
  pub long : IsLong token
  pub spelled : body ≡ opaque token

-- a body that carries a number and arguments by its service: 1 none, 2 integrity, 3 privacy
abbrev pub Carries : TokenEnd → ℕ → ℕ → List ℕ → List ℕ → Type 0
Carries end service n args body =
    ((service ≡ 1) × (body ≡ args)) ⊎ ((service ≡ 2) × ByIntegrity end n args body)
    ⊎ ((service ≡ 3) × ByPrivacy end n args body)

-- a data call to the served program by the end of a context's initiator: its verifier is a MIC over
-- its header, and its body carries the number and the procedure's arguments
pub record Honest (program : ProgramSays) (octets : List ℕ) (end : TokenEnd) (n procedure : ℕ)
    (args : List ℕ) : Type 0 where
  pub call : CallValue
  pub cred : CredValue
  pub reads : call_at octets ≡ Ok call
  pub flavour : call.cred.flavour ≡ 6
  pub header : cred_at call.cred.body ≡ Ok cred
  pub is_data : cred.proc ≡ 0
  pub number : cred.seq ≡ n
  pub few : n ≤ 0x80000000
  pub number_called : call.program ≡ program.id.number
  pub version_called : call.version ≡ program.id.version
  pub called : call.procedure ≡ procedure
  pub served : program.has procedure ≡ true
  pub allowed : number_of (program.needs procedure) ≤ cred.service
  pub secured : call.verf.flavour ≡ 6
  pub verifier : IsMicOf end (take call.header octets) call.verf.body
  pub body : Carries end cred.service n args call.args
  pub proper : program.takes procedure args ≡ true

-- the rule of a refused number
abbrev pub rule_of_refusal : AdmitRefusal → ℕ
rule_of_refusal Gone = 15
rule_of_refusal AboveMax = 16
rule_of_refusal (Below last) = 17
rule_of_refusal Repeat = 18
rule_of_refusal LogFull = 19

-- the rule of what became of an admitted call; 0 where memory was wanted, so that none decides
abbrev pub rule_of_outcome : Outcome → ℕ
rule_of_outcome outcomes.Args = 23
rule_of_outcome (outcomes.Done result) = 23
rule_of_outcome (outcomes.Refused why) = 23
rule_of_outcome (outcomes.Mismatch low high) = 23
rule_of_outcome outcomes.Gone = 25
rule_of_outcome outcomes.NoMemory = 0

-- an admitted call's rule, 23, decides, and this is replied
pub record IsDone (ruling : Ruling) (reply : ReplyValue) : Type 0 where
  pub rule : ruling.rule ≡ 23
  pub replied : ruling.reply ≡ Some (reply_octets reply)

-- what an honest record is answered whose context was shown by this lease: its one further question
-- is its admission; where that was answered Ok what became of the call is replied by its service,
-- else the refusal has its rule
pub record HonestRuled (octets : List ℕ) (kept : KeptAnswers) (serves : Serving) (lease : Lease)
    (n procedure : ℕ) (args : List ℕ) (call : CallValue) (cred : CredValue) (id : ℕ) : Type 0 where
  pub due : kept.admitted ≡ None
      → (record_ruling octets kept serves).due ≡ Some
      (Admit lease n (service_of cred.service) procedure args)
  pub asked : (answer : Result Admitted AdmitRefusal) → kept.admitted ≡ Some answer
      → (record_ruling octets kept serves).asked
      ≡ AskedLook id kept.now (Ok lease)
      ∷ AskedAdmit lease n (service_of cred.service) procedure args answer ∷ []
  pub undue : (answer : Result Admitted AdmitRefusal) → kept.admitted ≡ Some answer
      → (record_ruling octets kept serves).due ≡ None
  pub admitted : (answer : Result Admitted AdmitRefusal) → kept.admitted ≡ Some answer
      → (record_ruling octets kept serves).rule ≡ 23 → is_ok answer ≡ true
  pub came : (answer : Admitted) → kept.admitted ≡ Some (Ok answer)
      → (record_ruling octets kept serves).rule ≡ rule_of_outcome answer.outcome
  -- a result is signed, by the service of the call
  pub done : (answer : Admitted) (result : List ℕ) → kept.admitted ≡ Some (Ok answer)
      → result_in args answer.outcome ≡ Some result
      → IsDone (record_ruling octets kept serves) (accepted call.xid 6
      (mic_of (end_of lease) (2 * n) (word n)) SUCCESS 0 0
      (result_body (end_of lease) cred (take 16 (drop 66 kept.draws)) result))
  -- so is why there is none
  pub unserved : (answer : Admitted) (why : Unserved) → kept.admitted ≡ Some (Ok answer)
      → answer.outcome ≡ outcomes.Refused why
      → IsDone (record_ruling octets kept serves) (accepted call.xid 6
      (mic_of (end_of lease) (2 * n) (word n)) (stat_number why) 0 0 [])
  pub mismatch : (answer : Admitted) (low high : ℕ) → kept.admitted ≡ Some (Ok answer)
      → answer.outcome ≡ outcomes.Mismatch low high
      → IsDone (record_ruling octets kept serves) (accepted call.xid 6
      (mic_of (end_of lease) (2 * n) (word n)) PROG_MISMATCH low high [])
  -- what became of the call isn't known, or memory was wanted: there is no reply
  pub lost : (answer : Admitted) → kept.admitted ≡ Some (Ok answer)
      → answer.outcome ≡ outcomes.Gone → ((record_ruling octets kept serves).rule ≡ 25)
      × ((record_ruling octets kept serves).reply ≡ None)
  pub memory : (answer : Admitted) → kept.admitted ≡ Some (Ok answer)
      → answer.outcome ≡ outcomes.NoMemory → (record_ruling octets kept serves).rule ≡ 0
  pub refused : (refusal : AdmitRefusal) → kept.admitted ≡ Some (Err refusal)
      → (record_ruling octets kept serves).rule ≡ rule_of_refusal refusal

-- of every honest record whose handle is an id
abbrev pub HonestLaw : Lease → Type 0
HonestLaw lease =
    (octets : List ℕ) (kept : KeptAnswers) (serves : Serving) (n procedure : ℕ) (args : List ℕ)
    (honest : Honest serves.program octets (caller_of lease) n procedure args) (id : ℕ)
    → handle_id honest.cred.context ≡ Some id → kept.looked ≡ Some (Ok lease)
    → HonestRuled octets kept serves lease n procedure args honest.call honest.cred id

-- ---- what an end makes

-- each number is an octet
abbrev pub IsOctets : List ℕ → Type 0
IsOctets octets = (i : ℕ) → slice_index octets i < 256

-- the octets of a data call up to the end of its credential
abbrev pub data_header : ProgramId → ℕ → ℕ → CredValue → List ℕ
data_header id xid procedure cred = header_octets xid id.number id.version procedure
    (record { flavour = 6; body = cred_octets cred })

-- a data call with this credential and body, whose verifier an end makes with a number of its
-- tokens
abbrev pub made_call : ProgramId → TokenEnd → ℕ → ℕ → ℕ → CredValue → List ℕ → List ℕ
made_call id end number xid procedure cred body =
    call_octets (secure_call xid id.number id.version procedure (cred_octets cred)
    (record { flavour = 6; body = mic_of end number (data_header id xid procedure cred) }) body)

-- both numbers are words
pub record IsId (id : ProgramId) : Type 0 where
  pub number : id.number < 2 ^ 32
  pub version : id.version < 2 ^ 32

-- a call that an end makes so is honest if its body carries its number and arguments; the bodies
-- that an end makes do, by each service
pub record HonestMade : Type 0 where
  pub call : (program : ProgramSays) (end : TokenEnd) (number xid n procedure service : ℕ)
      (handle args body : List ℕ) → IsId program.id → number < 2 ^ 64 → xid < 2 ^ 32
      → n ≤ 0x80000000 → procedure < 2 ^ 32 → program.has procedure ≡ true
      → number_of (program.needs procedure) ≤ service → length handle ≡ 8
      → program.takes procedure args ≡ true → Carries end service n args body
      → Honest program (made_call program.id end number xid procedure
      (record { proc = 0; seq = n; service = service; context = handle }) body) end n procedure args
  pub bare : (end : TokenEnd) (n : ℕ) (args : List ℕ) → Carries end 1 n args args
  pub by_integrity : (end : TokenEnd) (number n : ℕ) (args : List ℕ) → number < 2 ^ 64
      → IsLong (word n ++ args)
      → Carries end 2 n args (checked_octets (word n ++ args) (mic_of end number (word n ++ args)))
  pub by_privacy : (end : TokenEnd) (number n : ℕ) (confounder args : List ℕ) → number < 2 ^ 64
      → length confounder ≡ 16 → IsOctets (confounder ++ (word n ++ args))
      → IsLong (wrap_of end number true confounder (word n ++ args))
      → Carries end 3 n args (opaque (wrap_of end number true confounder (word n ++ args)))
