-- First arrival by a server's history: an honest call of a context that lives by the log is
-- admitted, and done.
use Rattle.std.specs.Prelude.{◌≡◌, ℕ, ◌≤◌, List, [], ◌∷◌, ◌++◌, Some, Result, Ok}
use Rattle.sha1.specs.Sha1.{sha1}
use Rattle.gss_base.specs.declared.mech.MechKind.{MechKind}
use Rattle.krb_tokens.specs.declared.end.Side.TheVariants.{Initiator}
use Rattle.spnego_core.specs.declared.outcome.Outcome.{Outcome}
use Rattle.spnego_core.specs.declared.setup.AcceptSetup.{AcceptSetup}
use Rattle.spnego_core.specs.Outcome.{token_end}
use Rattle.accept_core.specs.Answers.{Free, receipt_of}
use Rattle.accept_core.specs.History.{standing, Whole}
use Rattle.accept_core.specs.declared.answer.AdmitRefusal.{AdmitRefusal}
use Rattle.accept_core.specs.declared.answer.LookRefusal.{LookRefusal}
use Rattle.accept_core.specs.declared.entry.Receipt.{Receipt}
use Rattle.accept_core.specs.declared.entry.Entry.TheVariants.{Call}
use Rattle.accept_core.specs.declared.entry.Limits.{Limits}
use Rattle.rpcsec_bodies.specs.declared.service.Service.{Service}
use Rattle.rpcsec_bodies.specs.Service.{service_of}
use Rattle.rpc_program.specs.Programs.{ProgramSays, Serving}
use Rattle.accept_book.specs.declared.book_answer.Admitted.{Admitted}
use Rattle.accept_book.specs.declared.book_answer.Lease.{Lease}
use Rattle.accept_book.specs.Honest.{Honest, rule_of_outcome}
use Rattle.accept_book.specs.RecordRule.{record_ruling}
use Rattle.accept_book.specs.RecordShown.{KeptAnswers, Asked, AskedLook, AskedAdmit, booked}
use Rattle.accept_book.specs.RecordShown.{handle_id}
use Rattle.gss_server.specs.Answers.{IsDecided}
use Rattle.honest_calls.specs.HonestCalls.{HasOctets}
use Rattle.history_laws.specs.Before.{Before, Settles, made_in, before_of}
use Rattle.history_laws.specs.Receipts.{logged}
use Rattle.history_laws.specs.Seen.{AllSeen}

-- an honest call comes to a program, of a context that lives before this question: the machine
-- settled its id with this outcome, until this moment; by the log it is settled and not ended; and
-- the moment of the call is in its time
pub record ComesSeen (program : ProgramSays) (before : Before) (octets : List ℕ) (now : ℕ)
    (outcome : Outcome) (id ends n procedure : ℕ) (args : List ℕ) : Type 0 where
  pub made : made_in before.setup id before.asked ≡ Some (Settles outcome ends)
  pub mech : MechKind
  pub names : List ℕ
  pub until : ℕ
  pub lives : standing id before.log ≡ Whole mech names until
  pub timely : now ≤ until
  pub honest : Honest program octets (token_end outcome Initiator) n procedure args
  pub handle : handle_id honest.cred.context ≡ Some id
  -- as the octets of each key that a program has
  pub key : HasOctets outcome.key

-- a look showed the context
pub record IsShown (id : ℕ) (outcome : Outcome) (looked : Result Lease LookRefusal) : Type 0 where
  pub lease : Lease
  pub is : looked ≡ Ok lease
  pub shows : lease.id ≡ id
  pub outcome_is : lease.outcome ≡ outcome

-- a record whose context was shown by this lease: where a rule decides, its admission was asked and
-- answered, and nothing else was asked
pub record AsksAdmission (octets : List ℕ) (kept : KeptAnswers) (serves : Serving) (lease : Lease)
    (id n : ℕ) (service : Service) (procedure : ℕ) (args : List ℕ) : Type 0 where
  pub answer : Result Admitted AdmitRefusal
  pub is : kept.admitted ≡ Some answer
  pub asked : (record_ruling octets kept serves).asked ≡ AskedLook id kept.now (Ok lease)
      ∷ AskedAdmit lease n service procedure args answer ∷ []

-- its number was admitted, the call is the log's next entry, and the rule is that of what became of
-- the call
pub record IsAdmitted (log : List (Asked Receipt)) (octets : List ℕ) (kept : KeptAnswers)
    (serves : Serving) (id n procedure : ℕ) (args : List ℕ)
    (answer : Result Admitted AdmitRefusal) : Type 0 where
  pub admitted : Admitted
  pub answered : answer ≡ Ok admitted
  pub receipt : admitted.receipt ≡ receipt_of (logged log) (Call id n procedure (sha1 args))
  pub rule : (record_ruling octets kept serves).rule ≡ rule_of_outcome admitted.outcome

-- the look of such a call, whose answer was kept, stands in a history whose answers are what the
-- log before them says. Then the look showed the context; where a rule decides, the call's
-- admission was asked behind it. And if before that, by the log, the context isn't ended, the
-- number is at most 0x80000000, above the floor of the context's window and wasn't called, and the
-- log has a place (`Free`), the call is admitted
pub record ArrivesSeen (limits : Limits) (octets : List ℕ) (kept : KeptAnswers) (serves : Serving)
    (outcome : Outcome) (id n : ℕ) (service : Service) (procedure : ℕ) (args : List ℕ)
    (earlier : List (Asked Receipt)) (looked : Result Lease LookRefusal)
    (behind : List (Asked Receipt)) : Type 0 where
  pub shown : IsShown id outcome looked
  pub asks : IsDecided (record_ruling octets kept serves)
      → AsksAdmission octets kept serves shown.lease id n service procedure args
  pub done : (between later : List (Asked Receipt)) (answer : Result Admitted AdmitRefusal)
      → behind ≡ between ++ booked (AskedAdmit shown.lease n service procedure args answer) ∷ later
      → kept.admitted ≡ Some answer
      → Free limits.log limits.width
      (logged (earlier ++ AskedLook id kept.now looked ∷ between)) id n
      → IsAdmitted (earlier ++ AskedLook id kept.now looked ∷ between) octets kept serves id n
      procedure args answer

-- so it is in every history whose answers are seen, as `run_server` has one
abbrev pub SeenArrivalLaw : Type 0
SeenArrivalLaw = (setup : AcceptSetup) (limits : Limits) (start : ℕ) (all : List (Asked Receipt))
    → AllSeen setup limits start all → (octets : List ℕ) (kept : KeptAnswers) (serves : Serving)
    (outcome : Outcome) (id ends n procedure : ℕ) (args : List ℕ)
    (earlier : List (Asked Receipt)) (looked : Result Lease LookRefusal)
    (behind : List (Asked Receipt)) → all ≡ earlier ++ AskedLook id kept.now looked ∷ behind
    → kept.looked ≡ Some looked
    → (comes : ComesSeen serves.program (before_of setup limits start earlier) octets kept.now
    outcome id ends n procedure args) → ArrivesSeen limits octets kept serves outcome id n
    (service_of comes.honest.cred.service) procedure args earlier looked behind
