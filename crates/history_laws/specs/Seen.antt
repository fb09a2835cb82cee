-- Each answer of a book is what the log before it says, together with the questions before it.
use Rattle.std.specs.Prelude.{◌≡◌, ℕ, ◌+◌, ◌<◌, ◌≤◌, Bool, true, false, if◌then◌else◌, List, []}
use Rattle.std.specs.Prelude.{◌∷◌, ◌++◌, length, Option, None, Some, IfSome, Result, Ok, Err}
use Rattle.sha1.specs.Sha1.{sha1}
use Rattle.gss_base.specs.declared.mark.Mark.{Mark}
use Rattle.krb_derive.specs.declared.key.Key.{Key}
use Rattle.replay_cache.specs.Taking.{kept_of, place_of, skew}
use Rattle.spnego_core.specs.declared.setup.AcceptSetup.{AcceptSetup}
use Rattle.spnego_core.specs.declared.accept_end.AcceptEnd.{AcceptEnd}
use Rattle.spnego_core.specs.declared.refusal.NegRefusal.{NegRefusal}
use Rattle.spnego_core.specs.Accepting.{Accepted, accept_step}
use Rattle.accept_core.specs.declared.answer.AdmitRefusal.{AdmitRefusal}
use Rattle.accept_core.specs.declared.answer.AdmitRefusal.TheVariants as admits
use Rattle.accept_core.specs.declared.answer.LookRefusal.{LookRefusal}
use Rattle.accept_core.specs.declared.entry.EndCause.TheVariants.{Destroyed}
use Rattle.accept_core.specs.declared.entry.Entry.{Entry}
use Rattle.accept_core.specs.declared.entry.Entry.TheVariants.{Auth, Call, Ended}
use Rattle.accept_core.specs.declared.entry.Limits.{Limits}
use Rattle.accept_core.specs.declared.entry.Receipt.{Receipt}
use Rattle.accept_core.specs.Answers.{refused, or_refused, receipt_of}
use Rattle.accept_core.specs.Entering.{given, gained, id_of, entered, mark_refused}
use Rattle.accept_core.specs.History.{standing, living, entry_at, taken_of, is_whole, IsGone}
use Rattle.accept_core.specs.History.{IsOpen, Over}
use Rattle.accept_core.specs.Legal.{Legal}
use Rattle.accept_book.specs.declared.book_answer.BookRefusal.TheVariants as refusals
use Rattle.accept_book.specs.declared.book_answer.Lease.{Lease}
use Rattle.accept_book.specs.declared.book_answer.NegAnswer.{NegAnswer}
use Rattle.accept_book.specs.declared.book_answer.NegAnswer.TheVariants as answers
use Rattle.accept_book.specs.Booking.{BookOf, LeasedBy, same_key, mark_of, next_of, settled_of}
use Rattle.accept_book.specs.Booking.{answer_with, after_refusal}
use Rattle.accept_book.specs.RecordShown.{Asked, AskedStep, AskedLook, AskedAdmit, AskedEnd}
use Rattle.gss_server.specs.Asking.{Asking, BookAnswers}
use Rattle.gss_server.specs.Telling.{limits_of}
use Rattle.history_laws.specs.Before.{Before, Made, Negotiates, Settles, made_in, made_before}
use Rattle.history_laws.specs.Before.{moment_of, before_of, goes_before, NextBy, IsGiven}

-- ---- a look

-- it is answered by what the log says of the id, and by the question's moment: where it is settled
-- and not ended, with a lease until its end, and after that Expired; where it is opened and neither
-- settled nor ended, NotReady; else NoContext. A lease has the outcome and the end that the machine
-- made by the steps of the id
pub record LookSeen (before : Before) (id now : ℕ) (answer : Result Lease LookRefusal) : Type
    0 where
  pub by_log : LeasedBy (standing id before.log) id now answer
  pub by_steps : (lease : Lease) → answer ≡ Ok lease
      → made_in before.setup id before.asked ≡ Some (Settles lease.outcome lease.ends)

-- ---- what takes a number

-- a context was settled with this key
abbrev pub is_key : Option Made → Key → Bool
is_key None key = false
is_key (Some (Negotiates end)) key = false
is_key (Some (Settles outcome ends)) key = same_key outcome.key key

-- why a number of a lease isn't taken: the machine didn't settle the id with the lease's key, or as
-- the log says. The id isn't settled, or is ended: Gone. The number is above 0x80000000: AboveMax.
-- It lies below the window of the greatest number that was called: Below. It was called: Repeat.
-- The log is full: LogFull
abbrev pub number_refused : Before → Lease → ℕ → Option AdmitRefusal
number_refused before lease seq =
    if is_key (made_in before.setup lease.id before.asked) lease.outcome.key
    then refused before.limits.log before.limits.width before.log lease.id seq
    else Some admits.Gone

-- of a lease that a look before gave: the machine settled its id with its key, so that the log
-- alone says why a number isn't taken; and Gone is answered exactly where the log has the id's end
pub record LeaseSeen (before : Before) (lease : Lease) (seq : ℕ)
    (refusal : Option AdmitRefusal) : Type 0 where
  pub by_log :
      refusal ≡ refused before.limits.log before.limits.width before.log lease.id seq
  pub gone : refusal ≡ Some admits.Gone → standing lease.id before.log ≡ Over
  pub ended : standing lease.id before.log ≡ Over → refusal ≡ Some admits.Gone

-- an admission: the first refusal there is, else the receipt of the call, with the lease's id, the
-- number, the procedure and the arguments' digest, at the log's length
pub record AdmitSeen (before : Before) (lease : Lease) (seq procedure : ℕ) (args : List ℕ)
    (answer : Result Receipt AdmitRefusal) : Type 0 where
  pub exactly : answer ≡ or_refused (number_refused before lease seq)
      (receipt_of before.log (Call lease.id seq procedure (sha1 args)))
  pub leased : IsGiven lease before.asked
      → LeaseSeen before lease seq (number_refused before lease seq)

-- an end: the first refusal there is, else the receipt of the id's end by this number
pub record EndSeen (before : Before) (lease : Lease) (seq : ℕ)
    (answer : Result Receipt AdmitRefusal) : Type 0 where
  pub exactly : answer ≡ or_refused (number_refused before lease seq)
      (receipt_of before.log (Ended lease.id (Destroyed seq)))
  pub leased : IsGiven lease before.asked
      → LeaseSeen before lease seq (number_refused before lease seq)

-- ---- a token

-- there is an id, of which this holds
abbrev pub OfId : Option ℕ → (ℕ → Type 0) → Type 0
OfId None Holds = ⊥
OfId (Some id) Holds = Holds id

-- the token is looked at: the context of a later one is opened, and neither settled nor ended; and
-- four places of the log are free
pub record IsDue (before : Before) (id : Option ℕ) : Type 0 where
  pub negotiates : IfSome id (λ number. IsOpen (standing number before.log))
  pub room : length before.log + 4 ≤ before.limits.log

-- the machine's answer to the token, from the end that the earlier steps of its id left; a first
-- token has none, and is answered from a new end. It has a place: if no context gives its own,
-- fewer live than may
pub record StepsTo (before : Before) (id : Option ℕ) (token : List ℕ) (now : ℕ) (draws : List ℕ)
    (answer : Result Accepted NegRefusal) : Type 0 where
  pub due : IsDue before id
  pub placed : id ≡ None → NextBy before.limits.contexts before.log (moment_of before now) None
      → living before.log < before.limits.contexts
  pub end : AcceptEnd
  pub left : made_before before id ≡ Some (Negotiates end)
  pub is : accept_step before.setup end token now draws ≡ answer

-- the machine refused the token
pub record TokenRefused (before : Before) (id : Option ℕ) (token : List ℕ) (now : ℕ)
    (draws : List ℕ) (refusal : NegRefusal) (receipts : List Receipt) : Type 0 where
  pub step : StepsTo before id token now draws (Err refusal)
  pub ends : receipts ≡ gained (length before.log) (after_refusal id before.log)

-- the machine took the token, and the mark of its authenticator was refused
pub record MarkRefused (before : Before) (id : Option ℕ) (token : List ℕ) (now : ℕ)
    (draws : List ℕ) (receipts : List Receipt) : Type 0 where
  pub accepted : Accepted
  pub step : StepsTo before id token now draws (Ok accepted)
  pub mark : Mark
  pub asks : mark_of accepted.step ≡ Some mark
  pub ends : receipts ≡ gained (length before.log) (after_refusal id before.log)

-- a greater moment was seen before, and the mark lies more than 300 seconds before it
pub record IsStale (before : Before) (now greatest : ℕ) (mark : Mark) : Type 0 where
  pub seen : greatest ≡ before.greatest
  pub later : now < greatest
  pub old : mark.at + skew < greatest

-- the log has at this place an authenticator with this mark
pub record StandsAt (log : List Entry) (place : ℕ) (mark : Mark) : Type 0 where
  pub holder : ℕ
  pub at : ℕ
  pub entry : entry_at place log ≡ Some (Auth holder mark at)

-- of the marks in the log that lie at most 300 seconds before the greatest moment none is this one,
-- and there are at least as many as there may be
pub record IsFull (before : Before) (now : ℕ) (mark : Mark) : Type 0 where
  pub new : place_of mark (kept_of (moment_of before now) (taken_of before.log)) ≡ None
  pub many : before.limits.marks ≤ length (kept_of (moment_of before now) (taken_of before.log))

-- the step was taken: its mark, where it asks for one, isn't refused. The answer is the machine's,
-- with the token's id or the next one; and the log gained the step's entries, oldest first: the end
-- of the context that went for it, if one did; that the new one was opened; the mark, where there
-- is one; and that the context goes on, if it isn't new, or is settled. Which context goes is said
-- by the log: one goes only where the step settles and complete ones have their share, or where a
-- first token finds as many that live as may
pub record StepTaken (before : Before) (id : Option ℕ) (token : List ℕ) (now : ℕ) (draws : List ℕ)
    (answer : NegAnswer) (receipts : List Receipt) : Type 0 where
  pub accepted : Accepted
  pub step : StepsTo before id token now draws (Ok accepted)
  pub unmarked : mark_refused before.limits.marks (moment_of before now) (taken_of before.log)
      (mark_of accepted.step) ≡ None
  pub says : answer ≡ answer_with (id_of id before.log) (settled_of accepted.step)
  pub past : Option ℕ
  pub is_past : NextBy before.limits.contexts before.log (moment_of before now) past
  pub gains : receipts ≡ gained (length before.log) (entered id
      (goes_before before id (next_of (settled_of accepted.step)) past) (mark_of accepted.step)
      (next_of (settled_of accepted.step)) (moment_of before now) before.log)

-- a token: by its answer, and the receipts that it has
abbrev pub StepSeen : Before → Option ℕ → List ℕ → ℕ → List ℕ → NegAnswer → List Receipt → Type 0
-- the id isn't opened, or is ended
StepSeen before id token now draws (answers.Refused refusals.NoContext) receipts =
    OfId id (λ number. IsGone (standing number before.log)) × (receipts ≡ [])
-- the id is settled and not ended
StepSeen before id token now draws (answers.Refused refusals.AlreadyComplete) receipts =
    OfId id (λ number. is_whole (standing number before.log) ≡ true) × (receipts ≡ [])
-- fewer than four places of the log are free
StepSeen before id token now draws (answers.Refused refusals.LogFull) receipts =
    IfSome id (λ number. IsOpen (standing number before.log))
    × (before.limits.log < length before.log + 4) × (receipts ≡ [])
-- a first token, as many contexts live as may, and none gives its place: none is past its end, and
-- none negotiates, but where there is one place alone
StepSeen before id token now draws (answers.Refused refusals.TableFull) receipts =
    (id ≡ None) × IsDue before id × (before.limits.contexts ≤ living before.log)
    × NextBy before.limits.contexts before.log (moment_of before now) None × (receipts ≡ [])
StepSeen before id token now draws (answers.Refused (refusals.Neg refusal)) receipts =
    TokenRefused before id token now draws refusal receipts
StepSeen before id token now draws (answers.Refused (refusals.Stale greatest)) receipts =
    (r : MarkRefused before id token now draws receipts) × IsStale before now greatest r.mark
StepSeen before id token now draws (answers.Refused (refusals.Repeat place)) receipts =
    (r : MarkRefused before id token now draws receipts) × StandsAt before.log place r.mark
StepSeen before id token now draws (answers.Refused refusals.CacheFull) receipts =
    (r : MarkRefused before id token now draws receipts) × IsFull before now r.mark
-- no book has a journal
StepSeen before id token now draws (answers.Refused refusals.Journal) receipts = ⊥
StepSeen before id token now draws (answers.Going own reply) receipts =
    StepTaken before id token now draws (answers.Going own reply) receipts
StepSeen before id token now draws (answers.Settled lease reply) receipts =
    StepTaken before id token now draws (answers.Settled lease reply) receipts
-- memory was wanted: a later token's context ends
StepSeen before id token now draws answers.NoMemory receipts =
    receipts ≡ gained (length before.log) (after_refusal id before.log)

-- ---- any question

-- the answer to a question is what stands before it
abbrev pub Seen : Before → Asked Receipt → Type 0
Seen before (AskedStep id token now draws answer) =
    StepSeen before id token now draws answer.answer (given answer.receipts)
Seen before (AskedLook id now answer) = LookSeen before id now answer
Seen before (AskedAdmit lease seq service procedure args answer) =
    AdmitSeen before lease seq procedure args answer
Seen before (AskedEnd lease seq answer) = EndSeen before lease seq answer

-- so it is of each question of these, over those before it, from an opening at this moment
abbrev pub AllSeen : AcceptSetup → Limits → ℕ → List (Asked Receipt) → Type 0
AllSeen setup limits start all =
    (earlier : List (Asked Receipt)) (one : Asked Receipt) (later : List (Asked Receipt))
    → all ≡ earlier ++ one ∷ later → Seen (before_of setup limits start earlier) one

-- ---- the law

-- a book without entries and contexts
pub record IsEmpty (book : BookOf) : Type 0 where
  pub history : book.core.history ≡ []
  pub slots : book.core.table.slots ≡ []

-- all that a book answered since it was opened is seen, if the log that it comes to is legal
abbrev pub SeenLaw : Type 0
SeenLaw = (first last : BookOf) (all : List (Asked Receipt)) → IsEmpty first
    → Asking BookAnswers first all last → Legal last.core.width last.core.history
    → AllSeen first.setup (limits_of first.core) first.core.cache.greatest all
