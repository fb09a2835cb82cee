-- What a reader knows who has the setup and the limits of a book, and all that it was asked and
-- answered so far.
use Rattle.std.specs.Prelude.{◌≡◌, ◌⊎◌, ℕ, ◌<◌, ◌≤◌, ◌==◌, max, nat_le, ◌&&◌, Bool, false, List, []}
use Rattle.std.specs.Prelude.{◌∷◌, if◌then◌else◌, slice_get, Option, None, Some, is_none, Result}
use Rattle.std.specs.Prelude.{Ok, Err}
use Rattle.spnego_core.specs.declared.outcome.Outcome.{Outcome}
use Rattle.spnego_core.specs.declared.refusal.NegRefusal.{NegRefusal}
use Rattle.spnego_core.specs.declared.setup.AcceptSetup.{AcceptSetup}
use Rattle.spnego_core.specs.declared.accept_end.AcceptEnd.{AcceptEnd}
use Rattle.spnego_core.specs.declared.accept_end.AcceptEnd.TheVariants as ends
use Rattle.spnego_core.specs.Accepting.{Accepted, accept_step}
use Rattle.accept_core.specs.declared.answer.Next.{Next}
use Rattle.accept_core.specs.declared.answer.Next.TheVariants as nexts
use Rattle.accept_core.specs.declared.entry.Entry.{Entry}
use Rattle.accept_core.specs.declared.entry.Limits.{Limits}
use Rattle.accept_core.specs.History.{Standing, Unknown, Open, Whole, Over, standing, living}
use Rattle.accept_core.specs.History.{IsOpen}
use Rattle.accept_core.specs.Aging.{in_use}
use Rattle.accept_core.specs.Stepping.{gone_of, is_crowded, settles}
use Rattle.accept_core.specs.Replays.{end_of_opened}
use Rattle.accept_book.specs.Booking.{next_of, settled_of}
use Rattle.accept_book.specs.RecordShown.{Asked, AskedStep, AskedLook, AskedAdmit, AskedEnd}
use Rattle.accept_book.specs.declared.book_answer.Lease.{Lease}
use Rattle.accept_book.specs.declared.book_answer.NegAnswer.{NegAnswer}
use Rattle.accept_book.specs.declared.book_answer.NegAnswer.TheVariants as answers
use Rattle.history_laws.specs.Receipts.{logged}
use Rattle.accept_core.specs.declared.entry.Receipt.{Receipt}

-- ---- moments

-- the greatest moment that was seen: of the opening, and of the questions that have one
unfoldable pub greatest_of : ℕ → List (Asked Receipt) → ℕ
greatest_of start [] = start
greatest_of start (AskedStep id token now draws answer ∷ more) = greatest_of (max start now) more
greatest_of start (AskedLook id now answer ∷ more) = greatest_of (max start now) more
greatest_of start (AskedAdmit lease seq service procedure args answer ∷ more) =
    greatest_of start more
greatest_of start (AskedEnd lease seq answer ∷ more) = greatest_of start more

-- ---- the steps of a context

-- a token that was taken for a context, with its moment and draws
pub record Step : Type 0 where
  pub token : List ℕ
  pub now : ℕ
  pub draws : List ℕ

-- the answer goes on with the context of this id, or settles it
abbrev pub is_for : ℕ → NegAnswer → Bool
is_for id (answers.Going own token) = own == id
is_for id (answers.Settled lease token) = lease.id == id
is_for id (answers.Refused refusal) = false
is_for id answers.NoMemory = false

-- the steps of an id, in order: the tokens whose answers go on with it or settle it
unfoldable pub steps_of : ℕ → List (Asked Receipt) → List Step
steps_of id [] = []
steps_of id (AskedStep asked token now draws answer ∷ more) =
    if is_for id answer.answer
    then record { token = token; now = now; draws = draws } ∷ steps_of id more
    else steps_of id more
steps_of id (AskedLook other now answer ∷ more) = steps_of id more
steps_of id (AskedAdmit lease seq service procedure args answer ∷ more) = steps_of id more
steps_of id (AskedEnd lease seq answer ∷ more) = steps_of id more

-- what the acceptor's machine has made of a context: it negotiates, by this end; or it is settled,
-- with this outcome, until this moment
pub data Made : Type 0 where
  Negotiates : (end : AcceptEnd) → Made
  Settles : (outcome : Outcome) (ends : ℕ) → Made

-- what a step makes of its context
abbrev pub made_by : Next AcceptEnd Outcome → Made
made_by (nexts.Going end) = Negotiates end
made_by (nexts.Settled mech names outcome ends) = Settles outcome ends

-- what the machine's answer makes of its context, where it takes the token
abbrev pub made_of : Result Accepted NegRefusal → Option Made
made_of (Ok accepted) = Some (made_by (next_of (settled_of accepted.step)))
made_of (Err refusal) = None

-- one step more; none comes after a context is settled
abbrev pub then_step : AcceptSetup → Option Made → Step → Option Made
then_step setup None step = None
then_step setup (Some (Negotiates end)) step =
    made_of (accept_step setup end step.token step.now step.draws)
then_step setup (Some (Settles outcome ends)) step = None

-- steps in a row
unfoldable pub then_steps : AcceptSetup → Option Made → List Step → Option Made
then_steps setup made [] = made
then_steps setup made (step ∷ more) = then_steps setup (then_step setup made step) more

-- what the machine makes of a context of this id by its steps, beginning with a new end; of no
-- steps it is that end
abbrev pub made_in : AcceptSetup → ℕ → List (Asked Receipt) → Option Made
made_in setup id asked = then_steps setup (Some (Negotiates ends.New)) (steps_of id asked)

-- ---- before a question

-- the setup and the limits, the greatest moment that was seen, the log, the newest entry first, and
-- the questions with their answers
pub record Before : Type 0 where
  pub setup : AcceptSetup
  pub limits : Limits
  pub greatest : ℕ
  pub log : List Entry
  pub asked : List (Asked Receipt)

-- what stands after these questions of a book that was opened at a moment, without entries: the log
-- is what the receipts of the answers tell
abbrev pub before_of : AcceptSetup → Limits → ℕ → List (Asked Receipt) → Before
before_of setup limits start asked = record {
  setup = setup;
  limits = limits;
  greatest = greatest_of start asked;
  log = logged asked;
  asked = asked;
}

-- the greatest moment once this one was seen
abbrev pub moment_of : Before → ℕ → ℕ
moment_of before now = max before.greatest now

-- what the machine has made of a token's context: of a first token's it is a new end
abbrev pub made_before : Before → Option ℕ → Option Made
made_before before None = Some (Negotiates ends.New)
made_before before (Some id) = made_in before.setup id before.asked

-- ---- when contexts end

-- when a context ends that is opened and not ended, by what the log says of its id
abbrev pub ends_by : Standing → Option ℕ
ends_by Unknown = None
ends_by (Open at) = Some (end_of_opened at)
ends_by (Whole mech names ends) = Some ends
ends_by Over = None

-- the end lies before the moment
abbrev pub IsOver : Option ℕ → ℕ → Type 0
IsOver None now = ⊥
IsOver (Some ends) now = ends < now

-- it doesn't, if there is one
abbrev pub Lasts : Option ℕ → ℕ → Type 0
Lasts None now = Unit {0}
Lasts (Some ends) now = now ≤ ends

-- the least id whose context is past its end by the log; or there is none
abbrev pub PastBy : List Entry → ℕ → Option ℕ → Type 0
PastBy log now None = (id : ℕ) → Lasts (ends_by (standing id log)) now
PastBy log now (Some id) = IsOver (ends_by (standing id log)) now
    × ((other : ℕ) → other < id → Lasts (ends_by (standing other log)) now)

-- the least id whose context negotiates by the log, and so was opened first; or there is none
abbrev pub OpenBy : List Entry → Option ℕ → Type 0
OpenBy log None = (id : ℕ) → IsOpen (standing id log) → ⊥
OpenBy log (Some id) =
    IsOpen (standing id log) × ((other : ℕ) → other < id → IsOpen (standing other log) → ⊥)

-- by the log the context that gives its place to a new one, with so many places: one that is past
-- its end, else the one that negotiates and was opened first; of one place only the former
abbrev pub NextBy : ℕ → List Entry → ℕ → Option ℕ → Type 0
NextBy contexts log now None = PastBy log now None × (1 < contexts → OpenBy log None)
NextBy contexts log now (Some id) =
    PastBy log now (Some id) ⊎ (PastBy log now None × (1 < contexts) × OpenBy log (Some id))

-- by the log the context that goes for a step of an id: where it settles and complete ones have
-- their share, the one of them that was used longest ago; else where a first token finds as many
-- that live as may, the next
abbrev pub goes_before : Before → Option ℕ → Next AcceptEnd Outcome → Option ℕ → Option ℕ
goes_before before id step next =
    gone_of (is_crowded (settles step) before.log before.limits.contexts)
    (is_none id && nat_le before.limits.contexts (living before.log))
    (slice_get (in_use before.log) 0) next

-- ---- leases

-- a look gave this lease
abbrev pub Gives : {A : Type 0} → Lease → Asked A → Type 0
Gives lease (AskedStep id token now draws answer) = ⊥
Gives lease (AskedLook id now answer) = answer ≡ Ok lease
Gives lease (AskedAdmit other seq service procedure args answer) = ⊥
Gives lease (AskedEnd other seq answer) = ⊥

-- a look of these questions gave it
abbrev pub IsGiven : {A : Type 0} → Lease → List (Asked A) → Type 0
IsGiven lease [] = ⊥
IsGiven lease (one ∷ more) = Gives lease one ⊎ IsGiven lease more
