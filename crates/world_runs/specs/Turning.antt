-- One turn of a lane: how a book answers one question of a record, and what comes of the record.
-- It isn't needed to read the headline.
use Rattle.std.specs.Prelude.{◌≡◌, ◌⊎◌, ℕ, Bool, true, false, max, Option, Some, None, Result, Ok}
use Rattle.std.specs.Prelude.{Err}
use Rattle.accept_core.specs.Stepping.{IsNext}
use Rattle.accept_book.specs.Booking.{BookOf}
use Rattle.accept_book.specs.RecordShown.{Asked, AskedStep, AskedLook, AskedAdmit, AskedEnd}
use Rattle.accept_book.specs.RecordShown.{booked}
use Rattle.accept_core.specs.declared.answer.LookRefusal.{LookRefusal}
use Rattle.accept_book.specs.declared.book_answer.Admitted.{Admitted}
use Rattle.accept_book.specs.declared.book_answer.Lease.{Lease}
use Rattle.gss_server.specs.Asking.{BookAnswers}
use Rattle.gss_server.specs.declared.answer.Reply.{Reply}
use Rattle.gss_server.specs.declared.answer.Reply.TheVariants as replies
use Rattle.world_laws.specs.declared.event.Happened.{Happened}
use Rattle.world_laws.specs.declared.event.Happened.TheVariants.{Sent, Stepped}
use Rattle.world_runs.specs.declared.turn.Turn.{Turn}
use Rattle.rpc_program.specs.Programs.{Serving}
use Rattle.world_laws.specs.Apart.{ToldApart}
use Rattle.world_laws.specs.State.{InHand}
use Rattle.world_laws.specs.Lanes.{question_of, ruling_of, hand_after, IsAnswer, Follows}

-- ---- the questions of a turn

-- the book answers the first question, and the result of a call that it admits is told from a list;
-- a further question is noted, and whatever is answered to it
abbrev pub AsksBy : Bool → Turn → Asked Admitted → Turn → Type 0
AsksBy true old one new = new ≡ record {
  book = old.book;
  posts = old.posts;
  looked = old.looked;
  asked = true;
  further = true;
}
AsksBy false old one new = BookAnswers old.book (booked one) new.book × ToldApart one
    × (new ≡ record {
      book = new.book;
      posts = new.posts;
      looked = old.looked;
      asked = true;
      further = old.further;
    })

-- a look that was answered before is answered so again, once
abbrev pub LooksBy : Option (Result Lease LookRefusal) → Turn → ℕ → ℕ → Result Lease LookRefusal
    → Turn → Type 0
LooksBy None old id now answer new = AsksBy old.asked old (AskedLook id now answer) new
LooksBy (Some given) old id now answer new = (answer ≡ given)
    × (new ≡ record {
      book = old.book;
      posts = old.posts;
      looked = None;
      asked = old.asked;
      further = old.further;
    })

-- how a turn answers a question of each kind: only a look may have been answered before
abbrev pub TurnAnswers : Turn → Asked Admitted → Turn → Type 0
TurnAnswers old (AskedStep id token now draws answer) new =
    AsksBy old.asked old (AskedStep id token now draws answer) new
TurnAnswers old (AskedLook id now answer) new = LooksBy old.looked old id now answer new
TurnAnswers old (AskedAdmit lease seq service procedure args answer) new =
    AsksBy old.asked old (AskedAdmit lease seq service procedure args answer) new
TurnAnswers old (AskedEnd lease seq answer) new =
    AsksBy old.asked old (AskedEnd lease seq answer) new

-- ---- what comes of the record

-- the answer, none where memory was wanted
abbrev pub happened_of : {E : Type 0} → Result Happened E → Option Happened
happened_of (Ok happened) = Some happened
happened_of (Err refusal) = None

-- what comes of a record by the rule that decided and its reply, none where memory was wanted
abbrev pub said_by : ℕ → Reply → Option Happened
said_by rule replies.Silent = Some (Stepped rule)
said_by rule (replies.Bytes octets) = Some (Sent octets)
said_by rule replies.Gone = Some (Stepped rule)
said_by rule replies.NoMemory = None

-- it is answered at once, or memory is wanted before the book is asked
pub record AtOnce (serves : Serving) (old : BookOf) (hand : InHand) (new : BookOf)
    (left : Option InHand) (answer : Option Happened) : Type 0 where
  pub answers : IsAnswer (ruling_of serves hand) answer
  pub unchanged : new ≡ old
  pub nothing : left ≡ None

-- the question that is due is asked, and the book answers it
pub record ByBook (serves : Serving) (old : BookOf) (hand : InHand) (new : BookOf)
    (left : Option InHand) (answer : Option Happened) : Type 0 where
  pub asked : Asked Admitted
  pub due : (ruling_of serves hand).due ≡ Some (question_of asked)
  pub past : Option ℕ
  pub is_past : IsNext old.core.table (max old.core.cache.greatest hand.kept.now) past
  pub answers : BookAnswers old (booked asked) new
  pub told : ToldApart asked
  pub follows : Follows serves (hand_after hand asked) answer left

-- a turn of a lane: its record is answered at once, or the question that is due is asked
abbrev pub Turned : Serving → BookOf → InHand → BookOf → Option InHand → Option Happened → Type 0
Turned serves old hand new left answer = AtOnce serves old hand new left answer
    ⊎ ByBook serves old hand new left answer
