-- The answers that a book gave to records are events of a lane of the world.
use Rattle.std.specs.Prelude.{◌≡◌, ◌⊎◌, ℕ, true, List, [], ◌∷◌, length, slice_get, Some, None}
use Rattle.std.specs.List.{AllByRecursion}
use Rattle.accept_book.specs.Booking.{BookOf}
use Rattle.accept_book.specs.RecordRule.{record_ruling}
use Rattle.accept_book.specs.RecordShown.{Ruling, Asked, booked}
use Rattle.accept_book.specs.declared.book_answer.Admitted.{Admitted}
use Rattle.gss_server.specs.Answers.{IsDecided, may_want}
use Rattle.gss_server.specs.Asking.{Asking, BookAnswers}
use Rattle.gss_server.specs.Hearing.{serving}
use Rattle.rpc_program.specs.Programs.{Serving}
use Rattle.world_laws.specs.Apart.{ToldApart}
use Rattle.world_laws.specs.declared.event.WorldEvent.{WorldEvent}
use Rattle.world_laws.specs.declared.event.WorldEvent.TheVariants.{Lane}
use Rattle.world_laws.specs.Events.{IsBook, Run}
use Rattle.world_laws.specs.State.{InHand, World}

-- ---- records that were answered

-- what a book may answer to what it has of a gate's question; the result of an admitted call is
-- told apart from a list of mechanisms
abbrev pub GateAnswers : BookOf → Asked Admitted → BookOf → Type 0
GateAnswers old one new = BookAnswers old (booked one) new × ToldApart one

-- the same, and the book's log is legal afterwards
abbrev pub LegalAnswers : BookOf → Asked Admitted → BookOf → Type 0
LegalAnswers old one new = GateAnswers old one new × IsBook new

-- what a record comes to by the answers that were kept for it, where this is served
abbrev pub ruling_at : Serving → InHand → Ruling
ruling_at serves hand = record_ruling hand.octets hand.kept serves

-- a rule decides, or memory was wanted where it may be
abbrev pub IsOver : Ruling → Type 0
IsOver ruling = IsDecided ruling ⊎ (may_want ruling ≡ true)

-- a record was answered: 82 octets were drawn for it, the book was asked exactly the rule's
-- questions, in order, and answered as it may
pub record Answered
    (Answers : BookOf → Asked Admitted → BookOf → Type 0) (serves : Serving) (hand : InHand)
    (old new : BookOf) : Type 0 where
  pub drawn : length hand.kept.draws ≡ 82
  pub over : IsOver (ruling_at serves hand)
  pub asked : Asking Answers old (ruling_at serves hand).asked new

-- records were answered, one after the other
abbrev pub AllAnswered : (BookOf → Asked Admitted → BookOf → Type 0) → Serving → List InHand
    → BookOf → BookOf → Type 0
AllAnswered Answers serves [] old new = new ≡ old
AllAnswered Answers serves (hand ∷ more) old new = (middle : BookOf)
    × Answered Answers serves hand old middle × AllAnswered Answers serves more middle new

-- ---- the events that they are

-- a lane's event with this record
abbrev pub event_of : ℕ → InHand → WorldEvent
event_of lane hand = Lane lane hand.octets hand.kept.now hand.kept.draws

-- events of one lane with one record lead to a world of this book, in which the initiators and the
-- lanes are as they were
pub record Serves (lane : ℕ) (hand : InHand) (old : World) (book : BookOf) : Type 0 where
  pub events : List WorldEvent
  pub only : AllByRecursion (λ event. event ≡ event_of lane hand) events
  pub next : World
  pub run : Run old events next
  pub booked : next.book ≡ book
  pub facts : next.facts ≡ old.facts
  pub stages : next.stages ≡ old.stages
  pub lanes : next.lanes ≡ old.lanes

-- so it is of each record, from every world with a free lane, whatever width its reply told: the
-- questions of a rule, and whether it decides, don't depend on the width
abbrev pub ServedLaw : Type 0
ServedLaw = (w : World) (lane width : ℕ) (hand : InHand) (book : BookOf) → IsBook w.book
    → slice_get w.lanes lane ≡ Some None
    → Answered LegalAnswers (serving w.serves.program width) hand w.book book
    → Serves lane hand w book

-- ---- records in a row

-- what happens elsewhere meanwhile: events that leave the book and the lanes as they are, as those
-- of initiators do
pub record Meanwhile (old : World) : Type 0 where
  pub events : List WorldEvent
  pub next : World
  pub run : Run old events next
  pub book : next.book ≡ old.book
  pub lanes : next.lanes ≡ old.lanes

-- one lane serves records, one after the other, and before each of them, and after the last, there
-- is what happens meanwhile
abbrev pub ServesAll : ℕ → ((w : World) → Meanwhile w) → List InHand → World → World → Type 0
ServesAll lane meanwhile [] old new = new ≡ (meanwhile old).next
ServesAll lane meanwhile (hand ∷ more) old new = (book : BookOf)
    × (turn : Serves lane hand (meanwhile old).next book)
    × ServesAll lane meanwhile more turn.next new

-- a run of the world in which one lane serves these records, to a world of this book
pub record IsRun (lane : ℕ) (meanwhile : (w : World) → Meanwhile w) (hands : List InHand)
    (old : World) (book : BookOf) : Type 0 where
  pub events : List WorldEvent
  pub next : World
  pub run : Run old events next
  pub serves : ServesAll lane meanwhile hands old next
  pub booked : next.book ≡ book

-- so it is of all records that a book answered, whatever happens elsewhere meanwhile
abbrev pub AllServedLaw : Type 0
AllServedLaw = (w : World) (lane width : ℕ) (meanwhile : (w : World) → Meanwhile w)
    (hands : List InHand) (book : BookOf) → IsBook w.book → slice_get w.lanes lane ≡ Some None
    → AllAnswered LegalAnswers (serving w.serves.program width) hands w.book book
    → IsRun lane meanwhile hands w book
