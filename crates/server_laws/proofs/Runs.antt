-- Records that a book answered in a row are a run of the world.
use Rattle.std.proofs.Common.{◌≡◌, ◌∙◌, ℕ, refl, ap, sym, subst, List, [], ◌∷◌, ◌++◌, slice_get, Some, None}
use Rattle.accept_book.specs.Booking.{BookOf}
use Rattle.accept_book.specs.RecordShown.{Asked}
use Rattle.accept_book.specs.declared.book_answer.Admitted.{Admitted}
use Rattle.rpc_program.specs.Programs.{Serving}
use Rattle.gss_server.specs.Hearing.{serving}
use Rattle.world_laws.proofs.Growing.{run-grows}
use Rattle.gss_server.specs.Asking.{Asking}
use Rattle.world_laws.specs.declared.event.WorldEvent.{WorldEvent}
use Rattle.world_laws.specs.Events.{IsBook, Run}
use Rattle.world_laws.specs.State.{InHand, World}
use Rattle.server_laws.specs.Served.{LegalAnswers, Answered, AllAnswered, Serves, ServedLaw, Meanwhile, IsRun, AllServedLaw, ruling_at}
use Rattle.server_laws.proofs.Turns.{serves}

pub run-join : (a b c : World) (front later : List WorldEvent) → Run a front b → Run b later c → Run a (front ++ later) c
run-join a b c [] later first second = subst (λ (w : World). Run w later c) first second
run-join a b c (event ∷ front) later first second = (first.0, run-join first.0.world b c front later first.1 second)

-- a book stays legal
legal-after : (old new : BookOf) (asked : List (Asked Admitted)) → IsBook old → Asking LegalAnswers old asked new → IsBook new
legal-after old new [] legal answers = subst IsBook (sym answers) legal
legal-after old new (one ∷ more) legal answers = legal-after answers.0 new more answers.1.1 answers.2

-- what is served stays
pub serves-stays : (old : World) (events : List WorldEvent) (new : World) → Run old events new → new.serves ≡ old.serves
serves-stays old events new run = (run-grows old events new run).serves

moved-answered : (a b : BookOf) (served served' : Serving) (width : ℕ) (hand : InHand) (new : BookOf) → a ≡ b → served ≡ served' → Answered LegalAnswers (serving served'.program width) hand b new → Answered LegalAnswers (serving served.program width) hand a new
moved-answered a b served served' width hand new same serves-is answered =
    subst (λ (old : BookOf). Answered LegalAnswers (serving served.program width) hand old new) (sym same) (subst (λ (v : Serving). Answered LegalAnswers (serving v.program width) hand b new) (sym serves-is) answered)

moved-all : (a b : BookOf) (served served' : Serving) (width : ℕ) (hands : List InHand) (new : BookOf) → a ≡ b → served ≡ served' → AllAnswered LegalAnswers (serving served'.program width) hands b new → AllAnswered LegalAnswers (serving served.program width) hands a new
moved-all a b served served' width hands new same serves-is answered =
    subst (λ (old : BookOf). AllAnswered LegalAnswers (serving served.program width) hands old new) (sym same) (subst (λ (v : Serving). AllAnswered LegalAnswers (serving v.program width) hands b new) (sym serves-is) answered)

-- a record is served, and then the others are
more-run : (w : World) (lane : ℕ) (meanwhile : (w : World) → Meanwhile w) (hand : InHand) (more : List InHand) (middle book : BookOf) (t : Serves lane hand (meanwhile w).next middle)
    → IsRun lane meanwhile more t.next book → IsRun lane meanwhile (hand ∷ more) w book
more-run w lane meanwhile hand more middle book t r =
    let m = meanwhile w in record {
      events = m.events ++ (t.events ++ r.events);
      next = r.next;
      run = run-join w m.next r.next m.events (t.events ++ r.events) m.run (run-join m.next t.next r.next t.events r.events t.run r.run);
      serves = (middle, t, r.serves);
      booked = r.booked;
    }

first-turn : (w : World) (lane width : ℕ) (m : Meanwhile w) (hand : InHand) (middle : BookOf) → IsBook w.book → slice_get w.lanes lane ≡ Some None → Answered LegalAnswers (serving w.serves.program width) hand w.book middle
    → Serves lane hand m.next middle
first-turn w lane width m hand middle legal free answered =
    serves m.next lane width hand middle (subst IsBook (sym m.book) legal) (ap (λ xs. slice_get xs lane) m.lanes ∙ free)
    (moved-answered m.next.book w.book m.next.serves w.serves width hand middle m.book (serves-stays w m.events m.next m.run) answered)

pub all-served : AllServedLaw
all-served w lane width meanwhile [] book legal free answered =
    let m = meanwhile w in record { events = m.events; next = m.next; run = m.run; serves = refl; booked = m.book ∙ sym answered }
all-served w lane width meanwhile (hand ∷ more) book legal free answered =
    let t = first-turn w lane width (meanwhile w) hand answered.0 legal free answered.1 in
    more-run w lane meanwhile hand more answered.0 book t
    (all-served t.next lane width meanwhile more book (subst IsBook (sym t.booked) (legal-after w.book answered.0 (ruling_at (serving w.serves.program width) hand).asked legal answered.1.asked))
    (ap (λ xs. slice_get xs lane) (t.lanes ∙ (meanwhile w).lanes) ∙ free) (moved-all t.next.book answered.0 t.next.serves w.serves width more book t.booked (serves-stays (meanwhile w).next t.events t.next t.run ∙ serves-stays w (meanwhile w).events (meanwhile w).next (meanwhile w).run) answered.2))

pub served : ServedLaw
served w lane width hand book legal free answered = serves w lane width hand book legal free answered
