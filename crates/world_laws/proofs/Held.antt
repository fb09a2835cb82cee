-- What is held of the contexts, of a world before its first event, and over each event.
use Rattle.std.proofs.Common.{◌≡◌, ◌≢◌, ◌∙◌, ℕ, ◌==◌, Bool, true, false, nat_le, max, List, [], ◌++◌, slice_get, Option, Some, None, option_map, option_to_list, append-nil, refl, sym, ap, subst, inl, inr}
use Rattle.std.proofs.lemmas.Option.{none-some, same_Some}
use Rattle.spnego_core.specs.declared.accept_end.AcceptEnd.{AcceptEnd}
use Rattle.spnego_core.specs.declared.outcome.Outcome.{Outcome}
use Rattle.spnego_core.specs.declared.setup.AcceptSetup.{AcceptSetup}
use Rattle.context_table.specs.declared.slot.Slot.{Slot as TableSlot}
use Rattle.context_table.specs.Places.{Places, slot_at}
use Rattle.accept_book.specs.declared.book_answer.Admitted.{Admitted}
use Rattle.accept_book.specs.declared.book_answer.NegAnswer.{NegAnswer}
use Rattle.accept_book.specs.declared.book_answer.NegAnswer.TheVariants as answers
use Rattle.accept_book.specs.declared.book_answer.Negotiated.{Negotiated}
use Rattle.accept_core.specs.declared.entry.Entry.{Entry}
use Rattle.accept_core.specs.declared.entry.Entry.TheVariants.{Settled}
use Rattle.accept_book.specs.Booking.{BookOf, by_outcome}
use Rattle.accept_book.specs.BookLaws.{GoodContext, BookLaws}
use Rattle.accept_core.specs.Entering.{id_of}
use Rattle.accept_book.specs.Found.{fixes_of}
use Rattle.accept_core.specs.History.{Unknown, standing, numbers}
use Rattle.accept_book.specs.RecordShown.{with_ok, booked, Asked, AskedStep, AskedLook, AskedAdmit, AskedEnd}
use Rattle.accept_core.specs.Replays.{SameSlot}
use Rattle.sha1.specs.Sha1.{sha1}
use Rattle.accept_core.specs.Stepping.{context_of, IsNext}
use Rattle.gss_client.specs.Session.{SessionState}
use Rattle.accept_book.specs.BookAnswers.{BookStepped}
use Rattle.gss_server.specs.Asking.{BookAnswers}
use Rattle.world_laws.specs.declared.event.WorldEvent.{WorldEvent}
use Rattle.world_laws.specs.declared.event.WorldEvent.TheVariants.{Start, Deliver, Lane, CallBy}
use Rattle.world_laws.specs.Stages.{StageSays}
use Rattle.world_laws.specs.Stages as stages
use Rattle.world_laws.specs.Deeds.{Deed, quiet}
use Rattle.world_laws.specs.State.{InHand, Context, World, moved_to}
use Rattle.world_laws.specs.Initiators.{Moved, calls, leaves}
use Rattle.world_laws.specs.Lanes.{in_hand, ruling_of, question_of, hand_after, accepted_in, context_with, unless_short, fixes_by, with_lane, Follows, AnswersAtOnce, Asks, LaneMoves}
use Rattle.world_laws.specs.Events.{IsBook, Idles, Moves, StartsBy, DeliversBy, CallsWith, CallsBy, LanesBy, HappensBy, Happens, Begins}
use Rattle.world_laws.proofs.Invariants.{Below, Held}
use Rattle.world_laws.proofs.HeldFacts.{Contexts, contexts_of, Facts, HandHolds, facts-of, leases-of, held-from}
use Rattle.world_laws.proofs.HeldDue.{due-moment}
use Rattle.world_laws.proofs.HeldBooks.{Passes, look-passes, admit-passes, end-passes, short-passes, comes-in, fixes-pass}
use Rattle.world_laws.proofs.HeldHands.{in-hand-holds, after-holds, more-leases, set-leases}

-- ---- before the first event

none-slot : (wide : ℕ) (slot : Option (TableSlot AcceptEnd Outcome)) (ns : List ℕ) → SameSlot by_outcome wide slot Unknown ns → context_of slot ≡ None
none-slot wide None ns same = refl
none-slot wide (Some slot) ns same = absurd same.state

none-context : (wide : ℕ) (table : Places AcceptEnd Outcome) (h : List Entry) (id : ℕ) → h ≡ [] → SameSlot by_outcome wide (slot_at table id) (standing id h) (numbers id h) → contexts_of table id ≡ None
none-context wide table h id empty same =
    none-slot wide (slot_at table id) [] (subst (λ (x : List Entry). SameSlot by_outcome wide (slot_at table id) (standing id x) (numbers id x)) empty same)

empty-facts : (setup : AcceptSetup) (c : Contexts) → ((id : ℕ) → c id ≡ None) → Facts setup [] c []
empty-facts setup c none = record {
  slots = λ id context lasting e. absurd (none-some context (sym (none id) ∙ e));
  live = λ place x context there. absurd (none-some x there);
  opened_id = λ place x there. absurd (none-some x there);
  opened_at = λ place x there. absurd (none-some x there);
  ids = λ i j x y there. absurd (none-some x there);
  auths = λ place x request there. absurd (none-some x there);
  settled = λ place id mech names ends at e. absurd (none-some (Settled id mech names ends at) e);
  best_is = λ place x there. absurd (none-some x there);
}

start-facts : (setup : AcceptSetup) (h : List Entry) (c : Contexts) (fixed : List Context) → h ≡ [] → fixed ≡ [] → ((id : ℕ) → c id ≡ None) → Facts setup h c fixed
start-facts setup h c fixed empty unfixed none =
    subst (λ (x : List Entry). Facts setup x c fixed) (sym empty) (subst (λ (f : List Context). Facts setup [] c f) (sym unfixed) (empty-facts setup c none))

no-hand : (hand : InHand) → ◌≡◌ {A = Option InHand} (Some hand) None → ⊥
no-hand hand e = none-some hand (sym e)

pub held-start : (w : World) → Begins w → Held w
held-start w begins =
    held-from w begins.book (λ id. subst (GoodContext w.book.setup) (sym (none id)) tt)
    (start-facts w.book.setup w.book.core.history (contexts_of w.book.core.table) w.fixed begins.empty begins.unfixed none)
    (λ lane hand there. absurd (no-hand hand (begins.idle lane (Some hand) there)))
  where
    none : (id : ℕ) → contexts_of w.book.core.table id ≡ None
    none id = none-context w.book.core.width w.book.core.table w.book.core.history id begins.empty (begins.book.slots id)

-- ---- a question to the book

step-passes : (laws : BookLaws) (old : World) (id past : Option ℕ) (token : List ℕ) (now : ℕ) (draws : List ℕ) (result : Negotiated) (book : BookOf) → Held old → IsBook book
    → IsNext old.book.core.table (max old.book.core.cache.greatest now) past → BookStepped old.book book id token now draws result
    → Passes (old.fixed ++ option_to_list (fixes_by old.book past (AskedStep id token now draws result))) book
step-passes laws old id past token now draws result book held is late stepped = go result.answer refl
  where
    taken : result.answer ≢ answers.NoMemory
        → Passes (old.fixed ++ option_to_list (option_map (context_with (id_of id old.book.core.history)) (fixes_of (accepted_in old.book past id token now draws)))) book
    taken memory =
        fixes-pass laws old id past token now draws book held is stepped.notes.setup (comes-in old id past token now draws result book late stepped memory)
        (fixes_of (accepted_in old.book past id token now draws)) refl

    go : (answer : NegAnswer) → result.answer ≡ answer
        → Passes (old.fixed ++ option_to_list (option_map (context_with (id_of id old.book.core.history)) (unless_short answer (fixes_of (accepted_in old.book past id token now draws))))) book
    go (answers.Going number last) e = taken (λ f. let z : answers.Going number last ≡ answers.NoMemory = sym e ∙ f in absurd cc)
    go (answers.Settled lease last) e = taken (λ f. let z : answers.Settled lease last ≡ answers.NoMemory = sym e ∙ f in absurd cc)
    go (answers.Refused refusal) e = taken (λ f. let z : answers.Refused refusal ≡ answers.NoMemory = sym e ∙ f in absurd cc)
    go answers.NoMemory e = short-passes old id token now draws result book held stepped e

question-passes : (laws : BookLaws) (old : World) (past : Option ℕ) (hand : InHand) (asked : Asked Admitted) (book : BookOf) → Held old → IsBook book
    → IsNext old.book.core.table (max old.book.core.cache.greatest hand.kept.now) past → (ruling_of old.serves hand).due ≡ Some (question_of asked) → BookAnswers old.book (booked asked) book
    → Passes (old.fixed ++ option_to_list (fixes_by old.book past asked)) book
question-passes laws old past hand (AskedStep id token now draws result) book held is late due answers =
    step-passes laws old id past token now draws result book held is
    (subst (λ (n : ℕ). IsNext old.book.core.table (max old.book.core.cache.greatest n) past) (sym (due-moment hand.octets hand.kept old.serves id token now draws due)) late) answers
question-passes laws old past hand (AskedLook id now answer) book held is late due answers = look-passes old id now answer book held answers
question-passes laws old past hand (AskedAdmit lease seq service procedure args answer) book held is late due answers =
    admit-passes old lease seq procedure (sha1 args) (with_ok (λ (admitted : Admitted). admitted.receipt) answer) book held answers
question-passes laws old past hand (AskedEnd lease seq answer) book held is late due answers = end-passes old lease seq answer book held answers

-- ---- a lane

lane-held : (old : World) (lane : ℕ) (left : Option InHand) (book : BookOf) (deed : Deed) → Held old → IsBook book → Passes (old.fixed ++ option_to_list deed.fixes) book
    → ((hand : InHand) → left ≡ Some hand → HandHolds old.fixed hand) → Held (with_lane old lane left book deed)
lane-held old lane left book deed held is passes holds =
    held-from (with_lane old lane left book deed) is passes.good passes.facts
    (more-leases _ old.fixed (option_to_list deed.fixes) (set-leases old.lanes lane left old.fixed (leases-of old held) holds))

at-once-held : (old : World) (lane : ℕ) (hand : InHand) (deed : Deed) (new : World) → Held old → AnswersAtOnce old lane hand deed new → Held new
at-once-held old lane hand deed new held a =
    subst Held (sym a.new_is)
    (lane-held old lane None old.book (quiet deed.answer) held held.book
    (subst (λ (f : List Context). Passes f old.book) (sym (append-nil old.fixed)) (record { good = held.good; facts = facts-of old held }))
    (λ other e. absurd (none-some other e)))

left-holds : (old : World) (hand : InHand) (deed : Deed) (left : Option InHand) → Follows old.serves hand deed.answer left → HandHolds old.fixed hand → (other : InHand) → left ≡ Some other → HandHolds old.fixed other
left-holds old hand deed left (inl due) holds other e = subst (HandHolds old.fixed) (same_Some hand other (sym due.3 ∙ e)) holds
left-holds old hand deed left (inr answered) holds other e = absurd (none-some other (sym answered.1 ∙ e))

asks-held : (laws : BookLaws) (old : World) (lane : ℕ) (hand : InHand) (deed : Deed) (new : World) → Held old → HandHolds old.fixed hand → IsBook new.book → Asks old lane hand deed new → Held new
asks-held laws old lane hand deed new held holds is a =
    subst Held (sym a.new_is)
    (lane-held old lane a.left new.book deed held is
    (subst (λ (f : Option Context). Passes (old.fixed ++ option_to_list f) new.book) (sym a.fixes)
    (question-passes laws old a.past hand a.asked new.book held is a.is_past a.due a.answers))
    (left-holds old (hand_after hand a.asked) deed a.left a.follows
    (after-holds old.book new.book hand a.asked old.fixed (facts-of old held).slots a.answers holds)))

moves-held : (laws : BookLaws) (old : World) (lane : ℕ) (hand : InHand) (deed : Deed) (new : World) → Held old → HandHolds old.fixed hand → IsBook new.book → LaneMoves old lane hand deed new → Held new
moves-held laws old lane hand deed new held holds is (inl a) = at-once-held old lane hand deed new held a
moves-held laws old lane hand deed new held holds is (inr a) = asks-held laws old lane hand deed new held holds is a

-- ---- each event

idles-held : (old : World) (deed : Deed) (new : World) → Held old → Idles old deed new → Held new
idles-held old deed new held idles = subst Held (sym idles.1) held

moved-held : (old : World) (i : ℕ) (moved : Moved) (deed : Deed) (new : World) → Held old → Moves old i moved deed new → Held new
moved-held old i moved deed new held (inl did) =
    subst Held (sym did.1) (held-from (moved_to old i moved.stage moved.makes) held.book held.good (facts-of old held) (leases-of old held))
moved-held old i moved deed new held (inr lost) =
    subst Held (sym lost.1) (held-from (moved_to old i moved.lost []) held.book held.good (facts-of old held) (leases-of old held))

start-held : (old : World) (i : ℕ) (stage : Option StageSays) (deed : Deed) (new : World) → Held old → StartsBy old i stage deed new → Held new
start-held old i None deed new held did = idles-held old deed new held did
start-held old i (Some (stages.Ready own)) deed new held did = moved-held old i _ deed new held did
start-held old i (Some (stages.Asks xid end)) deed new held did = idles-held old deed new held did
start-held old i (Some (stages.Stands s)) deed new held did = idles-held old deed new held did
start-held old i (Some (stages.Left s)) deed new held did = idles-held old deed new held did
start-held old i (Some stages.Over) deed new held did = idles-held old deed new held did

deliver-held : (old : World) (i : ℕ) (octets : List ℕ) (first : ℕ) (stage : Option StageSays) (deed : Deed) (new : World) → Held old → DeliversBy old i octets first stage deed new → Held new
deliver-held old i octets first None deed new held did = idles-held old deed new held did
deliver-held old i octets first (Some (stages.Ready own)) deed new held did = idles-held old deed new held did
deliver-held old i octets first (Some (stages.Asks xid end)) deed new held did = moved-held old i _ deed new held did
deliver-held old i octets first (Some (stages.Stands s)) deed new held did = idles-held old deed new held did
deliver-held old i octets first (Some (stages.Left s)) deed new held did = idles-held old deed new held did
deliver-held old i octets first (Some stages.Over) deed new held did = idles-held old deed new held did

with-held : (left last : Bool) (old : World) (i : ℕ) (s : SessionState) (procedure : ℕ) (args : List ℕ) (deed : Deed) (new : World) → Held old → CallsWith left last old i s procedure args deed new → Held new
with-held true last old i s procedure args deed new held did = moved-held old i (calls s procedure args) deed new held did
with-held false true old i s procedure args deed new held did = moved-held old i (leaves s) deed new held did
with-held false false old i s procedure args deed new held did = idles-held old deed new held did

call-held : (old : World) (i procedure : ℕ) (args : List ℕ) (stage : Option StageSays) (deed : Deed) (new : World) → Held old → CallsBy old i procedure args stage deed new → Held new
call-held old i procedure args None deed new held did = idles-held old deed new held did
call-held old i procedure args (Some (stages.Ready own)) deed new held did = idles-held old deed new held did
call-held old i procedure args (Some (stages.Asks xid end)) deed new held did = idles-held old deed new held did
call-held old i procedure args (Some (stages.Stands s)) deed new held did =
    with-held (nat_le s.number 0x7fffffff) (s.number == 0x80000000) old i s procedure args deed new held did
call-held old i procedure args (Some (stages.Left s)) deed new held did = idles-held old deed new held did
call-held old i procedure args (Some stages.Over) deed new held did = idles-held old deed new held did

lanes-held : (laws : BookLaws) (old : World) (lane : ℕ) (octets : List ℕ) (now : ℕ) (draws : List ℕ) (hand : Option (Option InHand)) (deed : Deed) (new : World) → Held old → slice_get old.lanes lane ≡ hand
    → IsBook new.book → LanesBy old lane octets now draws hand deed new → Held new
lanes-held laws old lane octets now draws None deed new held there is did = idles-held old deed new held did
lanes-held laws old lane octets now draws (Some hand) deed new held there is did =
    moves-held laws old lane (in_hand hand octets now draws) deed new held
    (in-hand-holds hand octets now draws old.fixed (λ kept e. leases-of old held lane kept (there ∙ ap Some e))) is did

event-held : (laws : BookLaws) (old : World) (event : WorldEvent) (deed : Deed) (new : World) → Held old → HappensBy old event deed new → IsBook new.book → Held new
event-held laws old (Start i) deed new held did is = start-held old i (slice_get old.stages i) deed new held did
event-held laws old (Deliver i octets first) deed new held did is = deliver-held old i octets first (slice_get old.stages i) deed new held did
event-held laws old (Lane lane octets now draws) deed new held did is = lanes-held laws old lane octets now draws (slice_get old.lanes lane) deed new held refl is did
event-held laws old (CallBy i procedure args) deed new held did is = call-held old i procedure args (slice_get old.stages i) deed new held did

pub held-step : (laws : Below) (old : World) (event : WorldEvent) (deed : Deed) (new : World) → Held old → Happens old event deed new → Held new
held-step laws old event deed new held happens = event-held laws.book old event deed new held happens.did happens.book
