-- No token is refused for want of memory, and none by a journal.
use Rattle.std.proofs.Common.{◌≡◌, ◌≢◌, ℕ, ◌+◌, Bool, true, false, nat_lt, nat_le, if◌then◌else◌, List, length, Option, None, Some, refl, subst}
use Rattle.std.specs.Prelude.{Result, Ok, Err, is_none, ◌&&◌}
use Rattle.gss_base.specs.declared.mark.Mark.{Mark}
use Rattle.spnego_core.specs.declared.refusal.NegRefusal.{NegRefusal}
use Rattle.spnego_core.specs.declared.setup.AcceptSetup.{AcceptSetup}
use Rattle.spnego_core.specs.declared.accept_end.AcceptEnd.{AcceptEnd}
use Rattle.spnego_core.specs.declared.accept_end.AcceptEnd.TheVariants as ends
use Rattle.spnego_core.specs.declared.accept_end.AcceptStep.{AcceptStep}
use Rattle.spnego_core.specs.declared.accept_end.AcceptStep.TheVariants as steps
use Rattle.spnego_core.specs.declared.accept_end.Answered.{Answered}
use Rattle.spnego_core.specs.declared.accept_end.Answered.TheVariants as afters
use Rattle.spnego_core.specs.Accepting.{Accepted, accept_step}
use Rattle.spnego_core.specs.AcceptLaws.{AcceptLaws}
use Rattle.spnego_core.specs.Reasons.{neg_wants_memory}
use Rattle.context_table.specs.Places.{slot_at, live_of, state_of}
use Rattle.accept_core.specs.declared.answer.MarkRefusal.{MarkRefusal}
use Rattle.accept_core.specs.declared.answer.MarkRefusal.TheVariants as marks
use Rattle.accept_book.specs.declared.book_answer.BookRefusal.TheVariants as refusals
use Rattle.accept_book.specs.declared.book_answer.NegAnswer.{NegAnswer}
use Rattle.accept_book.specs.declared.book_answer.NegAnswer.TheVariants as answers
use Rattle.accept_core.specs.History.{Standing, Unknown, Open, Whole, Over, standing, taken_of}
use Rattle.accept_core.specs.Entering.{id_of, mark_refused}
use Rattle.accept_book.specs.Booking.{Stands, Outcomes, answer_after, answer_with, mark_of, settled_of, refusal_of_mark, by_mark, by_step, later_step, begun, opened_by, gone_on_by, negotiated}

-- an answer has a reason where it refuses by an end, and no journal refused it
unfoldable Reasoned : NegAnswer → Type 0
Reasoned (answers.Refused (refusals.Neg refusal)) = neg_wants_memory refusal ≡ false
Reasoned (answers.Refused refusals.Journal) = ⊥
Reasoned answer = Unit {0}

after-reasoned : (id : ℕ) (after : Answered) → Reasoned (answer_after id after)
unfolding Reasoned
after-reasoned id (afters.More end token) = tt
after-reasoned id (afters.Done outcome lasts token) = tt

with-reasoned : (id : ℕ) (step : AcceptStep) → Reasoned (answer_with id step)
unfolding Reasoned
with-reasoned id (steps.More end token) = tt
with-reasoned id (steps.Done outcome lasts token) = tt
with-reasoned id (steps.WantsAuth pause) = after-reasoned id pause.after

mark-reasoned : (refusal : MarkRefusal) → Reasoned (answers.Refused (refusal_of_mark refusal))
unfolding Reasoned
mark-reasoned (marks.Stale greatest) = tt
mark-reasoned (marks.Repeat place) = tt
mark-reasoned marks.CacheFull = tt

marked-reasoned : (book : Stands) (id past : Option ℕ) (mark : Option Mark) (step : AcceptStep) (refusal : Option MarkRefusal) → Reasoned (by_mark book id past mark step refusal).answer
marked-reasoned book id past mark step None = with-reasoned (id_of id book.history) step
marked-reasoned book id past mark step (Some refusal) = mark-reasoned refusal

step-reasoned : (book : Stands) (id past : Option ℕ) (r : Result Accepted NegRefusal) → ((refusal : NegRefusal) → r ≡ Err refusal → neg_wants_memory refusal ≡ false) → Reasoned (by_step book id past r).answer
unfolding Reasoned
step-reasoned book id past (Err refusal) h = h refusal refl
step-reasoned book id past (Ok accepted) h =
    marked-reasoned book id past (mark_of accepted.step) (settled_of accepted.step) (mark_refused book.capacity book.greatest (taken_of book.history) (mark_of accepted.step))

if-reasoned : (b : Bool) (x y : Outcomes) → Reasoned x.answer → Reasoned y.answer → Reasoned (if b then x else y).answer
if-reasoned true x y h k = h
if-reasoned false x y h k = k

begun-reasoned : AcceptLaws → (setup : AcceptSetup) (book : Stands) (past : Option ℕ) (token : List ℕ) (now : ℕ) (draws : List ℕ) → Reasoned (begun setup book past token now draws).answer
unfolding Reasoned
begun-reasoned laws setup book past token now draws =
    if-reasoned (nat_lt book.limit (length book.history + 4)) _ _ tt
    (if-reasoned (nat_le book.table.limit (live_of book.table) && is_none past) _ _ tt
    (step-reasoned book None past (accept_step setup ends.New token now draws) (laws.reasons setup ends.New token now draws)))

later-reasoned : AcceptLaws → (setup : AcceptSetup) (end : Option AcceptEnd) (token : List ℕ) (now : ℕ) (draws : List ℕ) (refusal : NegRefusal) → later_step setup end token now draws ≡ Err refusal → neg_wants_memory refusal ≡ false
later-reasoned laws setup None token now draws = laws.reasons setup ends.New token now draws
later-reasoned laws setup (Some end) token now draws = laws.reasons setup end token now draws

opened-reasoned : AcceptLaws → (setup : AcceptSetup) (book : Stands) (id : ℕ) (past : Option ℕ) (token : List ℕ) (now : ℕ) (draws : List ℕ) → Reasoned (opened_by setup book id past token now draws).answer
unfolding Reasoned
opened-reasoned laws setup book id past token now draws =
    if-reasoned (nat_lt book.limit (length book.history + 4)) _ _ tt
    (step-reasoned book (Some id) past (later_step setup (state_of (slot_at book.table id)) token now draws) (later-reasoned laws setup (state_of (slot_at book.table id)) token now draws))

gone_on-reasoned : AcceptLaws → (standing : Standing) (setup : AcceptSetup) (book : Stands) (id : ℕ) (past : Option ℕ) (token : List ℕ) (now : ℕ) (draws : List ℕ) → Reasoned (gone_on_by standing setup book id past token now draws).answer
unfolding Reasoned
gone_on-reasoned laws Unknown setup book id past token now draws = tt
gone_on-reasoned laws (Open at) setup book id past token now draws = opened-reasoned laws setup book id past token now draws
gone_on-reasoned laws (Whole mech names until) setup book id past token now draws = tt
gone_on-reasoned laws Over setup book id past token now draws = tt

negotiated-reasoned : AcceptLaws → (setup : AcceptSetup) (book : Stands) (id past : Option ℕ) (token : List ℕ) (now : ℕ) (draws : List ℕ) → Reasoned (negotiated setup book id past token now draws).answer
negotiated-reasoned laws setup book None past token now draws = begun-reasoned laws setup book past token now draws
negotiated-reasoned laws setup book (Some id) past token now draws = gone_on-reasoned laws (standing id book.history) setup book id past token now draws

reason-of : (answer : NegAnswer) (refusal : NegRefusal) → Reasoned answer → answer ≡ answers.Refused (refusals.Neg refusal) → neg_wants_memory refusal ≡ false
unfolding Reasoned
reason-of answer refusal h is = subst Reasoned is h

pub reasons : AcceptLaws → (setup : AcceptSetup) (book : Stands) (id past : Option ℕ) (token : List ℕ) (now : ℕ) (draws : List ℕ) (refusal : NegRefusal)
    → (negotiated setup book id past token now draws).answer ≡ answers.Refused (refusals.Neg refusal) → neg_wants_memory refusal ≡ false
reasons laws setup book id past token now draws refusal =
    reason-of (negotiated setup book id past token now draws).answer refusal (negotiated-reasoned laws setup book id past token now draws)

no-journal : (answer : NegAnswer) → Reasoned answer → answer ≡ answers.Refused refusals.Journal → ⊥
unfolding Reasoned
no-journal answer h is = subst Reasoned is h

pub unjournaled : AcceptLaws → (setup : AcceptSetup) (book : Stands) (id past : Option ℕ) (token : List ℕ) (now : ℕ) (draws : List ℕ)
    → (negotiated setup book id past token now draws).answer ≢ answers.Refused refusals.Journal
unjournaled laws setup book id past token now draws =
    no-journal (negotiated setup book id past token now draws).answer (negotiated-reasoned laws setup book id past token now draws)
