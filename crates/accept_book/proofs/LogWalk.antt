-- What a token makes of a log, walked once: any fact of an old and a new log that holds where nothing
-- was added, and stays where an entry is added that is no call and no end by a call, holds of it.
use Rattle.std.proofs.Common.{ℕ, ◌+◌, Bool, true, false, nat_lt, nat_le, List, ◌∷◌, length, Option, Some, None, Result, Ok, Err}
use Rattle.std.specs.Prelude.{◌&&◌, if◌then◌else◌, is_none}
use Rattle.gss_base.specs.declared.mark.Mark.{Mark}
use Rattle.spnego_core.specs.declared.outcome.Outcome.{Outcome}
use Rattle.spnego_core.specs.declared.refusal.NegRefusal.{NegRefusal}
use Rattle.spnego_core.specs.declared.setup.AcceptSetup.{AcceptSetup}
use Rattle.spnego_core.specs.declared.accept_end.AcceptEnd.{AcceptEnd}
use Rattle.spnego_core.specs.declared.accept_end.AcceptEnd.TheVariants as ends
use Rattle.spnego_core.specs.declared.accept_end.AcceptStep.{AcceptStep}
use Rattle.spnego_core.specs.Accepting.{Accepted, accept_step}
use Rattle.context_table.specs.Places.{slot_at, live_of, state_of}
use Rattle.accept_core.specs.declared.answer.MarkRefusal.{MarkRefusal}
use Rattle.accept_core.specs.declared.answer.Next.{Next}
use Rattle.accept_core.specs.declared.answer.Next.TheVariants as nexts
use Rattle.accept_core.specs.declared.entry.EndCause.{EndCause}
use Rattle.accept_core.specs.declared.entry.EndCause.TheVariants as causes
use Rattle.accept_core.specs.declared.entry.Entry.{Entry}
use Rattle.accept_core.specs.declared.entry.Entry.TheVariants.{Opened, Auth, Went, Settled, Call, Ended}
use Rattle.accept_core.specs.History.{Standing, Unknown, Open, Whole, Over, standing, taken_of}
use Rattle.accept_core.specs.Stepping.{goes_by}
use Rattle.accept_core.specs.Entering.{id_of, lapsed, started, noted, finished, entered, mark_refused}
use Rattle.accept_book.specs.Booking.{Stands, Outcomes, mark_of, next_of, settled_of, after_refusal, by_mark, by_step, later_step, begun, opened_by, gone_on_by, negotiated}

-- a call, or an end by a call
abbrev IsDestroyed : EndCause → Type 0
IsDestroyed causes.Refused = ⊥
IsDestroyed causes.Lapsed = ⊥
IsDestroyed (causes.Destroyed seq) = Unit {0}

abbrev pub IsSaid : Entry → Type 0
IsSaid (Opened i at) = ⊥
IsSaid (Auth i mark at) = ⊥
IsSaid (Went i at) = ⊥
IsSaid (Settled i mech names until at) = ⊥
IsSaid (Call i seq procedure args) = Unit {0}
IsSaid (Ended i cause) = IsDestroyed cause

-- a fact of an old and a new log that such entries keep
pub record Walk (Grows : List Entry → List Entry → Type 0) : Type 0 where
  pub none : (h : List Entry) → Grows h h
  pub one : (entry : Entry) (old new : List Entry) → (IsSaid entry → ⊥) → Grows old new → Grows old (entry ∷ new)

lapsed-walk : {Grows : List Entry → List Entry → Type 0} (w : Walk Grows) (gone : Option ℕ) (h : List Entry) → Grows h (lapsed gone h)
lapsed-walk w None h = w.none h
lapsed-walk w (Some id) h = w.one (Ended id causes.Lapsed) h h (λ s. s) (w.none h)

started-walk : {Grows : List Entry → List Entry → Type 0} (w : Walk Grows) (id gone : Option ℕ) (now : ℕ) (h : List Entry) → Grows h (started id gone now h)
started-walk w None gone now h = w.one _ h (lapsed gone h) (λ s. s) (lapsed-walk w gone h)
started-walk w (Some id) gone now h = lapsed-walk w gone h

noted-walk : {Grows : List Entry → List Entry → Type 0} (w : Walk Grows) (mark : Option Mark) (id now : ℕ) (old h : List Entry) → Grows old h → Grows old (noted mark id now h)
noted-walk w None id now old h f = f
noted-walk w (Some mark) id now old h f = w.one (Auth id mark now) old h (λ s. s) f

finished-walk : {Grows : List Entry → List Entry → Type 0} (w : Walk Grows) (first : Bool) (step : Next AcceptEnd Outcome) (id now : ℕ) (old h : List Entry) → Grows old h
    → Grows old (finished first step id now h)
finished-walk w true (nexts.Going state) id now old h f = f
finished-walk w false (nexts.Going state) id now old h f = w.one (Went id now) old h (λ s. s) f
finished-walk w true (nexts.Settled mech names value until) id now old h f = w.one (Settled id mech names until now) old h (λ s. s) f
finished-walk w false (nexts.Settled mech names value until) id now old h f = w.one (Settled id mech names until now) old h (λ s. s) f

entered-walk : {Grows : List Entry → List Entry → Type 0} (w : Walk Grows) (id gone : Option ℕ) (mark : Option Mark) (step : Next AcceptEnd Outcome) (now : ℕ)
    (h : List Entry) → Grows h (entered id gone mark step now h)
entered-walk w id gone mark step now h =
    finished-walk w (is_none id) step (id_of id h) now h (noted mark (id_of id h) now (started id gone now h))
    (noted-walk w mark (id_of id h) now h (started id gone now h) (started-walk w id gone now h))

pub refusal-walk : {Grows : List Entry → List Entry → Type 0} (w : Walk Grows) (id : Option ℕ) (h : List Entry) → Grows h (after_refusal id h)
refusal-walk w None h = w.none h
refusal-walk w (Some id) h = w.one (Ended id causes.Refused) h h (λ s. s) (w.none h)

mark-walk : {Grows : List Entry → List Entry → Type 0} (w : Walk Grows) (book : Stands) (id past : Option ℕ) (mark : Option Mark) (step : AcceptStep) (refusal : Option MarkRefusal)
    → Grows book.history (by_mark book id past mark step refusal).history
mark-walk w book id past mark step None = entered-walk w id (goes_by id (next_of step) past book.history book.table) mark (next_of step) book.greatest book.history
mark-walk w book id past mark step (Some refusal) = refusal-walk w id book.history

step-walk : {Grows : List Entry → List Entry → Type 0} (w : Walk Grows) (book : Stands) (id past : Option ℕ) (taken : Result Accepted NegRefusal)
    → Grows book.history (by_step book id past taken).history
step-walk w book id past (Err refusal) = refusal-walk w id book.history
step-walk w book id past (Ok accepted) =
    mark-walk w book id past (mark_of accepted.step) (settled_of accepted.step) (mark_refused book.capacity book.greatest (taken_of book.history) (mark_of accepted.step))

either-walk : {Grows : List Entry → List Entry → Type 0} (w : Walk Grows) (b : Bool) (h : List Entry) (x y : Outcomes) → Grows h x.history → Grows h y.history → Grows h (if b then x else y).history
either-walk w true h x y p q = p
either-walk w false h x y p q = q

begun-walk : {Grows : List Entry → List Entry → Type 0} (w : Walk Grows) (setup : AcceptSetup) (book : Stands) (past : Option ℕ) (token : List ℕ) (now : ℕ) (draws : List ℕ)
    → Grows book.history (begun setup book past token now draws).history
begun-walk w setup book past token now draws =
    either-walk w (nat_lt book.limit (length book.history + 4)) book.history _ _ (w.none book.history)
    (either-walk w (nat_le book.table.limit (live_of book.table) && is_none past) book.history _ _ (w.none book.history)
    (step-walk w book None past (accept_step setup ends.New token now draws)))

opened-walk : {Grows : List Entry → List Entry → Type 0} (w : Walk Grows) (setup : AcceptSetup) (book : Stands) (id : ℕ) (past : Option ℕ) (token : List ℕ) (now : ℕ) (draws : List ℕ)
    → Grows book.history (opened_by setup book id past token now draws).history
opened-walk w setup book id past token now draws =
    either-walk w (nat_lt book.limit (length book.history + 4)) book.history _ _ (w.none book.history)
    (step-walk w book (Some id) past (later_step setup (state_of (slot_at book.table id)) token now draws))

gone-walk : {Grows : List Entry → List Entry → Type 0} (w : Walk Grows) (stands : Standing) (setup : AcceptSetup) (book : Stands) (id : ℕ) (past : Option ℕ) (token : List ℕ) (now : ℕ)
    (draws : List ℕ) → Grows book.history (gone_on_by stands setup book id past token now draws).history
gone-walk w Unknown setup book id past token now draws = w.none book.history
gone-walk w (Open at) setup book id past token now draws = opened-walk w setup book id past token now draws
gone-walk w (Whole mech names until) setup book id past token now draws = w.none book.history
gone-walk w Over setup book id past token now draws = w.none book.history

pub negotiated-walk : {Grows : List Entry → List Entry → Type 0} (w : Walk Grows) (setup : AcceptSetup) (book : Stands) (id past : Option ℕ) (token : List ℕ) (now : ℕ) (draws : List ℕ)
    → Grows book.history (negotiated setup book id past token now draws).history
negotiated-walk w setup book None past token now draws = begun-walk w setup book past token now draws
negotiated-walk w setup book (Some id) past token now draws = gone-walk w (standing id book.history) setup book id past token now draws
