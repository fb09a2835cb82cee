-- What a book's token adds to its history: nothing that settles a context, or the entry of the context that it completes, the newest.
use Rattle.std.proofs.Common.{◌≡◌, ◌⊎◌, ℕ, ◌+◌, Bool, true, false, nat_lt, nat_le, if◌then◌else◌, List, ◌∷◌, length, Option, Some, None, refl, inl, inr}
use Rattle.std.specs.Prelude.{◌&&◌, is_none, Result, Ok, Err}
use Rattle.gss_base.specs.declared.mark.Mark.{Mark}
use Rattle.spnego_core.specs.declared.accept_end.AcceptEnd.{AcceptEnd}
use Rattle.spnego_core.specs.declared.accept_end.AcceptEnd.TheVariants as ends
use Rattle.spnego_core.specs.declared.accept_end.AcceptStep.{AcceptStep}
use Rattle.spnego_core.specs.declared.accept_end.AcceptStep.TheVariants as steps
use Rattle.spnego_core.specs.declared.accept_end.Answered.{Answered}
use Rattle.spnego_core.specs.declared.accept_end.Answered.TheVariants as afters
use Rattle.spnego_core.specs.declared.outcome.Outcome.{Outcome}
use Rattle.spnego_core.specs.declared.refusal.NegRefusal.{NegRefusal}
use Rattle.spnego_core.specs.declared.setup.AcceptSetup.{AcceptSetup}
use Rattle.spnego_core.specs.Accepting.{Accepted, accept_step}
use Rattle.context_table.specs.Places.{slot_at, live_of, state_of}
use Rattle.accept_core.specs.declared.answer.MarkRefusal.{MarkRefusal}
use Rattle.accept_core.specs.declared.answer.Next.TheVariants as nexts
use Rattle.accept_book.specs.declared.book_answer.BookRefusal.{BookRefusal}
use Rattle.accept_book.specs.declared.book_answer.BookRefusal.TheVariants as refusals
use Rattle.accept_book.specs.declared.book_answer.Lease.{Lease}
use Rattle.accept_book.specs.declared.book_answer.NegAnswer.{NegAnswer}
use Rattle.accept_book.specs.declared.book_answer.NegAnswer.TheVariants as answers
use Rattle.accept_core.specs.declared.entry.Entry.{Entry}
use Rattle.accept_core.specs.declared.entry.Entry.TheVariants.{Went, Settled}
use Rattle.accept_book.specs.Booking.{Stands, Outcomes, names_of, leaves, by_mark, by_step, mark_of, settled_of, later_step, begun, opened_by, gone_on_by, negotiated}
use Rattle.accept_core.specs.Entering.{id_of, lapsed, started, noted, finished, entered, mark_refused}
use Rattle.accept_core.specs.Stepping.{goes_by}
use Rattle.accept_core.specs.History.{Standing, Unknown, Open, Whole, Over, standing, taken_of}
use Rattle.world_laws.proofs.HeldHistory.{Quiet, quiet-same, quiet-one, quiet-then, quiet-refusal, quiet-started, quiet-noted}

pub record Done (h : List Entry) (answer : NegAnswer) (new : List Entry) : Type 0 where
  pub lease : Lease
  pub last : List ℕ
  pub earlier : List Entry
  pub at : ℕ
  pub answer_is : answer ≡ answers.Settled lease last
  pub entry : new ≡ Settled lease.id lease.outcome.mech (names_of lease.outcome) lease.ends at ∷ earlier
  pub quiet : Quiet h earlier

abbrev pub Told : List Entry → Outcomes → Type 0
Told h o = Quiet h o.history ⊎ Done h o.answer o.history

before-end : (id gone : Option ℕ) (mark : Option Mark) (now : ℕ) (h : List Entry) → Quiet h (noted mark (id_of id h) now (started id gone now h))
before-end id gone mark now h =
    quiet-then h (started id gone now h) (noted mark (id_of id h) now (started id gone now h))
    (quiet-started id gone now h) (quiet-noted mark (id_of id h) now (started id gone now h))

goes-on : (id gone : Option ℕ) (mark : Option Mark) (state : AcceptEnd) (now : ℕ) (h : List Entry) → Quiet h (entered {S = Outcome} id gone mark (nexts.Going state) now h)
goes-on None gone mark state now h = before-end None gone mark now h
goes-on (Some id) gone mark state now h =
    quiet-then h (noted mark id now (lapsed gone h)) _ (before-end (Some id) gone mark now h) (quiet-one (Went id now) (noted mark id now (lapsed gone h)) tt)

settles : (id gone : Option ℕ) (mark : Option Mark) (outcome : Outcome) (lasts now : ℕ) (token : List ℕ) (h : List Entry)
    → Done h (answers.Settled (record { id = id_of id h; outcome = outcome; ends = lasts }) token)
    (entered {N = AcceptEnd} id gone mark (nexts.Settled outcome.mech (names_of outcome) outcome lasts) now h)
settles id gone mark outcome lasts now token h = record {
  lease = record { id = id_of id h; outcome = outcome; ends = lasts };
  last = token;
  earlier = noted mark (id_of id h) now (started id gone now h);
  at = now;
  answer_is = refl;
  entry = settled-entry (is_none id);
  quiet = before-end id gone mark now h;
}
  where
    settled-entry : (first : Bool) → finished {N = AcceptEnd} first (nexts.Settled outcome.mech (names_of outcome) outcome lasts) (id_of id h) now (noted mark (id_of id h) now (started id gone now h))
        ≡ Settled (id_of id h) outcome.mech (names_of outcome) lasts now ∷ noted mark (id_of id h) now (started id gone now h)
    settled-entry true = refl
    settled-entry false = refl

told-mark : (book : Stands) (id past : Option ℕ) (mark : Option Mark) (step : AcceptStep) (refusal : Option MarkRefusal)
    → Told book.history (by_mark book id past mark step refusal)
told-mark book id past mark step (Some refusal) = inl (quiet-refusal id book.history)
told-mark book id past mark (steps.More end token) None =
    inl (goes-on id (goes_by id (nexts.Going end) past book.history book.table) mark end book.greatest book.history)
told-mark book id past mark (steps.Done outcome lasts token) None =
    inr (settles id (goes_by id (nexts.Settled outcome.mech (names_of outcome) outcome lasts) past book.history book.table) mark outcome lasts book.greatest token book.history)
told-mark book id past mark (steps.WantsAuth pause) None = go pause.after
  where
    go : (after : Answered) → Told book.history (by_mark book id past mark (steps.WantsAuth (record pause { after = after })) None)
    go (afters.More end token) = inl (goes-on id (goes_by id (nexts.Going end) past book.history book.table) mark end book.greatest book.history)
    go (afters.Done outcome lasts token) =
        inr (settles id (goes_by id (nexts.Settled outcome.mech (names_of outcome) outcome lasts) past book.history book.table) mark outcome lasts book.greatest token book.history)

told-step : (book : Stands) (id past : Option ℕ) (r : Result Accepted NegRefusal) → Told book.history (by_step book id past r)
told-step book id past (Err refusal) = inl (quiet-refusal id book.history)
told-step book id past (Ok accepted) =
    told-mark book id past (mark_of accepted.step) (settled_of accepted.step) (mark_refused book.capacity book.greatest (taken_of book.history) (mark_of accepted.step))

told-if : (h : List Entry) (b : Bool) (x y : Outcomes) → Told h x → Told h y → Told h (if b then x else y)
told-if h true x y f g = f
told-if h false x y f g = g

told-left : (h : List Entry) (refusal : BookRefusal) → Told h (leaves h refusal)
told-left h refusal = inl (quiet-same h)

told-begun : (setup : AcceptSetup) (book : Stands) (past : Option ℕ) (token : List ℕ) (now : ℕ) (draws : List ℕ) → Told book.history (begun setup book past token now draws)
told-begun setup book past token now draws =
    told-if book.history (nat_lt book.limit (length book.history + 4)) _ _ (told-left book.history refusals.LogFull)
    (told-if book.history (nat_le book.table.limit (live_of book.table) && is_none past) _ _ (told-left book.history refusals.TableFull)
    (told-step book None past (accept_step setup ends.New token now draws)))

told-opened : (setup : AcceptSetup) (book : Stands) (id : ℕ) (past : Option ℕ) (token : List ℕ) (now : ℕ) (draws : List ℕ) → Told book.history (opened_by setup book id past token now draws)
told-opened setup book id past token now draws =
    told-if book.history (nat_lt book.limit (length book.history + 4)) _ _ (told-left book.history refusals.LogFull)
    (told-step book (Some id) past (later_step setup (state_of (slot_at book.table id)) token now draws))

told-later : (stands : Standing) (setup : AcceptSetup) (book : Stands) (id : ℕ) (past : Option ℕ) (token : List ℕ) (now : ℕ) (draws : List ℕ)
    → Told book.history (gone_on_by stands setup book id past token now draws)
told-later Unknown setup book id past token now draws = told-left book.history refusals.NoContext
told-later (Open at) setup book id past token now draws = told-opened setup book id past token now draws
told-later (Whole mech names until) setup book id past token now draws = told-left book.history refusals.AlreadyComplete
told-later Over setup book id past token now draws = told-left book.history refusals.NoContext

pub told : (setup : AcceptSetup) (book : Stands) (id past : Option ℕ) (token : List ℕ) (now : ℕ) (draws : List ℕ) → Told book.history (negotiated setup book id past token now draws)
told setup book None past token now draws = told-begun setup book past token now draws
told setup book (Some id) past token now draws = told-later (standing id book.history) setup book id past token now draws
