-- Where a book stands between the tokens of a creation: which marks it has, and which contexts live.
use Rattle.std.proofs.Common.{◌≡◌, ◌≢◌, ◌⊎◌, ℕ, ◌+◌, ◌<◌, ◌≤◌, Bool, true, false, refl, ap, sym, subst, ◌∙◌, arith, List, [], ◌∷◌, length, max, Option, Some, None, Result, Ok, Err}
use Rattle.std.specs.Prelude.{◌==◌, ◌||◌, ◌&&◌, nat_le, is_some, if◌then◌else◌}
use Rattle.std.specs.List.{slice_get}
use Rattle.std.proofs.lemmas.Bool.{lt-leb}
use Rattle.std.specs.List.{AllByRecursion}
use Rattle.std.proofs.lemmas.Bool.Decides.{nat_tests}
use Rattle.gss_base.specs.declared.mark.Mark.{Mark}
use Rattle.gss_base.specs.Mech.{is_kerberos}
use Rattle.replay_cache.specs.Taking.{cache_verdict}
use Rattle.replay_cache.specs.declared.cache.CacheVerdict.{CacheVerdict}
use Rattle.replay_cache.specs.declared.cache.CacheVerdict.TheVariants.{Taken}
use Rattle.replay_cache.specs.declared.cache.TakenMark.{TakenMark}
use Rattle.context_table.specs.declared.slot.Slot.{Slot}
use Rattle.context_table.specs.Places.{Places, slot_at, live_of}
use Rattle.spnego_core.specs.declared.outcome.Outcome.{Outcome}
use Rattle.spnego_core.specs.declared.refusal.NegRefusal.{NegRefusal}
use Rattle.spnego_core.specs.declared.setup.AcceptSetup.{AcceptSetup}
use Rattle.spnego_core.specs.declared.accept_end.AcceptEnd.{AcceptEnd}
use Rattle.spnego_core.specs.declared.accept_end.AcceptPause.{AcceptPause}
use Rattle.spnego_core.specs.declared.accept_end.AcceptStep.{AcceptStep}
use Rattle.spnego_core.specs.declared.accept_end.AcceptStep.TheVariants as steps
use Rattle.spnego_core.specs.declared.accept_end.Answered.{Answered}
use Rattle.spnego_core.specs.declared.accept_end.Answered.TheVariants as afters
use Rattle.spnego_core.specs.Accepting.{accept_step, step_of, gone_on, step_after, mark_asked}
use Rattle.spnego_core.specs.Exchange.{passed, passed_of}
use Rattle.accept_core.specs.declared.entry.Entry.{Entry}
use Rattle.accept_core.specs.declared.answer.Next.{Next}
use Rattle.accept_core.specs.Answers.{mark_refusal}
use Rattle.accept_book.specs.Booking.{Stands, Becomes, Changed, changed, without, Outcomes, Fits, AnsweredFits, StepFits, raised, next_of, answer_with, mark_of, settled_of, taken, by_mark, negotiated}
use Rattle.accept_core.specs.Entering.{id_of, started, entered}
use Rattle.accept_core.specs.History.{opened, numbers, taken_of}
use Rattle.accept_core.specs.Replays.{Accepting}
use Rattle.accept_core.specs.Aging.{in_use, most_whole}
use Rattle.accept_core.specs.Stepping.{Context, context_of, context_after, until_of, goes_by, gone_of, settles}
use Rattle.accept_book.proofs.Fitting.{by_ok}
use Rattle.pair_laws.specs.Resting.{IsBefore, RestsAt, HoldsOne}
use Rattle.pair_laws.proofs.Resting.{is-taken, all-later}
use Rattle.pair_laws.proofs.Settling.{ComesTo, steps-end}
use Rattle.pair_laws.proofs.Entries.{number-entered, opened_for, open-entered, with_mark, mark-entered, all-with, long-more}

-- ---- whether a step took a mark

-- whether a mark of the session is taken behind a step
abbrev pub marked_after : Bool → AcceptStep → Bool
marked_after marked (steps.More end token) = marked
marked_after marked (steps.Done outcome lasts token) = marked
marked_after marked (steps.WantsAuth pause) = true

-- how many marks there are at most, so many ids having been opened before
abbrev most_marks : Bool → ℕ → ℕ
most_marks true count = count + 1
most_marks false count = count

same-end : (one other : AcceptEnd) (a b : List ℕ) → steps.More one a ≡ steps.More other b → one ≡ other
same-end one other a b e = cc

fits-gone : (after : Answered) (end : AcceptEnd) (reply : List ℕ) → AnsweredFits after true → gone_on after ≡ steps.More end reply → Fits end true
fits-gone (afters.More other token) end reply f e = subst (λ (x : AcceptEnd). Fits x true) (same-end other end token reply e) f
fits-gone (afters.Done outcome lasts token) end reply f e = absurd (done-more outcome lasts token end reply e)
  where
    done-more : (outcome : Outcome) (lasts : ℕ) (token : List ℕ) (end : AcceptEnd) (reply : List ℕ) → steps.Done outcome lasts token ≡ steps.More end reply → ⊥
    done-more outcome lasts token end reply e = cc

pub fits-after : (asked : AcceptStep) (marked : Bool) (end : AcceptEnd) (reply : List ℕ) → StepFits asked marked → passed asked ≡ steps.More end reply → Fits end (marked_after marked asked)
fits-after (steps.More other token) marked end reply f e = subst (λ (x : AcceptEnd). Fits x marked) (same-end other end token reply e) f
fits-after (steps.Done outcome lasts token) marked end reply f e = absurd (done-more outcome lasts token end reply e)
  where
    done-more : (outcome : Outcome) (lasts : ℕ) (token : List ℕ) (end : AcceptEnd) (reply : List ℕ) → steps.Done outcome lasts token ≡ steps.More end reply → ⊥
    done-more outcome lasts token end reply e = cc
fits-after (steps.WantsAuth pause) marked end reply f e = fits-gone pause.after end reply f.1 e

pub unmarked-pause : (asked : AcceptStep) (marked : Bool) (pause : AcceptPause) → StepFits asked marked → asked ≡ steps.WantsAuth pause → marked ≡ false
unmarked-pause asked marked pause f e = (subst (λ (s : AcceptStep). StepFits s marked) e f).0

-- ---- where the book stands in a creation

-- no context lives but one with this id; so many ids were opened before it, and no later one was called; a mark of the session was taken or not, and the others are those of earlier moments, at most one an id
pub record Ready (id : Option ℕ) (count moment : ℕ) (marked : Bool) (core : Accepting AcceptEnd Outcome) : Type 0 where
  pub alone : (other : ℕ) → count + 1 ≢ other → slot_at core.table other ≡ None
  pub ids : opened core.history ≡ opened_for id count
  pub uncalled : (other : ℕ) → count < other → numbers other core.history ≡ []
  pub seen : core.cache.greatest ≤ moment
  pub marks : (later : ℕ) → moment < later → AllByRecursion (IsBefore later) (taken_of core.history)
  pub fresh : marked ≡ false → AllByRecursion (IsBefore moment) (taken_of core.history)
  pub few : length (taken_of core.history) ≤ most_marks marked count

below-later : (moment later : ℕ) → moment < later → moment ≤ later
below-later moment later h = omega (arith, h)

pub ready-at-rest : (count moment : ℕ) (core : Accepting AcceptEnd Outcome) → RestsAt count moment core → Ready None count moment false core
ready-at-rest count moment core r = record {
  alone = λ other apart. r.empty other;
  ids = r.ids;
  uncalled = r.uncalled;
  seen = r.seen;
  marks = λ later h. all-later moment later (taken_of core.history) (below-later moment later h) r.marks;
  fresh = λ none. r.marks;
  few = r.few;
}

-- a mark of this moment is taken
pub ready-mark : (id : Option ℕ) (count moment : ℕ) (marked : Bool) (core : Accepting AcceptEnd Outcome) (mark : Mark) → Ready id count moment marked core → marked ≡ false → mark.at ≡ moment → count < core.cache.capacity
    → cache_verdict core.cache.capacity (max core.cache.greatest moment) (taken_of core.history) mark ≡ Taken
ready-mark id count moment marked core mark r none at room =
    let few : length (taken_of core.history) ≤ count = subst (λ (b : Bool). length (taken_of core.history) ≤ most_marks b count) none r.few in
    is-taken count moment core.cache.capacity core.cache.greatest (taken_of core.history) mark at r.seen (r.fresh none) few room

without-none : (gone : Option ℕ) (other : ℕ) → without gone other None ≡ None
without-none None other = refl
without-none (Some id) other = by-id (id == other)
  where
    by-id : (same : Bool) → ◌≡◌ {A = Option (Context AcceptEnd Outcome)} (if same then None else None) None
    by-id true = refl
    by-id false = refl

no-slot : (slot : Option (Slot AcceptEnd Outcome)) → context_of slot ≡ None → slot ≡ None
no-slot None e = refl
no-slot (Some slot) e = absurd cc

apart-test : (a b : ℕ) → a ≢ b → (a == b) ≡ false
apart-test a b h = grind (arith, nat_tests)

-- behind a change of one context all others are gone still
alone-after : (own : ℕ) (gone : Option ℕ) (after : Context AcceptEnd Outcome) (old new : Places AcceptEnd Outcome) → Changed old (Becomes gone own after) new → (other : ℕ) → own ≢ other → slot_at old other ≡ None → slot_at new other ≡ None
alone-after own gone after old new c other apart none =
    let test : (own == other) ≡ false = apart-test own other apart in
    let before : context_of (slot_at old other) ≡ None = ap (λ (s : Option (Slot AcceptEnd Outcome)). context_of s) none in
    no-slot (slot_at new other) (c other ∙ (ap (λ (x : Option (Context AcceptEnd Outcome)). changed (Becomes gone own after) other x) before ∙ rw test (without-none gone other)))

-- where no context is in use, none has its share of the places
pub none-crowded : (b : Bool) (limit : ℕ) (xs : List ℕ) → xs ≡ [] → (b && nat_le (most_whole limit) (length xs)) ≡ false
none-crowded true limit xs e = lt-leb (most_whole limit) (length xs) (let none : length xs ≡ 0 = ap (λ (ys : List ℕ). length ys) e in omega (arith, none))
none-crowded false limit xs e = refl

-- so none goes for a step, where a first token finds a place
pub none-goes : (id : Option ℕ) (step : Next AcceptEnd Outcome) (past : Option ℕ) (h : List Entry) (table : Places AcceptEnd Outcome) → in_use h ≡ [] → (id ≡ None → live_of table < table.limit) → goes_by id step past h table ≡ None
none-goes None step past h table unused free =
    ap (λ (b : Bool). gone_of b (nat_le table.limit (live_of table)) (slice_get (in_use h) 0) past) (none-crowded (settles step) table.limit (in_use h) unused)
    ∙ ap (λ (b : Bool). gone_of false b (slice_get (in_use h) 0) past) (lt-leb table.limit (live_of table) (free refl))
none-goes (Some id) step past h table unused free =
    ap (λ (b : Bool). gone_of b false (slice_get (in_use h) 0) past) (none-crowded (settles step) table.limit (in_use h) unused)

-- what a step makes of the history and of its context
pub record Entered (id : Option ℕ) (asked step : AcceptStep) (old new : Accepting AcceptEnd Outcome) (moment : ℕ) : Type 0 where
  pub gone : Option ℕ
  pub history : new.history ≡ entered id gone (mark_of asked) (next_of step) moment old.history
  pub after : Context AcceptEnd Outcome
  pub contexts : Changed old.table (Becomes gone (id_of id old.history) after) new.table
  pub greatest : new.cache.greatest ≡ max old.cache.greatest moment

mark-known : (asked : AcceptStep) (one : Mark) → mark_of asked ≡ Some one → (pause : AcceptPause) × (asked ≡ steps.WantsAuth pause) × (one ≡ mark_asked pause)
mark-known (steps.More end token) one e = absurd (no-mark one e)
  where
    no-mark : (one : Mark) → None ≡ Some one → ⊥
    no-mark one e = cc
mark-known (steps.Done outcome lasts token) one e = absurd (no-mark one e)
  where
    no-mark : (one : Mark) → None ≡ Some one → ⊥
    no-mark one e = cc
mark-known (steps.WantsAuth pause) one e = (pause, refl, some-mark one (mark_asked pause) e)
  where
    some-mark : (a b : Mark) → Some b ≡ Some a → a ≡ b
    some-mark a b e = cc

no-more : (marked : Bool) (asked : AcceptStep) → marked_after marked asked ≡ false → (marked ≡ false) × (mark_of asked ≡ None)
no-more marked (steps.More end token) e = (e, refl)
no-more marked (steps.Done outcome lasts token) e = (e, refl)
no-more marked (steps.WantsAuth pause) e = absurd (true-false e)
  where
    true-false : true ≡ false → ⊥
    true-false e = cc

few-after : (marked : Bool) (asked : AcceptStep) (count place : ℕ) (taken : List TakenMark) → StepFits asked marked → length taken ≤ most_marks marked count → length (with_mark (mark_of asked) place taken) ≤ most_marks (marked_after marked asked) count
few-after marked (steps.More end token) count place taken f h = h
few-after marked (steps.Done outcome lasts token) count place taken f h = h
few-after marked (steps.WantsAuth pause) count place taken f h =
    let less : length taken ≤ count = subst (λ (b : Bool). length taken ≤ most_marks b count) f.0 h in
    let more = long-more taken (record { mark = mark_asked pause; place = place }) in
    omega (arith, less, more)

pub ready-after : (id : Option ℕ) (own count moment : ℕ) (marked : Bool) (asked step : AcceptStep) (old new : Accepting AcceptEnd Outcome) → id_of id old.history ≡ count + 1 → Ready id count moment marked old → StepFits asked marked
    → ((pause : AcceptPause) → asked ≡ steps.WantsAuth pause → (mark_asked pause).at ≡ moment) → Entered id asked step old new moment → Ready (Some own) count moment (marked_after marked asked) new
ready-after id own count moment marked asked step old new own_is r fits at e = record {
  alone = λ other apart.
      alone-after (count + 1) e.gone e.after old.table new.table (subst (λ (n : ℕ). Changed old.table (Becomes e.gone n e.after) new.table) own_is e.contexts) other apart (r.alone other apart);
  ids = ap (λ (h : List Entry). opened h) e.history ∙ open-entered id e.gone (mark_of asked) (next_of step) moment count old.history r.ids;
  uncalled = λ other more. ap (λ (h : List Entry). numbers other h) e.history ∙ (number-entered other id e.gone (mark_of asked) (next_of step) moment old.history ∙ r.uncalled other more);
  seen = let s : old.cache.greatest ≤ moment = r.seen in subst (λ (n : ℕ). n ≤ moment) (sym e.greatest) (omega (arith, s));
  marks = λ later h.
      subst (λ (ts : List TakenMark). AllByRecursion (IsBefore later) ts) (sym taken_is) (all-with (IsBefore later) (mark_of asked) place (taken_of old.history) (r.marks later h) (λ one f. before-later later h one (mark-known asked one f)));
  fresh = λ none. let n = no-more marked asked none in
      subst (λ (ts : List TakenMark). AllByRecursion (IsBefore moment) ts) (sym (taken_is ∙ ap (λ (m : Option Mark). with_mark m place (taken_of old.history)) n.1)) (r.fresh n.0);
  few = subst (λ (ts : List TakenMark). length ts ≤ most_marks (marked_after marked asked) count) (sym taken_is) (few-after marked asked count place (taken_of old.history) fits r.few);
}
  where
    place : ℕ
    place = length (started id e.gone moment old.history)

    taken_is : taken_of new.history ≡ with_mark (mark_of asked) place (taken_of old.history)
    taken_is = ap (λ (h : List Entry). taken_of h) e.history ∙ mark-entered id e.gone (mark_of asked) (next_of step) moment old.history

    before-later : (later : ℕ) → moment < later → (one : Mark) → (pause : AcceptPause) × (asked ≡ steps.WantsAuth pause) × (one ≡ mark_asked pause) → one.at < later
    before-later later h one k =
        let same : one.at ≡ moment = ap (λ (m : Mark). m.at) k.2 ∙ at k.0 k.1 in omega (arith, h, same)

-- behind the last step one context lives, and there is at most one mark more
pub holds-after : (count moment : ℕ) (marked : Bool) (core : Accepting AcceptEnd Outcome) (own : ℕ) → Ready (Some own) count moment marked core → in_use core.history ≡ (count + 1) ∷ [] → (later : ℕ) → moment < later → HoldsOne (count + 1) (count + 1) later core
holds-after count moment marked core own r used later h = record {
  used = used;
  others = r.alone;
  own = omega arith;
  ids = r.ids;
  uncalled = λ other more. r.uncalled other (omega (arith, more));
  seen = let s : core.cache.greatest ≤ moment = r.seen in omega (arith, s, h);
  marks = r.marks later h;
  few = most marked r.few;
}
  where
    most : (b : Bool) → length (taken_of core.history) ≤ most_marks b count → length (taken_of core.history) ≤ count + 1
    most true f = f
    most false f = omega (arith, f)

-- ---- a step over a book

-- what a step comes to with its own mark
abbrev pub outcome_so : Stands → Option ℕ → Option ℕ → Option Mark → AcceptStep → Outcomes
outcome_so book id past mark step = record {
  answer = answer_with (id_of id book.history) step;
  history = entered id (goes_by id (next_of step) past book.history book.table) mark (next_of step) book.greatest book.history;
  change = Becomes (goes_by id (next_of step) past book.history book.table) (id_of id book.history) (context_after (until_of id book.greatest book.table) (next_of step));
}

taken-so : (book : Stands) (id past : Option ℕ) (asked step : AcceptStep) → passed asked ≡ step → ((pause : AcceptPause) → asked ≡ steps.WantsAuth pause → cache_verdict book.capacity book.greatest (taken_of book.history) (mark_asked pause) ≡ Taken)
    → taken book id past (mark_of asked) (settled_of asked) ≡ outcome_so book id past (mark_of asked) step
taken-so book id past (steps.More end token) step e new = ap (λ (s : AcceptStep). outcome_so book id past None s) e
taken-so book id past (steps.Done outcome lasts token) step e new = ap (λ (s : AcceptStep). outcome_so book id past None s) e
taken-so book id past (steps.WantsAuth pause) step e new =
    ap (λ (v : CacheVerdict). by_mark book id past (Some (mark_asked pause)) (step_after pause) (mark_refusal v)) (new pause refl) ∙ ap (λ (s : AcceptStep). outcome_so book id past (Some (mark_asked pause)) s) e

-- the step that is asked, where it is taken so
pub asked-step : (r : Result AcceptStep NegRefusal) (step : AcceptStep) → passed_of r ≡ Ok step → (asked : AcceptStep) × (r ≡ Ok asked) × (passed asked ≡ step)
asked-step (Ok asked) step e = (asked, refl, same-step (passed asked) step e)
  where
    same-step : (a b : AcceptStep) → ◌≡◌ {A = Result AcceptStep NegRefusal} (Ok a) (Ok b) → a ≡ b
    same-step a b e = cc
asked-step (Err refusal) step e = absurd (refused-step refusal step e)
  where
    refused-step : (refusal : NegRefusal) (step : AcceptStep) → ◌≡◌ {A = Result AcceptStep NegRefusal} (Err refusal) (Ok step) → ⊥
    refused-step refusal step e = cc

pub comes-to : (setup : AcceptSetup) (core : Accepting AcceptEnd Outcome) (id past : Option ℕ) (end : AcceptEnd) (token : List ℕ) (now : ℕ) (drawn : List ℕ) (asked step : AcceptStep) → ComesTo id core end → length core.history + 4 ≤ core.limit → (id ≡ None → (live_of core.table < core.table.limit) ⊎ (is_some past ≡ true))
    → step_of (accept_step setup end token now drawn) ≡ Ok asked → passed asked ≡ step → ((pause : AcceptPause) → asked ≡ steps.WantsAuth pause → cache_verdict core.cache.capacity (max core.cache.greatest now) (taken_of core.history) (mark_asked pause) ≡ Taken)
    → negotiated setup (raised core now) id past token now drawn ≡ outcome_so (raised core now) id past (mark_of asked) step
comes-to setup core id past end token now drawn asked step comes log table is same new =
    steps-end setup core id past end token now drawn comes log table ∙ (by_ok (raised core now) id past (accept_step setup end token now drawn) asked is ∙ taken-so (raised core now) id past asked step same new)

-- whether a mark was taken, and none was before
pub marked-or : (marked : Bool) (asked : AcceptStep) → marked_after marked asked ≡ marked || is_some (mark_of asked)
marked-or true (steps.More end token) = refl
marked-or false (steps.More end token) = refl
marked-or true (steps.Done outcome lasts token) = refl
marked-or false (steps.Done outcome lasts token) = refl
marked-or true (steps.WantsAuth pause) = refl
marked-or false (steps.WantsAuth pause) = refl

-- a step that is done took a mark exactly by Kerberos
fits-over : (after : Answered) (outcome : Outcome) (lasts : ℕ) (reply : List ℕ) → AnsweredFits after true → gone_on after ≡ steps.Done outcome lasts reply → true ≡ is_kerberos outcome.mech
fits-over (afters.More end token) outcome lasts reply f e = absurd (more-done end token outcome lasts reply e)
  where
    more-done : (end : AcceptEnd) (token : List ℕ) (outcome : Outcome) (lasts : ℕ) (reply : List ℕ) → steps.More end token ≡ steps.Done outcome lasts reply → ⊥
    more-done end token outcome lasts reply e = cc
fits-over (afters.Done other until token) outcome lasts reply f e = f ∙ ap (λ (o : Outcome). is_kerberos o.mech) (same-outcome other outcome until lasts token reply e)
  where
    same-outcome : (a b : Outcome) (x y : ℕ) (u v : List ℕ) → steps.Done a x u ≡ steps.Done b y v → a ≡ b
    same-outcome a b x y u v e = cc

pub fits-done : (asked : AcceptStep) (marked : Bool) (outcome : Outcome) (lasts : ℕ) (reply : List ℕ) → StepFits asked marked → passed asked ≡ steps.Done outcome lasts reply → marked_after marked asked ≡ is_kerberos outcome.mech
fits-done (steps.More end token) marked outcome lasts reply f e = absurd (more-done end token outcome lasts reply e)
  where
    more-done : (end : AcceptEnd) (token : List ℕ) (outcome : Outcome) (lasts : ℕ) (reply : List ℕ) → steps.More end token ≡ steps.Done outcome lasts reply → ⊥
    more-done end token outcome lasts reply e = cc
fits-done (steps.Done other until token) marked outcome lasts reply f e = f ∙ ap (λ (o : Outcome). is_kerberos o.mech) (same-outcome other outcome until lasts token reply e)
  where
    same-outcome : (a b : Outcome) (x y : ℕ) (u v : List ℕ) → steps.Done a x u ≡ steps.Done b y v → a ≡ b
    same-outcome a b x y u v e = cc
fits-done (steps.WantsAuth pause) marked outcome lasts reply f e = fits-over pause.after outcome lasts reply f.1 e
