-- What a book comes to by a token.
use Rattle.std.proofs.Common.{◌≡◌, ◌≢◌, ◌∙◌, ℕ, true, false, List, length, Option, None, Some, refl, sym, ap, subst, inl, inr}
use Rattle.std.specs.Prelude.{◌+◌, ◌≤◌, Bool, ◌&&◌, nat_lt, nat_le, if◌then◌else◌, max, is_none, Result, Ok, Err}
use Rattle.sec_base.specs.Answers.{Gives}
use Rattle.std.proofs.lemmas.Bool.{cases_lt, le-leb, le-ltb, lt-leb}
use Rattle.gss_base.specs.declared.mark.Mark.{Mark}
use Rattle.spnego_core.specs.declared.setup.AcceptSetup.{AcceptSetup}
use Rattle.spnego_core.specs.declared.accept_end.AcceptEnd.{AcceptEnd}
use Rattle.spnego_core.specs.declared.accept_end.AcceptEnd.TheVariants as ends
use Rattle.spnego_core.specs.declared.accept_end.AcceptPause.{AcceptPause}
use Rattle.spnego_core.specs.declared.accept_end.AcceptStep.{AcceptStep}
use Rattle.spnego_core.specs.declared.accept_end.AcceptStep.TheVariants as steps
use Rattle.spnego_core.specs.declared.outcome.Outcome.{Outcome}
use Rattle.spnego_core.specs.declared.refusal.NegRefusal.{NegRefusal}
use Rattle.spnego_core.specs.declared.refusal.NegRefusal.TheVariants as short
use Rattle.spnego_core.specs.Accepting.{Accepted, accept_step, step_of, mark_asked, step_after}
use Rattle.context_table.specs.Places.{Places, slot_at, live_of, state_of, held_after, KeepsOthers}
use Rattle.accept_core.specs.declared.entry.Entry.{Entry}
use Rattle.accept_core.specs.declared.answer.MarkRefusal.{MarkRefusal}
use Rattle.accept_core.specs.declared.answer.Next.{Next}
use Rattle.accept_book.specs.declared.book_answer.BookRefusal.{BookRefusal}
use Rattle.accept_book.specs.declared.book_answer.BookRefusal.TheVariants as refusals
use Rattle.accept_book.specs.declared.book_answer.NegAnswer.{NegAnswer}
use Rattle.accept_book.specs.declared.book_answer.NegAnswer.TheVariants as answers
use Rattle.accept_book.specs.declared.book_answer.Negotiated.{Negotiated}
use Rattle.accept_core.specs.History.{Standing, living}
use Rattle.accept_core.specs.Answers.{taken_by}
use Rattle.accept_core.specs.Entering.{id_of, entered, mark_refused_in, after_mark, given, gained}
use Rattle.accept_core.specs.Replays.{Accepting}
use Rattle.accept_core.specs.Stepping.{goes_by, IsNext, IsNoRoom, context_of, context_after, until_of, kept_slot, SameWindows}
use Rattle.accept_book.specs.Booking.{Becomes, Ends, Changed, change_refused, after_refusal, Stands, stands_of, raised, Outcomes, spends, leaves, refusal_of_mark, answer_with, next_of, mark_of, settled_of, by_mark, taken, by_step, by_stepped, begun, begun_by, opened_by, negotiated, with_setup}
use Rattle.accept_book.specs.BookAnswers.{IsOutcome, ComesTo, BookStepped}
use Rattle.accept_book.specs.FirstSteps.{IsFirstStep}
use Rattle.accept_book.specs.Tokens.{TookToken}
use Rattle.accept_book.proofs.Changes.{changed_same, changed_entered, changed_held, owns_step}
use Rattle.accept_book.proofs.Contexts.{same_windows, windows_held}
use Rattle.accept_book.proofs.Opening.{opened_step}
use Rattle.accept_core.proofs.Goings.{next-same}

-- ---- one outcome for another

pub comes_same : (book : Stands) (id : Option ℕ) (f g : Option ℕ → Outcomes) (result : Negotiated) (new : Accepting AcceptEnd Outcome)
    → ((past : Option ℕ) → (id ≡ None → IsNext book.table book.greatest past) → f past ≡ g past) → ComesTo book id f result new → ComesTo book id g result new
comes_same book id f g result new same comes = record {
  outcome = λ past is_past some. subst (λ (o : Outcomes). IsOutcome book o result new) (same past is_past) (comes.outcome past is_past some);
  memory = comes.memory;
  receipts = comes.receipts;
  windows = comes.windows;
}

-- where memory was wanted there is no other outcome
pub comes_short : (book : Stands) (id : Option ℕ) (g : Option ℕ → Outcomes) (result : Negotiated) (new : Accepting AcceptEnd Outcome)
    → ComesTo book id (λ past. spends id book.history answers.NoMemory) result new → ComesTo book id g result new
comes_short book id g result new comes = record {
  outcome = λ past is_past some. absurd (some (comes.outcome past is_past some).answer);
  memory = comes.memory;
  receipts = comes.receipts;
  windows = comes.windows;
}

-- ---- a token that isn't taken

pub comes_spent : (core new : Accepting AcceptEnd Outcome) (id : Option ℕ) (answer : NegAnswer) (result : Negotiated) → result.answer ≡ answer
    → new.history ≡ after_refusal id core.history → Changed core.table (change_refused id) new.table → given result.receipts ≡ gained (length core.history) new.history
    → SameWindows core.table new.table → ComesTo (stands_of core) id (λ past. spends id core.history answer) result new
comes_spent core new id answer result is history contexts receipts windows = record {
  outcome = λ past is_past some. record { answer = is; history = history; contexts = contexts };
  memory = λ none. record { answer = none; history = history; contexts = contexts };
  receipts = receipts;
  windows = windows;
}

not_short : (refusal : BookRefusal) → answers.Refused refusal ≡ answers.NoMemory → ⊥
not_short refusal e = cc

-- and leaves the book as it was
pub comes_left : (core : Accepting AcceptEnd Outcome) (id : Option ℕ) (comes : Option ℕ → Outcomes) (refusal : BookRefusal) (result : Negotiated)
    → result.answer ≡ answers.Refused refusal → ((h : List Entry) → given result.receipts ≡ gained (length h) h)
    → ((past : Option ℕ) → (id ≡ None → IsNext core.table core.cache.greatest past) → leaves core.history refusal ≡ comes past) → ComesTo (stands_of core) id comes result core
comes_left core id comes refusal result is receipts same = record {
  outcome = λ past is_past some. subst (λ (o : Outcomes). IsOutcome (stands_of core) o result core) (same past is_past)
      (record { answer = is; history = refl; contexts = changed_same core.table });
  memory = λ none. absurd (not_short refusal (sym is ∙ none));
  receipts = receipts core.history;
  windows = same_windows core.table;
}

-- ---- a step that was made

taken_outcome : (core new : Accepting AcceptEnd Outcome) (id past : Option ℕ) (mark : Option Mark) (step : AcceptStep) (own : ℕ) (result : Negotiated) (refusal : Option MarkRefusal)
    → true ≡ is_none refusal → own ≡ id_of id core.history → result.answer ≡ answer_with own step
    → new.history ≡ after_mark refusal core.history (entered id (goes_by id (next_of step) past core.history core.table) mark (next_of step) core.cache.greatest core.history)
    → context_of (slot_at new.table own) ≡ Some (context_after (until_of id core.cache.greatest core.table) (next_of step))
    → ((other : ℕ) → own ≢ other → slot_at new.table other ≡ kept_slot (goes_by id (next_of step) past core.history core.table) other (slot_at core.table other))
    → IsOutcome (stands_of core) (by_mark (stands_of core) id past mark step refusal) result new
taken_outcome core new id past mark step own result None took is answer history context others = record {
  answer = answer ∙ ap (λ (k : ℕ). answer_with k step) is;
  history = history;
  contexts = subst (λ (k : ℕ). Changed core.table (Becomes (goes_by id (next_of step) past core.history core.table) k (context_after (until_of id core.cache.greatest core.table) (next_of step))) new.table) is
      (changed_entered core.table new.table (goes_by id (next_of step) past core.history core.table) own _ context others);
}
taken_outcome core new id past mark step own result (Some refusal) took is answer history context others =
    let z : true ≡ false = took in absurd cc

-- whose mark isn't refused
pub comes_taken : (core new : Accepting AcceptEnd Outcome) (id : Option ℕ) (mark : Option Mark) (step : AcceptStep) (next : Next AcceptEnd Outcome) (own : ℕ) (result : Negotiated)
    → true ≡ is_none (mark_refused_in core mark) → own ≡ id_of id core.history → next ≡ next_of step → result.answer ≡ answer_with own step → result.answer ≢ answers.NoMemory
    → ((past : Option ℕ) → (id ≡ None → IsNext core.table core.cache.greatest past) → new.history
    ≡ after_mark (mark_refused_in core mark) core.history (entered id (goes_by id next past core.history core.table) mark next core.cache.greatest core.history))
    → context_of (slot_at new.table own) ≡ Some (context_after (until_of id core.cache.greatest core.table) next)
    → ((past : Option ℕ) → (id ≡ None → IsNext core.table core.cache.greatest past) → (other : ℕ) → own ≢ other
    → slot_at new.table other ≡ kept_slot (goes_by id next past core.history core.table) other (slot_at core.table other))
    → given result.receipts ≡ gained (length core.history) new.history → SameWindows core.table new.table
    → ComesTo (stands_of core) id (λ past. taken (stands_of core) id past mark step) result new
comes_taken core new id mark step next own result took is next_is answer some history context others receipts windows = record {
  outcome = λ past is_past some. taken_outcome core new id past mark step own result (mark_refused_in core mark) took is answer
      (history past is_past ∙ ap (λ (n : Next AcceptEnd Outcome). after_mark (mark_refused_in core mark) core.history (entered id (goes_by id n past core.history core.table) mark n core.cache.greatest core.history)) next_is)
      (context ∙ ap (λ (n : Next AcceptEnd Outcome). Some (context_after (until_of id core.cache.greatest core.table) n)) next_is)
      (λ other ne. others past is_past other ne ∙ ap (λ (n : Next AcceptEnd Outcome). kept_slot (goes_by id n past core.history core.table) other (slot_at core.table other)) next_is);
  memory = λ none. absurd (some none);
  receipts = receipts;
  windows = windows;
}

-- whose mark is refused, which changed nothing
pub comes_refused : (core same new : Accepting AcceptEnd Outcome) (id : Option ℕ) (mark : Option Mark) (step : AcceptStep) (refusal : MarkRefusal) (told : BookRefusal) (result : Negotiated)
    → same ≡ core → told ≡ refusal_of_mark refusal → mark_refused_in core mark ≡ Some refusal
    → ComesTo (stands_of same) id (λ past. spends id same.history (answers.Refused told)) result new
    → ComesTo (stands_of core) id (λ past. taken (stands_of core) id past mark step) result new
comes_refused core same new id mark step refusal told result is told_is refused comes =
    comes_same (stands_of core) id (λ (past : Option ℕ). spends id core.history (answers.Refused told)) (λ (past : Option ℕ). taken (stands_of core) id past mark step) result new
    (λ past is_past. ap (λ (r : BookRefusal). spends id core.history (answers.Refused r)) told_is
    ∙ ap (λ (r : Option MarkRefusal). by_mark (stands_of core) id past mark step r) (sym refused))
    (subst (λ (c : Accepting AcceptEnd Outcome). ComesTo (stands_of c) id (λ past. spends id c.history (answers.Refused told)) result new) is comes)

-- that asked for the repeat test
pub comes_marked : (book : Stands) (id : Option ℕ) (pause : AcceptPause) (step next : AcceptStep) (mark : Mark) (result : Negotiated) (new : Accepting AcceptEnd Outcome)
    → step ≡ steps.WantsAuth pause → mark ≡ mark_asked pause → next ≡ step_after pause
    → ComesTo book id (λ past. taken book id past (Some mark) next) result new
    → ComesTo book id (λ past. taken book id past (mark_of step) (settled_of step)) result new
comes_marked book id pause step next mark result new step_is mark_is next_is =
    comes_same book id (λ (past : Option ℕ). taken book id past (Some mark) next) (λ (past : Option ℕ). taken book id past (mark_of step) (settled_of step)) result new
    (λ past is_past. (λ i. taken book id past (Some (mark_is i)) (next_is i)) ∙ ap (λ (s : AcceptStep). taken book id past (mark_of s) (settled_of s)) (sym step_is))

-- ---- a context whose state was taken

later : (id : ℕ) (table : Places AcceptEnd Outcome) (now : ℕ) (past : Option ℕ) → ◌≡◌ {A = Option ℕ} (Some id) None → IsNext table now past
later id table now past e = absurd cc

pub comes_held : (core held new : Accepting AcceptEnd Outcome) (setup : AcceptSetup) (id : ℕ) (token : List ℕ) (now : ℕ) (draws : List ℕ) (stands : Standing) (end : AcceptEnd) (result : Negotiated)
    → length core.history + 4 ≤ core.limit → Ok end ≡ taken_by stands (state_of (slot_at core.table id)) → held.history ≡ core.history
    → held.cache.capacity ≡ core.cache.capacity → held.cache.greatest ≡ core.cache.greatest → slot_at held.table id ≡ held_after (slot_at core.table id)
    → KeepsOthers core.table held.table id
    → ComesTo (stands_of held) (Some id) (λ past. by_step (stands_of held) (Some id) past (accept_step setup end token now draws)) result new
    → ComesTo (stands_of core) (Some id) (λ past. opened_by setup (stands_of core) id past token now draws) result new
comes_held core held new setup id token now draws stands end result room took history capacity greatest slot others comes = record {
  outcome = λ past is_past some.
      (let o = comes.outcome past (later id held.table held.cache.greatest past) some in
      subst (λ (x : Outcomes). IsOutcome (stands_of core) x result new)
      (opened_step setup (stands_of held) (stands_of core) id past token now draws stands end room took history capacity others.limit greatest slot)
      (record {
        answer = o.answer;
        history = o.history;
        contexts = changed_held core.table held.table new.table id _ (owns_step (stands_of held) id past (accept_step setup end token now draws)) others o.contexts;
      }));
  memory = λ none.
      (let m = comes.memory none in
      record {
        answer = none;
        history = m.history ∙ ap (after_refusal (Some id)) history;
        contexts = changed_held core.table held.table new.table id (Ends id) refl others m.contexts;
      });
  receipts = comes.receipts ∙ ap (λ (h : List Entry). gained (length h) new.history) history;
  windows = windows_held core.table held.table new.table id slot others comes.windows;
}

-- ---- once the moment was taken note of

pub comes_raised : (core noted new : Accepting AcceptEnd Outcome) (setup : AcceptSetup) (id : Option ℕ) (token : List ℕ) (now : ℕ) (draws : List ℕ) (result : Negotiated)
    → noted.history ≡ core.history → noted.limit ≡ core.limit → noted.table ≡ core.table → noted.cache.capacity ≡ core.cache.capacity
    → noted.cache.greatest ≡ max core.cache.greatest now
    → ComesTo (stands_of noted) id (λ past. negotiated setup (stands_of noted) id past token now draws) result new
    → ComesTo (raised core now) id (λ past. negotiated setup (raised core now) id past token now draws) result new
comes_raised core noted new setup id token now draws result history limit table capacity greatest comes =
    subst (λ (book : Stands). ComesTo book id (λ past. negotiated setup book id past token now draws) result new)
    (λ i. record { history = history i; limit = limit i; table = table i; capacity = capacity i; greatest = greatest i }) comes

-- ---- a first token

no_place : (b : Bool) → (b && false) ≡ false
no_place true = refl
no_place false = refl

begun_step : (core : Accepting AcceptEnd Outcome) (stepped : Result AcceptStep NegRefusal) (past : Option ℕ) → length core.history + 4 ≤ core.limit
    → (IsNoRoom core.table core.cache.greatest → ⊥) → IsNext core.table core.cache.greatest past
    → by_stepped (stands_of core) None past stepped ≡ begun_by (stands_of core) past stepped
begun_step core stepped None room never is_past =
    elim (cases_lt (live_of core.table) core.table.limit) [
      | inl free ↦ sym (rw (le-ltb core.limit (length core.history + 4) room, lt-leb core.table.limit (live_of core.table) free) refl)
      | inr full ↦ absurd (never (record { full = full; next = is_past }))
    ]
begun_step core stepped (Some gone) room never is_past =
    sym (rw (le-ltb core.limit (length core.history + 4) room, no_place (nat_le core.table.limit (live_of core.table))) refl)

pub comes_begun : (core new : Accepting AcceptEnd Outcome) (stepped : Result AcceptStep NegRefusal) (result : Negotiated)
    → length core.history + 4 ≤ core.limit → (IsNoRoom core.table core.cache.greatest → ⊥)
    → ComesTo (stands_of core) None (λ past. by_stepped (stands_of core) None past stepped) result new
    → ComesTo (stands_of core) None (λ past. begun_by (stands_of core) past stepped) result new
comes_begun core new stepped result room never =
    comes_same (stands_of core) None (λ (past : Option ℕ). by_stepped (stands_of core) None past stepped) (λ (past : Option ℕ). begun_by (stands_of core) past stepped) result new
    (λ past is_past. begun_step core stepped past room never (is_past refl))

-- of a table in which no context gives its place
pub begun_full : (core : Accepting AcceptEnd Outcome) (stepped : Result AcceptStep NegRefusal) (past : Option ℕ) → length core.history + 4 ≤ core.limit
    → IsNoRoom core.table core.cache.greatest → IsNext core.table core.cache.greatest past
    → leaves core.history refusals.TableFull ≡ begun_by (stands_of core) past stepped
begun_full core stepped past room none is_past =
    sym (rw (le-ltb core.limit (length core.history + 4) room, le-leb core.table.limit (live_of core.table) none.full, next-same core.table core.cache.greatest past None is_past none.next) refl)

-- for which there is no room
pub comes_turned : (core : Accepting AcceptEnd Outcome) (comes : Option ℕ → Outcomes) (refusal : BookRefusal) (result : Negotiated)
    → (result.answer ≢ answers.NoMemory → result.answer ≡ answers.Refused refusal) → ((h : List Entry) → given result.receipts ≡ gained (length h) h)
    → ((past : Option ℕ) → IsNext core.table core.cache.greatest past → leaves core.history refusal ≡ comes past) → ComesTo (stands_of core) None comes result core
comes_turned core comes refusal result is receipts same = record {
  outcome = λ past is_past some. subst (λ (o : Outcomes). IsOutcome (stands_of core) o result core) (same past (is_past refl))
      (record { answer = is some; history = refl; contexts = changed_same core.table });
  memory = λ none. record { answer = none; history = refl; contexts = changed_same core.table };
  receipts = receipts core.history;
  windows = same_windows core.table;
}

-- ---- by what the code returns of the step

gives_same : (stepped answer : Result AcceptStep NegRefusal) → Gives short.NoMemory (λ (s : AcceptStep). s) stepped answer → (stepped ≡ Err short.NoMemory → ⊥) → answer ≡ stepped
gives_same (Ok step) answer gives some = gives
gives_same (Err refusal) answer gives some = gives (λ e. some (ap (λ (r : NegRefusal). Err r) e))

by_made : (book : Stands) (id past : Option ℕ) (made : Result Accepted NegRefusal) → by_stepped book id past (step_of made) ≡ by_step book id past made
by_made book id past (Ok accepted) = refl
by_made book id past (Err refusal) = refl

pub comes_stepped : (book : Stands) (id : Option ℕ) (stepped : Result AcceptStep NegRefusal) (made : Result Accepted NegRefusal) (result : Negotiated) (new : Accepting AcceptEnd Outcome)
    → Gives short.NoMemory (λ (s : AcceptStep). s) stepped (step_of made) → (stepped ≡ Err short.NoMemory → result.answer ≡ answers.NoMemory)
    → ComesTo book id (λ past. by_stepped book id past stepped) result new → ComesTo book id (λ past. by_step book id past made) result new
comes_stepped book id stepped made result new gives wants comes = record {
  outcome = λ past is_past some. subst (λ (o : Outcomes). IsOutcome book o result new)
      (ap (λ (r : Result AcceptStep NegRefusal). by_stepped book id past r) (sym (gives_same stepped (step_of made) gives (λ e. some (wants e)))) ∙ by_made book id past made)
      (comes.outcome past is_past some);
  memory = comes.memory;
  receipts = comes.receipts;
  windows = comes.windows;
}

begun_made : (book : Stands) (setup : AcceptSetup) (token : List ℕ) (now : ℕ) (draws : List ℕ) (past : Option ℕ)
    → begun_by book past (step_of (accept_step setup ends.New token now draws)) ≡ begun setup book past token now draws
begun_made book setup token now draws past =
    ap (λ (o : Outcomes). if nat_lt book.limit (length book.history + 4) then leaves book.history refusals.LogFull else if nat_le book.table.limit (live_of book.table) && is_none past then leaves book.history refusals.TableFull else o)
    (by_made book None past (accept_step setup ends.New token now draws))

comes_made : (book : Stands) (setup : AcceptSetup) (stepped : Result AcceptStep NegRefusal) (token : List ℕ) (now : ℕ) (draws : List ℕ) (result : Negotiated) (new : Accepting AcceptEnd Outcome)
    → Gives short.NoMemory (λ (s : AcceptStep). s) stepped (step_of (accept_step setup ends.New token now draws)) → (stepped ≡ Err short.NoMemory → result.answer ≡ answers.NoMemory)
    → ComesTo book None (λ past. begun_by book past stepped) result new → ComesTo book None (λ past. negotiated setup book None past token now draws) result new
comes_made book setup stepped token now draws result new gives wants comes = record {
  outcome = λ past is_past some. subst (λ (o : Outcomes). IsOutcome book o result new)
      (ap (λ (r : Result AcceptStep NegRefusal). begun_by book past r) (sym (gives_same stepped (step_of (accept_step setup ends.New token now draws)) gives (λ e. some (wants e)))) ∙ begun_made book setup token now draws past)
      (comes.outcome past is_past some);
  memory = comes.memory;
  receipts = comes.receipts;
  windows = comes.windows;
}

-- a first token that was stepped beforehand: the moment is taken note of, and then what was stepped is taken
pub comes_first : (old noted new : Accepting AcceptEnd Outcome) (setup : AcceptSetup) (stepped : Result AcceptStep NegRefusal) (token : List ℕ) (now : ℕ) (draws : List ℕ) (result : Negotiated)
    → noted.history ≡ old.history → noted.limit ≡ old.limit → noted.width ≡ old.width → noted.keeping ≡ old.keeping → noted.table ≡ old.table → noted.cache.capacity ≡ old.cache.capacity
    → noted.cache.greatest ≡ max old.cache.greatest now
    → TookToken noted new None (λ past. begun_by (stands_of noted) past stepped) result → (stepped ≡ Err short.NoMemory → result.answer ≡ answers.NoMemory)
    → live_of new.table ≡ living new.history → IsFirstStep setup token now draws stepped → BookStepped (with_setup setup old) (with_setup setup new) None token now draws result
comes_first old noted new setup stepped token now draws result history limit width keeping table capacity greatest took wants lives made = record {
  comes = comes_raised old noted new setup None token now draws result history limit table capacity greatest
      (comes_made (stands_of noted) setup stepped token now draws result new made.exact wants took.comes);
  notes = record {
    setup = refl;
    limit = took.keeps.limit ∙ limit;
    width = took.keeps.width ∙ width;
    keeping = took.keeps.keeping ∙ keeping;
    contexts = took.keeps.contexts ∙ ap (λ (t : Places AcceptEnd Outcome). t.limit) table;
    capacity = took.keeps.capacity ∙ capacity;
    greatest = took.keeps.greatest ∙ greatest;
  };
  lives = lives;
}
