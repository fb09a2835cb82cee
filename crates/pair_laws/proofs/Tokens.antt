-- One token of a creation in a row: what the book makes of it.
use Rattle.std.proofs.Common.{◌≡◌, inl, ℕ, ◌+◌, ◌<◌, ◌≤◌, ◌^◌, Bool, ap, sym, subst, ◌∙◌, arith, List, [], ◌∷◌, length, max, take, Option, Some, None, Result, Ok}
use Rattle.std.specs.Prelude.{IfSome, if◌then◌else◌}
use Rattle.replay_cache.specs.Taking.{cache_verdict}
use Rattle.replay_cache.specs.declared.cache.CacheVerdict.TheVariants.{Taken}
use Rattle.context_table.specs.Places.{live_of}
use Rattle.spnego_core.specs.declared.refusal.NegRefusal.{NegRefusal}
use Rattle.spnego_core.specs.declared.setup.AcceptSetup.{AcceptSetup}
use Rattle.spnego_core.specs.declared.accept_end.AcceptEnd.{AcceptEnd}
use Rattle.spnego_core.specs.declared.accept_end.AcceptPause.{AcceptPause}
use Rattle.spnego_core.specs.declared.accept_end.AcceptStep.{AcceptStep}
use Rattle.spnego_core.specs.declared.accept_end.AcceptStep.TheVariants as steps
use Rattle.spnego_core.specs.declared.accept_end.Answered.{Answered}
use Rattle.spnego_core.specs.declared.accept_end.Answered.TheVariants as afters
use Rattle.spnego_core.specs.Sizes.{ShortAccept, ShortAnswered}
use Rattle.spnego_core.specs.Accepting.{accept_step, step_of, mark_asked}
use Rattle.spnego_core.specs.Exchange.{passed, answered_on}
use Rattle.accept_core.specs.declared.entry.Entry.{Entry}
use Rattle.accept_book.specs.declared.book_answer.NegAnswer.{NegAnswer}
use Rattle.accept_book.specs.declared.book_answer.Negotiated.{Negotiated}
use Rattle.accept_book.specs.Booking.{BookOf, Change, Changed, Outcomes, Fits, StepFits, raised, next_of, mark_of, later_step, negotiated, NotesMoment, token_size, answer_with, answer_after}
use Rattle.accept_core.specs.Entering.{id_of, entered}
use Rattle.accept_core.specs.History.{taken_of}
use Rattle.accept_book.specs.RecordRule.{record_ruling}
use Rattle.gss_server.specs.Answers.{IsDecided}
use Rattle.gss_server.specs.Asking.{Asking}
use Rattle.accept_core.specs.Aging.{in_use}
use Rattle.accept_core.specs.Stepping.{context_after, until_of, goes_by, settles}
use Rattle.accept_core.proofs.Nexts.{next-of}
use Rattle.accept_book.proofs.Fitting.{step_of_fits}
use Rattle.pair_laws.specs.Answering.{Server, AnswersBy}
use Rattle.pair_laws.proofs.Settling.{ComesTo, later-end}
use Rattle.gss_client.specs.declared.terms.Terms.{Terms}
use Rattle.gss_client.specs.Calling.{creation_call}
use Rattle.pair_laws.specs.Booked.{end_in, IsBooked}
use Rattle.pair_laws.specs.Creation.{around_of}
use Rattle.pair_laws.specs.HonestCalls.{IsToServer}
use Rattle.pair_laws.specs.Honest.{occasion_of}
use Rattle.pair_laws.specs.Opening.{creation_of, FitsCreation, HasPlaces, IsStepped}
use Rattle.pair_laws.specs.Rows.{IsTurn}
use Rattle.pair_laws.specs.Running.{Turn}
use Rattle.pair_laws.specs.Walking.{IsStamped}
use Rattle.pair_laws.proofs.Completing.{Turned, turned-by}
use Rattle.pair_laws.proofs.Opening.{same-call, answered-step, step-turn}
use Rattle.pair_laws.proofs.Ruling.{proc_for, handle_for, IsId}
use Rattle.pair_laws.proofs.Readiness.{Ready, Entered, none-goes, marked_after, unmarked-pause, ready-mark, ready-after, outcome_so, asked-step, comes-to}
use Rattle.pair_laws.proofs.Entries.{long-entered, uses-entered}

-- ---- ids

some-id : (id : Option ℕ) → IsId id → IfSome id (λ number. number < 2 ^ 64)
some-id None h = tt
some-id (Some id) h = h

pub no-id : (own : ℕ) → ◌≡◌ {A = Option ℕ} (Some own) None → ⊥
no-id own e = cc

same-asked : (a b : AcceptStep) → ◌≡◌ {A = Result AcceptStep NegRefusal} (Ok a) (Ok b) → a ≡ b
same-asked a b e = cc

-- the answer's token is the step's
answered-size : (id : ℕ) (after : Answered) → ShortAnswered after → token_size (answer_after id after) ≤ 65536
answered-size id (afters.More end token) h = h
answered-size id (afters.Done outcome lasts token) h = h

answer-size : (id : ℕ) (step : AcceptStep) → ShortAccept step → token_size (answer_with id step) ≤ 65536
answer-size id (steps.More end token) h = h
answer-size id (steps.Done outcome lasts token) h = h
answer-size id (steps.WantsAuth pause) h = answered-size id pause.after h

same-answer : (a b : Negotiated) → Some a ≡ Some b → a ≡ b
same-answer a b e = cc

-- ---- one turn

-- a turn of a creation, by the step that its token comes to
pub record Turns (setup : AcceptSetup) (terms : Terms) (serves : Server) (xid : ℕ) (id : Option ℕ) (token : List ℕ) (own count moment : ℕ) (marked : Bool) (turn : Turn) (step : AcceptStep) : Type 0 where
  pub booked : IsBooked setup serves turn.octets turn.kept (around_of turn)
  pub turned : Turned setup terms serves xid id token turn.kept (around_of turn) step
  pub asked : AcceptStep
  pub same : passed asked ≡ step
  pub fits : StepFits asked marked
  pub ready : Ready (Some own) count moment (marked_after marked asked) turn.after.core
  pub notes : NotesMoment turn.before turn.after turn.kept.now
  pub grown : length turn.after.core.history ≤ length turn.before.core.history + 4
  pub entered_so : Entered id asked step turn.before.core turn.after.core moment
  pub placed : entered_so.gone ≡ None
  pub used : in_use turn.after.core.history ≡ (if settles (next_of step) then id_of id turn.before.core.history ∷ [] else [])

pub turn-opens : (setup : AcceptSetup) (terms : Terms) (serves : Server) (lasts xid : ℕ) (id : Option ℕ) (acceptor : AcceptEnd) (token : List ℕ) (count moment : ℕ) (marked : Bool) (turn : Turn) (step : AcceptStep) → IsToServer serves.serving.program terms → xid < 2 ^ 32 → IsId id → length token ≤ 65536 → IsTurn serves lasts turn
    → turn.octets ≡ creation_call terms xid (proc_for id) (handle_for id) token → id_of id turn.before.core.history ≡ count + 1 → ComesTo id turn.before.core acceptor → Fits acceptor marked → Ready id count moment marked turn.before.core → turn.kept.now ≡ moment → IsStamped setup moment (occasion_of turn.kept) acceptor token → ShortAccept step → turn.before.setup ≡ setup
    → length turn.before.core.history + 4 ≤ turn.before.core.limit → (id ≡ None → live_of turn.before.core.table < turn.before.core.table.limit) → in_use turn.before.core.history ≡ [] → count < turn.before.core.cache.capacity → answered_on setup (occasion_of turn.kept) acceptor token ≡ Ok step
    → Turns setup terms serves xid id token (id_of id turn.before.core.history) count moment marked turn step
turn-opens setup terms serves lasts xid id acceptor token count moment marked turn step called xids is_id few v is own_is comes fits ready at_moment stamped short set log table unused room takes =
    let old : BookOf = turn.before in
    let now : ℕ = turn.kept.now in
    let drawn : List ℕ = take 66 turn.kept.draws in
    let here : turn.octets ≡ creation_of terms xid id token = is ∙ sym (same-call terms xid id token) in
    let f : FitsCreation xid id token = record { xid_fits = xids; id_fits = some-id id is_id; size = few } in
    let q = asked-step (step_of (accept_step setup acceptor token now drawn)) step takes in
    let step_fits : StepFits q.0 marked = step_of_fits setup acceptor token now drawn q.0 marked fits q.1 in
    let later_is : later_step setup (end_in old.core.table id) token now drawn ≡ accept_step setup acceptor token now drawn = later-end setup old.core id acceptor token now drawn comes in
    let at : (pause : AcceptPause) → q.0 ≡ steps.WantsAuth pause → (mark_asked pause).at ≡ moment = λ pause e. stamped pause (q.1 ∙ ap (λ (a : AcceptStep). Ok a) e) in
    let w = next-of old.core.table (max old.core.cache.greatest now) in
    let none_goes : goes_by id (next_of step) w.0 old.core.history old.core.table ≡ None = none-goes id (next_of step) w.0 old.core.history old.core.table unused table in
    let decided : IsDecided (record_ruling (creation_of terms xid id token) turn.kept serves.serving) = subst (λ (o : List ℕ). IsDecided (record_ruling o turn.kept serves.serving)) here v.decided in
    let put : Asking (AnswersBy serves) old (record_ruling (creation_of terms xid id token) turn.kept serves.serving).asked turn.after = subst (λ (o : List ℕ). Asking (AnswersBy serves) old (record_ruling o turn.kept serves.serving).asked turn.after) here v.asked in
    let n = answered-step terms xid serves id token turn.kept old turn.after called f decided put in
    let o = n.stepped.comes.outcome w.0 (λ first. w.1) n.some in
    let fresh : (pause : AcceptPause) → q.0 ≡ steps.WantsAuth pause → cache_verdict old.core.cache.capacity (max old.core.cache.greatest now) (taken_of old.core.history) (mark_asked pause) ≡ Taken =
    λ pause e. subst (λ (n : ℕ). cache_verdict old.core.cache.capacity (max old.core.cache.greatest n) (taken_of old.core.history) (mark_asked pause) ≡ Taken) (sym at_moment)
    (ready-mark id count moment marked old.core (mark_asked pause) ready (unmarked-pause q.0 marked pause step_fits e) (at pause e) room) in
    let places : HasPlaces setup old.core id token turn.kept = record {
      past = w.0;
      is_past = λ first. w.1;
      log = log;
      table = λ none. inl (table none);
      mark = λ pause e. fresh pause (same-asked q.0 (steps.WantsAuth pause) (sym q.1 ∙ (ap step_of (sym later_is) ∙ e)));
    } in
    let so = comes-to setup old.core id w.0 acceptor token now drawn q.0 step comes log (λ none. inl (table none)) q.1 q.2 fresh in
    let all : negotiated old.setup (raised old.core now) id w.0 token now drawn ≡ outcome_so (raised old.core now) id w.0 (mark_of q.0) step = ap (λ (p : AcceptSetup). negotiated p (raised old.core now) id w.0 token now drawn) set ∙ so in
    let answer_is : n.answer.answer ≡ answer_with (id_of id old.core.history) step = o.answer ∙ ap (λ (x : Outcomes). x.answer) all in
    let size : token_size n.answer.answer ≤ 65536 = subst (λ (a : NegAnswer). token_size a ≤ 65536) (sym answer_is) (answer-size (id_of id old.core.history) step short) in
    let s : IsStepped serves (creation_of terms xid id token) turn.kept old turn.after = record {
      decided = decided;
      asked = put;
      size = λ answer e. subst (λ (a : Negotiated). token_size a.answer ≤ 65536) (same-answer n.answer answer (sym n.is_kept ∙ e)) size;
    } in
    let b : IsBooked old.setup serves (creation_of terms xid id token) turn.kept (around_of turn) = step-turn terms xid serves id token turn.kept old turn.after called f s (subst (λ (p : AcceptSetup). HasPlaces p old.core id token turn.kept) (sym set) places) in
    let here_b : IsBooked setup serves turn.octets turn.kept (around_of turn) = subst (λ (p : AcceptSetup). IsBooked p serves turn.octets turn.kept (around_of turn)) set (subst (λ (o : List ℕ). IsBooked old.setup serves o turn.kept (around_of turn)) (sym here) b) in
    let history : turn.after.core.history ≡ entered id (goes_by id (next_of step) w.0 old.core.history old.core.table) (mark_of q.0) (next_of step) (max old.core.cache.greatest now) old.core.history = o.history ∙ ap (λ (x : Outcomes). x.history) all in
    let moment_is : max old.core.cache.greatest now ≡ moment = let seen : old.core.cache.greatest ≤ moment = ready.seen in let same_now : now ≡ moment = at_moment in omega (arith, seen, same_now) in
    let e : Entered id q.0 step old.core turn.after.core moment = record {
      history = history ∙ ap (λ (m : ℕ). entered id (goes_by id (next_of step) w.0 old.core.history old.core.table) (mark_of q.0) (next_of step) m old.core.history) moment_is;
      gone = goes_by id (next_of step) w.0 old.core.history old.core.table;
      after = context_after (until_of id (max old.core.cache.greatest now) old.core.table) (next_of step);
      contexts = subst (λ (c : Change). Changed old.core.table c turn.after.core.table) (ap (λ (x : Outcomes). x.change) all) o.contexts;
      greatest = n.stepped.notes.greatest ∙ ap (λ (m : ℕ). max old.core.cache.greatest m) at_moment;
    } in
    record {
      booked = here_b;
      turned = turned-by setup terms serves xid id acceptor token turn.kept (around_of turn) step called xids is_id few comes takes (subst (λ (r : List ℕ). IsBooked setup serves r turn.kept (around_of turn)) is here_b);
      asked = q.0;
      same = q.2;
      fits = step_fits;
      ready = ready-after id (id_of id old.core.history) count moment marked q.0 step old.core turn.after.core own_is ready step_fits at e;
      notes = n.stepped.notes;
      grown = subst (λ (h : List Entry). length h ≤ length old.core.history + 4) (sym history) (long-entered id (goes_by id (next_of step) w.0 old.core.history old.core.table) (mark_of q.0) (next_of step) (max old.core.cache.greatest now) old.core.history);
      entered_so = e;
      placed = none_goes;
      used = ap (λ (h : List Entry). in_use h) history
          ∙ ap (λ (o : Option ℕ). in_use (entered id o (mark_of q.0) (next_of step) (max old.core.cache.greatest now) old.core.history)) none_goes
          ∙ uses-entered id (mark_of q.0) (next_of step) (max old.core.cache.greatest now) old.core.history unused;
    }
