-- A creation call comes to a lane, whatever else stands in the world: the book takes its step, and leaves every other context as it was.
use Rattle.std.proofs.Common.{◌≡◌, ◌≢◌, inl, inr, ℕ, ◌+◌, ◌<◌, ◌≤◌, ◌^◌, lit<, true, false, refl, sym, ap, ◌∙◌, subst, arith, nat_lt, nat_le, List, [], ◌∷◌, ◌++◌, length, take, slice_get, option_map, option_to_list, Option, Some, None, Ok, Bool}
use Rattle.std.specs.Prelude.{max, ◌&&◌, ◌==◌, is_none, if◌then◌else◌}
use Rattle.std.proofs.lemmas.Bool.{ne_eqb}
use Rattle.std.proofs.lemmas.Option.{none-some, same_Some}
use Rattle.gss_base.specs.declared.mark.Mark.{Mark}
use Rattle.gss_base.specs.declared.mech.MechKind.{MechKind}
use Rattle.rpc_msgs.specs.Replies.{reply_octets}
use Rattle.rpc_program.specs.Programs.{Serving}
use Rattle.scram_mech.specs.MechMaking.{MechMaking}
use Rattle.spnego_core.specs.declared.accept_end.AcceptEnd.{AcceptEnd}
use Rattle.spnego_core.specs.declared.accept_end.AcceptEnd.TheVariants as ends
use Rattle.spnego_core.specs.declared.accept_end.AcceptStep.{AcceptStep}
use Rattle.spnego_core.specs.declared.accept_end.AcceptStep.TheVariants as accept_steps
use Rattle.spnego_core.specs.declared.accept_end.Answered.{Answered}
use Rattle.spnego_core.specs.declared.accept_end.Answered.TheVariants as afters
use Rattle.spnego_core.specs.declared.outcome.Outcome.{Outcome}
use Rattle.spnego_core.specs.declared.setup.AcceptSetup.{AcceptSetup}
use Rattle.spnego_core.specs.Accepting.{Fixed, Accepted, IsSettled, accept_step}
use Rattle.context_table.specs.Places.{slot_at, live_of, state_of}
use Rattle.accept_core.specs.declared.answer.MarkRefusal.{MarkRefusal}
use Rattle.accept_core.specs.declared.answer.Next.{Next}
use Rattle.accept_core.specs.declared.answer.Next.TheVariants as nexts
use Rattle.accept_core.specs.declared.entry.Entry.{Entry}
use Rattle.accept_core.specs.declared.entry.Entry.TheVariants.{Opened, Auth, Went, Settled, Call, Ended}
use Rattle.accept_book.specs.declared.book_answer.Admitted.{Admitted}
use Rattle.accept_book.specs.declared.book_answer.BookRefusal.{BookRefusal}
use Rattle.accept_book.specs.declared.book_answer.BookRefusal.TheVariants as refusals
use Rattle.accept_book.specs.declared.book_answer.NegAnswer.{NegAnswer}
use Rattle.accept_book.specs.declared.book_answer.NegAnswer.TheVariants as answers
use Rattle.accept_book.specs.declared.book_answer.Negotiated.{Negotiated}
use Rattle.accept_book.specs.BookAnswers.{BookStepped}
use Rattle.accept_book.specs.Booking.{Outcomes, raised, mark_of, settled_of, next_of, answer_with, leaves, later_step, by_step, by_mark, after_refusal, negotiated, gone_on_by, Becomes, Changed, changed, names_of}
use Rattle.accept_core.specs.Entering.{id_of, entered, mark_refused}
use Rattle.accept_core.specs.Replays.{Accepting}
use Rattle.accept_book.specs.Found.{step_taken, makes_of, found_of, fixes_of}
use Rattle.accept_core.specs.History.{Standing, standing, opened, taken_of}
use Rattle.accept_book.specs.RecordRule.{stepped, ask_step, record_ruling}
use Rattle.accept_book.specs.RecordShown.{KeptAnswers, Question, Negotiate, Look, Admit, End, Asked, AskedStep, AskedLook, AskedAdmit, AskedEnd, booked, Ruling}
use Rattle.accept_core.specs.Stepping.{Context as Slot, context_after, until_of, goes_by, IsNext}
use Rattle.gss_server.specs.Asking.{BookAnswers}
use Rattle.pair_laws.specs.HonestCalls.{IsToServer}
use Rattle.pair_laws.proofs.Granting.{granting, going}
use Rattle.pair_laws.proofs.Ruling.{IsId, creation_shown, asks}
use Rattle.pair_laws.proofs.Settling.{Came, Negotiates, ComesTo, slot-state, goes-after}
use Rattle.world_laws.specs.declared.event.Happened.{Happened}
use Rattle.world_laws.specs.declared.event.Happened.TheVariants.{Sent, Completed, Stepped, Refused, Nothing}
use Rattle.world_laws.specs.declared.event.WorldEvent.TheVariants.{Lane}
use Rattle.world_laws.specs.Deeds.{Deed}
use Rattle.world_laws.specs.State.{InHand, Context, World}
use Rattle.world_laws.specs.Lanes.{question_of, ruling_of, hand_after, found_by, makes_by, context_with, unless_short, fixes_by, IsAnswer, with_lane, if_answered, Follows, LaneMoves}
use Rattle.world_laws.specs.Events.{LanesBy, Happens}
use Rattle.world_laws.specs.Premises.{WasSettled}
use Rattle.world_laws.proofs.Due.{stepped-due}
use Rattle.world_laws.proofs.HeldHistory.{at-head}
use Rattle.world_laws.proofs.Undecided.{undecided, unanswered}
use Rattle.world_runs.specs.Served.{told_width, served, own_terms}
use Rattle.world_runs.proofs.MetEvents.{call_of, server}
use Rattle.world_many.specs.Carried.{NoEnds}

-- ---- the step that a book takes, where its log grows and no context ends

record Took (setup : AcceptSetup) (core : Accepting AcceptEnd Outcome) (id past : Option ℕ) (token : List ℕ) (now : ℕ) (drawn : List ℕ) (accepted : Accepted) : Type 0 where
  came : negotiated setup (raised core now) id past token now drawn ≡ record {
    answer = answer_with (id_of id core.history) (settled_of accepted.step);
    history = entered id (goes_by id (next_of (settled_of accepted.step)) past core.history core.table) (mark_of accepted.step) (next_of (settled_of accepted.step)) (max core.cache.greatest now) core.history;
    change = Becomes (goes_by id (next_of (settled_of accepted.step)) past core.history core.table) (id_of id core.history) (context_after (until_of id (max core.cache.greatest now) core.table) (next_of (settled_of accepted.step)));
  }
  taken : step_taken setup (raised core now) id past token now drawn ≡ Some accepted
  stays : goes_by id (next_of (settled_of accepted.step)) past core.history core.table ≡ None

first-cases : (h : List Entry) (a b : BookRefusal) (o : Outcomes) (full none : Bool) → ((if full then leaves h a else (if none then leaves h b else o)).history ≡ h → ⊥) → (full ≡ false) × (none ≡ false)
first-cases h a b o true none grew = absurd (grew refl)
first-cases h a b o false true grew = absurd (grew refl)
first-cases h a b o false false grew = (refl, refl)

later-case : (h : List Entry) (a : BookRefusal) (o : Outcomes) (full : Bool) → ((if full then leaves h a else o).history ≡ h → ⊥) → full ≡ false
later-case h a o true grew = absurd (grew refl)
later-case h a o false grew = refl

refused-not : (id : Option ℕ) (h after : List Entry) → after ≡ after_refusal id h → (after ≡ h → ⊥) → NoEnds after → ⊥
refused-not None h after e grew lasting = grew e
refused-not (Some id) h after e grew lasting = subst (λ (x : List Entry). NoEnds x) e lasting

unrefused : (core : Accepting AcceptEnd Outcome) (now : ℕ) (id past : Option ℕ) (mark : Option Mark) (step : AcceptStep) (r : Option MarkRefusal) → ((by_mark (raised core now) id past mark step r).history ≡ core.history → ⊥) → NoEnds (by_mark (raised core now) id past mark step r).history → r ≡ None
unrefused core now id past mark step None grew lasting = refl
unrefused core now id past mark step (Some refusal) grew lasting = absurd (refused-not id core.history (after_refusal id core.history) refl grew lasting)

-- a context that goes for a step stands in the log as ended
none-gone : (id gone : Option ℕ) (mark : Option Mark) (next : Next AcceptEnd Outcome) (now : ℕ) (h : List Entry) → NoEnds (entered {N = AcceptEnd} {S = Outcome} id gone mark next now h) → gone ≡ None
none-gone id None mark next now h lasting = refl
none-gone None (Some gone) None (nexts.Going state) now h lasting = absurd lasting
none-gone None (Some gone) (Some mark) (nexts.Going state) now h lasting = absurd lasting
none-gone None (Some gone) None (nexts.Settled mech names value ends) now h lasting = absurd lasting
none-gone None (Some gone) (Some mark) (nexts.Settled mech names value ends) now h lasting = absurd lasting
none-gone (Some id) (Some gone) None (nexts.Going state) now h lasting = absurd lasting
none-gone (Some id) (Some gone) (Some mark) (nexts.Going state) now h lasting = absurd lasting
none-gone (Some id) (Some gone) None (nexts.Settled mech names value ends) now h lasting = absurd lasting
none-gone (Some id) (Some gone) (Some mark) (nexts.Settled mech names value ends) now h lasting = absurd lasting

-- the step's mark isn't refused
took-step : (setup : AcceptSetup) (core : Accepting AcceptEnd Outcome) (id past : Option ℕ) (token : List ℕ) (now : ℕ) (drawn : List ℕ) (accepted : Accepted) → (is : negotiated setup (raised core now) id past token now drawn ≡ by_step (raised core now) id past (Ok accepted))
    → (mark_refused core.cache.capacity (max core.cache.greatest now) (taken_of core.history) (mark_of accepted.step) ≡ None → step_taken setup (raised core now) id past token now drawn ≡ Some accepted)
    → ((negotiated setup (raised core now) id past token now drawn).history ≡ core.history → ⊥) → NoEnds (negotiated setup (raised core now) id past token now drawn).history → Took setup core id past token now drawn accepted
took-step setup core id past token now drawn accepted is taken grew lasting =
    let r = unrefused core now id past (mark_of accepted.step) (settled_of accepted.step) (mark_refused core.cache.capacity (max core.cache.greatest now) (taken_of core.history) (mark_of accepted.step))
    (subst (λ (o : Outcomes). o.history ≡ core.history → ⊥) is grew) (subst (λ (o : Outcomes). NoEnds o.history) is lasting) in
    let came = is ∙ ap (by_mark (raised core now) id past (mark_of accepted.step) (settled_of accepted.step)) r in
    record {
      came = came;
      taken = taken r;
      stays = none-gone id (goes_by id (next_of (settled_of accepted.step)) past core.history core.table) (mark_of accepted.step) (next_of (settled_of accepted.step)) (max core.cache.greatest now) core.history (subst (λ (o : Outcomes). NoEnds o.history) came lasting);
    }

first-took : (setup : AcceptSetup) (core : Accepting AcceptEnd Outcome) (past : Option ℕ) (token : List ℕ) (now : ℕ) (drawn : List ℕ) (accepted : Accepted) → accept_step setup ends.New token now drawn ≡ Ok accepted
    → ((negotiated setup (raised core now) None past token now drawn).history ≡ core.history → ⊥) → NoEnds (negotiated setup (raised core now) None past token now drawn).history → Took setup core None past token now drawn accepted
first-took setup core past token now drawn accepted accepts grew lasting =
    let f = first-cases core.history refusals.LogFull refusals.TableFull (by_step (raised core now) None past (accept_step setup ends.New token now drawn)) (nat_lt core.limit (length core.history + 4)) (nat_le core.table.limit (live_of core.table) && is_none past) grew in
    took-step setup core None past token now drawn accepted (rw (f.0, f.1, accepts) refl) (λ r. rw (f.0, f.1, accepts, r) refl) grew lasting

later-took : (setup : AcceptSetup) (core : Accepting AcceptEnd Outcome) (id : ℕ) (past : Option ℕ) (end : AcceptEnd) (token : List ℕ) (now : ℕ) (drawn : List ℕ) (accepted : Accepted) → Negotiates id core end → accept_step setup end token now drawn ≡ Ok accepted
    → ((negotiated setup (raised core now) (Some id) past token now drawn).history ≡ core.history → ⊥) → NoEnds (negotiated setup (raised core now) (Some id) past token now drawn).history → Took setup core (Some id) past token now drawn accepted
later-took setup core id past end token now drawn accepted n accepts grew lasting =
    let grown = subst (λ (s : Standing). (gone_on_by s setup (raised core now) id past token now drawn).history ≡ core.history → ⊥) n.stands grew in
    let state = slot-state (slot_at core.table id) end n.ends n.context in
    let f = later-case core.history refusals.LogFull (by_step (raised core now) (Some id) past (later_step setup (state_of (slot_at core.table id)) token now drawn)) (nat_lt core.limit (length core.history + 4)) grown in
    took-step setup core (Some id) past token now drawn accepted (rw (n.stands, f, state, accepts) refl) (λ r. rw (n.stands, f, state, accepts, r) refl) grew lasting

took-so : (setup : AcceptSetup) (core : Accepting AcceptEnd Outcome) (id past : Option ℕ) (end : AcceptEnd) (token : List ℕ) (now : ℕ) (drawn : List ℕ) (accepted : Accepted) → ComesTo id core end → accept_step setup end token now drawn ≡ Ok accepted
    → ((negotiated setup (raised core now) id past token now drawn).history ≡ core.history → ⊥) → NoEnds (negotiated setup (raised core now) id past token now drawn).history → Took setup core id past token now drawn accepted
took-so setup core None past end token now drawn accepted comes accepts grew lasting =
    first-took setup core past token now drawn accepted (subst (λ (e : AcceptEnd). accept_step setup e token now drawn ≡ Ok accepted) comes accepts) grew lasting
took-so setup core (Some id) past end token now drawn accepted comes accepts grew lasting = later-took setup core id past end token now drawn accepted comes accepts grew lasting

-- ---- what a turn has

pub record Case : Type 0 where
  pub w : World
  pub serves : w.serves ≡ served
  pub lane : ℕ
  pub id : Option ℕ
  pub xid : ℕ
  pub end : AcceptEnd
  pub token : List ℕ
  pub now : ℕ
  pub draws : List ℕ
  pub idle : slice_get w.lanes lane ≡ Some None
  pub comes : ComesTo id w.book.core end
  pub accepted : Accepted
  pub accepts : accept_step w.book.setup end token now (take 66 draws) ≡ Ok accepted
  pub xid_fits : xid < 2 ^ 32
  pub is_id : IsId id
  pub short : length token ≤ 65536

-- the context's id
abbrev pub own : Case → ℕ
own c = id_of c.id c.w.book.core.history

abbrev drawn_of : Case → List ℕ
drawn_of c = take 66 c.draws

-- the step once nothing is to be asked
abbrev pub step_in : Case → AcceptStep
step_in c = settled_of c.accepted.step

-- the octets of the reply to a step
abbrev pub reply_on : ℕ → ℕ → AcceptStep → List ℕ
reply_on xid id (accept_steps.More end token) = reply_octets (going xid id token)
reply_on xid id (accept_steps.Done outcome lasts token) = reply_octets (granting xid outcome id told_width token)
reply_on xid id (accept_steps.WantsAuth pause) = []

abbrev kept_first : Case → KeptAnswers
kept_first c = record { now = c.now; draws = c.draws; negotiated = None; looked = None; admitted = None; ended = None }

abbrev kept_after : Case → Negotiated → KeptAnswers
kept_after c answer = record { now = c.now; draws = c.draws; negotiated = Some answer; looked = None; admitted = None; ended = None }

abbrev hand_of : Case → InHand
hand_of c = record { octets = call_of c.xid c.id c.token; kept = kept_first c }

abbrev question : Case → Question
question c = Negotiate c.id c.token c.now (drawn_of c)

to-server : IsToServer served.program own_terms
to-server = record { number = refl; version = refl; fits = record { number = lit< tt; version = lit< tt } }

due-is : (c : Case) → (ruling_of served (hand_of c)).due ≡ Some (question c)
due-is c = ap (λ (r : Ruling). r.due) (asks own_terms c.xid c.id c.token (kept_first c) server to-server c.xid_fits c.is_id c.short)

settled-asks : (step : AcceptStep) → IsSettled (settled_of step)
settled-asks (accept_steps.More end token) = tt
settled-asks (accept_steps.Done outcome lasts token) = tt
settled-asks (accept_steps.WantsAuth pause) = gone pause.after
  where
    gone : (after : Answered) → IsSettled (settled_of (accept_steps.WantsAuth (record { mark = pause.mark; after = after })))
    gone (afters.More end token) = tt
    gone (afters.Done outcome lasts token) = tt

replies-so : (c : Case) (answer : Negotiated) (id : ℕ) (step : AcceptStep) → IsSettled step → (stepped (creation_shown own_terms c.xid c.id c.token (kept_after c answer) server) (answer_with id step)).reply ≡ Some (reply_on c.xid id step)
replies-so c answer id (accept_steps.More end token) settled = refl
replies-so c answer id (accept_steps.Done outcome lasts token) settled = refl
replies-so c answer id (accept_steps.WantsAuth pause) settled = absurd settled

unless-with : (id : ℕ) (step : AcceptStep) (found : Option Fixed) → IsSettled step → unless_short (answer_with id step) found ≡ found
unless-with id (accept_steps.More end token) found settled = refl
unless-with id (accept_steps.Done outcome lasts token) found settled = refl
unless-with id (accept_steps.WantsAuth pause) found settled = absurd settled

-- ---- the question and its answer

record IsStep (c : Case) (asked : Asked Admitted) : Type 0 where
  answer : Negotiated
  is : asked ≡ AskedStep c.id c.token c.now (drawn_of c) answer

same-question : (a b : Question) → Some a ≡ Some b → a ≡ b
same-question a b e = cc

abbrev step_asked : Negotiated → Question → Asked Admitted
step_asked answer (Negotiate id token now draws) = AskedStep id token now draws answer
step_asked answer (Look id now) = AskedStep None [] 0 [] answer
step_asked answer (Admit lease seq service procedure args) = AskedStep None [] 0 [] answer
step_asked answer (End lease seq) = AskedStep None [] 0 [] answer

step-asked : (c : Case) (asked : Asked Admitted) → Some (question_of asked) ≡ Some (question c) → IsStep c asked
step-asked c (AskedStep id token now draws answer) e = record { answer = answer; is = ap (step_asked answer) (same-question (Negotiate id token now draws) (question c) e) }
step-asked c (AskedLook id now answer) e = absurd cc
step-asked c (AskedAdmit lease seq service procedure args answer) e = absurd cc
step-asked c (AskedEnd lease seq answer) e = absurd cc

sent-by : (r : Ruling) (octets : List ℕ) → r.reply ≡ Some octets → (happened : Happened) → IsAnswer r (Some happened) → happened ≡ Sent octets
sent-by r octets e (Sent reply) is = ap Sent (same_Some reply octets (sym is.0 ∙ e))
sent-by r octets e (Stepped rule) is = absurd (none-some octets (sym is.0 ∙ e))
sent-by r octets e (Completed outcome) is = absurd is
sent-by r octets e Refused is = absurd is
sent-by r octets e Nothing is = absurd is

after-is : (c : Case) (answer : Negotiated)
    → record_ruling (call_of c.xid c.id c.token) (kept_after c answer) served ≡ ask_step (creation_shown own_terms c.xid c.id c.token (kept_after c answer) server) c.id c.token (Some answer)
after-is c answer = asks own_terms c.xid c.id c.token (kept_after c answer) server to-server c.xid_fits c.is_id c.short

record Said (c : Case) (answer : Negotiated) (happened : Happened) (left : Option InHand) : Type 0 where
  nothing : left ≡ None
  remembered : answer.answer ≢ answers.NoMemory
  sent : answer.answer ≡ answer_with (own c) (step_in c) → happened ≡ Sent (reply_on c.xid (own c) (step_in c))

said-by : (c : Case) (answer : Negotiated) (happened : Happened) (left : Option InHand) → Follows served (record { octets = call_of c.xid c.id c.token; kept = kept_after c answer }) (Some happened) left → Said c answer happened left
said-by c answer happened left (inl more) =
    absurd (none-some more.0 (sym (stepped-due (creation_shown own_terms c.xid c.id c.token (kept_after c answer) server) answer.answer) ∙ (sym (ap (λ (r : Ruling). r.due) (after-is c answer)) ∙ more.1)))
said-by c answer happened left (inr said) = record {
  nothing = said.1;
  remembered = λ short. (let zero : (record_ruling (call_of c.xid c.id c.token) (kept_after c answer) served).rule ≡ 0 =
      ap (λ (r : Ruling). r.rule) (after-is c answer) ∙ ap (λ (a : NegAnswer). (stepped (creation_shown own_terms c.xid c.id c.token (kept_after c answer) server) a).rule) short in
      none-some happened (sym (unanswered (record_ruling (call_of c.xid c.id c.token) (kept_after c answer) served) (Some happened) zero said.0)));
  sent = λ is. sent-by (record_ruling (call_of c.xid c.id c.token) (kept_after c answer) served) (reply_on c.xid (own c) (step_in c))
      (ap (λ (r : Ruling). r.reply) (after-is c answer)
      ∙ (ap (λ (a : NegAnswer). (stepped (creation_shown own_terms c.xid c.id c.token (kept_after c answer) server) a).reply) is ∙ replies-so c answer (own c) (step_in c) (settled-asks c.accepted.step))) happened said.0;
}

-- the context that goes for the step
abbrev pub gone_in : Case → Option ℕ → Option ℕ
gone_in c past = goes_by c.id (next_of (step_in c)) past c.w.book.core.history c.w.book.core.table

-- what the event did
pub record Answers (c : Case) (deed : Deed) (new : World) : Type 0 where
  pub answer : deed.answer ≡ Some (Sent (reply_on c.xid (own c) (step_in c)))
  pub found : deed.found ≡ c.accepted.found
  pub makes : deed.makes ≡ c.accepted.makes
  pub stages_are : new.stages ≡ c.w.stages
  pub fixed : new.fixed ≡ c.w.fixed ++ option_to_list (option_map (context_with (own c)) c.accepted.fixes)
  pub makings : new.makings ≡ c.w.makings ++ c.accepted.makes
  pub past : Option ℕ
  pub history : new.book.core.history ≡ entered c.id (gone_in c past) (mark_of c.accepted.step) (next_of (step_in c)) (max c.w.book.core.cache.greatest c.now) c.w.book.core.history
  pub contexts : Changed c.w.book.core.table (Becomes (gone_in c past) (own c) (context_after (until_of c.id (max c.w.book.core.cache.greatest c.now) c.w.book.core.table) (next_of (step_in c)))) new.book.core.table
  pub stays : gone_in c past ≡ None

abbrev Logged : Case → World → Type 0
Logged c new = (new.book.core.history ≡ c.w.book.core.history → ⊥) × NoEnds new.book.core.history

answered-by : (c : Case) (happened : Happened) (deed : Deed) (new : World) (past : Option ℕ) (left : Option InHand) (answer : Negotiated) → deed.answer ≡ Some happened → Logged c new
    → IsNext c.w.book.core.table (max c.w.book.core.cache.greatest c.now) past → BookStepped c.w.book new.book c.id c.token c.now (drawn_of c) answer
    → Follows served (record { octets = call_of c.xid c.id c.token; kept = kept_after c answer }) deed.answer left
    → deed.makes ≡ if_answered deed.answer (makes_by c.w.book past (hand_of c) (AskedStep c.id c.token c.now (drawn_of c) answer))
    → deed.found ≡ found_by c.w.book past (hand_of c) (AskedStep c.id c.token c.now (drawn_of c) answer)
    → deed.fixes ≡ fixes_by c.w.book past (AskedStep c.id c.token c.now (drawn_of c) answer)
    → new ≡ with_lane c.w c.lane left new.book deed → Answers c deed new
answered-by c happened deed new past left answer some logged late stepped follows makes found fixes new_is =
    let said : Said c answer happened left = said-by c answer happened left (subst (λ (a : Option Happened). Follows served (record { octets = call_of c.xid c.id c.token; kept = kept_after c answer }) a left) some follows) in
    let o = stepped.comes.outcome past (λ first. late) said.remembered in
    let t = took-so c.w.book.setup c.w.book.core c.id past c.end c.token c.now (drawn_of c) c.accepted c.comes c.accepts (λ e. logged.0 (o.history ∙ e)) (subst (λ (h : List Entry). NoEnds h) o.history logged.1) in
    let is : answer.answer ≡ answer_with (own c) (step_in c) = o.answer ∙ ap (λ (z : Outcomes). z.answer) t.came in
    let made : deed.makes ≡ c.accepted.makes = makes ∙ (ap (λ (a : Option Happened). if_answered a (makes_by c.w.book past (hand_of c) (AskedStep c.id c.token c.now (drawn_of c) answer))) some ∙ ap makes_of t.taken) in
    let fixed : deed.fixes ≡ option_map (context_with (own c)) c.accepted.fixes = fixes
    ∙ ((λ i. option_map (context_with (own c)) (unless_short (is i) (fixes_of (t.taken i))))
    ∙ ap (option_map (context_with (own c))) (unless-with (own c) (step_in c) c.accepted.fixes (settled-asks c.accepted.step))) in
    record {
      answer = some ∙ ap Some (said.sent is);
      found = found ∙ ap found_of t.taken;
      makes = made;
      stages_are = ap (λ (w : World). w.stages) new_is;
      fixed = ap (λ (w : World). w.fixed) new_is ∙ ap (λ (f : Option Context). c.w.fixed ++ option_to_list f) fixed;
      makings = ap (λ (w : World). w.makings) new_is ∙ ap (λ (ms : List MechMaking). c.w.makings ++ ms) made;
      past = past;
      history = o.history ∙ ap (λ (z : Outcomes). z.history) t.came;
      contexts = subst (λ (z : Outcomes). Changed c.w.book.core.table z.change new.book.core.table) t.came o.contexts;
      stays = t.stays;
    }

answers-by : (c : Case) (happened : Happened) (deed : Deed) (new : World) → deed.answer ≡ Some happened → Logged c new → LaneMoves c.w c.lane (hand_of c) deed new → Answers c deed new
answers-by c happened deed new some logged (inl o) =
    let is : IsAnswer (ruling_of served (hand_of c)) deed.answer = subst (λ (z : Serving). IsAnswer (ruling_of z (hand_of c)) deed.answer) c.serves o.answer in
    absurd (none-some happened (sym (unanswered (ruling_of served (hand_of c)) deed.answer (undecided (call_of c.xid c.id c.token) (kept_first c) served (question c) (due-is c)) is) ∙ some))
answers-by c happened deed new some logged (inr q) = by (step-asked c q.asked (sym (subst (λ (z : Serving). (ruling_of z (hand_of c)).due ≡ Some (question_of q.asked)) c.serves q.due) ∙ due-is c))
  where
    follows : Follows served (hand_after (hand_of c) q.asked) deed.answer q.left
    follows = subst (λ (z : Serving). Follows z (hand_after (hand_of c) q.asked) deed.answer q.left) c.serves q.follows

    by : IsStep c q.asked → Answers c deed new
    by s = answered-by c happened deed new q.past q.left s.answer some logged q.is_past (subst (λ (a : Asked Admitted). BookAnswers c.w.book (booked a) new.book) s.is q.answers)
        (subst (λ (a : Asked Admitted). Follows served (hand_after (hand_of c) a) deed.answer q.left) s.is follows)
        (subst (λ (a : Asked Admitted). deed.makes ≡ if_answered deed.answer (makes_by c.w.book q.past (hand_of c) a)) s.is q.makes)
        (subst (λ (a : Asked Admitted). deed.found ≡ found_by c.w.book q.past (hand_of c) a) s.is q.found)
        (subst (λ (a : Asked Admitted). deed.fixes ≡ fixes_by c.w.book q.past a) s.is q.fixes) q.new_is

pub answers-so : (c : Case) (happened : Happened) (deed : Deed) (new : World) → Happens c.w (Lane c.lane (call_of c.xid c.id c.token) c.now c.draws) deed new → deed.answer ≡ Some happened
    → (new.book.core.history ≡ c.w.book.core.history → ⊥) → NoEnds new.book.core.history → Answers c deed new
answers-so c happened deed new h some grew lasting =
    answers-by c happened deed new some (grew, lasting) (subst (λ (hand : Option (Option InHand)). LanesBy c.w c.lane (call_of c.xid c.id c.token) c.now c.draws hand deed new) c.idle h.did)

-- ---- other contexts are left as they were

standing-other : (id gone : Option ℕ) (mark : Option Mark) (next : Next AcceptEnd Outcome) (now : ℕ) (h : List Entry) (n : ℕ) → gone ≡ None → (id_of id h == n) ≡ false
    → standing n (entered {N = AcceptEnd} {S = Outcome} id gone mark next now h) ≡ standing n h
standing-other id (Some gone) mark next now h n e ne = absurd (none-some gone (sym e))
standing-other None None None (nexts.Going state) now h n e ne = rw ne refl
standing-other None None (Some mark) (nexts.Going state) now h n e ne = rw ne refl
standing-other None None None (nexts.Settled mech names value ends) now h n e ne = rw ne refl
standing-other None None (Some mark) (nexts.Settled mech names value ends) now h n e ne = rw ne refl
standing-other (Some id) None None (nexts.Going state) now h n e ne = refl
standing-other (Some id) None (Some mark) (nexts.Going state) now h n e ne = refl
standing-other (Some id) None None (nexts.Settled mech names value ends) now h n e ne = rw ne refl
standing-other (Some id) None (Some mark) (nexts.Settled mech names value ends) now h n e ne = rw ne refl

changed-other : (gone : Option ℕ) (id n : ℕ) (after : Slot AcceptEnd Outcome) (before : Option (Slot AcceptEnd Outcome)) → gone ≡ None → (id == n) ≡ false → changed (Becomes gone id after) n before ≡ before
changed-other None id n after before e ne = rw ne refl
changed-other (Some gone) id n after before e ne = absurd (none-some gone (sym e))

pub stays-other : (c : Case) (deed : Deed) (new : World) (a : Answers c deed new) (n : ℕ) (end : AcceptEnd) → own c ≢ n → Negotiates n c.w.book.core end → Negotiates n new.book.core end
stays-other c deed new a n end other k =
    let ne : (own c == n) ≡ false = ne_eqb (own c) n other in
    record {
      at = k.at;
      stands = ap (λ (h : List Entry). standing n h) a.history ∙ (standing-other c.id (gone_in c a.past) (mark_of c.accepted.step) (next_of (step_in c)) (max c.w.book.core.cache.greatest c.now) c.w.book.core.history n a.stays ne ∙ k.stands);
      ends = k.ends;
      context = a.contexts n ∙ (changed-other (gone_in c a.past) (own c) n _ _ a.stays ne ∙ k.context);
    }

-- ---- and its own goes on, or is settled

pub goes-own : (c : Case) (deed : Deed) (new : World) (a : Answers c deed new) (after : AcceptEnd) (reply : List ℕ) → step_in c ≡ accept_steps.More after reply → Negotiates (own c) new.book.core after
goes-own c deed new a after reply goes =
    let o : Outcomes = record {
      answer = answer_with (own c) (step_in c);
      history = entered c.id (gone_in c a.past) (mark_of c.accepted.step) (next_of (step_in c)) (max c.w.book.core.cache.greatest c.now) c.w.book.core.history;
      change = Becomes (gone_in c a.past) (own c) (context_after (until_of c.id (max c.w.book.core.cache.greatest c.now) c.w.book.core.table) (next_of (step_in c)));
    } in
    let came : Came (raised c.w.book.core c.now) c.id a.past (step_in c) o = record { mark = mark_of c.accepted.step; is = refl } in
    goes-after c.w.book.setup c.w.book.core new.book.core c.id a.past c.end after reply c.now o c.comes (subst (λ (s : AcceptStep). Came (raised c.w.book.core c.now) c.id a.past s o) goes came) a.history a.contexts

settled-in : (id : ℕ) (mech : MechKind) (names : List ℕ) (lasts at : ℕ) (rest h : List Entry) → h ≡ Settled id mech names lasts at ∷ rest → WasSettled h id
settled-in id mech names lasts at rest h e =
    subst (λ (z : List Entry). WasSettled z id) (sym e) (record { place = length rest; mech = mech; names = names; ends = lasts; at = at; entry = at-head (length rest) (Settled id mech names lasts at) rest refl })

pub settles-own : (c : Case) (deed : Deed) (new : World) (a : Answers c deed new) (outcome : Outcome) (lasts : ℕ) (reply : List ℕ) → step_in c ≡ accept_steps.Done outcome lasts reply → WasSettled new.book.core.history (own c)
settles-own c deed new a outcome lasts reply done =
    settled-in (own c) outcome.mech (names_of outcome) lasts (max c.w.book.core.cache.greatest c.now) _ new.book.core.history
    (a.history ∙ ap (λ (s : AcceptStep). entered c.id (goes_by c.id (next_of s) a.past c.w.book.core.history c.w.book.core.table) (mark_of c.accepted.step) (next_of s) (max c.w.book.core.cache.greatest c.now) c.w.book.core.history) done)

-- ---- ids are counted

opened-more : (id gone : Option ℕ) (mark : Option Mark) (next : Next AcceptEnd Outcome) (now : ℕ) (h : List Entry) → gone ≡ None
    → (opened h ≤ opened (entered {N = AcceptEnd} {S = Outcome} id gone mark next now h)) × (id ≡ None → opened h + 1 ≤ opened (entered {N = AcceptEnd} {S = Outcome} id gone mark next now h))
opened-more id (Some gone) mark next now h e = absurd (none-some gone (sym e))
opened-more None None None (nexts.Going state) now h e = (omega arith, λ n. omega arith)
opened-more None None (Some mark) (nexts.Going state) now h e = (omega arith, λ n. omega arith)
opened-more None None None (nexts.Settled mech names value ends) now h e = (omega arith, λ n. omega arith)
opened-more None None (Some mark) (nexts.Settled mech names value ends) now h e = (omega arith, λ n. omega arith)
opened-more (Some id) None None (nexts.Going state) now h e = (omega arith, λ n. absurd (none-some id (sym n)))
opened-more (Some id) None (Some mark) (nexts.Going state) now h e = (omega arith, λ n. absurd (none-some id (sym n)))
opened-more (Some id) None None (nexts.Settled mech names value ends) now h e = (omega arith, λ n. absurd (none-some id (sym n)))
opened-more (Some id) None (Some mark) (nexts.Settled mech names value ends) now h e = (omega arith, λ n. absurd (none-some id (sym n)))

own-by : (id : Option ℕ) (h new : List Entry) → opened h ≤ opened new → (id ≡ None → opened h + 1 ≤ opened new) → ((n : ℕ) → id ≡ Some n → n ≤ opened h) → id_of id h ≤ opened new
own-by None h new grows one known = one refl
own-by (Some id) h new grows one known = let k = known id refl in omega (arith, k, grows)

pub record Counted (c : Case) (new : World) : Type 0 where
  pub grows : opened c.w.book.core.history ≤ opened new.book.core.history
  pub own_is : own c ≤ opened new.book.core.history

pub counted : (c : Case) (deed : Deed) (new : World) (a : Answers c deed new) → ((n : ℕ) → c.id ≡ Some n → n ≤ opened c.w.book.core.history) → Counted c new
counted c deed new a known =
    let more = opened-more c.id (gone_in c a.past) (mark_of c.accepted.step) (next_of (step_in c)) (max c.w.book.core.cache.greatest c.now) c.w.book.core.history a.stays in
    let grows : opened c.w.book.core.history ≤ opened new.book.core.history = subst (λ (h : List Entry). opened c.w.book.core.history ≤ opened h) (sym a.history) more.0 in
    let one : c.id ≡ None → opened c.w.book.core.history + 1 ≤ opened new.book.core.history = λ e. subst (λ (h : List Entry). opened c.w.book.core.history + 1 ≤ opened h) (sym a.history) (more.1 e) in
    record { grows = grows; own_is = own-by c.id c.w.book.core.history new.book.core.history grows one known }

-- no more ids than entries
pub opened-few : (h : List Entry) → opened h ≤ length h
opened-few [] = omega arith
opened-few (Opened i at ∷ h) = let f = opened-few h in omega (arith, f)
opened-few (Auth i mark at ∷ h) = let f = opened-few h in omega (arith, f)
opened-few (Went i at ∷ h) = let f = opened-few h in omega (arith, f)
opened-few (Settled i mech names ends at ∷ h) = let f = opened-few h in omega (arith, f)
opened-few (Call i seq procedure args ∷ h) = let f = opened-few h in omega (arith, f)
opened-few (Ended i cause ∷ h) = let f = opened-few h in omega (arith, f)

-- what the log doesn't have in the end, it never had
pub lasting-front : (more h : List Entry) → NoEnds (more ++ h) → NoEnds h
lasting-front [] h n = n
lasting-front (Opened i at ∷ more) h n = lasting-front more h n
lasting-front (Auth i mark at ∷ more) h n = lasting-front more h n
lasting-front (Went i at ∷ more) h n = lasting-front more h n
lasting-front (Settled i mech names ends at ∷ more) h n = lasting-front more h n
lasting-front (Call i seq procedure args ∷ more) h n = lasting-front more h n
lasting-front (Ended i cause ∷ more) h n = absurd n
