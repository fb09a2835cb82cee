-- A turn of an honest exchange, event by event: a record comes to a lane, and the reply to the initiator.
use Rattle.std.proofs.Common.{◌≡◌, ◌≢◌, inl, inr, ℕ, suc, ◌+◌, ◌*◌, ◌<◌, ◌≤◌, ◌^◌, false, lit<, lit≤, refl, sym, ap, ◌∙◌, subst, arith, nat_lt, nat_le, List, [], ◌∷◌, ◌++◌, length, map, take, slice_get, slice_set, option_map, option_to_list, Option, Some, None, Result, Ok}
use Rattle.std.specs.Prelude.{max}
use Rattle.std.proofs.lemmas.Bool.Decides.{nat_tests}
use Rattle.std.proofs.lemmas.Option.{none-some, same_Some}
use Rattle.gss_base.specs.declared.mark.Mark.{Mark}
use Rattle.krb_tokens.specs.declared.end.Side.TheVariants.{Acceptor}
use Rattle.krb_tokens.specs.Makings.{mic_making}
use Rattle.krb_tokens.specs.Mic.{mic_header, mic_of}
use Rattle.replay_cache.specs.Taking.{cache_verdict}
use Rattle.rpc_msgs.specs.Words.{word}
use Rattle.rpc_msgs.specs.Replies.{reply_octets}
use Rattle.rpcsec_bodies.proofs.Lengths.{mic-size}
use Rattle.rpcsec_msgs.specs.InitRes.{IsInitRes}
use Rattle.scram_mech.specs.MechMaking.{MechMaking, typed}
use Rattle.spnego_core.specs.declared.accept_end.AcceptEnd.{AcceptEnd}
use Rattle.spnego_core.specs.declared.accept_end.AcceptEnd.TheVariants as ends
use Rattle.spnego_core.specs.declared.accept_end.AcceptStep.{AcceptStep}
use Rattle.spnego_core.specs.declared.accept_end.AcceptStep.TheVariants as accept_steps
use Rattle.spnego_core.specs.declared.accept_end.Answered.{Answered}
use Rattle.spnego_core.specs.declared.accept_end.Answered.TheVariants as afters
use Rattle.spnego_core.specs.declared.outcome.Outcome.{Outcome}
use Rattle.spnego_core.specs.declared.refusal.NegRefusal.{NegRefusal}
use Rattle.spnego_core.specs.declared.setup.AcceptSetup.{AcceptSetup}
use Rattle.spnego_core.specs.Ends.{EndSays}
use Rattle.spnego_core.specs.EndSteps as init_steps
use Rattle.spnego_core.specs.Accepting.{Fixed, IsSettled, accept_step}
use Rattle.spnego_core.specs.Exchange.{passed}
use Rattle.spnego_core.specs.Initiating.{Started, Initiated, init_start, step_of}
use Rattle.spnego_core.specs.Outcome.{token_end}
use Rattle.context_table.specs.Places.{slot_at, live_of}
use Rattle.accept_core.specs.declared.answer.MarkRefusal.{MarkRefusal}
use Rattle.accept_book.specs.declared.book_answer.Admitted.{Admitted}
use Rattle.accept_book.specs.declared.book_answer.NegAnswer.{NegAnswer}
use Rattle.accept_book.specs.declared.book_answer.NegAnswer.TheVariants as answers
use Rattle.accept_book.specs.declared.book_answer.Negotiated.{Negotiated}
use Rattle.accept_core.specs.Answers.{mark_refusal}
use Rattle.accept_book.specs.BookAnswers.{IsOutcome, BookStepped}
use Rattle.accept_book.specs.Booking.{BookOf, Outcomes, NotesMoment, raised, mark_of, settled_of, next_of, answer_with, by_step, by_mark, negotiated, Becomes}
use Rattle.accept_core.specs.Entering.{id_of, entered, mark_refused}
use Rattle.accept_book.specs.Found.{step_taken, makes_of, found_of, fixes_of, end_before, stepped_from}
use Rattle.accept_core.specs.History.{numbers, taken_of}
use Rattle.accept_book.specs.RecordRule.{stepped, ask_step, record_ruling}
use Rattle.accept_book.specs.RecordShown.{KeptAnswers, Question, Negotiate, Look, Admit, End, Asked, AskedStep, AskedLook, AskedAdmit, AskedEnd, booked, Ruling, handle_of}
use Rattle.accept_core.specs.Aging.{in_use}
use Rattle.accept_core.specs.declared.answer.Next.{Next}
use Rattle.accept_core.specs.Stepping.{context_after, until_of, goes_by, IsNext}
use Rattle.pair_laws.proofs.Readiness.{none-goes}
use Rattle.gss_client.specs.declared.refusal.ClientRefusal.{ClientRefusal}
use Rattle.gss_client.specs.Creation.{CreatedSays}
use Rattle.gss_client.specs.Creation as created
use Rattle.gss_client.specs.Calling.{creation_call}
use Rattle.gss_client.specs.Judging.{granted_in}
use Rattle.gss_client.specs.Session.{SessionState, xid_after}
use Rattle.gss_client.specs.Talk.{begun}
use Rattle.gss_server.specs.Asking.{BookAnswers}
use Rattle.pair_laws.specs.Answering.{Server}
use Rattle.pair_laws.specs.HonestCalls.{IsToServer}
use Rattle.pair_laws.proofs.Granting.{granted_with, grants, result_with, result_on, window_mic, granting, going, creation-stands, creation-goes}
use Rattle.pair_laws.proofs.Ruling.{proc_for, handle_for, IsId, creation_shown, asks}
use Rattle.pair_laws.proofs.Settling.{Came, Negotiates, ComesTo, slot-state, steps-end}
use Rattle.world_laws.specs.declared.event.Happened.{Happened}
use Rattle.world_laws.specs.declared.event.Happened.TheVariants.{Sent, Completed, Stepped, Refused, Nothing}
use Rattle.world_laws.specs.declared.event.WorldEvent.TheVariants.{Start, Deliver, Lane}
use Rattle.world_laws.specs.Stages.{StageSays}
use Rattle.world_laws.specs.Stages as stages
use Rattle.world_laws.specs.Deeds.{Deed}
use Rattle.world_laws.specs.State.{InHand, Context, World}
use Rattle.world_laws.specs.Initiators.{started_by, starts, initiated_by, initiated_with, initiated, handed_out, verified, window_found, created_by, takes}
use Rattle.world_laws.specs.Lanes.{question_of, ruling_of, hand_after, found_by, makes_by, opened_in, opened_by, request_of, context_with, unless_short, fixes_by, IsAnswer, with_lane, if_answered, Follows, LaneMoves}
use Rattle.world_laws.specs.Events.{Moves, LanesBy, Happens}
use Rattle.world_laws.proofs.Due.{stepped-due}
use Rattle.world_runs.specs.Served.{told_width, served, own_terms}
use Rattle.world_runs.proofs.MetRounds.{Setting, setup_in, Heard, Took}
use Rattle.world_laws.proofs.Slices.{set-same}
use Rattle.world_laws.proofs.Undecided.{undecided, unanswered}

-- a creation call: the first of a context, or a later one of this id
abbrev pub call_of : ℕ → Option ℕ → List ℕ → List ℕ
call_of xid id token = creation_call own_terms xid (proc_for id) (handle_for id) token

-- the world of the one initiator, which is at this stage; contexts have the id 1
abbrev pub world_in : Setting → StageSays → BookOf → List (Option InHand) → List MechMaking → List Fixed → World
world_in x stage book lanes made fixed = record { serves = served; facts = x.own ∷ []; stages = stage ∷ []; book = book; lanes = lanes; fixed = map (context_with 1) fixed; makings = made }

-- how the book stands before a turn, with so many draws left: it awaits a token for this end, and has room
pub record Stays (x : Setting) (id : Option ℕ) (end : AcceptEnd) (left : ℕ) (book : BookOf) (lanes : List (Option InHand)) (fixed : List Fixed) : Type 0 where
  pub idle : slice_get lanes 0 ≡ Some None
  pub setup : book.setup ≡ setup_in x
  pub comes : ComesTo id book.core end
  pub own : id_of id book.core.history ≡ 1
  pub few : id ≡ None → live_of book.core.table < book.core.table.limit
  pub unused : in_use book.core.history ≡ []
  pub room : length book.core.history + 2 + 2 * left ≤ book.core.limit
  pub uncalled : numbers 1 book.core.history ≡ []
  pub untaken : fixed ≡ [] → taken_of book.core.history ≡ []
  pub capacity : book.core.cache.capacity ≡ x.book.core.cache.capacity
  pub greatest : max book.core.cache.greatest x.now ≡ max x.book.core.cache.greatest x.now

-- what a turn has
pub record Case : Type 0 where
  pub x : Setting
  pub id : Option ℕ
  pub xid : ℕ
  pub end : AcceptEnd
  pub initiator : EndSays
  pub token : List ℕ
  pub draws : List ℕ
  pub made : List MechMaking
  pub fixed : List Fixed
  pub book : BookOf
  pub lanes : List (Option InHand)
  pub left : ℕ
  pub stays : Stays x id end (suc left) book lanes fixed
  pub heard : Heard x end token (take 66 draws) made fixed
  pub xid_fits : xid < 2 ^ 32
  pub is_id : IsId id
  pub short : length token ≤ 65536

abbrev pub before : Case → World
before c = world_in c.x (stages.Asks c.xid c.initiator) c.book c.lanes c.made c.fixed

abbrev pub drawn_of : Case → List ℕ
drawn_of c = take 66 c.draws

-- ---- the record comes to the lane

abbrev kept_first : Case → KeptAnswers
kept_first c = record { now = c.x.now; draws = c.draws; negotiated = None; looked = None; admitted = None; ended = None }

abbrev hand_of : Case → InHand
hand_of c = record { octets = call_of c.xid c.id c.token; kept = kept_first c }

-- the question that is due
abbrev question : Case → Question
question c = Negotiate c.id c.token c.x.now (drawn_of c)

-- a server of that program: what it answers isn't looked at
abbrev pub server : Server
server = record { serving = served; results = λ name procedure args log. [] }

to-server : IsToServer served.program own_terms
to-server = record { number = refl; version = refl; fits = record { number = lit< tt; version = lit< tt } }

due-is : (c : Case) → (ruling_of served (hand_of c)).due ≡ Some (question c)
due-is c = ap (λ (r : Ruling). r.due) (asks own_terms c.xid c.id c.token (kept_first c) server to-server c.xid_fits c.is_id c.short)

-- ---- the step that the book takes

enough : (c : Case) → length c.book.core.history + 4 ≤ c.book.core.limit
enough c = omega (arith, c.stays.room)

room : (c : Case) → nat_lt c.book.core.limit (length c.book.core.history + 4) ≡ false
room c = let some = enough c in grind (arith, nat_tests)

place : (c : Case) → c.id ≡ None → nat_le c.book.core.table.limit (live_of c.book.core.table) ≡ false
place c none = let few = c.stays.few none in grind (arith, nat_tests)

-- no context goes for a step
pub goes-alone : (c : Case) (past : Option ℕ) (step : Next AcceptEnd Outcome) → goes_by c.id step past c.book.core.history c.book.core.table ≡ None
goes-alone c past step = none-goes c.id step past c.book.core.history c.book.core.table c.stays.unused c.stays.few

here : (c : Case) → accept_step c.book.setup c.end c.token c.x.now (drawn_of c) ≡ Ok c.heard.accepted
here c = subst (λ (s : AcceptSetup). accept_step s c.end c.token c.x.now (drawn_of c) ≡ Ok c.heard.accepted) (sym c.stays.setup) c.heard.accepts

unrefused : (c : Case) → mark_refused c.book.core.cache.capacity (max c.book.core.cache.greatest c.x.now) (taken_of c.book.core.history) (mark_of c.heard.accepted.step) ≡ None
unrefused c = by (mark_of c.heard.accepted.step) refl
  where
    by : (found : Option Mark) → mark_of c.heard.accepted.step ≡ found → mark_refused c.book.core.cache.capacity (max c.book.core.cache.greatest c.x.now) (taken_of c.book.core.history) found ≡ None
    by None e = refl
    by (Some mark) e =
        let m = c.heard.mark mark e in
        let same : cache_verdict c.book.core.cache.capacity (max c.book.core.cache.greatest c.x.now) (taken_of c.book.core.history) mark ≡ cache_verdict c.x.book.core.cache.capacity (max c.x.book.core.cache.greatest c.x.now) [] mark =
        λ i. cache_verdict (c.stays.capacity i) (c.stays.greatest i) (c.stays.untaken m.0 i) mark in
        ap mark_refusal (same ∙ m.1)

-- the step once nothing is to be asked
abbrev pub step_in : Case → AcceptStep
step_in c = settled_of c.heard.accepted.step

pub settled-passed : (step : AcceptStep) → settled_of step ≡ passed step
settled-passed (accept_steps.More end token) = refl
settled-passed (accept_steps.Done outcome lasts token) = refl
settled-passed (accept_steps.WantsAuth pause) = refl

-- what the token comes to
abbrev pub comes_of : Case → Option ℕ → Outcomes
comes_of c past = negotiated c.book.setup (raised c.book.core c.x.now) c.id past c.token c.x.now (drawn_of c)

pub came : (c : Case) (past : Option ℕ) → comes_of c past ≡ record {
  answer = answer_with (id_of c.id c.book.core.history) (step_in c);
  history = entered c.id (goes_by c.id (next_of (step_in c)) past c.book.core.history c.book.core.table) (mark_of c.heard.accepted.step) (next_of (step_in c)) (max c.book.core.cache.greatest c.x.now) c.book.core.history;
  change = Becomes (goes_by c.id (next_of (step_in c)) past c.book.core.history c.book.core.table) (id_of c.id c.book.core.history) (context_after (until_of c.id (max c.book.core.cache.greatest c.x.now) c.book.core.table) (next_of (step_in c)));
}
came c past =
    steps-end c.book.setup c.book.core c.id past c.end c.token c.x.now (drawn_of c) c.stays.comes (enough c) (λ none. inl (c.stays.few none))
    ∙ (ap (by_step (raised c.book.core c.x.now) c.id past) (here c)
    ∙ ap (λ (r : Option MarkRefusal). by_mark (raised c.book.core c.x.now) c.id past (mark_of c.heard.accepted.step) (step_in c) r) (unrefused c))

pub came-so : (c : Case) (past : Option ℕ) → Came (raised c.book.core c.x.now) c.id past (step_in c) (comes_of c past)
came-so c past = record { mark = mark_of c.heard.accepted.step; is = came c past }

taken-at : (c : Case) (id past : Option ℕ) → c.id ≡ id → step_taken c.book.setup (raised c.book.core c.x.now) id past c.token c.x.now (drawn_of c) ≡ Some c.heard.accepted
taken-at c None past e =
    let new : c.end ≡ ends.New = subst (λ (i : Option ℕ). ComesTo i c.book.core c.end) e c.stays.comes in
    let accepts : accept_step c.book.setup ends.New c.token c.x.now (drawn_of c) ≡ Ok c.heard.accepted = subst (λ (z : AcceptEnd). accept_step c.book.setup z c.token c.x.now (drawn_of c) ≡ Ok c.heard.accepted) new (here c) in
    rw (room c, place c e, accepts, unrefused c) refl
taken-at c (Some id) past e =
    let n : Negotiates id c.book.core c.end = subst (λ (i : Option ℕ). ComesTo i c.book.core c.end) e c.stays.comes in
    rw (n.stands, room c, slot-state (slot_at c.book.core.table id) c.end n.ends n.context, here c, unrefused c) refl

taken-is : (c : Case) (past : Option ℕ) → step_taken c.book.setup (raised c.book.core c.x.now) c.id past c.token c.x.now (drawn_of c) ≡ Some c.heard.accepted
taken-is c past = taken-at c c.id past refl

from-at : (c : Case) (id : Option ℕ) → c.id ≡ id → stepped_from (raised c.book.core c.x.now) id ≡ c.end
from-at c None e = sym (subst (λ (i : Option ℕ). ComesTo i c.book.core c.end) e c.stays.comes)
from-at c (Some id) e =
    let n : Negotiates id c.book.core c.end = subst (λ (i : Option ℕ). ComesTo i c.book.core c.end) e c.stays.comes in
    ap end_before (slot-state (slot_at c.book.core.table id) c.end n.ends n.context)

opens-so : (c : Case) (answer : Negotiated) → opened_by c.book (AskedStep c.id c.token c.x.now (drawn_of c) answer) ≡ opened_in (setup_in c.x).keytab (setup_in c.x).own (request_of (setup_in c.x) c.end c.token)
opens-so c answer = λ i. opened_in (c.stays.setup i).keytab (c.stays.setup i).own (request_of (c.stays.setup i) (from-at c c.id refl i) c.token)

-- ---- its reply

-- the octets of the reply to a step
abbrev pub reply_to : ℕ → AcceptStep → List ℕ
reply_to xid (accept_steps.More end token) = reply_octets (going xid 1 token)
reply_to xid (accept_steps.Done outcome lasts token) = reply_octets (granting xid outcome 1 told_width token)
reply_to xid (accept_steps.WantsAuth pause) = []

settled-asks : (step : AcceptStep) → IsSettled (settled_of step)
settled-asks (accept_steps.More end token) = tt
settled-asks (accept_steps.Done outcome lasts token) = tt
settled-asks (accept_steps.WantsAuth pause) = gone pause.after
  where
    gone : (after : Answered) → IsSettled (settled_of (accept_steps.WantsAuth (record { mark = pause.mark; after = after })))
    gone (afters.More end token) = tt
    gone (afters.Done outcome lasts token) = tt

-- the kept answers with the book's
abbrev kept_after : Case → Negotiated → KeptAnswers
kept_after c answer = record { now = c.x.now; draws = c.draws; negotiated = Some answer; looked = None; admitted = None; ended = None }

replies-so : (c : Case) (answer : Negotiated) (step : AcceptStep) → IsSettled step → (stepped (creation_shown own_terms c.xid c.id c.token (kept_after c answer) server) (answer_with 1 step)).reply ≡ Some (reply_to c.xid step)
replies-so c answer (accept_steps.More end token) settled = refl
replies-so c answer (accept_steps.Done outcome lasts token) settled = refl
replies-so c answer (accept_steps.WantsAuth pause) settled = absurd settled

unless-with : (id : ℕ) (step : AcceptStep) (found : Option Fixed) → IsSettled step → unless_short (answer_with id step) found ≡ found
unless-with id (accept_steps.More end token) found settled = refl
unless-with id (accept_steps.Done outcome lasts token) found settled = refl
unless-with id (accept_steps.WantsAuth pause) found settled = absurd settled

-- ---- the question and its answer

record IsStep (c : Case) (asked : Asked Admitted) : Type 0 where
  answer : Negotiated
  is : asked ≡ AskedStep c.id c.token c.x.now (drawn_of c) answer

same-question : (a b : Question) → Some a ≡ Some b → a ≡ b
same-question a b e = cc

-- a question of a step, with this answer
abbrev step_asked : Negotiated → Question → Asked Admitted
step_asked answer (Negotiate id token now draws) = AskedStep id token now draws answer
step_asked answer (Look id now) = AskedStep None [] 0 [] answer
step_asked answer (Admit lease seq service procedure args) = AskedStep None [] 0 [] answer
step_asked answer (End lease seq) = AskedStep None [] 0 [] answer

step-asked : (c : Case) (asked : Asked Admitted) → Some (question_of asked) ≡ Some (question c) → IsStep c asked
step-asked c (AskedStep id token now draws answer) e = record { answer = answer; is = ap (step_asked answer) (same-question (Negotiate id token now draws) (question c) e) }
step-asked c (AskedLook id now answer) e = absurd cc
step-asked c (AskedAdmit lease seq service procedure args answer) e = absurd cc
step-asked c (AskedEnd lease seq answer) e = absurd cc

pub record Answers (c : Case) (deed : Deed) (new : World) : Type 0 where
  pub answer : deed.answer ≡ Some (Sent (reply_to c.xid (step_in c)))
  pub found : deed.found ≡ c.heard.accepted.found
  pub opened : deed.opened ≡ opened_in (setup_in c.x).keytab (setup_in c.x).own (request_of (setup_in c.x) c.end c.token)
  pub book : BookOf
  pub lanes : List (Option InHand)
  pub new_is : new ≡ world_in c.x (stages.Asks c.xid c.initiator) book lanes (c.made ++ c.heard.accepted.makes) (c.fixed ++ option_to_list c.heard.accepted.fixes)
  pub idle : slice_get lanes 0 ≡ Some None
  pub past : Option ℕ
  pub said : Negotiated
  pub outcome : IsOutcome (raised c.book.core c.x.now) (comes_of c past) said book.core
  pub notes : NotesMoment c.book book c.x.now

-- a reply that is due, where something was answered
sent-by : (r : Ruling) (octets : List ℕ) → r.reply ≡ Some octets → (happened : Happened) → IsAnswer r (Some happened) → happened ≡ Sent octets
sent-by r octets e (Sent reply) is = ap Sent (same_Some reply octets (sym is.0 ∙ e))
sent-by r octets e (Stepped rule) is = absurd (none-some octets (sym is.0 ∙ e))
sent-by r octets e (Completed outcome) is = absurd is
sent-by r octets e Refused is = absurd is
sent-by r octets e Nothing is = absurd is

after-is : (c : Case) (answer : Negotiated)
    → record_ruling (call_of c.xid c.id c.token) (kept_after c answer) served ≡ ask_step (creation_shown own_terms c.xid c.id c.token (kept_after c answer) server) c.id c.token (Some answer)
after-is c answer = asks own_terms c.xid c.id c.token (kept_after c answer) server to-server c.xid_fits c.is_id c.short

-- what follows, by what the book answered
record Said (c : Case) (answer : Negotiated) (happened : Happened) (left : Option InHand) : Type 0 where
  nothing : left ≡ None
  remembered : answer.answer ≢ answers.NoMemory
  sent : answer.answer ≡ answer_with 1 (step_in c) → happened ≡ Sent (reply_to c.xid (step_in c))

said-by : (c : Case) (answer : Negotiated) (happened : Happened) (left : Option InHand) → Follows served (record { octets = call_of c.xid c.id c.token; kept = kept_after c answer }) (Some happened) left → Said c answer happened left
said-by c answer happened left (inl more) =
    absurd (none-some more.0 (sym (stepped-due (creation_shown own_terms c.xid c.id c.token (kept_after c answer) server) answer.answer) ∙ (sym (ap (λ (r : Ruling). r.due) (after-is c answer)) ∙ more.1)))
said-by c answer happened left (inr said) = record {
  nothing = said.1;
  remembered = λ short. (let zero : (record_ruling (call_of c.xid c.id c.token) (kept_after c answer) served).rule ≡ 0 =
      ap (λ (r : Ruling). r.rule) (after-is c answer) ∙ ap (λ (a : NegAnswer). (stepped (creation_shown own_terms c.xid c.id c.token (kept_after c answer) server) a).rule) short in
      none-some happened (sym (unanswered (record_ruling (call_of c.xid c.id c.token) (kept_after c answer) served) (Some happened) zero said.0)));
  sent = λ is. sent-by (record_ruling (call_of c.xid c.id c.token) (kept_after c answer) served) (reply_to c.xid (step_in c))
      (ap (λ (r : Ruling). r.reply) (after-is c answer)
      ∙ (ap (λ (a : NegAnswer). (stepped (creation_shown own_terms c.xid c.id c.token (kept_after c answer) server) a).reply) is ∙ replies-so c answer (step_in c) (settled-asks c.heard.accepted.step))) happened said.0;
}

-- one more context
map-more : (fixed : List Fixed) (found : Option Fixed) → map (context_with 1) fixed ++ option_to_list (option_map (context_with 1) found) ≡ map (context_with 1) (fixed ++ option_to_list found)
map-more [] None = refl
map-more [] (Some one) = refl
map-more (first ∷ fixed) found = ap (λ (xs : List Context). context_with 1 first ∷ xs) (map-more fixed found)

-- the deed and the world, by the step that the book took
answered-by : (c : Case) (happened : Happened) (deed : Deed) (new : World) (past : Option ℕ) (left : Option InHand) (answer : Negotiated) → deed.answer ≡ Some happened
    → IsNext c.book.core.table (max c.book.core.cache.greatest c.x.now) past → BookStepped c.book new.book c.id c.token c.x.now (drawn_of c) answer
    → Follows served (record { octets = call_of c.xid c.id c.token; kept = kept_after c answer }) deed.answer left
    → deed.makes ≡ if_answered deed.answer (makes_by c.book past (hand_of c) (AskedStep c.id c.token c.x.now (drawn_of c) answer))
    → deed.found ≡ found_by c.book past (hand_of c) (AskedStep c.id c.token c.x.now (drawn_of c) answer)
    → deed.opened ≡ opened_by c.book (AskedStep c.id c.token c.x.now (drawn_of c) answer)
    → deed.fixes ≡ fixes_by c.book past (AskedStep c.id c.token c.x.now (drawn_of c) answer)
    → new ≡ with_lane (before c) 0 left new.book deed → Answers c deed new
answered-by c happened deed new past left answer some late stepped follows makes found opened fixes new_is =
    let said : Said c answer happened left = said-by c answer happened left (subst (λ (a : Option Happened). Follows served (record { octets = call_of c.xid c.id c.token; kept = kept_after c answer }) a left) some follows) in
    let o = stepped.comes.outcome past (λ first. late) said.remembered in
    let is : answer.answer ≡ answer_with 1 (step_in c) = o.answer ∙ (ap (λ (z : Outcomes). z.answer) (came c past) ∙ ap (λ (n : ℕ). answer_with n (step_in c)) c.stays.own) in
    let taken = taken-is c past in
    let made : deed.makes ≡ c.heard.accepted.makes = makes ∙ (ap (λ (a : Option Happened). if_answered a (makes_by c.book past (hand_of c) (AskedStep c.id c.token c.x.now (drawn_of c) answer))) some ∙ ap makes_of taken) in
    let fixed : deed.fixes ≡ option_map (context_with 1) c.heard.accepted.fixes = fixes
    ∙ ((λ i. option_map (context_with (c.stays.own i)) (unless_short (is i) (fixes_of (taken i))))
    ∙ ap (option_map (context_with 1)) (unless-with 1 (step_in c) c.heard.accepted.fixes (settled-asks c.heard.accepted.step))) in
    record {
      answer = some ∙ ap Some (said.sent is);
      found = found ∙ ap found_of taken;
      opened = opened ∙ opens-so c answer;
      book = new.book;
      lanes = slice_set c.lanes 0 left;
      new_is = new_is ∙ ((λ i. record {
        serves = served;
        facts = c.x.own ∷ [];
        stages = stages.Asks c.xid c.initiator ∷ [];
        book = new.book;
        lanes = slice_set c.lanes 0 left;
        fixed = map (context_with 1) c.fixed ++ option_to_list (fixed i);
        makings = c.made ++ made i;
      }) ∙ ap (λ (xs : List Context). record {
        serves = served;
        facts = c.x.own ∷ [];
        stages = stages.Asks c.xid c.initiator ∷ [];
        book = new.book;
        lanes = slice_set c.lanes 0 left;
        fixed = xs;
        makings = c.made ++ c.heard.accepted.makes;
      }) (map-more c.fixed c.heard.accepted.fixes));
      idle = set-same c.lanes 0 left None c.stays.idle ∙ ap Some said.nothing;
      past = past;
      said = answer;
      outcome = o;
      notes = stepped.notes;
    }

answers-by : (c : Case) (happened : Happened) (deed : Deed) (new : World) → deed.answer ≡ Some happened → LaneMoves (before c) 0 (hand_of c) deed new → Answers c deed new
answers-by c happened deed new some (inl o) =
    absurd (none-some happened (sym (unanswered (ruling_of served (hand_of c)) deed.answer (undecided (call_of c.xid c.id c.token) (kept_first c) served (question c) (due-is c)) o.answer) ∙ some))
answers-by c happened deed new some (inr q) = by (step-asked c q.asked (sym q.due ∙ due-is c))
  where
    by : IsStep c q.asked → Answers c deed new
    by s = answered-by c happened deed new q.past q.left s.answer some q.is_past (subst (λ (a : Asked Admitted). BookAnswers c.book (booked a) new.book) s.is q.answers)
        (subst (λ (a : Asked Admitted). Follows served (hand_after (hand_of c) a) deed.answer q.left) s.is q.follows)
        (subst (λ (a : Asked Admitted). deed.makes ≡ if_answered deed.answer (makes_by c.book q.past (hand_of c) a)) s.is q.makes)
        (subst (λ (a : Asked Admitted). deed.found ≡ found_by c.book q.past (hand_of c) a) s.is q.found)
        (subst (λ (a : Asked Admitted). deed.opened ≡ opened_by c.book a) s.is q.opened)
        (subst (λ (a : Asked Admitted). deed.fixes ≡ fixes_by c.book q.past a) s.is q.fixes) q.new_is

pub answers-so : (c : Case) (happened : Happened) (deed : Deed) (new : World) → Happens (before c) (Lane 0 (call_of c.xid c.id c.token) c.x.now c.draws) deed new → deed.answer ≡ Some happened → Answers c deed new
answers-so c happened deed new h some =
    answers-by c happened deed new some (subst (λ (hand : Option (Option InHand)). LanesBy (before c) 0 (call_of c.xid c.id c.token) c.x.now c.draws hand deed new) c.stays.idle h.did)

-- ---- the initiator starts

pub record Starts (x : Setting) (started : Started) (lanes : List (Option InHand)) (deed : Deed) (new : World) : Type 0 where
  pub answer : deed.answer ≡ Some (Sent (call_of 1 None started.token))
  pub found : deed.found ≡ []
  pub opened : deed.opened ≡ None
  pub new_is : new ≡ world_in x (stages.Asks 1 started.end) x.book lanes started.makes []

abbrev pub first_world : Setting → List (Option InHand) → World
first_world x lanes = world_in x (stages.Ready x.own) x.book lanes [] []

starts-by : (x : Setting) (started : Started) (lanes : List (Option InHand)) (deed : Deed) (new : World) → init_start x.own ≡ Ok started → Moves (first_world x lanes) 0 (starts served x.own) deed new → deed.answer ≢ None → Starts x started lanes deed new
starts-by x started lanes deed new begins moves some = by (subst (λ (r : Result Started NegRefusal). Moves (first_world x lanes) 0 (started_by served r) deed new) begins moves)
  where
    by : Moves (first_world x lanes) 0 (started_by served (Ok started)) deed new → Starts x started lanes deed new
    by (inl m) = record { answer = ap (λ (d : Deed). d.answer) m.0; found = ap (λ (d : Deed). d.found) m.0; opened = ap (λ (d : Deed). d.opened) m.0; new_is = m.1 }
    by (inr m) = absurd (some (ap (λ (d : Deed). d.answer) m.0))

pub starts-so : (x : Setting) (started : Started) (lanes : List (Option InHand)) (deed : Deed) (new : World) → init_start x.own ≡ Ok started → Happens (first_world x lanes) (Start 0) deed new → deed.answer ≢ None → Starts x started lanes deed new
starts-so x started lanes deed new begins h some = starts-by x started lanes deed new begins h.did some

-- ---- the reply comes to the initiator

handle-length : (id : ℕ) → length (handle_of id) ≡ 8
handle-length id = refl

going-granted : (xid : ℕ) (token : List ℕ) → xid < 2 ^ 32 → length token ≤ 65536 → granted_in xid (reply_octets (going xid 1 token)) ≡ Ok (granted_with xid 0 [] (result_on 1 token))
going-granted xid token fits few =
    let is : IsInitRes (result_on 1 token) = record { context = omega (arith, handle-length 1); major = lit< tt; minor = lit< tt; window = lit< tt; token = few } in
    grants xid 0 [] (result_on 1 token) fits (lit< tt) (lit≤ tt) is (lit≤ tt)

settled-granted : (xid : ℕ) (outcome : Outcome) (token : List ℕ) → xid < 2 ^ 32 → length token ≤ 65536
    → granted_in xid (reply_octets (granting xid outcome 1 told_width token)) ≡ Ok (granted_with xid 6 (window_mic outcome told_width) (result_with 1 told_width token))
settled-granted xid outcome token fits few =
    let is : IsInitRes (result_with 1 told_width token) = record { context = omega (arith, handle-length 1); major = lit< tt; minor = lit< tt; window = lit< tt; token = few } in
    grants xid 6 (window_mic outcome told_width) (result_with 1 told_width token) fits (lit< tt) (omega (arith, mic-size (token_end outcome Acceptor) 1 (word told_width))) is (lit≤ tt)

-- it goes on
pub record TakesOn (x : Setting) (xid : ℕ) (book : BookOf) (lanes : List (Option InHand)) (made : List MechMaking) (fixed : List Fixed) (taken : Initiated) (next : EndSays) (further : List ℕ) (deed : Deed) (new : World) : Type 0 where
  pub answer : deed.answer ≡ Some (Sent (call_of (xid_after xid) (Some 1) further))
  pub found : deed.found ≡ taken.found
  pub opened : deed.opened ≡ None
  pub new_is : new ≡ world_in x (stages.Asks (xid_after xid) next) book lanes (made ++ taken.makes) fixed

takes-on-by : (x : Setting) (xid : ℕ) (initiator : EndSays) (book : BookOf) (lanes : List (Option InHand)) (made : List MechMaking) (fixed : List Fixed) (reply : List ℕ) (t : Took initiator reply made) (next : EndSays) (further : List ℕ) → t.initiated.step ≡ init_steps.More next further
    → xid < 2 ^ 32 → length reply ≤ 65536 → (deed : Deed) (new : World) → Moves (world_in x (stages.Asks xid initiator) book lanes made fixed) 0 (takes served 1 xid initiator (reply_octets (going xid 1 reply))) deed new → deed.answer ≢ None
    → TakesOn x xid book lanes made fixed t.initiated next further deed new
takes-on-by x xid initiator book lanes made fixed reply t next further more fits few deed new moves some =
    by (subst (λ (r : Result CreatedSays ClientRefusal). Moves (world_in x (stages.Asks xid initiator) book lanes made fixed) 0 (created_by served 1 xid initiator (reply_octets (going xid 1 reply)) r) deed new)
    (creation-goes xid initiator next 1 reply further fits few (ap step_of t.initiates ∙ ap Ok more)) moves)
  where
    is : initiated xid initiator (reply_octets (going xid 1 reply)) ≡ Some t.initiated
    is = ap (initiated_with initiator) (going-granted xid reply fits few) ∙ ap initiated_by t.initiates

    by : Moves (world_in x (stages.Asks xid initiator) book lanes made fixed) 0 (created_by served 1 xid initiator (reply_octets (going xid 1 reply)) (Ok (created.Going (record { end = next; handle = handle_of 1; token = further })))) deed new
        → TakesOn x xid book lanes made fixed t.initiated next further deed new
    by (inl m) = record {
      answer = ap (λ (d : Deed). d.answer) m.0;
      found = ap (λ (d : Deed). d.found) m.0 ∙ ap verified is;
      opened = ap (λ (d : Deed). d.opened) m.0;
      new_is = m.1 ∙ ap (λ (i : Option Initiated). world_in x (stages.Asks (xid_after xid) next) book lanes (made ++ handed_out i) fixed) is;
    }
    by (inr m) = absurd (some (ap (λ (d : Deed). d.answer) m.0))

pub takes-on : (x : Setting) (xid : ℕ) (initiator : EndSays) (book : BookOf) (lanes : List (Option InHand)) (made : List MechMaking) (fixed : List Fixed) (reply : List ℕ) (t : Took initiator reply made) (next : EndSays) (further : List ℕ) → t.initiated.step ≡ init_steps.More next further
    → xid < 2 ^ 32 → length reply ≤ 65536 → (deed : Deed) (new : World) → Happens (world_in x (stages.Asks xid initiator) book lanes made fixed) (Deliver 0 (reply_octets (going xid 1 reply)) 1) deed new → deed.answer ≢ None
    → TakesOn x xid book lanes made fixed t.initiated next further deed new
takes-on x xid initiator book lanes made fixed reply t next further more fits few deed new h some = takes-on-by x xid initiator book lanes made fixed reply t next further more fits few deed new h.did some

-- its context stands
abbrev pub window_of : Outcome → MechMaking
window_of outcome = typed (mic_making (token_end outcome Acceptor) 1 (word told_width))

abbrev pub session_with : ℕ → Outcome → SessionState
session_with xid outcome = begun own_terms 1 (xid_after xid) outcome (handle_of 1)

window-is : (xid : ℕ) (outcome : Outcome) (token : List ℕ) → xid < 2 ^ 32 → length token ≤ 65536 → window_found outcome (granted_in xid (reply_octets (granting xid outcome 1 told_width token))) ≡ window_of outcome ∷ []
unfolding mic_of mic_header
window-is xid outcome token fits few = rw (settled-granted xid outcome token fits few) refl

pub record TakesLast (x : Setting) (xid : ℕ) (book : BookOf) (lanes : List (Option InHand)) (made : List MechMaking) (fixed : List Fixed) (taken : Initiated) (outcome : Outcome) (deed : Deed) (new : World) : Type 0 where
  pub answer : deed.answer ≡ Some (Completed outcome)
  pub found : deed.found ≡ taken.found ++ window_of outcome ∷ []
  pub opened : deed.opened ≡ None
  pub new_is : new ≡ world_in x (stages.Stands (session_with xid outcome)) book lanes (made ++ taken.makes) fixed

takes-last-by : (x : Setting) (xid : ℕ) (initiator : EndSays) (book : BookOf) (lanes : List (Option InHand)) (made : List MechMaking) (fixed : List Fixed) (reply : List ℕ) (t : Took initiator reply made) (outcome : Outcome) → t.initiated.step ≡ init_steps.Done outcome
    → xid < 2 ^ 32 → length reply ≤ 65536 → (deed : Deed) (new : World) → Moves (world_in x (stages.Asks xid initiator) book lanes made fixed) 0 (takes served 1 xid initiator (reply_octets (granting xid outcome 1 told_width reply))) deed new → deed.answer ≢ None
    → TakesLast x xid book lanes made fixed t.initiated outcome deed new
takes-last-by x xid initiator book lanes made fixed reply t outcome done fits few deed new moves some =
    by (subst (λ (r : Result CreatedSays ClientRefusal). Moves (world_in x (stages.Asks xid initiator) book lanes made fixed) 0 (created_by served 1 xid initiator (reply_octets (granting xid outcome 1 told_width reply)) r) deed new)
    (creation-stands xid initiator outcome 1 told_width reply fits (lit< tt) (lit< tt) few (ap step_of t.initiates ∙ ap Ok done)) moves)
  where
    is : initiated xid initiator (reply_octets (granting xid outcome 1 told_width reply)) ≡ Some t.initiated
    is = ap (initiated_with initiator) (settled-granted xid outcome reply fits few) ∙ ap initiated_by t.initiates

    by : Moves (world_in x (stages.Asks xid initiator) book lanes made fixed) 0 (created_by served 1 xid initiator (reply_octets (granting xid outcome 1 told_width reply)) (Ok (created.Stands outcome (handle_of 1)))) deed new
        → TakesLast x xid book lanes made fixed t.initiated outcome deed new
    by (inl m) = record {
      answer = ap (λ (d : Deed). d.answer) m.0;
      found = ap (λ (d : Deed). d.found) m.0 ∙ (λ i. verified (is i) ++ window-is xid outcome reply fits few i);
      opened = ap (λ (d : Deed). d.opened) m.0;
      new_is = m.1 ∙ ap (λ (i : Option Initiated). world_in x (stages.Stands (session_with xid outcome)) book lanes (made ++ handed_out i) fixed) is;
    }
    by (inr m) = absurd (some (ap (λ (d : Deed). d.answer) m.0))

pub takes-last : (x : Setting) (xid : ℕ) (initiator : EndSays) (book : BookOf) (lanes : List (Option InHand)) (made : List MechMaking) (fixed : List Fixed) (reply : List ℕ) (t : Took initiator reply made) (outcome : Outcome) → t.initiated.step ≡ init_steps.Done outcome
    → xid < 2 ^ 32 → length reply ≤ 65536 → (deed : Deed) (new : World) → Happens (world_in x (stages.Asks xid initiator) book lanes made fixed) (Deliver 0 (reply_octets (granting xid outcome 1 told_width reply)) 1) deed new → deed.answer ≢ None
    → TakesLast x xid book lanes made fixed t.initiated outcome deed new
takes-last x xid initiator book lanes made fixed reply t outcome done fits few deed new h some = takes-last-by x xid initiator book lanes made fixed reply t outcome done fits few deed new h.did some
