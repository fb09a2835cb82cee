-- One call after an exchange, event by event: the session calls, its record comes to a lane, which looks for the context and then admits the call.
use Rattle.std.proofs.Common.{◌≡◌, ◌⊎◌, inl, inr, ℕ, ◌<◌, ◌≤◌, lit<, lit≤, zero, suc, Bool, true, false, is_some, refl, sym, ap, ◌∙◌, subst, arith, List, [], ◌∷◌, ◌++◌, length, map, slice_get, slice_set, option_to_list, Option, Some, None, Result, Ok, Err}
use Rattle.std.specs.Prelude.{nat_eq}
use Rattle.std.specs.Cmp.Lexicographic.{pointwise}
use Rattle.std.proofs.lemmas.Bool.{eq-eqb, and_from}
use Rattle.std.proofs.lemmas.Option.{none-some, same_Some}
use Rattle.sha1.specs.Sha1.{sha1}
use Rattle.krb_derive.specs.Key.{key_octets}
use Rattle.krb_tokens.specs.declared.end.Side.TheVariants.{Initiator}
use Rattle.scram_mech.specs.MechMaking.{MechMaking, AmongMakings, typed}
use Rattle.krb_derive.specs.Making.{Making}
use Rattle.seq_window.specs.Marks.{greatest, is_in}
use Rattle.spnego_core.specs.declared.accept_end.AcceptEnd.{AcceptEnd}
use Rattle.spnego_core.specs.declared.outcome.Outcome.{Outcome}
use Rattle.spnego_core.specs.Ends.{PlainSetup}
use Rattle.spnego_core.specs.Outcome.{token_end}
use Rattle.context_table.specs.declared.slot.Slot.{Slot}
use Rattle.context_table.specs.declared.slot.SlotState.{SlotState}
use Rattle.context_table.specs.declared.slot.SlotState.TheVariants as states
use Rattle.context_table.specs.Slots.{HasState}
use Rattle.context_table.specs.Places.{Places, slot_at, HasValue}
use Rattle.accept_core.specs.declared.answer.LookRefusal.{LookRefusal}
use Rattle.accept_book.specs.declared.book_answer.Admitted.{Admitted}
use Rattle.accept_book.specs.declared.book_answer.Lease.{Lease}
use Rattle.accept_core.specs.declared.entry.Entry.{Entry}
use Rattle.accept_core.specs.declared.entry.Entry.TheVariants.{Call}
use Rattle.accept_book.specs.BookAnswers.{BookLooked}
use Rattle.accept_book.specs.Booking.{BookOf, names_of, has_key, LeasedBy}
use Rattle.accept_book.specs.BookLaws.{Lasting, fixed_state}
use Rattle.accept_core.specs.History.{Standing, Whole, standing, numbers, is_whole}
use Rattle.accept_book.specs.Honest.{Honest, HonestLaw, caller_of}
use Rattle.accept_book.specs.Looking.{IsLooked}
use Rattle.accept_book.specs.RecordShown.{Question, Negotiate, Look, Admit, End, Asked, AskedStep, AskedLook, AskedAdmit, AskedEnd, booked, handle_id}
use Rattle.posts_program.specs.Posts.{are_args}
use Rattle.accept_core.specs.Stepping.{context_of}
use Rattle.gss_client.specs.Session.{SessionState, session_after}
use Rattle.gss_server.specs.Asking.{BookAnswers}
use Rattle.rpcsec_bodies.specs.declared.service.Service.{Service}
use Rattle.rpcsec_bodies.specs.Service.{service_of}
use Rattle.rpc_program.specs.Programs.{ProgramSays, Serving}
use Rattle.world_laws.specs.declared.event.Happened.{Happened}
use Rattle.world_laws.specs.declared.event.Happened.TheVariants.{Sent}
use Rattle.world_laws.specs.declared.event.WorldEvent.TheVariants.{Lane, CallBy}
use Rattle.world_laws.specs.Stages.{StageSays}
use Rattle.world_laws.specs.Stages as stages
use Rattle.world_laws.specs.Deeds.{Deed}
use Rattle.world_laws.specs.State.{InHand, Context, World, moved_to}
use Rattle.world_laws.specs.Events.{Moves, CallsBy, LanesBy, Happens}
use Rattle.world_laws.specs.Arrival.{Arrives, IsEnded, IsTaken}
use Rattle.world_laws.specs.Initiators.{calls, call_makings}
use Rattle.world_laws.specs.Lanes.{question_of, ruling_of, hand_after, found_by, makes_by, opened_by, fixes_by, secure_call_in, made_for_call, with_lane, if_answered, Follows, LaneMoves}
use Rattle.world_runs.specs.Served.{served}
use Rattle.world_runs.specs.Meeting.{Rests}
use Rattle.world_laws.proofs.Arriving.{arrival}
use Rattle.world_laws.proofs.Invariants.{Held}
use Rattle.world_runs.proofs.MetCalls.{Made, session_of, record_of, IsRecord, is-record}
use Rattle.world_laws.proofs.Slices.{set-same}
use Rattle.world_laws.proofs.Undecided.{undecided, unanswered}

-- a world after an exchange, and a call of a served procedure at a moment in time
pub record Calling : Type 0 where
  pub w : World
  pub own : PlainSetup
  pub outcome : Outcome
  pub context : Context
  pub rests : Rests w own outcome context
  pub agree : context.fixed.outcome ≡ outcome
  pub held : Held w
  pub procedure : ℕ
  pub args : List ℕ
  pub served : procedure ≤ 4
  pub proper : are_args procedure args ≡ true
  pub size : length args ≤ 65540
  pub now : ℕ
  pub draws : List ℕ
  pub timely : now ≤ context.fixed.lasts
  pub law : (lease : Lease) → lease.outcome.key ≡ outcome.key → HonestLaw lease

abbrev pub made_of : Calling → Made
made_of c = record {
  outcome = c.outcome;
  id = c.context.id;
  number = 1;
  xid = c.rests.xid;
  procedure = c.procedure;
  args = c.args;
  id_fits = subst (λ (n : ℕ). n < 18446744073709551616) (sym c.rests.first) (lit< tt);
  few = lit≤ tt;
  xid_fits = c.rests.xid_fits;
  served = c.served;
  proper = c.proper;
  size = c.size;
}

abbrev pub session : Calling → SessionState
session c = session_of (made_of c)

abbrev pub octets_of : Calling → List ℕ
octets_of c = record_of (made_of c)

known : (c : Calling) → IsRecord (made_of c) (octets_of c)
known c = is-record (made_of c)

-- ---- the session calls

abbrev pub makings_of : Calling → List MechMaking
makings_of c = map typed (call_makings (session c) c.procedure c.args)

abbrev pub sent_world : Calling → World
sent_world c = moved_to c.w 0 (stages.Stands (session_after (session c))) (makings_of c)

pub record Sends (c : Calling) (deed : Deed) (new : World) : Type 0 where
  pub answer : deed.answer ≡ Some (Sent (octets_of c))
  pub new_is : new ≡ sent_world c

pub sends : (c : Calling) (happened : Happened) (deed : Deed) (new : World) → Happens c.w (CallBy 0 c.procedure c.args) deed new → deed.answer ≡ Some happened → Sends c deed new
sends c happened deed new h some = by (subst (λ (st : List StageSays). CallsBy c.w 0 c.procedure c.args (slice_get st 0) deed new) c.rests.stands h.did)
  where
    by : Moves c.w 0 (calls (session c) c.procedure c.args) deed new → Sends c deed new
    by (inl m) = record { answer = ap (λ (d : Deed). d.answer) m.0; new_is = m.1 }
    by (inr m) = absurd (none-some happened (sym (ap (λ (d : Deed). d.answer) m.0) ∙ some))

-- ---- its record comes to a lane, which looks for the context

abbrev pub hand_of : Calling → Option (Result Lease LookRefusal) → InHand
hand_of c looked = record { octets = octets_of c; kept = record { now = c.now; draws = c.draws; negotiated = None; looked = looked; admitted = None; ended = None } }

-- the world after it: with this book, and this lease in hand
abbrev pub looked_world : Calling → BookOf → Lease → World
looked_world c book lease = record {
  serves = c.w.serves;
  facts = c.w.facts;
  stages = slice_set c.w.stages 0 (stages.Stands (session_after (session c)));
  book = book;
  lanes = slice_set c.w.lanes 0 (Some (hand_of c (Some (Ok lease))));
  fixed = c.w.fixed ++ [];
  makings = (c.w.makings ++ makings_of c) ++ [];
}

pub record Looks (c : Calling) (deed : Deed) (new : World) : Type 0 where
  pub found : deed.found ≡ []
  pub opened : deed.opened ≡ None
  pub lease : Lease
  pub id_is : lease.id ≡ c.context.id
  pub outcome_is : lease.outcome ≡ c.outcome
  pub book : BookOf
  pub key : has_key (slot_at book.core.table lease.id) lease.outcome.key ≡ true
  pub looked : IsLooked c.w.book.core c.now book.core
  pub setup : book.setup ≡ c.w.book.setup
  pub new_is : new ≡ looked_world c book lease

-- what the book shows of its context

only-one : {A : Type 0} (x y : A) (i : ℕ) → slice_get (x ∷ []) i ≡ Some y → y ≡ x
only-one x y zero e = sym (same_Some x y e)
only-one x y (suc i) e = absurd (none-some y e)

abbrev lasting_with : Outcome → ℕ → Lasting
lasting_with outcome until = record { outcome = outcome; ends = until }

complete-state : (state : SlotState AcceptEnd Outcome) (until : ℕ) (outcome : Outcome) → HasState state outcome → fixed_state state until ≡ Some (lasting_with outcome until)
complete-state (states.Negotiating end) until outcome h = absurd h
complete-state states.Held until outcome h = absurd h
complete-state (states.Complete held) until outcome h = ap (λ (o : Outcome). Some (lasting_with o until)) h

the-outcome : (c : Calling) (outcome : Outcome) (until : ℕ) → HasValue (slot_at c.w.book.core.table c.context.id) outcome until → outcome ≡ c.outcome
the-outcome c outcome until value = by (slot_at c.w.book.core.table c.context.id) refl value
  where
    by : (slot : Option (Slot AcceptEnd Outcome)) → slot_at c.w.book.core.table c.context.id ≡ slot → HasValue slot outcome until → outcome ≡ c.outcome
    by None e v = absurd v
    by (Some slot) e v =
        let f = c.held.slots c.context.id (record { state = slot.state; ends = slot.ends }) (lasting_with outcome slot.ends) (ap context_of e) (complete-state slot.state slot.ends outcome v.0) in
        sym f.outcome_is ∙ (ap (λ (x : Context). x.fixed.outcome) (only-one c.context f.context f.place (subst (λ (xs : List Context). slice_get xs f.place ≡ Some f.context) c.rests.fixed f.there)) ∙ c.agree)

same-octets : (xs : List ℕ) → pointwise nat_eq xs xs ≡ true
same-octets [] = refl
same-octets (x ∷ xs) = and_from (nat_eq x x) (pointwise nat_eq xs xs) (eq-eqb x x refl) (same-octets xs)

keyed : (slot : Option (Slot AcceptEnd Outcome)) (outcome : Outcome) (until : ℕ) → HasValue slot outcome until → has_key slot outcome.key ≡ true
keyed None outcome until v = absurd v
keyed (Some slot) outcome until v = by slot.state refl v.0
  where
    by : (state : SlotState AcceptEnd Outcome) → slot.state ≡ state → HasState slot.state outcome → has_key (Some slot) outcome.key ≡ true
    by (states.Negotiating end) e h = absurd (rw e at h)
    by states.Held e h = absurd (rw e at h)
    by (states.Complete held) e h = let o : held ≡ outcome = rw e at h in rw (e, o) (same-octets (key_octets outcome.key))

-- the question

record IsLook (id now : ℕ) (asked : Asked Admitted) : Type 0 where
  answer : Result Lease LookRefusal
  is : asked ≡ AskedLook id now answer

same-question : (a b : Question) → Some a ≡ Some b → a ≡ b
same-question a b e = cc

abbrev look_asked : Result Lease LookRefusal → Question → Asked Admitted
look_asked answer (Look id now) = AskedLook id now answer
look_asked answer (Negotiate id token now draws) = AskedLook 0 0 answer
look_asked answer (Admit lease seq service procedure args) = AskedLook 0 0 answer
look_asked answer (End lease seq) = AskedLook 0 0 answer

look-of : (id now : ℕ) (asked : Asked Admitted) → Some (question_of asked) ≡ Some (Look id now) → IsLook id now asked
look-of id now (AskedStep i token n draws answer) e = absurd cc
look-of id now (AskedLook i n answer) e = record { answer = answer; is = ap (look_asked answer) (same-question (Look i n) (Look id now) e) }
look-of id now (AskedAdmit lease seq service procedure args answer) e = absurd cc
look-of id now (AskedEnd lease seq answer) e = absurd cc

due-look : (c : Calling) → (ruling_of c.w.serves (hand_of c None)).due ≡ Some (Look c.context.id c.now)
due-look c = subst (λ (s : Serving). (ruling_of s (hand_of c None)).due ≡ Some (Look c.context.id c.now)) (sym c.rests.serves) ((known c).looks (hand_of c None).kept served refl)

-- what the rule says of the record, by a lease that was shown
record Shows (c : Calling) (lease : Lease) : Type 0 where
  id_is : lease.id ≡ c.context.id
  outcome_is : lease.outcome ≡ c.outcome
  honest : Honest c.w.serves.program (octets_of c) (caller_of lease) 1 c.procedure c.args
  handle : handle_id honest.cred.context ≡ Some lease.id

-- the record is an honest call to a program, of a context with this outcome
record HonestBy (program : ProgramSays) (c : Calling) (o : Outcome) : Type 0 where
  honest : Honest program (octets_of c) (token_end o Initiator) 1 c.procedure c.args
  handle : handle_id honest.cred.context ≡ Some c.context.id

shows : (c : Calling) (lease : Lease) → lease.id ≡ c.context.id → lease.outcome ≡ c.outcome → Shows c lease
shows c lease id same =
    let ours : HonestBy c.w.serves.program c c.outcome = subst (λ (s : Serving). HonestBy s.program c c.outcome) (sym c.rests.serves) (record { honest = (known c).honest; handle = (known c).handle }) in
    let both : HonestBy c.w.serves.program c lease.outcome = subst (HonestBy c.w.serves.program c) (sym same) ours in
    record { id_is = id; outcome_is = same; honest = both.honest; handle = both.handle ∙ ap Some (sym id) }

due-admit : (c : Calling) (lease : Lease) → (s : Shows c lease) → (ruling_of c.w.serves (hand_of c (Some (Ok lease)))).due ≡ Some (Admit lease 1 (service_of s.honest.cred.service) c.procedure c.args)
due-admit c lease s = (c.law lease (ap (λ (o : Outcome). o.key) s.outcome_is) (octets_of c) (hand_of c (Some (Ok lease))).kept c.w.serves 1 c.procedure c.args s.honest lease.id s.handle refl).due refl

-- it is left in hand
left-in : (c : Calling) (lease : Lease) (happened : Happened) (answer : Option Happened) (left : Option InHand) → Shows c lease → answer ≡ Some happened → Follows c.w.serves (hand_of c (Some (Ok lease))) answer left → left ≡ Some (hand_of c (Some (Ok lease)))
left-in c lease happened answer left s some (inl more) = more.3
left-in c lease happened answer left s some (inr decided) =
    absurd (none-some happened (sym (unanswered (ruling_of c.w.serves (hand_of c (Some (Ok lease)))) answer
    (undecided (octets_of c) (hand_of c (Some (Ok lease))).kept c.w.serves (Admit lease 1 (service_of s.honest.cred.service) c.procedure c.args) (due-admit c lease s)) decided.0) ∙ some))

world-with : (c : Calling) (book : BookOf) (lease : Lease) (left : Option InHand) (deed : Deed) → left ≡ Some (hand_of c (Some (Ok lease))) → deed.fixes ≡ None → deed.makes ≡ [] → with_lane (sent_world c) 0 left book deed ≡ looked_world c book lease
world-with c book lease left deed l f m = λ i. record {
  serves = c.w.serves;
  facts = c.w.facts;
  stages = slice_set c.w.stages 0 (stages.Stands (session_after (session c)));
  book = book;
  lanes = slice_set c.w.lanes 0 (l i);
  fixed = c.w.fixed ++ option_to_list (f i);
  makings = (c.w.makings ++ makings_of c) ++ m i;
}

answered-look : (c : Calling) (happened : Happened) (deed : Deed) (new : World) (left : Option InHand) (answer : Result Lease LookRefusal) → deed.answer ≡ Some happened → BookLooked c.w.book new.book c.context.id c.now answer
    → Follows c.w.serves (hand_of c (Some answer)) deed.answer left → deed.found ≡ [] → deed.opened ≡ None → deed.fixes ≡ None → deed.makes ≡ [] → new ≡ with_lane (sent_world c) 0 left new.book deed → Looks c deed new
answered-look c happened deed new left (Err refusal) some b follows found opened fixes makes new_is =
    let a : LeasedBy (Whole c.outcome.mech (names_of c.outcome) c.context.fixed.lasts) c.context.id c.now (Err refusal) = subst (λ (s : Standing). LeasedBy s c.context.id c.now (Err refusal)) c.rests.whole b.answer in
    absurd (omega (arith, a.0, c.timely))
answered-look c happened deed new left (Ok lease) some b follows found opened fixes makes new_is =
    let a : LeasedBy (Whole c.outcome.mech (names_of c.outcome) c.context.fixed.lasts) c.context.id c.now (Ok lease) = subst (λ (s : Standing). LeasedBy s c.context.id c.now (Ok lease)) c.rests.whole b.answer in
    let id : lease.id ≡ c.context.id = a.1.id in
    let same : lease.outcome ≡ c.outcome = the-outcome c lease.outcome lease.ends b.value in
    let keeps : slot_at new.book.core.table lease.id ≡ slot_at c.w.book.core.table c.context.id = ap (λ (n : ℕ). slot_at new.book.core.table n) id ∙ ap (λ (t : Places AcceptEnd Outcome). slot_at t c.context.id) b.looked.table in
    record {
      found = found;
      opened = opened;
      lease = lease;
      id_is = id;
      outcome_is = same;
      book = new.book;
      key = ap (λ (s : Option (Slot AcceptEnd Outcome)). has_key s lease.outcome.key) keeps ∙ keyed (slot_at c.w.book.core.table c.context.id) lease.outcome lease.ends b.value;
      looked = b.looked;
      setup = b.setup;
      new_is = new_is ∙ world-with c new.book lease left deed (left-in c lease happened deed.answer left (shows c lease id same) some follows) fixes makes;
    }

looks-by : (c : Calling) (happened : Happened) (deed : Deed) (new : World) → deed.answer ≡ Some happened → LaneMoves (sent_world c) 0 (hand_of c None) deed new → Looks c deed new
looks-by c happened deed new some (inl o) =
    absurd (none-some happened (sym (unanswered (ruling_of c.w.serves (hand_of c None)) deed.answer (undecided (octets_of c) (hand_of c None).kept c.w.serves (Look c.context.id c.now) (due-look c)) o.answer) ∙ some))
looks-by c happened deed new some (inr q) = by (look-of c.context.id c.now q.asked (sym q.due ∙ due-look c))
  where
    by : IsLook c.context.id c.now q.asked → Looks c deed new
    by k = answered-look c happened deed new q.left k.answer some (subst (λ (a : Asked Admitted). BookAnswers c.w.book (booked a) new.book) k.is q.answers)
        (subst (λ (a : Asked Admitted). Follows c.w.serves (hand_after (hand_of c None) a) deed.answer q.left) k.is q.follows)
        (subst (λ (a : Asked Admitted). deed.found ≡ found_by c.w.book q.past (hand_of c None) a) k.is q.found)
        (subst (λ (a : Asked Admitted). deed.opened ≡ opened_by c.w.book a) k.is q.opened)
        (subst (λ (a : Asked Admitted). deed.fixes ≡ fixes_by c.w.book q.past a) k.is q.fixes)
        (subst (λ (a : Asked Admitted). deed.makes ≡ if_answered deed.answer (makes_by c.w.book q.past (hand_of c None) a)) k.is q.makes ∙ ap (λ (a : Option Happened). if_answered a []) some) q.new_is

pub looks : (c : Calling) (happened : Happened) (deed : Deed) (new : World) → Happens (sent_world c) (Lane 0 (octets_of c) c.now c.draws) deed new → deed.answer ≡ Some happened → Looks c deed new
looks c happened deed new h some = looks-by c happened deed new some (subst (λ (hand : Option (Option InHand)). LanesBy (sent_world c) 0 (octets_of c) c.now c.draws hand deed new) c.rests.idle h.did)

-- ---- its next event admits the call

pub record Admits (c : Calling) (book : BookOf) (lease : Lease) (deed : Deed) (new : World) : Type 0 where
  pub made : (making : MechMaking) → AmongMakings deed.found making → AmongMakings (makings_of c) making
  pub opened : deed.opened ≡ None
  pub answered : IsEnded deed.answer
  pub logged : new.book.core.history ≡ Call c.context.id 1 c.procedure (sha1 c.args) ∷ c.w.book.core.history
  pub makes : List Making
  pub facts : new.facts ≡ c.w.facts
  pub stands : new.stages ≡ slice_set c.w.stages 0 (stages.Stands (session_after (session c)))
  pub fixed : new.fixed ≡ c.w.fixed
  pub makings : new.makings ≡ ((c.w.makings ++ makings_of c) ++ []) ++ map typed makes

there-is : (c : Calling) (book : BookOf) (lease : Lease) → slice_get (looked_world c book lease).lanes 0 ≡ Some (Some (hand_of c (Some (Ok lease))))
there-is c book lease = set-same c.w.lanes 0 (Some (hand_of c (Some (Ok lease)))) None c.rests.idle

arrives : (c : Calling) (deed : Deed) (old : World) → (l : Looks c deed old) → Arrives (looked_world c l.book l.lease) 0 l.lease 1 c.procedure c.args
arrives c deed old l =
    let s = shows c l.lease l.id_is l.outcome_is in
    let whole : standing l.lease.id l.book.core.history ≡ Whole c.outcome.mech (names_of c.outcome) c.context.fixed.lasts =
    (λ i. standing (l.id_is i) (l.looked.history i)) ∙ c.rests.whole in
    let none : numbers l.lease.id l.book.core.history ≡ [] = (λ i. numbers (l.id_is i) (l.looked.history i)) ∙ c.rests.uncalled in
    record {
      hand = hand_of c (Some (Ok l.lease));
      there = there-is c l.book l.lease;
      looked = refl;
      unasked = refl;
      honest = s.honest;
      handle = s.handle;
      free = record {
        key = l.key;
        free = record {
          may = record {
            whole = ap is_whole whole;
            new = ap (is_in 1) none;
            small = lit≤ tt;
            above = let zero : greatest (numbers l.lease.id l.book.core.history) ≡ 0 = ap greatest none in omega (arith, zero);
          };
          room = subst (λ (h : List Entry). length h < l.book.core.limit) (sym l.looked.history) (subst (λ (n : ℕ). length c.w.book.core.history < n) (sym l.looked.limit) c.rests.place);
        };
      };
    }

-- what the deed found, made and fixed, by the question that was asked
record Finds (c : Calling) (found : List MechMaking) (makes : List MechMaking) (opens fixes : Bool) : Type 0 where
  made : (making : MechMaking) → AmongMakings found making → AmongMakings (makings_of c) making
  makings : List Making
  makes_is : makes ≡ map typed makings
  opens_none : opens ≡ false
  fixes_none : fixes ≡ false

abbrev lease_in : Lease → Question → Lease
lease_in other (Negotiate id token now draws) = other
lease_in other (Look id now) = other
lease_in other (Admit lease seq service procedure args) = lease
lease_in other (End lease seq) = other

finds : (c : Calling) (book : BookOf) (past : Option ℕ) (lease : Lease) (service : Service) (args : List ℕ) (asked : Asked Admitted) → lease.outcome ≡ c.outcome → Some (question_of asked) ≡ Some (Admit lease 1 service c.procedure args)
    → Finds c (found_by book past (hand_of c (Some (Ok lease))) asked) (makes_by book past (hand_of c (Some (Ok lease))) asked) (is_some (opened_by book asked)) (is_some (fixes_by book past asked))
finds c book past lease service args (AskedStep i token n draws answer) same e = absurd cc
finds c book past lease service args (AskedLook i n answer) same e = absurd cc
finds c book past lease service args (AskedAdmit l seq v p ds (Ok admitted)) same e =
    let is : l ≡ lease = ap (lease_in lease) (same-question (Admit l seq v p ds) (Admit lease 1 service c.procedure args) e) in
    record {
      made = (known c).found l (ap (λ (x : Lease). x.outcome) is ∙ same);
      makings = made_for_call l admitted.outcome (secure_call_in (octets_of c));
      makes_is = refl;
      opens_none = refl;
      fixes_none = refl;
    }
finds c book past lease service args (AskedAdmit l seq v p ds (Err refusal)) same e = record { made = λ making among. absurd among; makings = []; makes_is = refl; opens_none = refl; fixes_none = refl }
finds c book past lease service args (AskedEnd l seq answer) same e = absurd cc

is-none : {A : Type 0} (x : Option A) → is_some x ≡ false → x ≡ None
is-none None e = refl
is-none (Some x) e = absurd cc

-- what is handed out is still so where memory was wanted
answered-makes : (answer : Option Happened) (ms : List MechMaking) (more : List Making) → ms ≡ map typed more → (all : List Making) × (if_answered answer ms ≡ map typed all)
answered-makes None ms more e = ([], refl)
answered-makes (Some happened) ms more e = (more, e)

append-none : {A : Type 0} (xs : List A) → xs ++ [] ≡ xs
append-none [] = refl
append-none (x ∷ xs) = ap (λ ys. x ∷ ys) (append-none xs)

admits-by : (c : Calling) (happened : Happened) (deed before : Deed) (old new : World) (l : Looks c before old) → deed.answer ≡ Some happened → IsTaken (looked_world c l.book l.lease) deed new l.lease 1 c.procedure c.args
    → LaneMoves (looked_world c l.book l.lease) 0 (hand_of c (Some (Ok l.lease))) deed new → Admits c l.book l.lease deed new
admits-by c happened deed before old new l some t (inl o) =
    let s = shows c l.lease l.id_is l.outcome_is in
    absurd (none-some happened (sym (unanswered (ruling_of c.w.serves (hand_of c (Some (Ok l.lease)))) deed.answer
    (undecided (octets_of c) (hand_of c (Some (Ok l.lease))).kept c.w.serves (Admit l.lease 1 (service_of s.honest.cred.service) c.procedure c.args) (due-admit c l.lease s)) o.answer) ∙ some))
admits-by c happened deed before old new l some t (inr q) =
    let s = shows c l.lease l.id_is l.outcome_is in
    let f = finds c l.book q.past l.lease (service_of s.honest.cred.service) c.args q.asked l.outcome_is (sym q.due ∙ due-admit c l.lease s) in
    let fixes : deed.fixes ≡ None = q.fixes ∙ is-none (fixes_by l.book q.past q.asked) f.fixes_none in
    let all = answered-makes deed.answer (makes_by l.book q.past (hand_of c (Some (Ok l.lease))) q.asked) f.makings f.makes_is in
    record {
      made = λ making among. f.made making (subst (λ (ms : List MechMaking). AmongMakings ms making) q.found among);
      opened = q.opened ∙ is-none (opened_by l.book q.asked) f.opens_none;
      answered = t.answered;
      logged = t.logged ∙ (λ i. Call (l.id_is i) 1 c.procedure (sha1 c.args) ∷ l.looked.history i);
      makes = all.0;
      facts = ap (λ (v : World). v.facts) q.new_is;
      stands = ap (λ (v : World). v.stages) q.new_is;
      fixed = ap (λ (v : World). v.fixed) q.new_is ∙ (ap (λ (x : Option Context). (c.w.fixed ++ []) ++ option_to_list x) fixes ∙ (append-none (c.w.fixed ++ []) ∙ append-none c.w.fixed));
      makings = ap (λ (v : World). v.makings) q.new_is ∙ ap (λ (ms : List MechMaking). ((c.w.makings ++ makings_of c) ++ []) ++ ms) (q.makes ∙ all.1);
    }

pub admits : (c : Calling) (happened : Happened) (octets draws : List ℕ) (now : ℕ) (deed before : Deed) (old new : World) (l : Looks c before old) → Happens (looked_world c l.book l.lease) (Lane 0 octets now draws) deed new → deed.answer ≡ Some happened
    → Admits c l.book l.lease deed new
admits c happened octets draws now deed before old new l h some = by (arrival l.lease (c.law l.lease (ap (λ (o : Outcome). o.key) l.outcome_is)) (looked_world c l.book l.lease) 0 1 c.procedure c.args octets now draws deed new (arrives c before old l) h)
  where
    moves : LaneMoves (looked_world c l.book l.lease) 0 (hand_of c (Some (Ok l.lease))) deed new
    moves = subst (λ (hand : Option (Option InHand)). LanesBy (looked_world c l.book l.lease) 0 octets now draws hand deed new) (there-is c l.book l.lease) h.did

    by : (deed.answer ≡ None) ⊎ IsTaken (looked_world c l.book l.lease) deed new l.lease 1 c.procedure c.args → Admits c l.book l.lease deed new
    by (inl none) = absurd (none-some happened (sym none ∙ some))
    by (inr t) = admits-by c happened deed before old new l some t moves
