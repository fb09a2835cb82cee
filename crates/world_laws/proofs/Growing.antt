-- What stays of a world over an event: facts and setup; and what only grows: what was handed out, what was fixed, and the log.
use Rattle.std.proofs.Common.{◌≡◌, inl, inr, ℕ, max, refl, sym, ◌∙◌, ap, subst, List, [], ◌∷◌, ◌++◌, slice_get, slice_set, append-nil, append_assoc, Option, Some, None, option_to_list}
use Rattle.std.proofs.lemmas.Bool.{cases_eq}
use Rattle.std.proofs.lemmas.Option.{none-some, same_Some}
use Rattle.krb_derive.specs.declared.key.Key.{Key}
use Rattle.scram_mech.specs.MechMaking.{MechMaking, AmongMakings}
use Rattle.spnego_core.specs.declared.outcome.Outcome.{Outcome}
use Rattle.spnego_core.specs.Ends.{PlainSetup}
use Rattle.spnego_core.proofs.Makings.{among_front}
use Rattle.accept_core.specs.Stepping.{IsNext}
use Rattle.accept_core.specs.declared.entry.Entry.{Entry}
use Rattle.rpc_program.specs.Programs.{Serving}
use Rattle.accept_book.specs.declared.book_answer.Admitted.{Admitted}
use Rattle.accept_book.specs.Booking.{BookOf}
use Rattle.accept_core.specs.History.{entry_at}
use Rattle.accept_book.specs.RecordShown.{Negotiate, booked, Asked, AskedStep, AskedLook, AskedAdmit, AskedEnd}
use Rattle.gss_client.specs.Session.{SessionState}
use Rattle.world_laws.specs.declared.event.WorldEvent.{WorldEvent}
use Rattle.world_laws.specs.Stages.{StageSays}
use Rattle.world_laws.specs.Stages as stages
use Rattle.world_laws.specs.Deeds.{Deed, quiet}
use Rattle.world_laws.specs.State.{InHand, Context, World, moved_to}
use Rattle.world_laws.specs.Initiators.{Moved, calls, leaves}
use Rattle.world_laws.specs.Lanes.{in_hand, ruling_of, question_of, with_lane, LaneMoves}
use Rattle.world_laws.specs.Events.{Moves, Happens, Run}
use Rattle.world_laws.specs.Premises.{Marking, Listed, BuiltKey, WasSettled, IsWordMic, WasMade, session_in, Completed}
use Rattle.world_laws.proofs.Slices.{set-same, set-other, get-front}
use Rattle.world_laws.proofs.Due.{due-says}
use Rattle.world_laws.proofs.Happening.{Move, Starting, Taking, Calling, Leaving, Came, Idling, Moving, Laning, came}
use Rattle.history_laws.proofs.Histories.{Fronts, no-front, entry-stays}
use Rattle.history_laws.proofs.Answering.{IsNextFor, answers-front, answers-setup}

-- a session that stands or was left at this place, with this outcome
pub record StandsAt (places : List StageSays) (i : ℕ) (outcome : Outcome) : Type 0 where
  pub stage : StageSays
  pub stands : slice_get places i ≡ Some stage
  pub session : SessionState
  pub in_session : session_in stage ≡ Some session
  pub outcome_is : session.outcome ≡ outcome

pub record Grows (old new : World) : Type 0 where
  pub serves : new.serves ≡ old.serves
  pub facts : new.facts ≡ old.facts
  pub setup : new.book.setup ≡ old.book.setup
  pub more : List Context
  pub fixed : new.fixed ≡ old.fixed ++ more
  pub makes : List MechMaking
  pub makings : new.makings ≡ old.makings ++ makes
  pub history : Fronts old.book.core.history new.book.core.history
  pub sessions : (i : ℕ) (outcome : Outcome) → StandsAt old.stages i outcome → StandsAt new.stages i outcome

pub same-grows : (w : World) → Grows w w
same-grows w = record {
  serves = refl;
  facts = refl;
  setup = refl;
  more = [];
  fixed = sym (append-nil w.fixed);
  makes = [];
  makings = sym (append-nil w.makings);
  history = no-front w.book.core.history;
  sessions = λ i outcome s. s;
}

-- ---- an initiator moves: one whose context stands has the same outcome afterwards

-- where an initiator was before its context stood, none stands
no-session : (places : List StageSays) (i : ℕ) (outcome : Outcome) (stage : StageSays) → slice_get places i ≡ Some stage → session_in stage ≡ None → StandsAt places i outcome → ⊥
no-session places i outcome stage there e s =
    none-some s.session (sym e ∙ (ap session_in (same_Some stage s.stage (sym there ∙ s.stands)) ∙ s.in_session))

-- this place is set to another stage
stands-set : (places : List StageSays) (i j : ℕ) (stage : StageSays) (outcome : Outcome) → (i ≡ j → StandsAt places j outcome → StandsAt (slice_set places i stage) j outcome)
    → StandsAt places j outcome → StandsAt (slice_set places i stage) j outcome
stands-set places i j stage outcome here s = elim (cases_eq i j) [
  | inl e ↦ here e s
  | inr ne ↦ record { stage = s.stage; stands = set-other places i j stage ne ∙ s.stands; session = s.session; in_session = s.in_session; outcome_is = s.outcome_is }
]

stands-fresh : (places : List StageSays) (i j : ℕ) (before stage : StageSays) (outcome : Outcome) → slice_get places i ≡ Some before → session_in before ≡ None
    → StandsAt places j outcome → StandsAt (slice_set places i stage) j outcome
stands-fresh places i j before stage outcome there e = stands-set places i j stage outcome
    (λ q s. absurd (no-session places j outcome before (subst (λ (k : ℕ). slice_get places k ≡ Some before) q there) e s))

stands-again : (places : List StageSays) (i j : ℕ) (before stage : StageSays) (session next : SessionState) (outcome : Outcome) → slice_get places i ≡ Some before → session_in before ≡ Some session
    → session_in stage ≡ Some next → next.outcome ≡ session.outcome → StandsAt places j outcome → StandsAt (slice_set places i stage) j outcome
stands-again places i j before stage session next outcome there e f same = stands-set places i j stage outcome
    (λ q s. (let is_before : before ≡ s.stage = same_Some before s.stage (sym (subst (λ (k : ℕ). slice_get places k ≡ Some before) q there) ∙ s.stands) in
    let is_session : session ≡ s.session = same_Some session s.session (sym e ∙ (ap session_in is_before ∙ s.in_session)) in
    record {
      stage = stage;
      stands = subst (λ (k : ℕ). slice_get (slice_set places i stage) k ≡ Some stage) q (set-same places i stage before there);
      session = next;
      in_session = f;
      outcome_is = same ∙ (ap (λ (x : SessionState). x.outcome) is_session ∙ s.outcome_is);
    }))

-- whatever the move, and also where memory is wanted
move-sessions : (w : World) (i : ℕ) (moved : Moved) → Move w i moved → (j : ℕ) (outcome : Outcome) → StandsAt w.stages j outcome
    → StandsAt (slice_set w.stages i moved.stage) j outcome × StandsAt (slice_set w.stages i moved.lost) j outcome
move-sessions w i moved (Starting own there is) j outcome s =
    (stands-fresh w.stages i j (stages.Ready own) moved.stage outcome there refl s, stands-fresh w.stages i j (stages.Ready own) moved.lost outcome there refl s)
move-sessions w i moved (Taking first xid end octets there is) j outcome s =
    (stands-fresh w.stages i j (stages.Asks xid end) moved.stage outcome there refl s, stands-fresh w.stages i j (stages.Asks xid end) moved.lost outcome there refl s)
move-sessions w i moved (Calling session procedure args there left served proper is) j outcome s = subst
    (λ (m : Moved). StandsAt (slice_set w.stages i m.stage) j outcome × StandsAt (slice_set w.stages i m.lost) j outcome) (sym is) (
      stands-again w.stages i j (stages.Stands session) (calls session procedure args).stage session _ outcome there refl refl refl s,
      stands-again w.stages i j (stages.Stands session) (calls session procedure args).lost session _ outcome there refl refl refl s,
    )
move-sessions w i moved (Leaving session procedure args there left last served proper is) j outcome s = subst
    (λ (m : Moved). StandsAt (slice_set w.stages i m.stage) j outcome × StandsAt (slice_set w.stages i m.lost) j outcome) (sym is) (
      stands-again w.stages i j (stages.Stands session) (leaves session).stage session _ outcome there refl refl refl s,
      stands-again w.stages i j (stages.Stands session) (leaves session).lost session _ outcome there refl refl refl s,
    )

moved-grows : (w : World) (i : ℕ) (stage : StageSays) (makes : List MechMaking) → ((j : ℕ) (outcome : Outcome) → StandsAt w.stages j outcome → StandsAt (slice_set w.stages i stage) j outcome)
    → Grows w (moved_to w i stage makes)
moved-grows w i stage makes sessions = record {
  serves = refl;
  facts = refl;
  setup = refl;
  more = [];
  fixed = sym (append-nil w.fixed);
  makes = makes;
  makings = refl;
  history = no-front w.book.core.history;
  sessions = sessions;
}

move-grows : (old : World) (i : ℕ) (moved : Moved) (deed : Deed) (new : World) → Move old i moved → Moves old i moved deed new → Grows old new
move-grows old i moved deed new move (inl a) = subst (Grows old) (sym a.1) (moved-grows old i moved.stage moved.makes (λ j outcome s. (move-sessions old i moved move j outcome s).0))
move-grows old i moved deed new move (inr b) = subst (Grows old) (sym b.1) (moved-grows old i moved.lost [] (λ j outcome s. (move-sessions old i moved move j outcome s).1))

-- ---- a lane moves

lane-grows : (old : World) (lane : ℕ) (left : Option InHand) (book : BookOf) (deed : Deed) → book.setup ≡ old.book.setup → Fronts old.book.core.history book.core.history
    → Grows old (with_lane old lane left book deed)
lane-grows old lane left book deed setup front = record {
  serves = refl;
  facts = refl;
  setup = setup;
  more = option_to_list deed.fixes;
  fixed = refl;
  makes = deed.makes;
  makings = refl;
  history = front;
  sessions = λ i outcome s. s;
}

-- the moment of a step that is due is the record's
pub asks-past : (serves : Serving) (book : BookOf) (past : Option ℕ) (hand : InHand) (asked : Asked Admitted) → (ruling_of serves hand).due ≡ Some (question_of asked) → IsNext book.core.table (max book.core.cache.greatest hand.kept.now) past → IsNextFor book past (booked asked)
asks-past serves book past hand (AskedStep id token now draws answer) due is_past =
    subst (λ (n : ℕ). IsNext book.core.table (max book.core.cache.greatest n) past) (sym (due-says hand.octets hand.kept serves (Negotiate id token now draws) due).0) is_past
asks-past serves book past hand (AskedLook id now answer) due is_past = tt
asks-past serves book past hand (AskedAdmit lease seq service procedure args answer) due is_past = tt
asks-past serves book past hand (AskedEnd lease seq answer) due is_past = tt

laning-grows : (old : World) (lane : ℕ) (hand : InHand) (deed : Deed) (new : World) → LaneMoves old lane hand deed new → Grows old new
laning-grows old lane hand deed new (inl a) = subst (Grows old) (sym a.new_is) (lane-grows old lane None old.book (quiet deed.answer) refl (no-front old.book.core.history))
laning-grows old lane hand deed new (inr b) = subst (Grows old) (sym b.new_is)
    (lane-grows old lane b.left new.book deed (answers-setup old.book new.book (booked b.asked) b.answers)
    (answers-front old.book new.book b.past (booked b.asked) (asks-past old.serves old.book b.past hand b.asked b.due b.is_past) b.answers))

came-grows : (old : World) (deed : Deed) (new : World) → Came old deed new → Grows old new
came-grows old deed new (Idling i) = subst (Grows old) (sym i.1) (same-grows old)
came-grows old deed new (Moving i moved move m) = move-grows old i moved deed new move m
came-grows old deed new (Laning lane hand octets now draws there m) = laning-grows old lane (in_hand hand octets now draws) deed new m

pub grows : (old : World) (event : WorldEvent) (deed : Deed) (new : World) → Happens old event deed new → Grows old new
grows old event deed new h = came-grows old deed new (came old event deed new h)

-- ---- what this says

pub facts-stay : (old : World) (event : WorldEvent) (deed : Deed) (new : World) → Happens old event deed new → new.facts ≡ old.facts
facts-stay old event deed new h = (grows old event deed new h).facts

pub setup-stays : (old : World) (event : WorldEvent) (deed : Deed) (new : World) → Happens old event deed new → new.book.setup ≡ old.book.setup
setup-stays old event deed new h = (grows old event deed new h).setup

pub makings-grow : (old new : World) (making : MechMaking) → Grows old new → AmongMakings old.makings making → AmongMakings new.makings making
makings-grow old new making g a = subst (λ (ms : List MechMaking). AmongMakings ms making) (sym g.makings) (among_front old.makings g.makes making a)

pub fixed-grow : (old new : World) (place : ℕ) (x : Context) → Grows old new → slice_get old.fixed place ≡ Some x → slice_get new.fixed place ≡ Some x
fixed-grow old new place x g e = subst (λ (xs : List Context). slice_get xs place ≡ Some x) (sym g.fixed) (get-front old.fixed g.more place x e)

pub listed-grows : (old new : World) (x : Context) → Grows old new → Listed old.fixed x → Listed new.fixed x
listed-grows old new x g l = record { place = l.place; there = fixed-grow old new l.place x g l.there }

pub history-grows : (old new : World) (place : ℕ) (entry : Entry) → Grows old new → entry_at place old.book.core.history ≡ Some entry → entry_at place new.book.core.history ≡ Some entry
history-grows old new place entry g e = entry-stays old.book.core.history new.book.core.history place entry g.history e

pub settled-grows : (old new : World) (id : ℕ) → Grows old new → WasSettled old.book.core.history id → WasSettled new.book.core.history id
settled-grows old new id g s = record { place = s.place; mech = s.mech; names = s.names; ends = s.ends; at = s.at; entry = history-grows old new s.place _ g s.entry }

pub word-grows : (old new : World) (making : MechMaking) → Grows old new → IsWordMic old making → IsWordMic new making
word-grows old new making g m = record {
  context = m.context;
  listed = listed-grows old new m.context g m.listed;
  settled = settled-grows old new m.context.id g m.settled;
  word = m.word;
  four = m.four;
  number = m.number;
  is_mic = m.is_mic;
}

pub was-made-grows : (old new : World) (making : MechMaking) → Grows old new → WasMade old making → WasMade new making
was-made-grows old new making g (inl a) = inl (makings-grow old new making g a)
was-made-grows old new making g (inr b) = inr (word-grows old new making g b)

pub built-grows : (marking : Marking) (old new : World) (key : Key) → Grows old new → BuiltKey marking old.fixed key → BuiltKey marking new.fixed key
built-grows marking old new key g b = record { context = b.context; listed = listed-grows old new b.context g b.listed; guarded = b.guarded; is_key = b.is_key }

pub completed-stays : (old new : World) (i : ℕ) (own : PlainSetup) (outcome : Outcome) → Grows old new → Completed old i own outcome → Completed new i own outcome
completed-stays old new i own outcome g c =
    let s = g.sessions i outcome (record { stage = c.stage; stands = c.stands; session = c.session; in_session = c.in_session; outcome_is = c.outcome_is }) in
    record {
      there = subst (λ (fs : List PlainSetup). slice_get fs i ≡ Some own) (sym g.facts) c.there;
      stage = s.stage;
      stands = s.stands;
      session = s.session;
      in_session = s.in_session;
      outcome_is = s.outcome_is;
    }

-- ---- over a run

fronts-on : (a b c : List Entry) → Fronts a b → Fronts b c → Fronts a c
fronts-on a b c f g = record { more = g.more ++ f.more; is = g.is ∙ (ap (λ (h : List Entry). g.more ++ h) f.is ∙ sym (append_assoc g.more f.more a)) }

pub grows-on : (a b c : World) → Grows a b → Grows b c → Grows a c
grows-on a b c f g = record {
  serves = g.serves ∙ f.serves;
  facts = g.facts ∙ f.facts;
  setup = g.setup ∙ f.setup;
  more = f.more ++ g.more;
  fixed = g.fixed ∙ (ap (λ (xs : List Context). xs ++ g.more) f.fixed ∙ append_assoc a.fixed f.more g.more);
  makes = f.makes ++ g.makes;
  makings = g.makings ∙ (ap (λ (ms : List MechMaking). ms ++ g.makes) f.makings ∙ append_assoc a.makings f.makes g.makes);
  history = fronts-on a.book.core.history b.book.core.history c.book.core.history f.history g.history;
  sessions = λ i outcome s. g.sessions i outcome (f.sessions i outcome s);
}

pub run-grows : (old : World) (events : List WorldEvent) (new : World) → Run old events new → Grows old new
run-grows old [] new run = subst (Grows old) (sym run) (same-grows old)
run-grows old (event ∷ later) new run = grows-on old run.0.world new (grows old event run.0.deed run.0.world run.0.happens) (run-grows run.0.world later new run.1)
