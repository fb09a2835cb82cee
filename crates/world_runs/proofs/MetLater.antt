-- After an exchange one call is made, and stands in the log; the run meets the premises.
use Rattle.std.proofs.Common.{◌≡◌, inl, inr, ℕ, ◌≤◌, true, refl, sym, ap, ◌∙◌, subst, List, [], ◌++◌, length, slice_get, slice_set, Option, Some, None}
use Rattle.std.proofs.lemmas.Option.{none-some, same_Some}
use Rattle.sha1.specs.Sha1.{sha1}
use Rattle.gss_base.specs.declared.mech.MechKind.{MechKind}
use Rattle.scram_mech.specs.MechMaking.{MechMaking, AmongMakings}
use Rattle.spnego_core.proofs.Makings.{among_front, among_back}
use Rattle.accept_book.specs.declared.book_answer.Lease.{Lease}
use Rattle.accept_core.specs.declared.entry.Entry.TheVariants.{Call}
use Rattle.accept_book.specs.Booking.{names_of}
use Rattle.accept_core.specs.History.{entry_at}
use Rattle.accept_book.specs.Honest.{HonestLaw}
use Rattle.posts_program.specs.Posts.{are_args}
use Rattle.accept_book.specs.RecordShown.{handle_of}
use Rattle.gss_client.specs.Session.{session_after}
use Rattle.gss_client.specs.Talk.{begun}
use Rattle.world_laws.specs.declared.event.Happened.{Happened}
use Rattle.world_laws.specs.declared.event.Happened.TheVariants.{Sent, Stepped}
use Rattle.world_laws.specs.declared.event.WorldEvent.TheVariants.{Lane, CallBy}
use Rattle.world_laws.specs.Stages.{StageSays}
use Rattle.world_laws.specs.Stages as stages
use Rattle.world_laws.specs.Deeds.{Deed}
use Rattle.world_laws.specs.State.{World}
use Rattle.world_laws.specs.Arrival.{IsEnded}
use Rattle.world_laws.specs.Initiators.{call_makings}
use Rattle.world_runs.specs.Served.{own_terms}
use Rattle.world_runs.specs.Carrying.{RulesCalls, sent_in, taken_in}
use Rattle.world_runs.specs.Meeting.{IsCarried, InTime, IsCalled}
use Rattle.world_laws.specs.Premises.{Unforged}
use Rattle.world_runs.specs.Showing.{Shown, Follows, Steps}
use Rattle.world_laws.proofs.Growing.{Grows, grows, grows-on, listed-grows, settled-grows, completed-stays}
use Rattle.world_laws.proofs.HeldHistory.{at-head}
use Rattle.world_laws.proofs.Invariants.{Below, Held}
use Rattle.world_runs.proofs.MetCalled.{Calling, session, octets_of, makings_of, sent_world, Sends, sends, looked_world, Looks, looks, Admits, admits}
use Rattle.world_runs.proofs.MetSpoken.{Past, steps-on, GoesOn, was-among, fresh-on, completed-was}
use Rattle.world_laws.proofs.Quiet.{quiet, unforged}
use Rattle.world_laws.proofs.Running.{kept-end}

-- a call after an exchange
pub record Given (shown : Shown) (now : ℕ) (draws : List ℕ) (procedure : ℕ) (args : List ℕ) : Type 0 where
  pub kind : MechKind
  pub k : IsCarried shown kind
  pub held : Held k.met.now
  pub served : procedure ≤ 4
  pub proper : are_args procedure args ≡ true
  pub size : length args ≤ 65540
  pub timely : now ≤ k.met.context.fixed.lasts
  pub law : (lease : Lease) → lease.outcome.key ≡ k.met.outcome.key → HonestLaw lease

pub given : (laws : Below) (shown : Shown) (kind : MechKind) → IsCarried shown kind → (procedure : ℕ) (args : List ℕ) → procedure ≤ 4 → are_args procedure args ≡ true → length args ≤ 65540 → (now : ℕ) (draws : List ℕ) → InTime shown now → RulesCalls (slice_get shown.stages 0) → Given shown now draws procedure args
given laws shown kind k procedure args served proper size now draws timely rules = record {
  kind = kind;
  k = k;
  held = (kept-end laws k.met.marking k.met.start shown.events k.met.now k.met.run k.met.begins k.met.unforged k.met.fresh).held;
  served = served;
  proper = proper;
  size = size;
  timely = timely k.met.now.book k.met.context.id k.met.context.fixed.lasts k.met.outcome.mech (names_of k.met.outcome) k.met.shows.book k.rests.whole;
  law = λ lease same. rules (begun own_terms 1 k.rests.xid k.met.outcome (handle_of k.met.context.id)) lease (ap (λ (xs : List StageSays). slice_get xs 0) (k.met.shows.stages ∙ k.rests.stands)) same;
}

abbrev calling : {shown : Shown} {now : ℕ} {draws : List ℕ} {procedure : ℕ} {args : List ℕ} → Given shown now draws procedure args → Calling
calling {shown} {now} {draws} {procedure} {args} g = record {
  w = g.k.met.now;
  own = g.k.met.own;
  outcome = g.k.met.outcome;
  context = g.k.met.context;
  rests = g.k.rests;
  agree = g.k.met.agree;
  held = g.held;
  procedure = procedure;
  args = args;
  served = g.served;
  proper = g.proper;
  size = g.size;
  now = now;
  draws = draws;
  timely = g.timely;
  law = g.law;
}

-- the run before it, and after each event
abbrev PastOf : {shown : Shown} {now : ℕ} {draws : List ℕ} {procedure : ℕ} {args : List ℕ} → Given shown now draws procedure args → Shown → World → Type 0
PastOf g later w = Past g.k.met.marking g.k.met.start later w

past-at-first : (begin : Shown) (now : ℕ) (draws : List ℕ) (procedure : ℕ) (args : List ℕ) (g : Given begin now draws procedure args) → PastOf g begin g.k.met.now
past-at-first begin now draws procedure args g = record { walked = record { run = g.k.met.run; unforged = g.k.met.unforged }; shows = g.k.met.shows }

-- ---- the session calls

pub record First (begin : Shown) (now : ℕ) (draws : List ℕ) (procedure : ℕ) (args : List ℕ) (g : Given begin now draws procedure args) (a : Happened) (one : Shown) : Type 0 where
  pub sent : a ≡ Sent (octets_of (calling g))
  pub past : PastOf g one (sent_world (calling g))
  pub grows : Grows g.k.met.now (sent_world (calling g))

pub first : (begin : Shown) (now : ℕ) (draws : List ℕ) (procedure : ℕ) (args : List ℕ) (g : Given begin now draws procedure args) (a : Happened) (one : Shown) → Steps (CallBy 0 procedure args) (Some a) begin one → First begin now draws procedure args g a one
first begin now draws procedure args g a one steps = by (steps.follows g.k.met.now g.k.met.shows)
  where
    with : (f : Follows (CallBy 0 procedure args) (Some a) g.k.met.now one) → Sends (calling g) f.deed f.new → First begin now draws procedure args g a one
    with f s = record {
      sent = same_Some a (Sent (octets_of (calling g))) (sym f.answered ∙ s.answer);
      past = steps-on g.k.met.marking g.k.met.start (CallBy 0 procedure args) a g.k.met.now (sent_world (calling g)) begin one (past-at-first begin now draws procedure args g) steps f s.new_is (quiet g.k.met.marking g.k.met.now (CallBy 0 procedure args) f.deed f.new f.happens tt);
      grows = subst (λ (w : World). Grows g.k.met.now w) s.new_is (grows g.k.met.now (CallBy 0 procedure args) f.deed f.new f.happens);
    }

    by : Follows (CallBy 0 procedure args) (Some a) g.k.met.now one → First begin now draws procedure args g a one
    by f = with f (sends (calling g) a f.deed f.new f.happens f.answered)

-- ---- the lane looks for the context

pub record Second (begin : Shown) (now : ℕ) (draws : List ℕ) (procedure : ℕ) (args : List ℕ) (g : Given begin now draws procedure args) (two : Shown) : Type 0 where
  pub deed : Deed
  pub new : World
  pub looks : Looks (calling g) deed new
  pub past : PastOf g two (looked_world (calling g) looks.book looks.lease)
  pub grows : Grows g.k.met.now (looked_world (calling g) looks.book looks.lease)

second-by : (begin : Shown) (now : ℕ) (draws : List ℕ) (procedure : ℕ) (args : List ℕ) (g : Given begin now draws procedure args) (a b : Happened) (one two : Shown) → First begin now draws procedure args g a one
    → Steps (Lane 0 (octets_of (calling g)) now draws) (Some b) one two → Second begin now draws procedure args g two
second-by begin now draws procedure args g a b one two p steps = by (steps.follows (sent_world (calling g)) p.past.shows)
  where
    with : (f : Follows (Lane 0 (octets_of (calling g)) now draws) (Some b) (sent_world (calling g)) two) → Looks (calling g) f.deed f.new → Second begin now draws procedure args g two
    with f l = record {
      deed = f.deed;
      new = f.new;
      looks = l;
      past = steps-on g.k.met.marking g.k.met.start (Lane 0 (octets_of (calling g)) now draws) b (sent_world (calling g)) (looked_world (calling g) l.book l.lease) one two p.past steps f l.new_is
          (unforged g.k.met.marking (sent_world (calling g)) f.deed (record { found = l.found; opened = l.opened }));
      grows = grows-on g.k.met.now (sent_world (calling g)) (looked_world (calling g) l.book l.lease) p.grows
          (subst (λ (w : World). Grows (sent_world (calling g)) w) l.new_is (grows (sent_world (calling g)) (Lane 0 (octets_of (calling g)) now draws) f.deed f.new f.happens));
    }

    by : Follows (Lane 0 (octets_of (calling g)) now draws) (Some b) (sent_world (calling g)) two → Second begin now draws procedure args g two
    by f = with f (looks (calling g) b f.deed f.new f.happens f.answered)

pub second : (begin : Shown) (now : ℕ) (draws : List ℕ) (procedure : ℕ) (args : List ℕ) (g : Given begin now draws procedure args) (a b : Happened) (octets : List ℕ) (one two : Shown) → First begin now draws procedure args g a one → sent_in a ≡ Some octets
    → Steps (Lane 0 octets now draws) (Some b) one two → Second begin now draws procedure args g two
second begin now draws procedure args g a b octets one two p sent steps =
    second-by begin now draws procedure args g a b one two p (subst (λ (zs : List ℕ). Steps (Lane 0 zs now draws) (Some b) one two) (same_Some octets (octets_of (calling g)) (sym sent ∙ ap sent_in p.sent)) steps)

-- ---- and admits the call

pub record Third (begin : Shown) (procedure : ℕ) (args : List ℕ) (d : Happened) (three : Shown) : Type 0 where
  pub taken : taken_in d ≡ true
  pub called : IsCalled three procedure args

told-taken : (d : Happened) (answer : Option Happened) → answer ≡ Some d → IsEnded answer → taken_in d ≡ true
told-taken d answer is (inl (reply, e)) = ap taken_in (same_Some d (Sent reply) (sym is ∙ e))
told-taken d answer is (inr e) = ap taken_in (same_Some d (Stepped 25) (sym is ∙ e))

third-made : (begin : Shown) (now : ℕ) (draws : List ℕ) (procedure : ℕ) (args : List ℕ) (g : Given begin now draws procedure args) (two : Shown) (p : Second begin now draws procedure args g two) (deed : Deed) (new : World) → Admits (calling g) p.looks.book p.looks.lease deed new
    → Unforged g.k.met.marking (looked_world (calling g) p.looks.book p.looks.lease) deed
third-made begin now draws procedure args g two p deed new ad = record {
  made = λ making among guarded. inl (among_front (g.k.met.now.makings ++ makings_of (calling g)) [] making (among_back g.k.met.now.makings (makings_of (calling g)) making (ad.made making among)));
  issued = λ opened is. absurd (none-some opened (sym ad.opened ∙ is));
}

goes-on : (begin : Shown) (now : ℕ) (draws : List ℕ) (procedure : ℕ) (args : List ℕ) (g : Given begin now draws procedure args) (two : Shown) (p : Second begin now draws procedure args g two) (deed : Deed) (new : World) → Admits (calling g) p.looks.book p.looks.lease deed new
    → Grows g.k.met.now new → GoesOn g.k.met.now new
goes-on begin now draws procedure args g two p deed new ad all = record {
  facts = ad.facts;
  fixed = ad.fixed;
  setup = all.setup;
  completed = completed-was g.k.met.now new (session (calling g)) g.k.rests.stands (ad.stands ∙ ap (λ (xs : List StageSays). slice_set xs 0 (stages.Stands (session_after (session (calling g))))) g.k.rests.stands) ad.facts;
  handed_out = λ making octets password among. was-among g.k.met.now.makings (call_makings (session (calling g)) procedure args) ad.makes making octets password (subst (λ (ms : List MechMaking). AmongMakings ms making) ad.makings among);
}

third-met : (begin : Shown) (now : ℕ) (draws : List ℕ) (procedure : ℕ) (args : List ℕ) (g : Given begin now draws procedure args) (two three : Shown) (p : Second begin now draws procedure args g two) (deed : Deed) (new : World) → Admits (calling g) p.looks.book p.looks.lease deed new
    → Grows g.k.met.now new → PastOf g three new → IsCalled three procedure args
third-met begin now draws procedure args g two three p deed new ad all past = record {
  met = record {
    marking = g.k.met.marking;
    start = g.k.met.start;
    now = new;
    run = past.walked.run;
    begins = g.k.met.begins;
    shows = past.shows;
    unforged = past.walked.unforged;
    fresh = fresh-on g.k.met.marking g.k.met.now new (goes-on begin now draws procedure args g two p deed new ad all) g.k.met.fresh;
    own = g.k.met.own;
    outcome = g.k.met.outcome;
    completed = completed-stays g.k.met.now new 0 g.k.met.own g.k.met.outcome all g.k.met.completed;
    guarded = g.k.met.guarded;
    context = g.k.met.context;
    listed = listed-grows g.k.met.now new g.k.met.context all g.k.met.listed;
    on = g.k.met.on;
    agree = g.k.met.agree;
    settled = settled-grows g.k.met.now new g.k.met.context.id all g.k.met.settled;
  };
  place = length g.k.met.now.book.core.history;
  called = ap (entry_at (length g.k.met.now.book.core.history)) ad.logged ∙ at-head (length g.k.met.now.book.core.history) (Call g.k.met.context.id 1 procedure (sha1 args)) g.k.met.now.book.core.history refl;
}

pub third : (begin : Shown) (now : ℕ) (draws : List ℕ) (procedure : ℕ) (args : List ℕ) (g : Given begin now draws procedure args) (d : Happened) (octets later : List ℕ) (at : ℕ) (two three : Shown) → Second begin now draws procedure args g two
    → Steps (Lane 0 octets at later) (Some d) two three → Third begin procedure args d three
third begin now draws procedure args g d octets later at two three p steps = by (steps.follows (looked_world (calling g) p.looks.book p.looks.lease) p.past.shows)
  where
    with : (f : Follows (Lane 0 octets at later) (Some d) (looked_world (calling g) p.looks.book p.looks.lease) three) → Admits (calling g) p.looks.book p.looks.lease f.deed f.new → Third begin procedure args d three
    with f ad = record {
      taken = told-taken d f.deed.answer f.answered ad.answered;
      called = third-met begin now draws procedure args g two three p f.deed f.new ad
          (grows-on g.k.met.now (looked_world (calling g) p.looks.book p.looks.lease) f.new p.grows (grows (looked_world (calling g) p.looks.book p.looks.lease) (Lane 0 octets at later) f.deed f.new f.happens))
          (steps-on g.k.met.marking g.k.met.start (Lane 0 octets at later) d (looked_world (calling g) p.looks.book p.looks.lease) f.new two three p.past steps f refl (third-made begin now draws procedure args g two p f.deed f.new ad));
    }

    by : Follows (Lane 0 octets at later) (Some d) (looked_world (calling g) p.looks.book p.looks.lease) three → Third begin procedure args d three
    by f = with f (admits (calling g) d octets later at f.deed p.deed p.new f.new p.looks f.happens f.answered)

-- none of them stops
pub no-first : (begin : Shown) (now : ℕ) (draws : List ℕ) (procedure : ℕ) (args : List ℕ) (g : Given begin now draws procedure args) (a : Happened) (one : Shown) → First begin now draws procedure args g a one → sent_in a ≡ None → ⊥
no-first begin now draws procedure args g a one p e = none-some (octets_of (calling g)) (sym e ∙ ap sent_in p.sent)

pub is-taken : (begin : Shown) (procedure : ℕ) (args : List ℕ) (d : Happened) (three : Shown) → Third begin procedure args d three → taken_in d ≡ true
is-taken begin procedure args d three p = p.taken
