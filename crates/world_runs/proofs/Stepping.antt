-- What an event makes of the parts of a world is an event of the world.
use Rattle.std.proofs.Common.{◌≡◌, ◌⊎◌, inl, inr, ℕ, ◌==◌, refl, sym, ap, subst, arith, ◌∙◌, Bool, true, false, nat_le, is_some, IsSome, List, [], ◌∷◌, ◌++◌, append-nil, slice_get, Option, Some, None, Result, Ok, Err, IfOk, IsErr}
use Rattle.scram_mech.specs.MechMaking.{MechMaking}
use Rattle.spnego_core.specs.Ends.{PlainSetup}
use Rattle.spnego_core.specs.InitMech.{is_own_list}
use Rattle.accept_book.specs.Booking.{BookOf}
use Rattle.gss_client.specs.Session.{SessionState}
use Rattle.rpc_program.specs.Programs.{Serving}
use Rattle.world_laws.specs.declared.event.Happened.{Happened}
use Rattle.world_laws.specs.declared.event.WorldEvent.{WorldEvent}
use Rattle.world_laws.specs.declared.event.WorldEvent.TheVariants.{Start, Deliver, Lane, CallBy}
use Rattle.world_laws.specs.Stages.{StageSays}
use Rattle.world_laws.specs.Stages as stages
use Rattle.world_laws.specs.Deeds.{Deed, quiet, nothing}
use Rattle.world_laws.specs.Events.{IsBook, Idles, Moves, StartsBy, DeliversBy, CallsWith, CallsBy, LanesBy, IsProper, HappensBy, Next, Run}
use Rattle.world_laws.specs.Initiators.{Moved, did, starts, takes}
use Rattle.world_laws.specs.Lanes.{in_hand, with_lane, LaneMoves}
use Rattle.world_runs.specs.Served.{served}
use Rattle.world_runs.specs.Parting.{HeldParts, Passes}
use Rattle.world_runs.specs.Passing.{started_from, taken_from, called_with, called_from, of_stage, Turns, Desk, hand_or, LaneGoes, LaneTurns}
use Rattle.world_runs.specs.Showing.{Shown, Ran, Follows, Steps}
use Rattle.world_laws.specs.State.{InHand, World}
use Rattle.world_runs.specs.Turning.{Turned, happened_of}
use Rattle.world_laws.proofs.Known.{known-start, known-step}
use Rattle.world_laws.proofs.Invariants.{Below, Known}
use Rattle.world_runs.proofs.LaneTurns.{lane-moved}

-- ---- initiators

abbrev with-stages : World → List StageSays → List MechMaking → World
with-stages w stages makes = record { serves = w.serves; facts = w.facts; stages = stages; book = w.book; lanes = w.lanes; fixed = w.fixed; makings = w.makings ++ makes }

abbrev MovesOr : Option Moved → World → ℕ → Deed → World → Type 0
MovesOr None w i deed new = Idles w deed new
MovesOr (Some moved) w i deed new = Moves w i moved deed new

-- what an initiator's event did
record Did (moved : Option Moved) (w : World) (i : ℕ) (answer : Option Happened) (stages : List StageSays) : Type 0 where
  deed : Deed
  answered : deed.answer ≡ answer
  moves : MovesOr moved w i deed (with-stages w stages deed.makes)

same-world : (w : World) (stages : List StageSays) → stages ≡ w.stages → with-stages w stages [] ≡ w
same-world w stages e = ap (λ s. record { serves = w.serves; facts = w.facts; stages = s; book = w.book; lanes = w.lanes; fixed = w.fixed; makings = w.makings ++ [] }) e
    ∙ ap (λ m. record { serves = w.serves; facts = w.facts; stages = w.stages; book = w.book; lanes = w.lanes; fixed = w.fixed; makings = m }) (append-nil w.makings)

did-turn : (moved : Option Moved) (w : World) (i : ℕ) (answer : Option Happened) (stages : List StageSays) → Turns moved i answer w.stages stages → Did moved w i answer stages
did-turn None w i answer stages turns = record { deed = nothing; answered = sym turns.0; moves = (refl, same-world w stages turns.1) }
did-turn (Some moved) w i answer stages (inl to) = record {
  deed = did moved;
  answered = sym to.0;
  moves = inl (refl, ap (λ s. with-stages w s moved.makes) to.1);
}
did-turn (Some moved) w i answer stages (inr lost) = record {
  deed = quiet None;
  answered = sym lost.0;
  moves = inr (refl, ap (λ s. with-stages w s []) lost.1);
}

starts-as : (w : World) (i : ℕ) (deed : Deed) (new : World) (stage : Option StageSays) → w.serves ≡ served → MovesOr (of_stage started_from stage) w i deed new → StartsBy w i stage deed new
starts-as w i deed new None e m = m
starts-as w i deed new (Some (stages.Ready own)) e m = subst (λ (s : Serving). Moves w i (starts s own) deed new) (sym e) m
starts-as w i deed new (Some (stages.Asks xid end)) e m = m
starts-as w i deed new (Some (stages.Stands s)) e m = m
starts-as w i deed new (Some (stages.Left s)) e m = m
starts-as w i deed new (Some stages.Over) e m = m

delivers-as : (w : World) (i : ℕ) (octets : List ℕ) (first : ℕ) (deed : Deed) (new : World) (stage : Option StageSays) → w.serves ≡ served → MovesOr (of_stage (taken_from first octets) stage) w i deed new → DeliversBy w i octets first stage deed new
delivers-as w i octets first deed new None e m = m
delivers-as w i octets first deed new (Some (stages.Ready own)) e m = m
delivers-as w i octets first deed new (Some (stages.Asks xid end)) e m = subst (λ (s : Serving). Moves w i (takes s first xid end octets) deed new) (sym e) m
delivers-as w i octets first deed new (Some (stages.Stands s)) e m = m
delivers-as w i octets first deed new (Some (stages.Left s)) e m = m
delivers-as w i octets first deed new (Some stages.Over) e m = m

with-as : (left last : Bool) (w : World) (i : ℕ) (s : SessionState) (procedure : ℕ) (args : List ℕ) (deed : Deed) (new : World) → MovesOr (called_with left last s procedure args) w i deed new
    → CallsWith left last w i s procedure args deed new
with-as true last w i s procedure args deed new m = m
with-as false true w i s procedure args deed new m = m
with-as false false w i s procedure args deed new m = m

calls-as : (w : World) (i procedure : ℕ) (args : List ℕ) (deed : Deed) (new : World) (stage : Option StageSays) → MovesOr (of_stage (called_from procedure args) stage) w i deed new
    → CallsBy w i procedure args stage deed new
calls-as w i procedure args deed new None m = m
calls-as w i procedure args deed new (Some (stages.Ready own)) m = m
calls-as w i procedure args deed new (Some (stages.Asks xid end)) m = m
calls-as w i procedure args deed new (Some (stages.Stands s)) m = with-as (nat_le s.number 0x7fffffff) (s.number == 0x80000000) w i s procedure args deed new m
calls-as w i procedure args deed new (Some (stages.Left s)) m = m
calls-as w i procedure args deed new (Some stages.Over) m = m

-- ---- lanes

-- what a lane's event did
record Done (w : World) (lane : ℕ) (octets : List ℕ) (now : ℕ) (draws : List ℕ) (before : Option (Option InHand)) (answer : Option Happened) (desk : Desk) : Type 0 where
  deed : Deed
  answered : deed.answer ≡ answer
  new : World
  lanes_by : LanesBy w lane octets now draws before deed new
  serves : new.serves ≡ w.serves
  facts : new.facts ≡ w.facts
  stages_are : new.stages ≡ w.stages
  book_is : desk.book ≡ Some new.book
  lanes_are : desk.lanes ≡ new.lanes
  legal : IsBook new.book

some-book : (a b : BookOf) → Some a ≡ Some b → a ≡ b
some-book a b e = grind (arith, e)

hand-same : (before : Option InHand) (octets : List ℕ) (now : ℕ) (draws : List ℕ) → hand_or before (in_hand None octets now draws) ≡ in_hand before octets now draws
hand-same None octets now draws = refl
hand-same (Some hand) octets now draws = refl

done-lane : (w : World) (lane : ℕ) (octets : List ℕ) (now : ℕ) (draws : List ℕ) (before : Option (Option InHand)) (answer : Option Happened) (desk : Desk) → w.serves ≡ served → IsBook w.book
    → LaneTurns before lane (in_hand None octets now draws) answer (record { book = Some w.book; lanes = w.lanes }) desk → Done w lane octets now draws before answer desk
done-lane w lane octets now draws None answer desk serves legal turns = record {
  deed = nothing;
  answered = sym turns.0;
  new = w;
  lanes_by = (refl, refl);
  serves = refl;
  facts = refl;
  stages_are = refl;
  book_is = ap (λ (d : Desk). d.book) turns.1;
  lanes_are = ap (λ (d : Desk). d.lanes) turns.1;
  legal = legal;
}
done-lane w lane octets now draws (Some before) answer desk serves legal goes =
    by goes (lane-moved w lane (in_hand before octets now draws) goes.next goes.left answer
    (subst (λ (s : Serving). Turned s w.book (in_hand before octets now draws) goes.next goes.left answer) (sym serves)
    (subst (λ hand. Turned served w.book hand goes.next goes.left answer) (hand-same before octets now draws)
    (subst (λ book. Turned served book (hand_or before (in_hand None octets now draws)) goes.next goes.left answer) (sym (some-book w.book goes.book goes.was)) goes.turned))))
  where
    by : (g : LaneGoes before lane (in_hand None octets now draws) answer (record { book = Some w.book; lanes = w.lanes }) desk)
        → (deed : Deed) × (deed.answer ≡ answer) × LaneMoves w lane (in_hand before octets now draws) deed (with_lane w lane g.left g.next deed) → Done w lane octets now draws (Some before) answer desk
    by g moved = record {
      deed = moved.0;
      answered = moved.1;
      new = with_lane w lane g.left g.next moved.0;
      lanes_by = moved.2;
      serves = refl;
      facts = refl;
      stages_are = refl;
      book_is = g.is;
      lanes_are = g.lanes;
      legal = g.legal;
    }

-- ---- any event

abbrev pub shown-with : List PlainSetup → HeldParts → List WorldEvent → Shown
shown-with facts parts events = record { facts = facts; stages = parts.stages; book = parts.desk.book; lanes = parts.desk.lanes; events = events }

-- the parts show the world
pub record PartsShow (w : World) (parts : HeldParts) : Type 0 where
  pub serves_are : w.serves ≡ served
  pub stages_are : parts.stages ≡ w.stages
  pub book_is : parts.desk.book ≡ Some w.book
  pub lanes_are : parts.desk.lanes ≡ w.lanes

-- an initiator's event, once it is what `by` makes of its move
moved-follows : (event : WorldEvent) (answer : Option Happened) (moved : Option Moved) (i : ℕ) (w : World) (facts : List PlainSetup) (old new : HeldParts) (events : List WorldEvent) → IsProper served event
    → IsBook w.book → facts ≡ w.facts → PartsShow w old → Turns moved i answer w.stages new.stages → new.desk ≡ old.desk
    → ((deed : Deed) (next : World) → MovesOr moved w i deed next → HappensBy w event deed next) → Follows event answer w (shown-with facts new events)
moved-follows event answer moved i w facts old new events proper legal facts_are show turns desk by =
    let d : Did moved w i answer new.stages = did-turn moved w i answer new.stages turns in record {
      deed = d.deed;
      new = with-stages w new.stages d.deed.makes;
      happens = record { proper = subst (λ (s : Serving). IsProper s event) (sym show.serves_are) proper; did = by d.deed (with-stages w new.stages d.deed.makes) d.moves; book = legal };
      answered = d.answered;
      shows = record { serves = show.serves_are; facts = facts_are; stages = refl; book = ap (λ (k : Desk). k.book) desk ∙ show.book_is; lanes = ap (λ (k : Desk). k.lanes) desk ∙ show.lanes_are };
    }

turns-over : (moved : Option StageSays → Option Moved) (i : ℕ) (answer : Option Happened) (a b new : List StageSays) → a ≡ b → Turns (moved (slice_get a i)) i answer a new → Turns (moved (slice_get b i)) i answer b new
turns-over moved i answer a b new e turns = subst (λ xs. Turns (moved (slice_get xs i)) i answer xs new) e turns

lane-over : (lane : ℕ) (taken : InHand) (answer : Option Happened) (a b new : Desk) → a ≡ b → LaneTurns (slice_get a.lanes lane) lane taken answer a new → LaneTurns (slice_get b.lanes lane) lane taken answer b new
lane-over lane taken answer a b new e turns = subst (λ (d : Desk). LaneTurns (slice_get d.lanes lane) lane taken answer d new) e turns

desk-is : (w : World) (desk : Desk) → desk.book ≡ Some w.book → desk.lanes ≡ w.lanes → desk ≡ record { book = Some w.book; lanes = w.lanes }
desk-is w desk b l = ap (λ x. record { book = x; lanes = desk.lanes }) b ∙ ap (λ y. record { book = Some w.book; lanes = y }) l

pub passes-follow : (event : WorldEvent) (answer : Option Happened) (w : World) (facts : List PlainSetup) (old new : HeldParts) (events : List WorldEvent) → IsProper served event → IsBook w.book
    → facts ≡ w.facts → PartsShow w old → Passes event answer old new → Follows event answer w (shown-with facts new events)
passes-follow (Start i) answer w facts old new events proper legal facts_are show passes =
    moved-follows (Start i) answer (of_stage started_from (slice_get w.stages i)) i w facts old new events proper legal facts_are show
    (turns-over (of_stage started_from) i answer old.stages w.stages new.stages show.stages_are passes.0) passes.1
    (λ deed next m. starts-as w i deed next (slice_get w.stages i) show.serves_are m)
passes-follow (Deliver i octets first) answer w facts old new events proper legal facts_are show passes =
    moved-follows (Deliver i octets first) answer (of_stage (taken_from first octets) (slice_get w.stages i)) i w facts old new events proper legal facts_are show
    (turns-over (of_stage (taken_from first octets)) i answer old.stages w.stages new.stages show.stages_are passes.0) passes.1
    (λ deed next m. delivers-as w i octets first deed next (slice_get w.stages i) show.serves_are m)
passes-follow (Lane lane octets now draws) answer w facts old new events proper legal facts_are show passes =
    let d : Done w lane octets now draws (slice_get w.lanes lane) answer new.desk = done-lane w lane octets now draws (slice_get w.lanes lane) answer new.desk show.serves_are legal
    (lane-over lane (in_hand None octets now draws) answer old.desk (record { book = Some w.book; lanes = w.lanes }) new.desk (desk-is w old.desk show.book_is show.lanes_are) passes.0) in record {
      deed = d.deed;
      new = d.new;
      happens = record { proper = subst (λ (s : Serving). IsProper s (Lane lane octets now draws)) (sym show.serves_are) proper; did = d.lanes_by; book = d.legal };
      answered = d.answered;
      shows = record { serves = d.serves ∙ show.serves_are; facts = facts_are ∙ sym d.facts; stages = passes.1 ∙ (show.stages_are ∙ sym d.stages_are); book = d.book_is; lanes = d.lanes_are };
    }
passes-follow (CallBy i procedure args) answer w facts old new events proper legal facts_are show passes =
    moved-follows (CallBy i procedure args) answer (of_stage (called_from procedure args) (slice_get w.stages i)) i w facts old new events proper legal facts_are show
    (turns-over (of_stage (called_from procedure args)) i answer old.stages w.stages new.stages show.stages_are passes.0) passes.1
    (λ deed next m. calls-as w i procedure args deed next (slice_get w.stages i) m)

-- ---- runs grow

-- an event from where nothing happened yet
run-first : (a b : World) (event : WorldEvent) (next : Next b event) → b ≡ a → Run a (event ∷ []) next.world
run-first a b event next e = first-from b event next a e
  where
    -- the run from b itself, moved to what b is
    first-from : (b : World) (event : WorldEvent) (next : Next b event) (a : World) → b ≡ a → Run a (event ∷ []) next.world
    first-from b event next a e = subst (λ x. Run x (event ∷ []) next.world) e (next, refl)

run-more : (a : World) (events : List WorldEvent) (b : World) (event : WorldEvent) (next : Next b event) → Run a events b → Run a (events ++ event ∷ []) next.world
run-more a [] b event next run = run-first a b event next run
run-more a (first ∷ later) b event next run = (run.0, run-more run.0.world later b event next run.1)

run-known : (laws : Below) (a : World) (events : List WorldEvent) (b : World) → Run a events b → Known a → Known b
run-known laws a [] b run known = subst Known (sym run) known
run-known laws a (event ∷ later) b run known =
    run-known laws run.0.world later b run.1 (known-step laws a event run.0.deed run.0.world known run.0.happens)

-- ---- what a world that came of a run shows

pub ran-known : (laws : Below) (shown : Shown) (r : Ran shown) → Known r.now
ran-known laws shown r = run-known laws r.start shown.events r.now r.run (known-start r.start r.begins)

pub ran-lists : (laws : Below) (shown : Shown) → Ran shown → (i : ℕ) (own : PlainSetup) → slice_get shown.stages i ≡ Some (stages.Ready own) → is_own_list own.list ≡ true
ran-lists laws shown r i own there =
    let known : Known r.now = ran-known laws shown r in
    known.sized i own (known.ready i own (ap (λ xs. slice_get xs i) (sym r.shows.stages) ∙ there))

pub ran-book : (shown : Shown) → Ran shown → IsSome shown.book
ran-book shown r = ap is_some r.shows.book

pub ran-more : (event : WorldEvent) (answer : Option Happened) (old new : Shown) → Steps event answer old new → Ran old → Ran new
ran-more event answer old new steps r = by (steps.follows r.now r.shows)
  where
    by : Follows event answer r.now new → Ran new
    by f = record {
      start = r.start;
      begins = r.begins;
      now = f.new;
      run = subst (λ events. Run r.start events f.new) (sym steps.events) (run-more r.start old.events r.now event (record { deed = f.deed; world = f.new; happens = f.happens }) r.run);
      shows = f.shows;
    }

-- a step, from every world that shows the old
pub steps-of : (event : WorldEvent) (answer : Option Happened) (facts : List PlainSetup) (old new : HeldParts) (before after : List WorldEvent) → IsProper served event
    → ((b : BookOf) → old.desk.book ≡ Some b → IsBook b) → Passes event answer old new → after ≡ before ++ event ∷ []
    → Steps event answer (shown-with facts old before) (shown-with facts new after)
steps-of event answer facts old new before after proper legal passes more = record {
  events = more;
  follows = λ w shows. passes-follow event answer w facts old new after proper (legal w.book shows.book) shows.facts
      (record { serves_are = shows.serves; stages_are = shows.stages; book_is = shows.book; lanes_are = shows.lanes }) passes;
}

pub more-items : (after reserved before : List WorldEvent) (kept event : WorldEvent) → after ≡ reserved ++ kept ∷ [] → reserved ≡ before → kept ≡ event → after ≡ before ++ event ∷ []
more-items after reserved before kept event a r k = a ∙ (ap (λ es. es ++ kept ∷ []) r ∙ ap (λ e. before ++ e ∷ []) k)

-- what a step answers
pub told-ok : {E : Type 0} (event : WorldEvent) (result : Result Happened E) (old new : Shown) → Steps event (happened_of result) old new → IfOk result (λ happened. Steps event (Some happened) old new)
told-ok event (Ok happened) old new steps = steps
told-ok event (Err refusal) old new steps = tt

pub told-err : {E : Type 0} (event : WorldEvent) (result : Result Happened E) (old new : Shown) → Steps event (happened_of result) old new → IsErr result → (new ≡ old) ⊎ Steps event None old new
told-err event (Ok happened) old new steps is = absurd old new is
  where
    absurd : (old new : Shown) → false ≡ true → (new ≡ old) ⊎ Steps event None old new
    absurd old new e = grind (arith, e)
told-err event (Err refusal) old new steps is = inr steps
