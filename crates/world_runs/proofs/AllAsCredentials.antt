-- Initiators over objects, in their order, do what those by credentials do; and so each event leaves a world a world.
use Rattle.std.proofs.Common.{◌≡◌, inl, inr, refl, sym, ap, subst, ◌∙◌, ℕ, zero, suc, true, List, [], ◌∷◌, ◌++◌, map, replicate, slice_get, slice_set, Option, Some, None}
use Rattle.std.proofs.lemmas.Option.{none-some, same_Some}
use Rattle.scram_mech.specs.VerifierFile.{AreLines}
use Rattle.spnego_core.specs.Ends.{PlainSetup}
use Rattle.spnego_core.specs.InitMech.{is_own_list}
use Rattle.spnego_core.specs.InitLaws.{own_of}
use Rattle.init_ends.specs.Plain.{objects_of, PlainLaw}
use Rattle.accept_book.specs.Booking.{BookOf}
use Rattle.gss_client.specs.Laws.{PlainCreation}
use Rattle.world_laws.specs.declared.event.Happened.{Happened}
use Rattle.world_laws.specs.declared.event.WorldEvent.{WorldEvent}
use Rattle.world_laws.specs.declared.event.WorldEvent.TheVariants.{Start, Deliver, Lane, CallBy}
use Rattle.world_laws.specs.Stages.{StageSays, Ready, Asks, Stands, Left, Over}
use Rattle.world_laws.specs.Events.{IsBook, IsProper}
use Rattle.world_laws.specs.Initiators.{Moved}
use Rattle.world_runs.specs.Served.{served}
use Rattle.world_runs.specs.Passing.{started_from, taken_from, called_from, of_stage, Turns}
use Rattle.world_runs.specs.Parting.{Passes}
use Rattle.world_laws.specs.Setups.{IsSetup}
use Rattle.world_runs.specs.Showing.{Shown, Ran, Steps}
use Rattle.world_laws.specs.State.{InHand, World}
use Rattle.world_runs.specs.Objects.{StageMeans, StageAs, StagesAs, may_go, plain_list}
use Rattle.world_runs.specs.Objects as objects
use Rattle.world_runs.specs.ObjectMoves.{MovedMeans}
use Rattle.world_runs.specs.ObjectMoves as moves
use Rattle.world_runs.specs.Worlds.{PartsMeans, PassesBy, WorldMeans, shown_by, IsWorld}
use Rattle.world_laws.proofs.Invariants.{Below, Known}
use Rattle.world_runs.proofs.Beginning.{ran-new}
use Rattle.world_runs.proofs.Stepping.{shown-with, ran-known, ran-lists, ran-more, steps-of}
use Rattle.world_runs.proofs.AsCredentials.{MoveAs, started-as, taken-as, called-as, HasList, goes-as, IsOf, plain-is}

-- ---- at a place

-- both places have an initiator, and one is where the other is; or neither has one
abbrev AtAs : Option StageMeans → Option StageSays → Type 0
AtAs None None = Unit {0}
AtAs None (Some plain) = ⊥
AtAs (Some stage) None = ⊥
AtAs (Some stage) (Some plain) = StageAs stage plain

get-as : (stages : List StageMeans) (plains : List StageSays) (i : ℕ) → StagesAs stages plains → AtAs (slice_get stages i) (slice_get plains i)
get-as [] [] i alike = tt
get-as [] (plain ∷ plains) i never = absurd never
get-as (stage ∷ stages) [] i never = absurd never
get-as (stage ∷ stages) (plain ∷ plains) zero alike = alike.0
get-as (stage ∷ stages) (plain ∷ plains) (suc i) alike = get-as stages plains i alike.1

set-as : (stages : List StageMeans) (plains : List StageSays) (i : ℕ) (stage : StageMeans) (plain : StageSays) → StagesAs stages plains → StageAs stage plain → StagesAs (slice_set stages i stage) (slice_set plains i plain)
set-as [] [] i stage plain alike one = tt
set-as [] (p ∷ plains) i stage plain never one = absurd never
set-as (s ∷ stages) [] i stage plain never one = absurd never
set-as (s ∷ stages) (p ∷ plains) zero stage plain alike one = (one, alike.1)
set-as (s ∷ stages) (p ∷ plains) (suc i) stage plain alike one = (alike.0, set-as stages plains i stage plain alike.1 one)

-- ---- an initiator of a place moves

-- the one by credentials moves so, and each is where the other is again
record TurnedAs (move : Option Moved) (i : ℕ) (answer : Option Happened) (plains : List StageSays) (new : List StageMeans) : Type 0 where
  after : List StageSays
  turns : Turns move i answer plains after
  stands : StagesAs new after

turned-by : (move : Option MovedMeans) (plain : Option Moved) (i : ℕ) (answer : Option Happened) (old new : List StageMeans) (plains : List StageSays) → StagesAs old plains → MoveAs move plain
    → moves.Turns move i answer old new → TurnedAs plain i answer plains new
turned-by None None i answer old new plains alike same turns = record { after = plains; turns = (turns.0, refl); stands = subst (λ (ss : List StageMeans). StagesAs ss plains) (sym turns.1) alike }
turned-by None (Some plain) i answer old new plains alike never turns = absurd never
turned-by (Some moved) None i answer old new plains alike never turns = absurd never
turned-by (Some moved) (Some plain) i answer old new plains alike same (inl to) = record {
  after = slice_set plains i plain.stage;
  turns = inl (to.0 ∙ ap (λ (a : Happened). Some a) same.answer, refl);
  stands = subst (λ (ss : List StageMeans). StagesAs ss (slice_set plains i plain.stage)) (sym to.1) (set-as old plains i moved.stage plain.stage alike same.stage);
}
turned-by (Some moved) (Some plain) i answer old new plains alike same (inr lost) = record {
  after = slice_set plains i plain.lost;
  turns = inr (lost.0, refl);
  stands = subst (λ (ss : List StageMeans). StagesAs ss (slice_set plains i plain.lost)) (sym lost.1) (set-as old plains i moved.lost plain.lost alike same.lost);
}

move-at : (move : StageMeans → Option MovedMeans) (plain : StageSays → Option Moved) → ((s : StageMeans) (p : StageSays) → StageAs s p → MoveAs (move s) (plain p)) → (s : Option StageMeans) (p : Option StageSays) → AtAs s p
    → MoveAs (moves.of_stage move s) (of_stage plain p)
move-at move plain each None None alike = tt
move-at move plain each None (Some p) never = absurd never
move-at move plain each (Some s) None never = absurd never
move-at move plain each (Some s) (Some p) alike = each s p alike

turns-as : (move : StageMeans → Option MovedMeans) (plain : StageSays → Option Moved) → ((s : StageMeans) (p : StageSays) → StageAs s p → MoveAs (move s) (plain p)) → (i : ℕ) (answer : Option Happened)
    (old new : List StageMeans) (plains : List StageSays) → StagesAs old plains → moves.Turns (moves.of_stage move (slice_get old i)) i answer old new → TurnedAs (of_stage plain (slice_get plains i)) i answer plains new
turns-as move plain each i answer old new plains alike turns =
    turned-by (moves.of_stage move (slice_get old i)) (of_stage plain (slice_get plains i)) i answer old new plains alike (move-at move plain each (slice_get old i) (slice_get plains i) (get-as old plains i alike)) turns

-- ---- any event

record PassedAs (event : WorldEvent) (answer : Option Happened) (plains : List StageSays) (old new : PartsMeans) : Type 0 where
  after : List StageSays
  passes : Passes event answer (record { stages = plains; desk = old.desk }) (record { stages = after; desk = new.desk })
  stands : StagesAs new.stages after

passes-as : PlainLaw → PlainCreation → (event : WorldEvent) (answer : Option Happened) (plains : List StageSays) (old new : PartsMeans) → StagesAs old.stages plains → PassesBy event answer old new → PassedAs event answer plains old new
passes-as law creation (Start i) answer plains old new alike passes =
    let t : TurnedAs (of_stage started_from (slice_get plains i)) i answer plains new.stages = turns-as moves.started_from started_from (started-as law) i answer old.stages new.stages plains alike passes.0 in
    record { after = t.after; passes = (t.turns, passes.1); stands = t.stands }
passes-as law creation (Deliver i octets first) answer plains old new alike passes =
    let t : TurnedAs (of_stage (taken_from first octets) (slice_get plains i)) i answer plains new.stages = turns-as (moves.taken_from first octets) (taken_from first octets) (taken-as creation first octets) i answer old.stages new.stages plains alike passes.0 in
    record { after = t.after; passes = (t.turns, passes.1); stands = t.stands }
passes-as law creation (Lane lane octets now draws) answer plains old new alike passes =
    record { after = plains; passes = (passes.0, refl); stands = subst (λ (ss : List StageMeans). StagesAs ss plains) (sym passes.1) alike }
passes-as law creation (CallBy i procedure args) answer plains old new alike passes =
    let t : TurnedAs (of_stage (called_from procedure args) (slice_get plains i)) i answer plains new.stages = turns-as (moves.called_from procedure args) (called_from procedure args) (called-as procedure args) i answer old.stages new.stages plains alike passes.0 in
    record { after = t.after; passes = (t.turns, passes.1); stands = t.stands }

-- ---- where those by credentials are, as a function

abbrev AreOf : List PlainSetup → List StageSays → Type 0
AreOf facts [] = Unit {0}
AreOf [] (plain ∷ plains) = ⊥
AreOf (own ∷ facts) (plain ∷ plains) = IsOf own plain × AreOf facts plains

list-is : PlainLaw → (facts : List PlainSetup) (stages : List StageMeans) (plains : List StageSays) → StagesAs stages plains → AreOf facts plains → plain_list facts stages ≡ plains
list-is law facts [] [] alike of = refl
list-is law facts [] (plain ∷ plains) never of = absurd never
list-is law facts (stage ∷ stages) [] never of = absurd never
list-is law [] (stage ∷ stages) (plain ∷ plains) alike never = absurd never
list-is law (own ∷ facts) (stage ∷ stages) (plain ∷ plains) alike of =
    ap (λ (p : StageSays). p ∷ plain_list facts stages) (plain-is law own stage plain alike.0 of.0) ∙ ap (λ (ps : List StageSays). plain ∷ ps) (list-is law facts stages plains alike.1 of.1)

-- the facts of a place, where an initiator is there
record FactsAt (facts : List PlainSetup) (i : ℕ) (plain : StageSays) : Type 0 where
  own : PlainSetup
  there : slice_get facts i ≡ Some own
  of : IsOf own plain

are-of : (facts : List PlainSetup) (plains : List StageSays) → ((i : ℕ) (plain : StageSays) → slice_get plains i ≡ Some plain → FactsAt facts i plain) → AreOf facts plains
are-of facts [] each = tt
are-of [] (plain ∷ plains) each = let f : FactsAt [] 0 plain = each 0 plain refl in absurd (none-some f.own f.there)
are-of (own ∷ facts) (plain ∷ plains) each =
    let f : FactsAt (own ∷ facts) 0 plain = each 0 plain refl in
    (subst (λ (o : PlainSetup). IsOf o plain) (sym (same_Some own f.own f.there)) f.of, are-of facts plains (λ i p there. later i p (each (suc i) p there)))
  where
    later : (i : ℕ) (p : StageSays) → FactsAt (own ∷ facts) (suc i) p → FactsAt facts i p
    later i p f = record { own = f.own; there = f.there; of = f.of }

facts-known : (w : World) → Known w → (i : ℕ) (plain : StageSays) → slice_get w.stages i ≡ Some plain → FactsAt w.facts i plain
facts-known w k i (Ready own) there = record { own = own; there = k.ready i own there; of = refl }
facts-known w k i (Asks xid end) there = record { own = own_of end; there = (k.asks i xid end there).0; of = refl }
facts-known w k i (Stands session) there = let p = k.placed i (Stands session) there in record { own = p.0; there = p.1; of = tt }
facts-known w k i (Left session) there = let p = k.placed i (Left session) there in record { own = p.0; there = p.1; of = tt }
facts-known w k i Over there = let p = k.placed i Over there in record { own = p.0; there = p.1; of = tt }

ran-of : (laws : Below) (shown : Shown) → Ran shown → AreOf shown.facts shown.stages
ran-of laws shown r = are-of shown.facts shown.stages (λ i plain there. moved i plain (facts-known r.now (ran-known laws shown r) i plain (ap (λ (ps : List StageSays). slice_get ps i) (sym r.shows.stages) ∙ there)))
  where
    moved : (i : ℕ) (plain : StageSays) → FactsAt r.now.facts i plain → FactsAt shown.facts i plain
    moved i plain f = record { own = f.own; there = ap (λ (fs : List PlainSetup). slice_get fs i) r.shows.facts ∙ f.there; of = f.of }

-- ---- worlds

-- a world of these parts
abbrev pub world-with : List PlainSetup → PartsMeans → List WorldEvent → WorldMeans
world-with facts parts events = record { facts = facts; stages = parts.stages; book = parts.desk.book; lanes = parts.desk.lanes; events = events }

-- the event leads to a world, and from all that was shown to all that is
pub record Stepped (event : WorldEvent) (answer : Option Happened) (old new : WorldMeans) : Type 0 where
  pub world : IsWorld new
  pub steps : Steps event answer (shown_by old) (shown_by new)

pub stepped : Below → PlainLaw → PlainCreation → (event : WorldEvent) (answer : Option Happened) (facts : List PlainSetup) (old new : PartsMeans) (before after : List WorldEvent) → IsProper served event
    → ((b : BookOf) → old.desk.book ≡ Some b → IsBook b) → IsWorld (world-with facts old before) → PassesBy event answer old new → after ≡ before ++ event ∷ []
    → Stepped event answer (world-with facts old before) (world-with facts new after)
stepped laws law creation event answer facts old new before after proper legal is passes more =
    let p : PassedAs event answer (plain_list facts old.stages) old new = passes-as law creation event answer (plain_list facts old.stages) old new is.stands passes in
    with-passed p
  where
    with-passed : PassedAs event answer (plain_list facts old.stages) old new → Stepped event answer (world-with facts old before) (world-with facts new after)
    with-passed p =
        let steps : Steps event answer (shown_by (world-with facts old before)) (shown-with facts (record { stages = p.after; desk = new.desk }) after) =
        steps-of event answer facts (record { stages = plain_list facts old.stages; desk = old.desk }) (record { stages = p.after; desk = new.desk }) before after proper legal p.passes more in
        let ran : Ran (shown-with facts (record { stages = p.after; desk = new.desk }) after) = ran-more event answer (shown_by (world-with facts old before)) (shown-with facts (record { stages = p.after; desk = new.desk }) after) steps is.ran in
        let same : plain_list facts new.stages ≡ p.after = list-is law facts new.stages p.after p.stands (ran-of laws (shown-with facts (record { stages = p.after; desk = new.desk }) after) ran) in record {
          world = record {
            ran = subst (λ (ps : List StageSays). Ran (shown-with facts (record { stages = ps; desk = new.desk }) after)) (sym same) ran;
            stands = subst (λ (ps : List StageSays). StagesAs new.stages ps) (sym same) p.stands;
          };
          steps = subst (λ (ps : List StageSays). Steps event answer (shown_by (world-with facts old before)) (shown-with facts (record { stages = ps; desk = new.desk }) after)) (sym same) steps;
        }

-- each initiator's objects are as far as its next event needs them
pub may-all : Below → PlainLaw → (w : WorldMeans) → IsWorld w → (i : ℕ) (stage : StageMeans) → slice_get w.stages i ≡ Some stage → may_go stage ≡ true
may-all laws law w is i stage there =
    by (slice_get (plain_list w.facts w.stages) i) refl (subst (λ (s : Option StageMeans). AtAs s (slice_get (plain_list w.facts w.stages) i)) there (get-as w.stages (plain_list w.facts w.stages) i is.stands))
  where
    listed : (plain : StageSays) → slice_get (plain_list w.facts w.stages) i ≡ Some plain → HasList plain
    listed (Ready own) e = ran-lists laws (shown_by w) is.ran i own e
    listed (Asks xid end) e = tt
    listed (Stands session) e = tt
    listed (Left session) e = tt
    listed Over e = tt

    by : (plain : Option StageSays) → slice_get (plain_list w.facts w.stages) i ≡ plain → AtAs (Some stage) plain → may_go stage ≡ true
    by None e never = absurd never
    by (Some plain) e alike = goes-as law stage plain alike (listed plain e)

-- ---- at the start

ready-as : (setups : List PlainSetup) → StagesAs (map (λ setup. objects.Ready setup) (map objects_of setups)) (map (λ setup. Ready setup) setups)
ready-as [] = tt
ready-as (own ∷ setups) = (refl, ready-as setups)

ready-list : (setups : List PlainSetup) → plain_list setups (map (λ setup. objects.Ready setup) (map objects_of setups)) ≡ map (λ setup. Ready setup) setups
ready-list [] = refl
ready-list (own ∷ setups) = ap (λ (ps : List StageSays). Ready own ∷ ps) (ready-list setups)

-- those that weren't started, by where the objects are
pub shown-ready : (setups : List PlainSetup) (stages : List StageMeans) → stages ≡ map (λ setup. objects.Ready setup) (map objects_of setups) → plain_list setups stages ≡ map (λ setup. Ready setup) setups
shown-ready setups stages are = ap (λ (ss : List StageMeans). plain_list setups ss) are ∙ ready-list setups

pub new-world : (setups : List PlainSetup) (stages : List StageMeans) (book : BookOf) (count : ℕ) (lanes : List (Option InHand)) (events : List WorldEvent)
    → stages ≡ map (λ setup. objects.Ready setup) (map objects_of setups) → lanes ≡ replicate count None → events ≡ [] → book.core.history ≡ [] → IsBook book → AreLines book.setup.verifiers
    → ((i : ℕ) (own : PlainSetup) → slice_get setups i ≡ Some own → is_own_list own.list ≡ true) → ((i : ℕ) (own : PlainSetup) → slice_get setups i ≡ Some own → IsSetup own)
    → IsWorld (record { facts = setups; stages = stages; book = Some book; lanes = lanes; events = events })
new-world setups stages book count lanes events are lanes_are events_are empty is_book lines lists each = record {
  ran = ran-new setups setups (plain_list setups stages) book count lanes events refl (shown-ready setups stages are) lanes_are events_are empty is_book lines lists each;
  stands = subst (λ (ps : List StageSays). StagesAs stages ps) (sym (shown-ready setups stages are))
      (subst (λ (ss : List StageMeans). StagesAs ss (map (λ setup. Ready setup) setups)) (sym are) (ready-as setups));
}
