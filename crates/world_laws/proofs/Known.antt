-- Initiators' ends are good, and of the facts at their places.
use Rattle.std.proofs.Common.{◌≡◌, inl, inr, ℕ, sym, subst, List, [], slice_get, Some}
use Rattle.scram_mech.specs.MechMaking.{MechMaking}
use Rattle.spnego_core.specs.Ends.{PlainSetup, EndSays}
use Rattle.spnego_core.specs.EndSteps as steps
use Rattle.spnego_core.specs.InitLaws.{own_of, GoodInit, GoesOn, After, InitLaw, StartLaw}
use Rattle.spnego_core.specs.Initiating.{Initiated}
use Rattle.gss_client.specs.Session.{xid_after}
use Rattle.world_laws.specs.declared.event.WorldEvent.{WorldEvent}
use Rattle.world_laws.specs.Stages.{StageSays}
use Rattle.world_laws.specs.Stages as stages
use Rattle.world_laws.specs.Deeds.{Deed}
use Rattle.world_laws.specs.State.{InHand, World, moved_to}
use Rattle.world_laws.specs.Initiators.{Moved, starts, takes}
use Rattle.world_laws.specs.Lanes.{in_hand, LaneMoves}
use Rattle.world_laws.specs.Events.{Moves, Begins, Happens}
use Rattle.world_laws.proofs.Invariants.{Below, Known}
use Rattle.world_laws.proofs.Slices.{set-cases}
use Rattle.world_laws.proofs.Happening.{Move, Starting, Taking, Calling, Leaving, Came, Idling, Moving, Laning, came}
use Rattle.world_laws.proofs.Moving.{StartedBy, starts-by, Went, Stood, takes-by}

-- ---- at the start

ready-is : (own next : PlainSetup) (xid : ℕ) (end : EndSays) → stages.Asks xid end ≡ stages.Ready own → ⊥
ready-is own next xid end e = cc

same-ready : (own next : PlainSetup) → stages.Ready own ≡ stages.Ready next → own ≡ next
same-ready own next e = cc

pub known-start : (w : World) → Begins w → Known w
known-start w b = record {
  sized = λ i own there. (b.ready i own there).1;
  ready = λ i own there. (let k = b.known i (stages.Ready own) there in subst (λ (o : PlainSetup). slice_get w.facts i ≡ Some o) (sym (same-ready own k.0 k.2)) k.1);
  asks = λ i xid end there. (let k = b.known i (stages.Asks xid end) there in absurd (ready-is k.0 k.0 xid end k.2));
  placed = λ i stage there. (let k = b.known i stage there in (k.0, k.1));
}

-- ---- what is known of a stage that an initiator comes to

abbrev KnownStage : List PlainSetup → ℕ → StageSays → Type 0
KnownStage facts i (stages.Ready own) = ⊥
KnownStage facts i (stages.Asks xid end) = (slice_get facts i ≡ Some (own_of end)) × GoodInit end
KnownStage facts i (stages.Stands s) = Unit {0}
KnownStage facts i (stages.Left s) = Unit {0}
KnownStage facts i stages.Over = Unit {0}

asks-known : (facts : List PlainSetup) (i xid : ℕ) (end : EndSays) (own : PlainSetup) → slice_get facts i ≡ Some own → own_of end ≡ own → GoodInit end → KnownStage facts i (stages.Asks xid end)
asks-known facts i xid end own there e good = (subst (λ (o : PlainSetup). slice_get facts i ≡ Some o) (sym e) there, good)

-- the end that goes on by the step of a good end
pub goes-on : (old : EndSays) (taken : Initiated) (end : EndSays) (token : List ℕ) → InitLaw old taken → taken.step ≡ steps.More end token → GoesOn (own_of old) taken.chosen taken.listed end
goes-on old taken end token law e = subst (After (own_of old) taken.chosen taken.listed) e law.after

starting-known : (laws : Below) (w : World) (i : ℕ) (own : PlainSetup) → slice_get w.stages i ≡ Some (stages.Ready own) → Known w → StartedBy own (starts w.serves own)
    → KnownStage w.facts i (starts w.serves own).stage × KnownStage w.facts i (starts w.serves own).lost
starting-known laws w i own there k by =
    let law : StartLaw own by.started = laws.init.starts own by.started by.is in
    (subst (KnownStage w.facts i) (sym by.stage) (asks-known w.facts i 1 by.started.end own (k.ready i own there) law.own_is law.good), subst (KnownStage w.facts i) (sym by.lost) tt)

going-known : (laws : Below) (w : World) (i xid : ℕ) (end : EndSays) (octets : List ℕ) (moved : Moved) → slice_get w.stages i ≡ Some (stages.Asks xid end) → Known w → Went xid end octets moved
    → KnownStage w.facts i moved.stage × KnownStage w.facts i moved.lost
going-known laws w i xid end octets moved there k by =
    let was = k.asks i xid end there in
    let on = goes-on end by.by.taken by.offer.end by.offer.token (laws.init.steps end by.by.granted.result.token by.by.taken was.1 by.by.step_is) by.by.leads in
    (subst (KnownStage w.facts i) (sym by.stage) (asks-known w.facts i (xid_after xid) by.offer.end (own_of end) was.0 on.own_is on.good), subst (KnownStage w.facts i) (sym by.lost) tt)

stood-known : (w : World) (i xid : ℕ) (end : EndSays) (octets : List ℕ) (moved : Moved) → Stood xid end octets moved → KnownStage w.facts i moved.stage × KnownStage w.facts i moved.lost
stood-known w i xid end octets moved by = (subst (KnownStage w.facts i) (sym by.stage) tt, subst (KnownStage w.facts i) (sym by.lost) tt)

move-known : (laws : Below) (w : World) (i : ℕ) (moved : Moved) → Known w → Move w i moved → KnownStage w.facts i moved.stage × KnownStage w.facts i moved.lost
move-known laws w i moved k (Starting own there is) = subst (λ (m : Moved). KnownStage w.facts i m.stage × KnownStage w.facts i m.lost) (sym is) (elim (starts-by w.serves own) [
  | inl e ↦ subst (λ (m : Moved). KnownStage w.facts i m.stage × KnownStage w.facts i m.lost) (sym e) (tt, tt)
  | inr by ↦ starting-known laws w i own there k by
])
move-known laws w i moved k (Taking first xid end octets there is) = subst (λ (m : Moved). KnownStage w.facts i m.stage × KnownStage w.facts i m.lost) (sym is) (elim (takes-by w.serves first xid end octets) [
  | inl e ↦ subst (λ (m : Moved). KnownStage w.facts i m.stage × KnownStage w.facts i m.lost) (sym e) (tt, tt)
  | inr more ↦ elim more [
    | inl by ↦ going-known laws w i xid end octets (takes w.serves first xid end octets) there k by
    | inr by ↦ stood-known w i xid end octets (takes w.serves first xid end octets) by
  ]
])
move-known laws w i moved k (Calling s procedure args there left served proper is) = subst (λ (m : Moved). KnownStage w.facts i m.stage × KnownStage w.facts i m.lost) (sym is) (tt, tt)
move-known laws w i moved k (Leaving s procedure args there left last served proper is) = subst (λ (m : Moved). KnownStage w.facts i m.stage × KnownStage w.facts i m.lost) (sym is) (tt, tt)

move-there : (w : World) (i : ℕ) (moved : Moved) → Move w i moved → (stage : StageSays) × (slice_get w.stages i ≡ Some stage)
move-there w i moved (Starting own there is) = (_, there)
move-there w i moved (Taking first xid end octets there is) = (_, there)
move-there w i moved (Calling s procedure args there left served proper is) = (_, there)
move-there w i moved (Leaving s procedure args there left last served proper is) = (_, there)

-- ---- a step

known-set : (w : World) (i : ℕ) (stage : StageSays) (makes : List MechMaking) (own : PlainSetup) → Known w → slice_get w.facts i ≡ Some own → KnownStage w.facts i stage → Known (moved_to w i stage makes)
known-set w i stage makes own k there s = record {
  sized = k.sized;
  ready = λ j next e. elim (set-cases w.stages i j stage (stages.Ready next) e) [ inl a ↦ absurd (subst (KnownStage w.facts i) (sym a.1) s) | inr b ↦ k.ready j next b.1 ];
  asks = λ j xid end e. elim (set-cases w.stages i j stage (stages.Asks xid end) e) [
    | inl a ↦ subst (λ (n : ℕ). KnownStage w.facts n (stages.Asks xid end)) a.0 (subst (KnownStage w.facts i) (sym a.1) s)
    | inr b ↦ k.asks j xid end b.1
  ];
  placed = λ j next e. elim (set-cases w.stages i j stage next e) [ inl a ↦ (own, subst (λ (n : ℕ). slice_get w.facts n ≡ Some own) a.0 there) | inr b ↦ k.placed j next b.1 ];
}

moves-known : (laws : Below) (old : World) (i : ℕ) (moved : Moved) (deed : Deed) (new : World) → Known old → Move old i moved → Moves old i moved deed new → Known new
moves-known laws old i moved deed new k move (inl a) =
    let t = move-there old i moved move in
    let p = k.placed i t.0 t.1 in
    subst Known (sym a.1) (known-set old i moved.stage moved.makes p.0 k p.1 (move-known laws old i moved k move).0)
moves-known laws old i moved deed new k move (inr b) =
    let t = move-there old i moved move in
    let p = k.placed i t.0 t.1 in
    subst Known (sym b.1) (known-set old i moved.lost [] p.0 k p.1 (move-known laws old i moved k move).1)

lane-known : (old : World) (lane : ℕ) (hand : InHand) (deed : Deed) (new : World) → Known old → LaneMoves old lane hand deed new → Known new
lane-known old lane hand deed new k (inl a) = subst Known (sym a.new_is) (record { sized = k.sized; ready = k.ready; asks = k.asks; placed = k.placed })
lane-known old lane hand deed new k (inr b) = subst Known (sym b.new_is) (record { sized = k.sized; ready = k.ready; asks = k.asks; placed = k.placed })

came-known : (laws : Below) (old : World) (deed : Deed) (new : World) → Known old → Came old deed new → Known new
came-known laws old deed new k (Idling i) = subst Known (sym i.1) k
came-known laws old deed new k (Moving i moved move m) = moves-known laws old i moved deed new k move m
came-known laws old deed new k (Laning lane hand octets now draws there m) = lane-known old lane (in_hand hand octets now draws) deed new k m

pub known-step : (laws : Below) (old : World) (event : WorldEvent) (deed : Deed) (new : World) → Known old → Happens old event deed new → Known new
known-step laws old event deed new k h = came-known laws old deed new k (came old event deed new h)
