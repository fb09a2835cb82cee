-- What a lane has in hand stays while events are elsewhere; and what holds of every world of a run.
use Rattle.std.proofs.Common.{◌≡◌, ◌≢◌, inl, inr, ℕ, Bool, true, false, sym, ap, ◌∙◌, subst, List, [], ◌∷◌, slice_get, Option, Some, None}
use Rattle.std.specs.Prelude.{nat_le, ◌==◌}
use Rattle.std.specs.List.{AllByRecursion}
use Rattle.gss_client.specs.Session.{SessionState}
use Rattle.world_laws.specs.declared.event.WorldEvent.{WorldEvent}
use Rattle.world_laws.specs.declared.event.WorldEvent.TheVariants.{Start, Deliver, Lane, CallBy}
use Rattle.world_laws.specs.Stages.{StageSays}
use Rattle.world_laws.specs.Stages as stages
use Rattle.world_laws.specs.Deeds.{Deed}
use Rattle.world_laws.specs.Events.{Idles, Moves, StartsBy, DeliversBy, CallsWith, CallsBy, LanesBy, HappensBy, Run, Begins}
use Rattle.world_laws.specs.Initiators.{Moved}
use Rattle.world_laws.specs.Lanes.{in_hand, LaneMoves}
use Rattle.world_laws.specs.State.{InHand, World}
use Rattle.world_laws.proofs.Invariants.{Below, Held}
use Rattle.world_laws.proofs.Held.{held-start, held-step}
use Rattle.world_laws.proofs.Slices.{set-other}
use Rattle.arrival_laws.specs.FirstArrival.{IsElsewhere}

-- ---- every world of a run

pub held-on : Below → (old : World) (events : List WorldEvent) (new : World) → Run old events new → Held old → Held new
held-on laws old [] new run held = subst Held (sym run) held
held-on laws old (event ∷ later) new run held = held-on laws run.0.world later new run.1 (held-step laws old event run.0.deed run.0.world held run.0.happens)

pub held-run : Below → (old : World) (events : List WorldEvent) (new : World) → Begins old → Run old events new → Held new
held-run laws old events new begins run = held-on laws old events new run (held-start old begins)

-- ---- lanes

abbrev Same : World → World → Type 0
Same old new = new.lanes ≡ old.lanes

idle-same : (old : World) (deed : Deed) (new : World) → Idles old deed new → Same old new
idle-same old deed new i = ap (λ (w : World). w.lanes) i.1

moves-same : (old : World) (i : ℕ) (moved : Moved) (deed : Deed) (new : World) → Moves old i moved deed new → Same old new
moves-same old i moved deed new (inl m) = ap (λ (w : World). w.lanes) m.1
moves-same old i moved deed new (inr m) = ap (λ (w : World). w.lanes) m.1

starts-same : (old : World) (i : ℕ) (stage : Option StageSays) (deed : Deed) (new : World) → StartsBy old i stage deed new → Same old new
starts-same old i None deed new d = idle-same old deed new d
starts-same old i (Some (stages.Ready own)) deed new d = moves-same old i _ deed new d
starts-same old i (Some (stages.Asks xid end)) deed new d = idle-same old deed new d
starts-same old i (Some (stages.Stands s)) deed new d = idle-same old deed new d
starts-same old i (Some (stages.Left s)) deed new d = idle-same old deed new d
starts-same old i (Some stages.Over) deed new d = idle-same old deed new d

delivers-same : (old : World) (i : ℕ) (octets : List ℕ) (first : ℕ) (stage : Option StageSays) (deed : Deed) (new : World) → DeliversBy old i octets first stage deed new → Same old new
delivers-same old i octets first None deed new d = idle-same old deed new d
delivers-same old i octets first (Some (stages.Ready own)) deed new d = idle-same old deed new d
delivers-same old i octets first (Some (stages.Asks xid end)) deed new d = moves-same old i _ deed new d
delivers-same old i octets first (Some (stages.Stands s)) deed new d = idle-same old deed new d
delivers-same old i octets first (Some (stages.Left s)) deed new d = idle-same old deed new d
delivers-same old i octets first (Some stages.Over) deed new d = idle-same old deed new d

with-same : (small last : Bool) (old : World) (i : ℕ) (s : SessionState) (procedure : ℕ) (args : List ℕ) (deed : Deed) (new : World) → CallsWith small last old i s procedure args deed new → Same old new
with-same true last old i s procedure args deed new d = moves-same old i _ deed new d
with-same false true old i s procedure args deed new d = moves-same old i _ deed new d
with-same false false old i s procedure args deed new d = idle-same old deed new d

calls-same : (old : World) (i procedure : ℕ) (args : List ℕ) (stage : Option StageSays) (deed : Deed) (new : World) → CallsBy old i procedure args stage deed new → Same old new
calls-same old i procedure args None deed new d = idle-same old deed new d
calls-same old i procedure args (Some (stages.Ready own)) deed new d = idle-same old deed new d
calls-same old i procedure args (Some (stages.Asks xid end)) deed new d = idle-same old deed new d
calls-same old i procedure args (Some (stages.Stands s)) deed new d = with-same (nat_le s.number 0x7fffffff) (s.number == 0x80000000) old i s procedure args deed new d
calls-same old i procedure args (Some (stages.Left s)) deed new d = idle-same old deed new d
calls-same old i procedure args (Some stages.Over) deed new d = idle-same old deed new d

abbrev At : World → World → ℕ → Type 0
At old new lane = slice_get new.lanes lane ≡ slice_get old.lanes lane

other-stays : (old : World) (lane other : ℕ) (hand : InHand) (deed : Deed) (new : World) → other ≢ lane → LaneMoves old other hand deed new → At old new lane
other-stays old lane other hand deed new ne (inl o) = ap (λ (w : World). slice_get w.lanes lane) o.new_is ∙ set-other old.lanes other lane _ ne
other-stays old lane other hand deed new ne (inr q) = ap (λ (w : World). slice_get w.lanes lane) q.new_is ∙ set-other old.lanes other lane _ ne

lane-stays : (old : World) (lane other : ℕ) (octets : List ℕ) (now : ℕ) (draws : List ℕ) (hand : Option (Option InHand)) (deed : Deed) (new : World) → other ≢ lane → LanesBy old other octets now draws hand deed new → At old new lane
lane-stays old lane other octets now draws None deed new ne d = ap (λ (xs : List (Option InHand)). slice_get xs lane) (idle-same old deed new d)
lane-stays old lane other octets now draws (Some hand) deed new ne d = other-stays old lane other (in_hand hand octets now draws) deed new ne d

stays : (lane : ℕ) (old : World) (event : WorldEvent) (deed : Deed) (new : World) → IsElsewhere lane event → HappensBy old event deed new → At old new lane
stays lane old (Start i) deed new elsewhere d = ap (λ (xs : List (Option InHand)). slice_get xs lane) (starts-same old i (slice_get old.stages i) deed new d)
stays lane old (Deliver i octets first) deed new elsewhere d = ap (λ (xs : List (Option InHand)). slice_get xs lane) (delivers-same old i octets first (slice_get old.stages i) deed new d)
stays lane old (Lane other octets now draws) deed new elsewhere d = lane-stays old lane other octets now draws (slice_get old.lanes other) deed new elsewhere d
stays lane old (CallBy i procedure args) deed new elsewhere d = ap (λ (xs : List (Option InHand)). slice_get xs lane) (calls-same old i procedure args (slice_get old.stages i) deed new d)

-- what a lane has in hand stays
pub hand-stays : (lane : ℕ) (old : World) (events : List WorldEvent) (new : World) → Run old events new → AllByRecursion (IsElsewhere lane) events → At old new lane
hand-stays lane old [] new run elsewhere = ap (λ (w : World). slice_get w.lanes lane) run
hand-stays lane old (event ∷ later) new run elsewhere = hand-stays lane run.0.world later new run.1 elsewhere.1 ∙ stays lane old event run.0.deed run.0.world elsewhere.0 run.0.happens.did
