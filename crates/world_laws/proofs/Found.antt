-- What was found verified stays, over every event.
use Rattle.std.proofs.Common.{◌≡◌, ℕ, sym, ap, subst, ◌∙◌, List, slice_get, Some}
use Rattle.std.proofs.lemmas.Option.{none-some}
use Rattle.spnego_core.specs.declared.outcome.Outcome.{Outcome}
use Rattle.spnego_core.specs.Ends.{PlainSetup, EndSays}
use Rattle.world_laws.specs.declared.event.WorldEvent.{WorldEvent}
use Rattle.world_laws.specs.Stages as stages
use Rattle.world_laws.specs.Deeds.{Deed}
use Rattle.world_laws.specs.State.{Context, World}
use Rattle.world_laws.specs.Lanes.{in_hand}
use Rattle.world_laws.specs.Events.{Happens, Begins}
use Rattle.world_laws.specs.Premises.{Marking, Unforged, Completed, session_in}
use Rattle.world_laws.proofs.Invariants.{Below, Known, Held, Found}
use Rattle.world_laws.proofs.FoundKept.{Stays, Founds, of-found, to-found}
use Rattle.world_laws.proofs.FoundSteps.{Built}
use Rattle.world_laws.proofs.FoundMoves.{move-found, moves-found}
use Rattle.world_laws.proofs.FoundLanes.{lane-moves-found}
use Rattle.world_laws.proofs.Growing.{grows, facts-stay, setup-stays, was-made-grows}
use Rattle.world_laws.proofs.Happening.{Came, Idling, Moving, Laning, came}

-- ---- before the first event

ready-asks : (own : PlainSetup) (xid : ℕ) (end : EndSays) → stages.Asks xid end ≡ stages.Ready own → ⊥
ready-asks own xid end e = cc

unfixed : (w : World) (place : ℕ) (x : Context) → Begins w → slice_get w.fixed place ≡ Some x → ⊥
unfixed w place x begins e = none-some x (sym (ap (λ (l : List Context). slice_get l place) begins.unfixed) ∙ e)

unasked : (w : World) (i xid : ℕ) (end : EndSays) → Begins w → slice_get w.stages i ≡ Some (stages.Asks xid end) → ⊥
unasked w i xid end begins e = let k = begins.known i (stages.Asks xid end) e in ready-asks k.0 xid end k.2

uncompleted : (w : World) (i : ℕ) (own : PlainSetup) (outcome : Outcome) → Begins w → Completed w i own outcome → ⊥
uncompleted w i own outcome begins c = let k = begins.known i c.stage c.stands in none-some c.session (sym (ap session_in k.2) ∙ c.in_session)

pub found-start : (marking : Marking) (w : World) → Begins w → Found marking w
found-start marking w begins = to-found marking w (record {
  contexts = λ place x e. absurd (unfixed w place x begins e);
  asks = λ i xid end e. absurd (unasked w i xid end begins e);
  completed = λ i own outcome c. absurd (uncompleted w i own outcome begins c);
})

-- ---- an event

came-found : (laws : Below) (marking : Marking) (old : World) (deed : Deed) (new : World) → Known old → Held old → Founds marking old → Built marking old → Unforged marking old deed → Stays old new → Came old deed new → Founds marking new
came-found laws marking old deed new known held f built unforged g (Idling idles) = subst (Founds marking) (sym idles.1) f
came-found laws marking old deed new known held f built unforged g (Moving i moved move moves) =
    moves-found marking old new i moved deed g f (move-found laws marking old i moved known f built move) unforged moves
came-found laws marking old deed new known held f built unforged g (Laning lane hand octets now draws there moves) =
    lane-moves-found laws marking old new lane (in_hand hand octets now draws) deed g held.good f unforged moves

stays : (old : World) (event : WorldEvent) (deed : Deed) (new : World) → Happens old event deed new → Stays old new
stays old event deed new happens = record {
  facts = facts-stay old event deed new happens;
  setup = setup-stays old event deed new happens;
  made = λ making made. was-made-grows old new making (grows old event deed new happens) made;
}

pub found-step : (laws : Below) (marking : Marking) (old : World) (event : WorldEvent) (deed : Deed) (new : World) → Known old → Held old → Found marking old → Unforged marking old deed → Built marking old → Happens old event deed new → Found marking new
found-step laws marking old event deed new known held f unforged built happens =
    to-found marking new (came-found laws marking old deed new known held (of-found marking old f) built unforged (stays old event deed new happens) (came old event deed new happens))
