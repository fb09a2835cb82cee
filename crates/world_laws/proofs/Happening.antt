-- What an event came to: nothing, an initiator's move, or a lane's.
use Rattle.std.proofs.Common.{◌≡◌, ℕ, ◌<◌, ◌^◌, ◌==◌, Bool, true, false, nat_le, List, slice_get, Option, Some, None, refl}
use Rattle.spnego_core.specs.Ends.{PlainSetup, EndSays}
use Rattle.gss_client.specs.Session.{SessionState}
use Rattle.world_laws.specs.declared.event.WorldEvent.{WorldEvent}
use Rattle.world_laws.specs.declared.event.WorldEvent.TheVariants.{Start, Deliver, Lane, CallBy}
use Rattle.world_laws.specs.Stages.{StageSays}
use Rattle.world_laws.specs.Stages as stages
use Rattle.world_laws.specs.Deeds.{Deed}
use Rattle.world_laws.specs.State.{InHand, World}
use Rattle.world_laws.specs.Initiators.{Moved, starts, takes, calls, leaves}
use Rattle.world_laws.specs.Lanes.{in_hand, LaneMoves}
use Rattle.world_laws.specs.Events.{Idles, Moves, StartsBy, DeliversBy, CallsWith, CallsBy, LanesBy, Happens}

-- an initiator's move, from where it is
pub data Move (w : World) (i : ℕ) (moved : Moved) : Type 0 where
  Starting : (own : PlainSetup) → slice_get w.stages i ≡ Some (stages.Ready own) → moved ≡ starts w.serves own → Move w i moved
  Taking : (first xid : ℕ) (end : EndSays) (octets : List ℕ) → slice_get w.stages i ≡ Some (stages.Asks xid end) → moved ≡ takes w.serves first xid end octets → Move w i moved
  Calling : (s : SessionState) (procedure : ℕ) (args : List ℕ) → slice_get w.stages i ≡ Some (stages.Stands s) → nat_le s.number 0x7fffffff ≡ true → procedure < 2 ^ 32 → w.serves.program.takes procedure args ≡ true
      → moved ≡ calls s procedure args → Move w i moved
  Leaving : (s : SessionState) (procedure : ℕ) (args : List ℕ) → slice_get w.stages i ≡ Some (stages.Stands s) → nat_le s.number 0x7fffffff ≡ false → (s.number == 0x80000000) ≡ true → procedure < 2 ^ 32 → w.serves.program.takes procedure args ≡ true
      → moved ≡ leaves s → Move w i moved

pub data Came (old : World) (deed : Deed) (new : World) : Type 0 where
  Idling : Idles old deed new → Came old deed new
  Moving : (i : ℕ) (moved : Moved) → Move old i moved → Moves old i moved deed new → Came old deed new
  Laning : (lane : ℕ) (hand : Option InHand) (octets : List ℕ) (now : ℕ) (draws : List ℕ) → slice_get old.lanes lane ≡ Some hand → LaneMoves old lane (in_hand hand octets now draws) deed new → Came old deed new

started : (old : World) (i : ℕ) (stage : Option StageSays) (deed : Deed) (new : World) → slice_get old.stages i ≡ stage → StartsBy old i stage deed new → Came old deed new
started old i None deed new there did = Idling did
started old i (Some (stages.Ready own)) deed new there did = Moving i (starts old.serves own) (Starting own there refl) did
started old i (Some (stages.Asks xid end)) deed new there did = Idling did
started old i (Some (stages.Stands s)) deed new there did = Idling did
started old i (Some (stages.Left s)) deed new there did = Idling did
started old i (Some stages.Over) deed new there did = Idling did

delivered : (old : World) (i : ℕ) (octets : List ℕ) (first : ℕ) (stage : Option StageSays) (deed : Deed) (new : World) → slice_get old.stages i ≡ stage → DeliversBy old i octets first stage deed new → Came old deed new
delivered old i octets first None deed new there did = Idling did
delivered old i octets first (Some (stages.Ready own)) deed new there did = Idling did
delivered old i octets first (Some (stages.Asks xid end)) deed new there did = Moving i (takes old.serves first xid end octets) (Taking first xid end octets there refl) did
delivered old i octets first (Some (stages.Stands s)) deed new there did = Idling did
delivered old i octets first (Some (stages.Left s)) deed new there did = Idling did
delivered old i octets first (Some stages.Over) deed new there did = Idling did

numbered : (old : World) (i : ℕ) (s : SessionState) (procedure : ℕ) (args : List ℕ) (deed : Deed) (new : World) (b c : Bool) → slice_get old.stages i ≡ Some (stages.Stands s) → procedure < 2 ^ 32 → old.serves.program.takes procedure args ≡ true
    → nat_le s.number 0x7fffffff ≡ b → (s.number == 0x80000000) ≡ c → CallsWith b c old i s procedure args deed new → Came old deed new
numbered old i s procedure args deed new true c there served proper left last did = Moving i (calls s procedure args) (Calling s procedure args there left served proper refl) did
numbered old i s procedure args deed new false true there served proper left last did = Moving i (leaves s) (Leaving s procedure args there left last served proper refl) did
numbered old i s procedure args deed new false false there served proper left last did = Idling did

called : (old : World) (i procedure : ℕ) (args : List ℕ) (stage : Option StageSays) (deed : Deed) (new : World) → slice_get old.stages i ≡ stage → procedure < 2 ^ 32 → old.serves.program.takes procedure args ≡ true
    → CallsBy old i procedure args stage deed new → Came old deed new
called old i procedure args None deed new there served proper did = Idling did
called old i procedure args (Some (stages.Ready own)) deed new there served proper did = Idling did
called old i procedure args (Some (stages.Asks xid end)) deed new there served proper did = Idling did
called old i procedure args (Some (stages.Stands s)) deed new there served proper did = numbered old i s procedure args deed new (nat_le s.number 0x7fffffff) (s.number == 0x80000000) there served proper refl refl did
called old i procedure args (Some (stages.Left s)) deed new there served proper did = Idling did
called old i procedure args (Some stages.Over) deed new there served proper did = Idling did

in-lane : (old : World) (lane : ℕ) (octets : List ℕ) (now : ℕ) (draws : List ℕ) (hand : Option (Option InHand)) (deed : Deed) (new : World) → slice_get old.lanes lane ≡ hand
    → LanesBy old lane octets now draws hand deed new → Came old deed new
in-lane old lane octets now draws None deed new there did = Idling did
in-lane old lane octets now draws (Some hand) deed new there did = Laning lane hand octets now draws there did

pub came : (old : World) (event : WorldEvent) (deed : Deed) (new : World) → Happens old event deed new → Came old deed new
came old (Start i) deed new h = started old i (slice_get old.stages i) deed new refl h.did
came old (Deliver i octets first) deed new h = delivered old i octets first (slice_get old.stages i) deed new refl h.did
came old (Lane lane octets now draws) deed new h = in-lane old lane octets now draws (slice_get old.lanes lane) deed new refl h.did
came old (CallBy i procedure args) deed new h = called old i procedure args (slice_get old.stages i) deed new refl h.proper.0 h.proper.1 h.did
