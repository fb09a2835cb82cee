-- Events, and runs of them.
use Rattle.std.specs.Prelude.{◌≡◌, ◌⊎◌, ℕ, ◌<◌, ◌≤◌, ◌^◌, ◌==◌, Bool, true, false, nat_le, List}
use Rattle.std.specs.Prelude.{[], ◌∷◌}
use Rattle.std.specs.Prelude.{length, slice_get, Option, Some, None}
use Rattle.spnego_core.specs.Ends.{PlainSetup}
use Rattle.spnego_core.specs.InitMech.{is_own_list}
use Rattle.accept_book.specs.Booking.{BookOf, by_outcome}
use Rattle.accept_core.specs.Replays.{Replays}
use Rattle.rpc_program.specs.Programs.{Serving}
use Rattle.gss_client.specs.Session.{SessionState}
use Rattle.world_laws.specs.declared.event.WorldEvent.{WorldEvent}
use Rattle.world_laws.specs.declared.event.WorldEvent.TheVariants.{Start, Deliver, Lane, CallBy}
use Rattle.world_laws.specs.Stages.{StageSays}
use Rattle.world_laws.specs.Stages as stages
use Rattle.world_laws.specs.Deeds.{Deed, quiet, nothing}
use Rattle.world_laws.specs.State.{InHand, World, moved_to}
use Rattle.world_laws.specs.Initiators.{Moved, did, starts, takes, calls, leaves}
use Rattle.world_laws.specs.Lanes.{in_hand, LaneMoves}
use Rattle.world_laws.specs.Setups.{Proper}

-- the book's log is legal, and its contexts and marks are what the log says
abbrev pub IsBook : BookOf → Type 0
IsBook book =
    Replays by_outcome book.core.width book.core.history book.core.table book.core.cache

-- there was nothing to be done, and the world is as it was
abbrev pub Idles : World → Deed → World → Type 0
Idles old deed new = (deed ≡ nothing) × (new ≡ old)

-- the initiator moves so, or memory was wanted
abbrev pub Moves : World → ℕ → Moved → Deed → World → Type 0
Moves old i moved deed new =
    ((deed ≡ did moved) × (new ≡ moved_to old i moved.stage moved.makes))
    ⊎ ((deed ≡ quiet None) × (new ≡ moved_to old i moved.lost []))

-- a start: an initiator that wasn't started starts; else nothing is done
abbrev pub StartsBy : World → ℕ → Option StageSays → Deed → World → Type 0
StartsBy old i None deed new = Idles old deed new
StartsBy old i (Some (stages.Ready own)) deed new = Moves old i (starts old.serves own) deed new
StartsBy old i (Some (stages.Asks xid end)) deed new = Idles old deed new
StartsBy old i (Some (stages.Stands s)) deed new = Idles old deed new
StartsBy old i (Some (stages.Left s)) deed new = Idles old deed new
StartsBy old i (Some stages.Over) deed new = Idles old deed new

-- a reply: an initiator with a creation call out takes these octets, and if its context stands
-- then, its first call has this number; else nothing is done
abbrev pub DeliversBy : World → ℕ → List ℕ → ℕ → Option StageSays → Deed → World → Type 0
DeliversBy old i octets first None deed new = Idles old deed new
DeliversBy old i octets first (Some (stages.Ready own)) deed new = Idles old deed new
DeliversBy old i octets first (Some (stages.Asks xid end)) deed new =
    Moves old i (takes old.serves first xid end octets) deed new
DeliversBy old i octets first (Some (stages.Stands s)) deed new = Idles old deed new
DeliversBy old i octets first (Some (stages.Left s)) deed new = Idles old deed new
DeliversBy old i octets first (Some stages.Over) deed new = Idles old deed new

-- a session whose number is one of a call makes that call, and one with the number after these ends
-- its context
abbrev pub CallsWith : Bool → Bool → World → ℕ → SessionState → ℕ → List ℕ → Deed → World → Type 0
CallsWith true last old i s procedure args deed new = Moves old i (calls s procedure args) deed new
CallsWith false true old i s procedure args deed new = Moves old i (leaves s) deed new
CallsWith false false old i s procedure args deed new = Idles old deed new

-- a call: an initiator whose context stands makes it, or ends its context if no number is left for
-- one; else nothing is done
abbrev pub CallsBy : World → ℕ → ℕ → List ℕ → Option StageSays → Deed → World → Type 0
CallsBy old i procedure args None deed new = Idles old deed new
CallsBy old i procedure args (Some (stages.Ready own)) deed new = Idles old deed new
CallsBy old i procedure args (Some (stages.Asks xid end)) deed new = Idles old deed new
CallsBy old i procedure args (Some (stages.Stands s)) deed new =
    CallsWith (nat_le s.number 0x7fffffff) (s.number == 0x80000000) old i s procedure args deed new
CallsBy old i procedure args (Some (stages.Left s)) deed new = Idles old deed new
CallsBy old i procedure args (Some stages.Over) deed new = Idles old deed new

-- a lane has a record in hand, or takes this one
abbrev pub LanesBy : World → ℕ → List ℕ → ℕ → List ℕ → Option (Option InHand) → Deed → World
    → Type 0
LanesBy old lane octets now draws None deed new = Idles old deed new
LanesBy old lane octets now draws (Some hand) deed new =
    LaneMoves old lane (in_hand hand octets now draws) deed new

-- a session's first number is at most 0x80000000, and calls are of any procedure, with arguments
-- that the program takes for it, which fit into a record
abbrev pub IsProper : Serving → WorldEvent → Type 0
IsProper serves (Start initiator) = Unit {0}
IsProper serves (Deliver initiator octets first) = first ≤ 0x80000000
IsProper serves (Lane lane octets now draws) = length draws ≡ 82
IsProper serves (CallBy initiator procedure args) = (procedure < 2 ^ 32)
    × (serves.program.takes procedure args ≡ true) × (length args ≤ 65540)

-- what an event does, by its kind: a start, a reply that comes, a lane's next step, a call
abbrev pub HappensBy : World → WorldEvent → Deed → World → Type 0
HappensBy old (Start i) deed new = StartsBy old i (slice_get old.stages i) deed new
HappensBy old (Deliver i octets first) deed new =
    DeliversBy old i octets first (slice_get old.stages i) deed new
HappensBy old (Lane lane octets now draws) deed new =
    LanesBy old lane octets now draws (slice_get old.lanes lane) deed new
HappensBy old (CallBy i procedure args) deed new =
    CallsBy old i procedure args (slice_get old.stages i) deed new

-- an event, and what it did
pub record Happens (old : World) (event : WorldEvent) (deed : Deed) (new : World) : Type 0 where
  pub proper : IsProper old.serves event
  pub did : HappensBy old event deed new
  pub book : IsBook new.book

-- ---- runs

-- an event, with what it did and the world that it left
pub record Next (old : World) (event : WorldEvent) : Type 0 where
  pub deed : Deed
  pub world : World
  pub happens : Happens old event deed world

-- events in a row, the first one first
abbrev pub Run : World → List WorldEvent → World → Type 0
Run old [] new = new ≡ old
Run old (event ∷ later) new = (next : Next old event) × Run next.world later new

-- a world before its first event: nobody was started, nothing is in hand, was fixed or was handed
-- out, and the book has no entry. Each initiator has one or two credentials, of different
-- mechanisms, and is one that can be begun
pub record Begins (w : World) : Type 0 where
  pub ready : (i : ℕ) (own : PlainSetup) → slice_get w.facts i ≡ Some own
      → (slice_get w.stages i ≡ Some (stages.Ready own)) × (is_own_list own.list ≡ true)
  pub known : (i : ℕ) (stage : StageSays) → slice_get w.stages i ≡ Some stage
      → (own : PlainSetup) × (slice_get w.facts i ≡ Some own) × (stage ≡ stages.Ready own)
  pub idle : (lane : ℕ) (hand : Option InHand) → slice_get w.lanes lane ≡ Some hand → hand ≡ None
  pub unfixed : w.fixed ≡ []
  pub unmade : w.makings ≡ []
  pub book : IsBook w.book
  pub empty : w.book.core.history ≡ []
  pub proper : Proper w
