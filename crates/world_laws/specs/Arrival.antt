-- What becomes of an honest call that a lane has in hand.
-- It isn't needed to read the headline.
use Rattle.std.specs.Prelude.{◌≡◌, ◌⊎◌, ℕ, List, ◌∷◌, slice_get, Option, Some, None, Ok}
use Rattle.sha1.specs.Sha1.{sha1}
use Rattle.accept_core.specs.declared.entry.Entry.TheVariants.{Call}
use Rattle.accept_book.specs.declared.book_answer.Lease.{Lease}
use Rattle.accept_book.specs.declared.rule.Rule.TheVariants.{Lost}
use Rattle.accept_book.specs.Booking.{FreeFor}
use Rattle.accept_book.specs.Honest.{caller_of, Honest}
use Rattle.accept_book.specs.RecordShown.{handle_id}
use Rattle.accept_book.specs.Rules.{rule_number}
use Rattle.world_laws.specs.declared.event.Happened.{Happened}
use Rattle.world_laws.specs.declared.event.Happened.TheVariants.{Sent, Stepped}
use Rattle.world_laws.specs.declared.event.WorldEvent.TheVariants.{Lane}
use Rattle.world_laws.specs.Deeds.{Deed}
use Rattle.world_laws.specs.State.{InHand, World}
use Rattle.world_laws.specs.Events.{Happens}

-- a lane has an honest call in hand, of a context that the book showed it: its number may be
-- called, and the log has a place
pub record Arrives (w : World) (lane : ℕ) (lease : Lease) (n procedure : ℕ) (args : List ℕ) : Type 0
  where
    pub hand : InHand
    pub there : slice_get w.lanes lane ≡ Some (Some hand)
    pub looked : hand.kept.looked ≡ Some (Ok lease)
    pub unasked : hand.kept.admitted ≡ None
    pub honest : Honest w.serves.program hand.octets (caller_of lease) n procedure args
    pub handle : handle_id honest.cred.context ≡ Some lease.id
    pub free : FreeFor w.book.core lease n

-- it was replied to, or what became of it isn't known: then its lane ends it without a reply
abbrev pub IsEnded : Option Happened → Type 0
IsEnded answer = ((reply : List ℕ) × (answer ≡ Some (Sent reply)))
    ⊎ (answer ≡ Some (Stepped (rule_number Lost)))

-- so it was answered, and it stands in the log with its number, its procedure and its arguments'
-- SHA-1
pub record IsTaken (old : World) (deed : Deed) (new : World) (lease : Lease) (n procedure : ℕ)
    (args : List ℕ) : Type 0 where
  pub answered : IsEnded deed.answer
  pub logged : new.book.core.history
      ≡ Call lease.id n procedure (sha1 args) ∷ old.book.core.history

-- the lane's next event takes it, unless memory is wanted, whatever becomes of it
abbrev pub TakesInHand : Lease → Type 0
TakesInHand lease = (old : World) (lane n procedure : ℕ) (args octets : List ℕ) (now : ℕ)
    (draws : List ℕ) (deed : Deed) (new : World)
    → Arrives old lane lease n procedure args → Happens old (Lane lane octets now draws) deed new
    → (deed.answer ≡ None) ⊎ IsTaken old deed new lease n procedure args
