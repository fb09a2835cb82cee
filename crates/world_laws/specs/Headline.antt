-- The headline: what holds of every world after every list of events, of any initiators, one
-- acceptor's book, and a network that does what it likes.
use Rattle.std.specs.Prelude.{◌≡◌, ℕ, List, [], Some, None}
use Rattle.gss_base.specs.declared.mark.Mark.{Mark}
use Rattle.accept_core.specs.declared.entry.Entry.{Entry}
use Rattle.accept_core.specs.declared.entry.Entry.TheVariants.{Auth, Call}
use Rattle.accept_core.specs.History.{entry_at}
use Rattle.world_laws.specs.declared.event.Happened.TheVariants.{Refused}
use Rattle.world_laws.specs.declared.event.WorldEvent.{WorldEvent}
use Rattle.world_laws.specs.declared.event.WorldEvent.TheVariants.{Start, Deliver, Lane, CallBy}
use Rattle.world_laws.specs.Deeds.{Deed}
use Rattle.world_laws.specs.State.{World}
use Rattle.world_laws.specs.Events.{Happens, Run, Begins}
use Rattle.world_laws.specs.Premises.{Marking, Unforged, NoForgery, Fresh}
use Rattle.world_laws.specs.Agreement.{Agreement, AgreementLaw}
use Rattle.world_laws.specs.Origin.{Origin, OriginLaw}

-- ---- once

-- no number of a context, and no authenticator, stands twice in the log
pub record StandsOnce (history : List Entry) : Type 0 where
  pub calls : (i j id n p q : ℕ) (xs ys : List ℕ) → entry_at i history ≡ Some (Call id n p xs)
      → entry_at j history ≡ Some (Call id n q ys) → i ≡ j
  pub marks : (i j id other : ℕ) (mark : Mark) (at later : ℕ)
      → entry_at i history ≡ Some (Auth id mark at)
      → entry_at j history ≡ Some (Auth other mark later) → i ≡ j

-- so it is after every run, whatever is forged
abbrev pub OnceLaw : Type 0
OnceLaw = (old : World) (events : List WorldEvent) (new : World) → Run old events new → Begins old
    → StandsOnce new.book.core.history

-- ---- at each point

-- agreement and origin hold at each point of a run, of its events up to there: so a call was made
-- before it stands in the log. What is drawn is fresh in all of the run
abbrev pub EarlierLaw : Type 0
EarlierLaw = (marking : Marking) (old : World) (front : List WorldEvent) (middle : World)
    (run : Run old front middle) (later : List WorldEvent) (new : World) → Run middle later new
    → Begins old → NoForgery marking old front middle run → Fresh marking new
    → Agreement marking middle × Origin marking old front middle run

-- ---- what a network may do

-- a start, a call, a reply that its initiator refuses, and a lane's event that finds nothing
-- verified and opens no ticket
abbrev pub IsQuiet : WorldEvent → Deed → Type 0
IsQuiet (Start i) deed = Unit {0}
IsQuiet (Deliver i octets first) deed = deed.answer ≡ Some Refused
IsQuiet (Lane lane octets now draws) deed = (deed.found ≡ []) × (deed.opened ≡ None)
IsQuiet (CallBy i procedure args) deed = Unit {0}

-- such an event forges nothing: so a network may change, repeat and make up what will be refused
abbrev pub QuietLaw : Type 0
QuietLaw = (marking : Marking) (old : World) (event : WorldEvent) (deed : Deed) (new : World)
    → Happens old event deed new → IsQuiet event deed → Unforged marking old deed

-- ---- all of it

-- who completed on a guarded key has one partner, and both agree; each call in the log on a guarded
-- key was made by the context's partner, before it came there; it stands there once; and what is
-- refused asks nothing of the premises
pub record Headline : Type 0 where
  pub agreement : AgreementLaw
  pub origin : OriginLaw
  pub earlier : EarlierLaw
  pub once : OnceLaw
  pub quiet : QuietLaw
