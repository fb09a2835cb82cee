-- What the table, the cache and the counts say is what the history says.
use Rattle.std.specs.Prelude.{◌≡◌, ℕ, ◌+◌, ◌≤◌, min, List, length, reverse, Option, None, Some}
use Rattle.gss_base.specs.declared.mech.MechKind.{MechKind}
use Rattle.sec_base.specs.Moment.{greatest_moment}
use Rattle.seq_window.specs.Marks.{Shows}
use Rattle.replay_cache.specs.Taking.{Cached, Holds, skew}
use Rattle.context_table.specs.declared.slot.Slot.{Slot}
use Rattle.context_table.specs.declared.slot.SlotState.{SlotState}
use Rattle.context_table.specs.declared.slot.SlotState.TheVariants.{Negotiating, Held, Complete}
use Rattle.context_table.specs.Places.{Places, slot_at, live_of}
use Rattle.accept_core.specs.declared.entry.Entry.{Entry}
use Rattle.accept_core.specs.declared.entry.Keeping.{Keeping}
use Rattle.accept_core.specs.History.{Standing, Unknown, Open, Whole, Over, standing, numbers}
use Rattle.accept_core.specs.History.{opened, living, latest, taken_of, IsGone}
use Rattle.accept_core.specs.Legal.{Legal}
use Rattle.accept_core.specs.Logs.{LogOf, greatest_log}
use Rattle.accept_core.specs.Aging.{in_use, most_whole}

-- what a value of a complete context is known by: its mechanism, and the digest of its names and
-- key
pub record Naming (S : Type 0) : Type 0 where
  pub mech : S → MechKind
  pub names : S → List ℕ

-- the end of a context that was opened at this moment and negotiates
abbrev pub end_of_opened : ℕ → ℕ
end_of_opened at = min (at + skew) greatest_moment

-- a slot is what the history says of its id; a slot that negotiates may be held
abbrev pub SameState : {N S : Type 0} → Naming S → Standing → SlotState N S → ℕ → Type 0
SameState naming Unknown state ends = ⊥
SameState naming (Open at) (Negotiating state) ends = ends ≡ end_of_opened at
SameState naming (Open at) Held ends = ends ≡ end_of_opened at
SameState naming (Open at) (Complete value) ends = ⊥
SameState naming (Whole mech names until) (Negotiating state) ends = ⊥
SameState naming (Whole mech names until) Held ends = ⊥
SameState naming (Whole mech names until) (Complete value) ends =
    (naming.mech value ≡ mech) × (naming.names value ≡ names) × (ends ≡ until)
SameState naming Over state ends = ⊥

-- a slot is what the history says of its id, and its window shows the numbers of the id's calls
pub record SlotOf {N S : Type 0} (naming : Naming S) (wide : ℕ) (stands : Standing) (ns : List ℕ)
    (slot : Slot N S) : Type 0 where
  pub state : SameState naming stands slot.state slot.ends
  pub width : slot.window.width ≡ wide
  pub window : Shows slot.window ns

-- the slot of an id is what the history says of it: none exactly where the id is gone
abbrev pub SameSlot : {N S : Type 0} → Naming S → ℕ → Option (Slot N S) → Standing → List ℕ → Type 0
SameSlot naming wide None stands ns = IsGone stands
SameSlot naming wide (Some slot) stands ns = SlotOf naming wide stands ns slot

-- the history is legal, and contexts, how many live, and marks are what it says
pub record Replays {N S : Type 0} (naming : Naming S) (wide : ℕ) (h : List Entry)
    (table : Places N S) (cache : Cached) : Type 0 where
  pub legal : Legal wide h
  pub slots : (id : ℕ) → SameSlot naming wide (slot_at table id) (standing id h) (numbers id h)
  pub live : live_of table ≡ living h
  pub width : table.width ≡ wide
  pub past : latest h ≤ cache.greatest
  pub marks : Holds cache (taken_of h)

-- the acceptor's state, as contracts see it: its history, the limit of its log, the width of its
-- windows, what of the log is in memory, its contexts and marks
pub record Accepting (N S : Type 0) : Type 0 where
  pub history : List Entry
  pub limit : ℕ
  pub width : ℕ
  pub keeping : Keeping
  pub table : Places N S
  pub cache : Cached

-- the limits and what is kept are as before, and so are the greatest moment and the room for marks
pub record Keeps {N S : Type 0} (old new : Accepting N S) : Type 0 where
  pub limit : new.limit ≡ old.limit
  pub width : new.width ≡ old.width
  pub keeping : new.keeping ≡ old.keeping
  pub contexts : new.table.limit ≡ old.table.limit
  pub capacity : new.cache.capacity ≡ old.cache.capacity
  pub greatest : new.cache.greatest ≡ old.cache.greatest

-- an acceptor's log, the ids that it gave, how many contexts may be complete, its contexts and its
-- marks belong together; the order of use is the history's, and complete contexts have no more than
-- their share
pub record IsCore {N S : Type 0} (naming : Naming S) (log : LogOf) (given most : ℕ)
    (table : Places N S) (cache : Cached) : Type 0 where
  pub replays : Replays naming log.width (reverse log.entries) table cache
  pub ids : given ≡ opened (reverse log.entries)
  pub few : length (reverse log.entries) ≤ log.limit
  pub small : log.limit ≤ greatest_log
  pub contexts : log.contexts ≡ table.limit
  pub whole : most ≡ most_whole table.limit
  pub used : table.used ≡ in_use (reverse log.entries)
  pub share : length (in_use (reverse log.entries)) ≤ most
  pub marks : log.marks ≡ cache.capacity
