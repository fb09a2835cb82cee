-- What a handle of C owns.
use Rattle.std.specs.Prelude.{Option, Some, None, Bool, true, false}
use mir.Syntax.{Ty}
use base.Fml.{Fml, fsep, feq}
use denote.RattleType.{RattleType}
use denote.RawPtr.{Ptr}
use Rattle.std.specs.Box.Ownership.{box_owns}
use Rattle.std.specs.contracts.impls.GlobalAllocator.TheImpl.{ghosts}

-- the right to free a block of the C library's heap, the same by each `Global`
abbrev pub may_free : Ty → Ptr → Fml
may_free = ghosts.dealloc_token (record { memory = record { seal = tt } })

-- a full handle owns the boxed value at its pointer, and the right to free the block; an empty one
-- owns nothing
unfoldable pub slot_owns : (R : RattleType) → Bool → Ptr → Option R.Denot → Fml
slot_owns R full at (Some value) = fsep (feq Bool full true) (box_owns may_free R at value)
slot_owns R full at None = feq Bool full false
