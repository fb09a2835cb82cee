-- Base64 with padding, RFC 4648 section 4, octet by octet. Of a group's signs the second and the
-- third may stand only where some text of the wanted length goes on behind them; the bits that are
-- left over in the last one are 0.
use Rattle.std.specs.Prelude.{ℕ, ◌-◌, ◌%◌, Bool, true, false, ◌==◌, ◌&&◌, ◌||◌, nat_lt, nat_le}
use Rattle.std.specs.Prelude.{Option, Some, None, if◌then◌else◌}
use Rattle.scram_mech.specs.declared.symbols.Spot.{Spot}
use Rattle.scram_mech.specs.declared.symbols.Spot.TheVariants.{First, Second, Third, Fourth}
use Rattle.scram_mech.specs.declared.symbols.Spot.TheVariants.{Padding, Full}
use Rattle.scram_mech.specs.declared.symbols.Symbols.{Symbols}
use Rattle.scram_mech.specs.Signs.{sextet_of}

-- the same signs, at this place of the group
abbrev pub at : Symbols → Spot → Option Symbols
at s spot = Some (record { spot = spot; need = s.need; left = s.left })

-- the same if it may be, else none
abbrev pub at_if : Bool → Symbols → Spot → Option Symbols
at_if may s spot = if may then at s spot else None

-- with these six bits so many octets of the group are there, no bit is left over, and that is
-- enough
abbrev pub may_be_last : Symbols → ℕ → ℕ → ℕ → Bool
may_be_last s bits unit octets = (bits % unit == 0) && nat_le s.need octets

-- what is due behind `=` at this place of a group, none if it can't stand there
abbrev pub pad_in : Spot → Symbols → Option Symbols
pad_in First s = None
pad_in Second s = None
pad_in (Third bits) s = at_if (may_be_last s bits 16 1) s Padding
pad_in (Fourth bits) s = at_if (may_be_last s bits 4 2) s Full
pad_in Padding s = at s Full
pad_in Full s = None

-- what is due behind `=`
abbrev pub pad : Symbols → Option Symbols
pad s = pad_in s.spot s

-- what is due behind a whole group
abbrev pub next_group : Symbols → Option Symbols
next_group s = if nat_lt s.left 3 then None
    else Some (record { spot = First; need = s.need - 3; left = s.left - 3 })

-- what is due behind six bits of a sign at this place of a group, none if it can't stand there
abbrev pub sextet_in : Spot → Symbols → ℕ → Option Symbols
sextet_in First s bits = at_if (nat_le 1 s.left) s Second
sextet_in Second s bits = at_if (nat_le 2 s.left || may_be_last s bits 16 1) s (Third bits)
sextet_in (Third before) s bits =
    at_if (nat_le 3 s.left || ((s.left == 2) && may_be_last s bits 4 2)) s (Fourth bits)
sextet_in (Fourth before) s bits = next_group s
sextet_in Padding s bits = None
sextet_in Full s bits = None

-- what is due behind a sign of these six bits
abbrev pub sextet : Symbols → ℕ → Option Symbols
sextet s bits = sextet_in s.spot s bits

-- the same for the bits of an octet, which has none if it isn't a sign of base64
abbrev pub sextet_or : Symbols → Option ℕ → Option Symbols
sextet_or s None = None
sextet_or s (Some bits) = sextet s bits

-- what is due behind an octet of base64, none if it can't stand here
unfoldable pub symbols_step : Symbols → ℕ → Option Symbols
symbols_step s octet = if octet == 61 then pad s else sextet_or s (sextet_of octet)

-- the signs may end at this place of a group: before it if enough octets were there, or behind its
-- padding
abbrev pub ends_in : Spot → Symbols → Bool
ends_in First s = s.need == 0
ends_in Second s = false
ends_in (Third bits) s = false
ends_in (Fourth bits) s = false
ends_in Padding s = false
ends_in Full s = true

-- the signs may end here
abbrev pub symbols_end : Symbols → Bool
symbols_end s = ends_in s.spot s
