-- Refusals for want of memory.
use Rattle.std.specs.Prelude.{Bool, true, false}
use Rattle.der_core.specs.declared.refusal.DerWhy.{DerWhy}
use Rattle.der_core.specs.declared.refusal.DerWhy.TheVariants as whys
use Rattle.ap_exchange.specs.declared.refusal.ApRefusal.{ApRefusal}
use Rattle.ap_exchange.specs.declared.refusal.ApRefusal.TheVariants as refusals

-- octets are refused for want of memory
abbrev pub der_wants_memory : DerWhy → Bool
der_wants_memory whys.NoMemory = true
der_wants_memory why = false

-- a refusal is want of memory, or holds it
abbrev pub ap_wants_memory : ApRefusal → Bool
ap_wants_memory refusals.NoMemory = true
ap_wants_memory (refusals.Der part at why) = der_wants_memory why
ap_wants_memory refusal = false
