-- Refusals for want of memory.
use Rattle.std.specs.Prelude.{Bool, true, false}
use Rattle.ap_exchange.specs.Reasons.{ap_wants_memory}
use Rattle.scram_mech.specs.Reasons.{scram_wants_memory}
use Rattle.spnego_core.specs.declared.refusal.MechRefusal.{MechRefusal}
use Rattle.spnego_core.specs.declared.refusal.MechRefusal.TheVariants as mechs
use Rattle.spnego_core.specs.declared.refusal.NegRefusal.{NegRefusal}
use Rattle.spnego_core.specs.declared.refusal.NegRefusal.TheVariants as refusals

-- a mechanism's refusal is want of memory, or holds it
abbrev pub mech_wants_memory : MechRefusal → Bool
mech_wants_memory (mechs.Ap refusal) = ap_wants_memory refusal
mech_wants_memory (mechs.Scram refusal) = scram_wants_memory refusal

-- an end's refusal is want of memory, or holds it
abbrev pub neg_wants_memory : NegRefusal → Bool
neg_wants_memory refusals.NoMemory = true
neg_wants_memory (refusals.Mech refusal) = mech_wants_memory refusal
neg_wants_memory refusal = false
