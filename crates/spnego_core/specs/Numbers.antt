-- The numbers by which refusals are told: the minor status that an acceptor sends, and what a
-- client prints.
use Rattle.std.specs.Prelude.{ℕ}
use Rattle.ap_exchange.specs.Numbers.{ap_number}
use Rattle.scram_mech.specs.Numbers.{scram_number}
use Rattle.spnego_core.specs.declared.refusal.MechRefusal.TheVariants.{Ap, Scram}
use Rattle.spnego_core.specs.declared.refusal.NegRefusal.{NegRefusal}
use Rattle.spnego_core.specs.declared.refusal.NegRefusal.TheVariants as negs

-- the number of a refusal is its place among them, that of a mechanism's refusal the mechanism's
-- own; want of memory is 0
abbrev pub neg_number : NegRefusal → ℕ
neg_number (negs.Defective at) = 1
neg_number negs.Rejected = 2
neg_number negs.MechNotMine = 3
neg_number negs.NoCommonMech = 4
neg_number negs.MicMissing = 5
neg_number negs.MicBad = 6
neg_number (negs.Mech (Ap refusal)) = ap_number refusal
neg_number (negs.Mech (Scram refusal)) = scram_number refusal
neg_number negs.NoMemory = 0
