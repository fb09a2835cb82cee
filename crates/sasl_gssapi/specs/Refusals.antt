-- The refusal of an object as an end tells it. One that is armed refuses as its mechanism, or wants
-- memory.
use Rattle.spnego_core.specs.declared.refusal.NegRefusal.{NegRefusal}
use Rattle.spnego_core.specs.declared.refusal.NegRefusal.TheVariants as negs
use Rattle.sasl_layer.specs.declared.refusal.SaslRefusal.{SaslRefusal}
use Rattle.sasl_layer.specs.declared.refusal.SaslRefusal.TheVariants as refusals

abbrev pub neg_refused : NegRefusal → SaslRefusal
neg_refused (negs.Defective at) = refusals.NoKerberos
neg_refused negs.Rejected = refusals.NoKerberos
neg_refused negs.MechNotMine = refusals.NoKerberos
neg_refused negs.NoCommonMech = refusals.NoKerberos
neg_refused negs.MicMissing = refusals.NoKerberos
neg_refused negs.MicBad = refusals.NoKerberos
neg_refused (negs.Mech refusal) = refusals.Mech refusal
neg_refused negs.NoMemory = refusals.NoMemory
