-- The number by which a refusal is told.
use Rattle.std.specs.Prelude.{ℕ}
use Rattle.sasl_layer.specs.declared.refusal.SaslRefusal.{SaslRefusal}
use Rattle.sasl_layer.specs.declared.refusal.SaslRefusal.TheVariants as refusals

-- they count from 1 in their order; want of memory is 0
abbrev pub sasl_number : SaslRefusal → ℕ
sasl_number refusals.NoKerberos = 1
sasl_number (refusals.Mech refusal) = 2
sasl_number (refusals.Token refusal) = 3
sasl_number refusals.Length = 4
sasl_number refusals.Layers = 5
sasl_number refusals.Size = 6
sasl_number refusals.Identity = 7
sasl_number (refusals.Order expected) = 8
sasl_number refusals.TooLong = 9
sasl_number refusals.NoMemory = 0
