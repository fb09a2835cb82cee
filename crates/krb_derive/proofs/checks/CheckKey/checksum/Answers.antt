use Rattle.krb_derive.specs.declared.derivation.Part.TheVariants.{Check}
use Rattle.krb_derive.specs.Key.{key_octets}
use Rattle.krb_derive.specs.Derivation.{derived}
use Rattle.krb_derive.specs.Sealing.{tag_of, checksum_of}
use Rattle.krb_derive.proofs.checks.CheckKey.checksum.Goals as goal

pub returns : goal.returns
unfolding checksum_of tag_of
returns c = λ key usage kept. c.tag_under.ensures (key_octets (derived key usage Check)) kept.code
