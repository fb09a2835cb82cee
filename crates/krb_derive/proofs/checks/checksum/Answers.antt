use Rattle.krb_derive.specs.declared.derivation.Part.TheVariants.{Check}
use Rattle.krb_derive.specs.Key.{key_octets}
use Rattle.krb_derive.specs.Derivation.{derived}
use Rattle.krb_derive.specs.Sealing.{tag_of, checksum_of}
use Rattle.krb_derive.proofs.checks.checksum.Goals as goal

pub returns : goal.returns
unfolding checksum_of tag_of
returns c =
    let begun = rw (c.bytes.ensures, c.derive.ensures) at c.new-begun.ensures in
    c.tag_under.ensures (key_octets (derived c.args.key.now c.args.usage Check)) begun
