use Rattle.std.proofs.Common.{◌∙◌, ap, refl}
use Rattle.krb_derive.specs.Derivation.{derived}
use Rattle.krb_derive.specs.declared.key.Key.TheVariants.{Aes128, Aes256}
use Rattle.krb_derive.proofs.derivation.derive.Goals as goal

pub returns-in-Aes128 : goal.returns-in-Aes128
unfolding derived
returns-in-Aes128 c =
    rw c.in-Aes128.is (ap Aes128 (c.block.ensures ∙ rw (c.new128.ensures, c.folded-block.ensures) refl))

pub returns-in-Aes256 : goal.returns-in-Aes256
unfolding derived
returns-in-Aes256 c =
    rw c.in-Aes256.is (ap Aes256 (c.joined.ensures ∙ rw (c.block-second.ensures, c.block-first.ensures, c.new256-cipher.ensures, c.folded-block.ensures) refl))
