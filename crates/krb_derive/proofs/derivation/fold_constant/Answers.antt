use Rattle.std.proofs.Common.{◌∙◌, refl}
use Rattle.krb_derive.specs.Derivation.{constant}
use Rattle.krb_derive.proofs.derivation.fold_constant.Goals as goal

pub returns : goal.returns
unfolding constant
returns c = c.n_fold.ensures ∙ rw (c.to_be_bytes.ensures, c.octet.ensures) refl
