use Rattle.std.proofs.Common.{◌≡◌, ◌++◌, ◌∙◌, refl}
use Rattle.krb_derive.proofs.Sealed.{seal_whole}
use Rattle.krb_derive.proofs.sealing.SealKeys.seal.Goals as goal

pub returns : goal.returns
returns c = λ key usage kept.
    let whole : c.extend_from_slice-2.new.self.items ≡ c.args.confounder.now ++ c.args.bytes.now =
    c.in_ok-extend_from_slice-2.ensures.items ∙ rw (c.in_ok-extend_from_slice.ensures.items, c.in_ok-list.ensures.items) refl in
    c.from_vec.ensures ∙ c.in_ok-seal_behind.ensures.value key usage kept
    ∙ seal_whole key usage c.extend_from_slice-2.new.self.items c.args.confounder.now c.args.bytes.now c.told-confounder whole
