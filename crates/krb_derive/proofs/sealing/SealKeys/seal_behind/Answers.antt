use Rattle.std.proofs.Common.{◌∙◌, ap, refl, arith, drop, ℕ}
use Rattle.std.proofs.lemmas.List.{take_rest}
use Rattle.krb_derive.specs.declared.derivation.Part.TheVariants.{Integrity}
use Rattle.krb_derive.specs.Key.{key_octets}
use Rattle.krb_derive.specs.Derivation.{derived}
use Rattle.krb_derive.specs.Sealing.{seal_of}
use Rattle.krb_derive.proofs.Opened.{kept_opens}
use Rattle.krb_derive.proofs.Sealed.{sealed_behind}
use Rattle.krb_derive.proofs.sealing.SealKeys.seal_behind.Goals as goal

pub returns-in_err-extend_from_slice-clause-opens :
    goal.returns-in_err-extend_from_slice-clause-opens
returns-in_err-extend_from_slice-clause-opens c = λ key usage kept confounder plain long small.
    kept_opens c.args.self.now key usage confounder plain (seal_of key usage confounder plain) kept long small refl

pub returns-clause-value : goal.returns-clause-value
returns-clause-value c = λ key usage kept.
    sealed_behind c.args.self.now key usage c.args.start c.len-end.result c.args.list.now.items _ c.tag_under-tag.result c.extend_from_slice.new.self.items c.encipher.new.list.items
    kept c.requires (omega arith) (take_rest c.as_slice.result.now c.args.start ∙ ap (drop {A = ℕ} c.args.start) c.as_slice.ensures.value)
    (c.tag_under-tag.ensures (key_octets (derived key usage Integrity)) kept.code) c.in_ok-extend_from_slice.ensures.items c.encipher.ensures

pub returns-clause-opens : goal.returns-clause-opens
returns-clause-opens c = λ key usage kept confounder plain long small.
    kept_opens c.args.self.now key usage confounder plain (seal_of key usage confounder plain) kept long small refl
