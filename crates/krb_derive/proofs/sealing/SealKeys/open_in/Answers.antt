use Rattle.std.proofs.Common.{ℕ, ◌-◌, ◌∙◌, ap, sym, arith, take, drop}
use Rattle.std.proofs.lemmas.List.{take_rest}
use Rattle.std.specs.Prelude.{Ok}
use Rattle.krb_derive.specs.declared.derivation.Part.TheVariants.{Integrity}
use Rattle.krb_derive.specs.Key.{key_octets}
use Rattle.krb_derive.specs.Derivation.{derived}
use Rattle.krb_derive.proofs.Opened.{opened-short, kept_opens}
use Rattle.krb_derive.proofs.Sealed.{front_opens, behind_first}
use Rattle.krb_derive.proofs.sealing.SealKeys.open_in.Goals as goal

pub returns-then-len-lt28-clause-value : goal.returns-then-len-lt28-clause-value
returns-then-len-lt28-clause-value c = λ key usage kept. sym (opened-short key usage c.args.list.items (omega arith))

pub returns-then-len-lt28-clause-undoes : goal.returns-then-len-lt28-clause-undoes
returns-then-len-lt28-clause-undoes c = λ key usage confounder plain kept long small e. kept_opens c.args.self.now key usage confounder plain c.args.list.items kept long small e

pub returns-then-not-is_tag-clause-value : goal.returns-then-not-is_tag-clause-value
returns-then-not-is_tag-clause-value c = λ key usage kept.
    let n : ℕ = c.len-end.result - 12 in
    let verdict = front_opens c.args.self.now key usage n c.args.list.items c.decipher.new.list.items _ c.tag_under-tag.result _ c.is_tag.result kept (omega arith) (omega arith)
    c.decipher.ensures.value (ap (take {A = ℕ} n) c.as_slice-octets.ensures.value) (c.tag_under-tag.ensures (key_octets (derived key usage Integrity)) kept.code)
    (take_rest c.as_slice-octets.result.now n ∙ ap (drop {A = ℕ} n) c.as_slice-octets.ensures.value) c.is_tag.ensures in
    sym (rw c.if-not-is_tag.true at verdict)

pub returns-then-not-is_tag-clause-undoes : goal.returns-then-not-is_tag-clause-undoes
returns-then-not-is_tag-clause-undoes c = λ key usage confounder plain kept long small e. kept_opens c.args.self.now key usage confounder plain c.args.list.items kept long small e

pub returns-clause-value : goal.returns-clause-value
returns-clause-value c = λ key usage kept.
    let n : ℕ = c.len-end.result - 12 in
    let verdict = front_opens c.args.self.now key usage n c.args.list.items c.decipher.new.list.items _ c.tag_under-tag.result _ c.is_tag.result kept (omega arith) (omega arith)
    c.decipher.ensures.value (ap (take {A = ℕ} n) c.as_slice-octets.ensures.value) (c.tag_under-tag.ensures (key_octets (derived key usage Integrity)) kept.code)
    (take_rest c.as_slice-octets.result.now n ∙ ap (drop {A = ℕ} n) c.as_slice-octets.ensures.value) c.is_tag.ensures in
    ap Ok (c.between.ensures ∙ behind_first c.decipher.new.list.items n (omega arith)) ∙ sym (rw c.if-not-is_tag.false at verdict)

pub returns-clause-undoes : goal.returns-clause-undoes
returns-clause-undoes c = λ key usage confounder plain kept long small e. kept_opens c.args.self.now key usage confounder plain c.args.list.items kept long small e
