use Rattle.std.proofs.Common.{◌∙◌, ◌-◌, sym, length}
use native.Mathlib.Nat.{sub-zero}
use Rattle.std.proofs.lemmas.List.{take_rest}
use Rattle.krb_tokens.proofs.Parts.{signed-extra, signed-bad, signed-good}
use Rattle.krb_tokens.proofs.end.TokenEnd.unwrap_signed.Goals as goal

pub returns-then-word_of-ne12 : goal.returns-then-word_of-ne12
returns-then-word_of-ne12 c = λ ne. signed-extra c.args.self.now c.args.token.now (rw c.word_of.ensures.value at c.if-word_of-ne12.true)

pub returns-then-not-verify : goal.returns-then-not-verify
returns-then-not-verify c = λ ne.
    let body = c.as_slice-list.ensures.value ∙ c.in-Ok.ensures.value in
    let compared = rw (take_rest c.as_slice-list.result.now (length c.as_slice-list.result.now - 12), body, c.bare_header-bare.ensures, c.seal_usage-usage.ensures, c.other.ensures) at c.verify.ensures in
    signed-bad c.args.self.now c.args.token.now (rw c.word_of.ensures.value at c.if-word_of-ne12.false) (sym compared ∙ c.if-not-verify.true)

pub returns : goal.returns
returns c =
    let body = c.as_slice-list.ensures.value ∙ c.in-Ok.ensures.value in
    let compared = rw (take_rest c.as_slice-list.result.now (length c.as_slice-list.result.now - 12), body, c.bare_header-bare.ensures, c.seal_usage-usage.ensures, c.other.ensures) at c.verify.ensures in
    let content = rw (body, c.in-Ok.ensures.value, sub-zero) at c.between.ensures in
    rw content (signed-good c.args.self.now c.args.token.now (rw c.word_of.ensures.value at c.if-word_of-ne12.false) (sym compared ∙ c.if-not-verify.false))
