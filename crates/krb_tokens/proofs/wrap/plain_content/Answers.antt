use Rattle.std.proofs.Common.{◌∙◌, ◌-◌, sym, length}
use Rattle.std.proofs.lemmas.List.{take_rest}
use Rattle.krb_tokens.proofs.Parts.{plain-extra, plain-header, plain-good}
use Rattle.krb_tokens.proofs.wrap.plain_content.Goals as goal

pub returns-then-octets-extra : goal.returns-then-octets-extra
returns-then-octets-extra c =
    sym (plain-extra c.args.token.now c.args.plain (rw (c.as_slice-octets.ensures, c.word_of-extra.ensures.value) at c.if-octets-extra.true))

pub returns-then-not-is_same : goal.returns-then-not-is_same
returns-then-not-is_same c =
    let room = rw (c.as_slice-octets.ensures, c.word_of-extra.ensures.value) at c.if-octets-extra.false in
    let same = rw (c.as_slice-octets.ensures, take_rest c.args.plain (length c.args.plain - 16), c.unturned_header-header.ensures) at c.is_same.ensures in
    sym (plain-header c.args.token.now c.args.plain room (sym same ∙ c.if-not-is_same.true))

pub returns : goal.returns
returns c =
    let room = rw (c.as_slice-octets.ensures, c.word_of-extra.ensures.value) at c.if-octets-extra.false in
    let same = rw (c.as_slice-octets.ensures, take_rest c.args.plain (length c.args.plain - 16), c.unturned_header-header.ensures) at c.is_same.ensures in
    let content = rw (c.as_slice-octets.ensures, c.word_of-extra.ensures.value) at c.keep_first.ensures in
    rw content (sym (plain-good c.args.token.now c.args.plain room (sym same ∙ c.if-not-is_same.false)))
