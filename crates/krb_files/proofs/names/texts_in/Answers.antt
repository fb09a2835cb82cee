use Rattle.std.proofs.Common.{Err, ap, sym, ◌∙◌, arith}
use Rattle.std.specs.Str.{is_utf8}
use Rattle.krb_files.proofs.Texts.{not_all, one_more_is, one_more_copied}
use Rattle.krb_files.proofs.names.texts_in.Goals as goal

pub returns-in_default : goal.returns-in_default
returns-in_default c = λ kept.
    not_all c.args.at c.loop-part.part-index c.args.parts.now c.part-item.result (omega arith) c.part-item.is (ap is_utf8 (sym c.as_slice.ensures) ∙ c.in_default.ensures) c.loop-part.invariant.rest
    ∙ ap Err (sym c.refused_name.ensures)

pub loop-part-preserved : goal.loop-part-preserved
loop-part-preserved c = record {
  copied = rw c.in_ok-push.ensures.items (one_more_copied c.loop-part.part-index c.args.parts.now c.loop-part.texts.items c.part-item.result c.in_ok-text.text (omega arith) c.part-item.is (c.in_ok-text.ensures ∙ (c.in-Some.ensures.0 ∙ c.as_slice.ensures)) c.loop-part.invariant.copied);
  rest = one_more_is c.loop-part.part-index c.args.parts.now c.part-item.result (omega arith) c.part-item.is (ap is_utf8 (sym c.as_slice.ensures) ∙ c.in-Some.ensures.1) c.loop-part.invariant.rest;
}
