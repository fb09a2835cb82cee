use Rattle.std.proofs.Common.{◌∙◌, Err, sym, ap}
use Rattle.std.proofs.lemmas.Result.{err_from_is_err_and}
use Rattle.krb_files.proofs.Judged.{realm_fails, parts_fail, judged}
use Rattle.krb_files.proofs.names.named.Goals as goal

pub returns-in_default : goal.returns-in_default
returns-in_default c = λ kept. realm_fails c.args.at c.args.realm.now c.args.parts.now c.in_default.ensures ∙ ap Err (sym c.refused_name.ensures)

pub returns-in_err-texts : goal.returns-in_err-texts
returns-in_err-texts c =
    let p = err_from_is_err_and c.from_residual.result c.from_residual.ensures.1 in
    rw (p.1, p.2) (λ kept. parts_fail c.args.at c.args.realm.now c.args.parts.now c.in_err-texts.field-0.0 (c.in_err-texts.ensures kept))

pub returns-in-Ok : goal.returns-in-Ok
returns-in-Ok c = judged c.args.at c.args.realm.now c.in-Some.realm.now c.args.parts.now c.in_ok-texts.texts.items c.as_slice.result.now _ c.in-Some.ensures.0 c.in-Some.ensures.1 c.in_ok-texts.ensures c.as_slice.ensures.value c.in-Ok.ensures

pub returns : goal.returns
returns c = λ kept.
    judged c.args.at c.args.realm.now c.in-Some.realm.now c.args.parts.now c.in_ok-texts.texts.items c.as_slice.result.now _ c.in-Some.ensures.0 c.in-Some.ensures.1 c.in_ok-texts.ensures c.as_slice.ensures.value (c.in-Err.ensures (λ memory. kept (c.refused_for.ensures.memory memory)))
    ∙ ap Err (sym (c.refused_for.ensures.name (λ memory. kept (c.refused_for.ensures.memory memory))))
