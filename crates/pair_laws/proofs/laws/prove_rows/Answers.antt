use Rattle.std.proofs.Common.{sym, subst}
use Rattle.krb_derive.specs.declared.key.Key.{Key}
use Rattle.krb_derive.specs.Kept.{ForSealing}
use Rattle.pair_laws.proofs.Rows.{row-runs}
use Rattle.pair_laws.proofs.laws.prove_rows.Goals as goal

pub returns : goal.returns
returns c = λ serves lease terms first xid due confounders stream old new turns rest same r.
    row-runs c.of-answers.result c.of-calls.result serves lease terms first xid due confounders stream old new turns rest (subst (λ (k : Key). ForSealing c.of-answers.result k 22) (sym same) c.of-answers.ensures)
    (subst (λ (k : Key). ForSealing c.of-calls.result k 24) (sym same) c.of-calls.ensures) r
