use Rattle.std.proofs.Common.{sym, subst}
use Rattle.krb_derive.specs.declared.key.Key.{Key}
use Rattle.krb_derive.specs.Kept.{ForSealing}
use Rattle.pair_laws.proofs.Running.{runs}
use Rattle.pair_laws.proofs.laws.prove_runs.Goals as goal

pub returns : goal.returns
returns c = λ setup serves start stream x done times procedure args confounders same r.
    runs c.of-answers.result c.of-calls.result setup serves start stream x done times procedure args confounders (subst (λ (k : Key). ForSealing c.of-answers.result k 22) (sym same) c.of-answers.ensures)
    (subst (λ (k : Key). ForSealing c.of-calls.result k 24) (sym same) c.of-calls.ensures) r
