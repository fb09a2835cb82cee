use Rattle.std.proofs.Common.{arith}
use Rattle.std.proofs.lemmas.Result.{err_from_is_err_and}
use Rattle.krb_files.proofs.Typed.{is_done, fails, goes_on}
use Rattle.krb_files.proofs.ccache.pass_times_typed.Goals as goal

pub returns-in_err-pass_typed : goal.returns-in_err-pass_typed
returns-in_err-pass_typed c =
    let p = err_from_is_err_and c.from_residual.result c.from_residual.ensures.1 in
    rw (p.1, p.2) (λ kept. fails c.args.count c.loop.counter c.loop.fields _ c.in_err-pass_typed.field-0.0 (omega arith) (c.in_err-pass_typed.ensures kept) c.loop.invariant)

pub loop-preserved : goal.loop-preserved
loop-preserved c = goes_on c.args.count c.loop.counter c.loop.fields c.pass_typed.new.fields _ _ (omega arith) c.in_ok-pass_typed.ensures c.loop.invariant

pub returns : goal.returns
returns c = is_done _ c.loop.fields _ (omega arith) c.loop.invariant
