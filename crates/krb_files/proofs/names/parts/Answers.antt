use Rattle.std.proofs.Common.{arith}
use Rattle.std.proofs.lemmas.Result.{err_from_is_err_and}
use Rattle.krb_files.proofs.Parts.{is_done, fails, goes_on}
use Rattle.krb_files.proofs.names.parts.Goals as goal

pub returns-in_err-octets : goal.returns-in_err-octets
returns-in_err-octets c =
    let p = err_from_is_err_and c.from_residual.result c.from_residual.ensures.1 in
    rw (p.1, p.2) (λ kept. fails c.args.size c.args.count c.loop.counter c.loop.fields c.loop.parts.items _ c.in_err-octets.field-0.0 (omega arith) (c.in_err-octets.ensures kept) c.loop.invariant)

pub loop-preserved : goal.loop-preserved
loop-preserved c =
    rw (c.in_ok-push.ensures.items, c.in_ok-part.ensures) (goes_on c.args.size c.args.count c.loop.counter c.loop.fields c.counted.new.self c.loop.parts.items c.in_ok-octets.octets.now _ (omega arith) c.in_ok-octets.ensures c.loop.invariant)

pub returns : goal.returns
returns c = is_done c.args.size _ c.loop.fields c.loop.parts.items _ (omega arith) c.loop.invariant
