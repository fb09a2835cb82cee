use Rattle.std.proofs.Common.{ap, arith, length, ℕ, []}
use Rattle.rpcsec_msgs.specs.declared.init_res.InitRes.{InitRes}
use Rattle.rpcsec_bodies.proofs.Lengths.{sized}
use Rattle.gss_server.proofs.BodyLengths.{init-fits, handle-size}
use Rattle.gss_server.proofs.creating.result_octets.Goals as goal

pub returns-clause-size : goal.returns-clause-size
returns-clause-size c =
    let r : InitRes = record { context = c.in_ok-handle.field-0; major = c.args.major; minor = c.args.minor; window = c.args.window; token = c.in_ok-of.field-0 } in
    sized c.write_init_res.result [] _ 130000 c.write_init_res.ensures
    (init-fits r (omega (arith, ap (length {A = ℕ}) c.in_ok-handle.ensures, handle-size c.args.id)) (omega (arith, ap (length {A = ℕ}) c.in_ok-of.ensures, c.requires)))
