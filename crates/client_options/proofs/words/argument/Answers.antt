use Rattle.std.proofs.Common.{ap, arith, length, ℕ}
use Rattle.std.proofs.lemmas.List.{length-append}
use Rattle.rpc_msgs.specs.Words.{opaque}
use Rattle.rpc_msgs.proofs.WordLengths.{length-opaque}
use Rattle.client_options.proofs.words.argument.Goals as goal

pub returns-clause-size : goal.returns-clause-size
returns-clause-size c =
    omega (arith, ap (length {A = ℕ}) c.finish.ensures, ap (length {A = ℕ}) c.in_ok-opaque.ensures, length-append c.new-out.result (opaque c.args.octets.now), ap (length {A = ℕ}) c.new-out.ensures, length-opaque c.args.octets.now)
