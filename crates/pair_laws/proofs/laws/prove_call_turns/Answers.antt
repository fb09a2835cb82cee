use Rattle.std.proofs.Common.{arith}
use Rattle.pair_laws.proofs.Answered.{call-honest}
use Rattle.pair_laws.proofs.CallTurns.{call-turn}
use Rattle.pair_laws.proofs.laws.prove_call_turns.Goals as goal

pub returns : goal.returns
returns c = λ terms next xid procedure args confounder kept serves old new h by live.
    let lease = c.args.lease.now in
    let m = call-honest serves.serving.program lease terms next xid procedure args confounder h in
    call-turn c.of-keys.result old new lease next procedure args _ kept serves c.of-keys.ensures m.honest m.handle by live (omega (arith, h.number_left))
