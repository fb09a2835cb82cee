use Rattle.std.proofs.Common.{◌≡◌, ◌+◌, ◌-◌, arith}
use Rattle.aes_cts.proofs.Entries.{RCON-at}
use Rattle.aes_cts.proofs.tables.constant.Goals as goal

pub returns : goal.returns
returns c =
    let e : c.args.number - 1 + 1 ≡ c.args.number = omega arith in
    rw e at (RCON-at (c.args.number - 1) (omega arith))
