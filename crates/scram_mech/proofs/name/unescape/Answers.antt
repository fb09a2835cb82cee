use Rattle.std.proofs.Common.{rules}
use Rattle.scram_mech.proofs.Loops.{read_more}
use Rattle.scram_mech.proofs.name.unescape.Goals as goal

pub loop-octet-preserved : goal.loop-octet-preserved
loop-octet-preserved c =
    read_more c.loop-octet.escape c.behind-escape.result c.loop-octet.name.items _ _ c.args.octets.now _ c.loop-octet.octet-index _ c.loop-octet-test.true (search rules) c.given.ensures c.behind-escape.ensures c.in_ok-put_given.ensures c.loop-octet.invariant
