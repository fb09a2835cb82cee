use Rattle.std.proofs.Common.{refl, get_or}
use Rattle.scram_mech.proofs.Loops.{write_more}
use Rattle.scram_mech.proofs.name.put_name.Goals as goal

pub loop-octet-preserved : goal.loop-octet-preserved
loop-octet-preserved c =
    write_more c.loop-octet.text.items _ c.args.name.now _ c.loop-octet.octet-index (get_or c.args.name.now c.loop-octet.octet-index 0) c.loop-octet-test.true refl c.in_ok-put_octet.ensures c.loop-octet.invariant
