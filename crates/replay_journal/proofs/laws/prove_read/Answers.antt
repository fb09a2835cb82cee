use Rattle.std.proofs.Common.{length, drop, arith, length-drop}
use Rattle.replay_journal.proofs.Parts.{read}
use Rattle.replay_journal.proofs.laws.prove_read.Goals as goal

pub returns : goal.returns
returns c file =
    let found = read (length file) (drop 8 file) (omega (arith, length-drop 8 file)) in
    (found.end, found.split, found.sized, found.shut)
