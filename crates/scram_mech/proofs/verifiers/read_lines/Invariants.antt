use Rattle.std.proofs.Common.{◌≡◌, ◌+◌, ◌-◌, length}
use Rattle.scram_mech.specs.Verifiers.{lines_at}
use Rattle.scram_mech.proofs.Lines.{with_front}
use Rattle.scram_mech.proofs.verifiers.read_lines.Given as goal

abbrev pub invariant-loop-count : goal.invariant-loop-count
invariant-loop-count l =
    with_front l.lines.items (lines_at (length l.fn.bytes - l.count) (l.count + 1) l.cursor) ≡ lines_at (length l.fn.bytes) 1 l.fn.bytes
