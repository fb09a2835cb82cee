use Rattle.std.proofs.Common.{◌≡◌, ◌≤◌, ◌-◌, false, length, take}
use Rattle.sec_base.specs.Link.{HasTaken}
use Rattle.sec_base.proofs.transfer.fill.Given as goal

abbrev pub invariant-loop-at : goal.invariant-loop-at
invariant-loop-at g l = record {
  range : l.at ≤ length l.buf;
  told : HasTaken (g.L.Link.tells l.fn.link) (g.L.Link.wire l.fn.link) (g.L.Link.wire l.link) (take l.at l.buf);
  tells : g.L.Link.tells l.link ≡ g.L.Link.tells l.fn.link;
  unclosed : g.L.Link.closed l.link ≡ false;
  faults : g.L.Link.faults l.fn.link ≤ g.L.Link.faults l.link;
  steady : g.L.Link.faults l.link ≡ g.L.Link.faults l.fn.link;
}

abbrev pub decreases-loop-at : goal.decreases-loop-at
decreases-loop-at g l = length l.buf - l.at
