use Rattle.std.proofs.Common.{◌≡◌, ◌≤◌, ◌+◌, false, vec_len, length, List, ℕ}
use Rattle.sec_base.specs.Contents.{Grows}
use Rattle.sec_base.proofs.transfer.read_content.Given as goal

abbrev pub invariant-loop-left : goal.invariant-loop-left
invariant-loop-left g l = record {
  size : vec_len l.octets + l.left ≡ vec_len l.fn.octets + l.fn.length;
  told : (part : List ℕ) × (length part + l.left ≡ l.fn.length) × Grows (g.L.Link.tells l.fn.link) (g.L.Link.wire l.fn.link) (g.L.Link.wire l.link) l.fn.octets.items l.octets.items part;
  tells : g.L.Link.tells l.link ≡ g.L.Link.tells l.fn.link;
  unclosed : g.L.Link.closed l.link ≡ false;
  faults : g.L.Link.faults l.fn.link ≤ g.L.Link.faults l.link;
  steady : g.L.Link.faults l.link ≡ g.L.Link.faults l.fn.link;
}

abbrev pub decreases-loop-left : goal.decreases-loop-left
decreases-loop-left g l = l.left
