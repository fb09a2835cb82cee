use Rattle.std.proofs.Common.{◌≡◌, ◌≤◌, false, vec_len}
use Rattle.rpc_msgs.specs.Fragments.{Begins}
use Rattle.rpc_msgs.proofs.record.read_record.Given as goal

abbrev pub invariant-loop-number : goal.invariant-loop-number
invariant-loop-number g l = record {
  most : l.number ≤ 64;
  size : vec_len l.octets ≤ 131072;
  told : Begins (g.L.Link.tells l.fn.link) (g.L.Link.wire l.fn.link) (g.L.Link.wire l.link) l.number l.octets.items;
  tells : g.L.Link.tells l.link ≡ g.L.Link.tells l.fn.link;
  unclosed : g.L.Link.closed l.link ≡ false;
  faults : g.L.Link.faults l.fn.link ≤ g.L.Link.faults l.link;
  steady : g.L.Link.faults l.link ≡ g.L.Link.faults l.fn.link;
}
