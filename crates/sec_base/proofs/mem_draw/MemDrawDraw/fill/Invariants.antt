use Rattle.std.proofs.Common.{◌≡◌, ◌++◌, ◌-◌, ◌^◌, take, IsTrue, nat_lt}
use Rattle.sec_base.specs.MemDraw.{octets_given, stated_octets}
use Rattle.sec_base.proofs.mem_draw.MemDrawDraw.fill.Given as goal

abbrev pub invariant-loop-octet : goal.invariant-loop-octet
invariant-loop-octet l = record {
  kept : IsTrue (nat_lt l.self.count (2 ^ 64 - 1)) → IsTrue (nat_lt l.fn.self.count (2 ^ 64 - 1));
  told : IsTrue (nat_lt l.self.count (2 ^ 64 - 1)) → octets_given l.self.octets.items l.self.count ≡ octets_given l.fn.self.octets.items l.fn.self.count ++ take l.octet-index l.out;
  stated : stated_octets l.self ≡ stated_octets l.fn.self;
}
