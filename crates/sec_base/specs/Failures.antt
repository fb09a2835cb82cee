-- Which calls of a device in memory are to fail.
use Rattle.std.specs.Prelude.{ℕ, ◌+◌, ◌-◌, ◌^◌, Bool, List, ◌==◌, min}
use Rattle.std.specs.List.{list_any}
use Rattle.sec_base.specs.declared.failing.Failing.{Failing}
use Rattle.sec_base.specs.declared.link.Link as links
use Rattle.sec_base.specs.declared.mem_link.MemLink.{MemLink}
use Rattle.sec_base.specs.declared.mem_port.MemPort.{MemPort}
use Rattle.sec_base.specs.declared.mem_shelf.MemShelf.{MemShelf}
use Rattle.sec_base.specs.declared.mem_sink.MemSink.{MemSink}

-- the numbers of the calls that are to fail, counted from 1, and how many calls there were so far
pub record Failures : Type 0 where
  pub numbers : List ℕ
  pub calls : ℕ

-- these calls are to fail, and there was none yet
abbrev pub failures_from : List ℕ → Failures
failures_from numbers = record { numbers = numbers; calls = 0 }

-- the number of the next call; 2^64 - 1 is the last that is counted
abbrev pub next_call : Failures → ℕ
next_call failures = min (failures.calls + 1) (2 ^ 64 - 1)

-- the next call is to fail
abbrev pub fails_next : Failures → Bool
fails_next failures = list_any (λ number. number == next_call failures) failures.numbers

-- one more call was counted
abbrev pub one_more : Failures → Failures
one_more failures = record { numbers = failures.numbers; calls = next_call failures }

-- which calls fail, of what a device keeps of them
abbrev pub kept_failures : Failing → Failures
kept_failures failing = record { numbers = failing.numbers.items; calls = failing.calls }

-- which calls of a link fail, its reads and writes together
abbrev pub link_failures : MemLink → Failures
link_failures link = kept_failures link.failing

-- which calls of a port fail
abbrev pub port_failures : {L : Type 0} {link : links.Ghosts L} → MemPort L link → Failures
port_failures port = kept_failures port.failing

-- which calls of a shelf fail
abbrev pub shelf_failures : MemShelf → Failures
shelf_failures shelf = kept_failures shelf.failing

-- which writes to a sink fail
abbrev pub sink_failures : MemSink → Failures
sink_failures sink = kept_failures sink.failing
