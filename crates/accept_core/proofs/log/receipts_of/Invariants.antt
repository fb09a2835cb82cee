use Rattle.std.proofs.Common.{◌≡◌, ◌+◌, ◌-◌, List, length, take, drop}
use Rattle.accept_core.specs.declared.entry.Entry.{Entry}
use Rattle.accept_core.specs.Entering.{gained}
use Rattle.accept_core.specs.Logs.{Begins}
use Rattle.accept_core.proofs.log.receipts_of.Given as goal

abbrev pub invariant-loop-place : goal.invariant-loop-place
invariant-loop-place l = record {
  list : (history : List Entry) → Begins 4 history l.last → length history ≡ l.end
      → take l.count l.list ≡ gained l.«from» (drop (l.end - l.place) history);
  long : length l.list ≡ 4;
  count : l.count + l.«from» ≡ l.place;
}
