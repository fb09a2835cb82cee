use Rattle.std.specs.Prelude.{ℕ, List}
use Rattle.replay_journal.specs.declared.memory.MemDisk.{MemDisk}

-- what a read gives
abbrev pub memory_bytes : MemDisk → List ℕ
memory_bytes m = m.bytes.items
