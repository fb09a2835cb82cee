-- What a link in memory still gives.
use Rattle.std.specs.Prelude.{ℕ, List, drop}
use Rattle.sec_base.specs.declared.mem_link.MemLink.{MemLink}

-- the sizes of the pieces that the next reads are to give, in order
abbrev pub coming_pieces : MemLink → List ℕ
coming_pieces link = drop link.reads link.pieces.items
