-- States held as words of 32 bits.
use Rattle.std.specs.Prelude.{ℕ, ◌+◌, List, slice_index}
use Rattle.aes_cts.specs.declared.columns.Columns.{Columns}
use Rattle.aes_cts.specs.Field.{times}
use Rattle.aes_cts.specs.State.{Column, State, column_of}

-- the state of four words, each a column
unfoldable pub state_of : Columns → State
state_of words = record {
  column0 = column_of words.first;
  column1 = column_of words.second;
  column2 = column_of words.third;
  column3 = column_of words.fourth;
}

-- the state of four words of a list from that place on
unfoldable pub state_at : List ℕ → ℕ → State
state_at words at = record {
  column0 = column_of (slice_index words at);
  column1 = column_of (slice_index words (at + 1));
  column2 = column_of (slice_index words (at + 2));
  column3 = column_of (slice_index words (at + 3));
}

-- what an octet of each row adds to a column of MixColumns and of InvMixColumns
abbrev pub part0 : ℕ → Column
part0 s = record { row0 = times 2 s; row1 = s; row2 = s; row3 = times 3 s }

-- what an octet of row 1 adds to a column of MixColumns
abbrev pub part1 : ℕ → Column
part1 s = record { row0 = times 3 s; row1 = times 2 s; row2 = s; row3 = s }

-- what an octet of row 2 adds to a column of MixColumns
abbrev pub part2 : ℕ → Column
part2 s = record { row0 = s; row1 = times 3 s; row2 = times 2 s; row3 = s }

-- what an octet of row 3 adds to a column of MixColumns
abbrev pub part3 : ℕ → Column
part3 s = record { row0 = s; row1 = s; row2 = times 3 s; row3 = times 2 s }

-- what an octet of row 0 adds to a column of InvMixColumns
abbrev pub unpart0 : ℕ → Column
unpart0 s = record { row0 = times 14 s; row1 = times 9 s; row2 = times 13 s; row3 = times 11 s }

-- what an octet of row 1 adds to a column of InvMixColumns
abbrev pub unpart1 : ℕ → Column
unpart1 s = record { row0 = times 11 s; row1 = times 14 s; row2 = times 9 s; row3 = times 13 s }

-- what an octet of row 2 adds to a column of InvMixColumns
abbrev pub unpart2 : ℕ → Column
unpart2 s = record { row0 = times 13 s; row1 = times 11 s; row2 = times 14 s; row3 = times 9 s }

-- what an octet of row 3 adds to a column of InvMixColumns
abbrev pub unpart3 : ℕ → Column
unpart3 s = record { row0 = times 9 s; row1 = times 13 s; row2 = times 11 s; row3 = times 14 s }
