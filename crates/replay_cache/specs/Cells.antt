-- Cells in which taken marks are kept: by what a mark is found again, and in what order marks were
-- taken.
use Rattle.std.specs.Prelude.{ℕ, ◌+◌, ◌-◌, ◌*◌, ◌/◌, ◌%◌, ◌^◌, Bool, ◌&&◌, ◌==◌, nat_lt, nat_le}
use Rattle.std.specs.Prelude.{if◌then◌else◌, List, [], ◌++◌, zero, suc, map, filter, length}
use Rattle.std.specs.Prelude.{slice_index_or}
use Rattle.gss_base.specs.declared.mark.Mark.{Mark}
use Rattle.replay_cache.specs.declared.cache.TakenMark.{TakenMark}
use Rattle.replay_cache.specs.declared.cells.Cell.{Cell}
use Rattle.replay_cache.specs.Taking.{skew, same_mark}

-- a cell in which nothing was ever kept
abbrev pub no_cell : Cell
no_cell = record { who = []; nth = 0; at = 0; place = 0; when = 0 }

-- the cell at a place
abbrev pub cell_at : List Cell → ℕ → Cell
cell_at cells p = slice_index_or cells p no_cell

-- the mark that a cell keeps
abbrev pub mark_in : Cell → Mark
mark_in cell = record { who = cell.who; at = cell.at }

-- the mark that a cell keeps, with the place that it was taken with
abbrev pub taken_in : Cell → TakenMark
taken_in cell = record { mark = mark_in cell; place = cell.place }

-- something was kept in the cell, and it is still recent
abbrev pub is_held : ℕ → Cell → Bool
is_held greatest cell = nat_lt 0 cell.nth && nat_le (greatest - cell.at) skew

-- a mark's turn: the greatest moment when it was taken, and which one it was at that moment
abbrev pub turn_of : Cell → ℕ
turn_of cell = cell.when * 2 ^ 20 + cell.nth

-- the turn after all that were given
abbrev pub next_turn : ℕ → ℕ → ℕ
next_turn greatest taken = greatest * 2 ^ 20 + taken + 1

-- the held marks of one turn, and those of all turns before one, in order
abbrev pub of_turn : ℕ → List Cell → ℕ → List TakenMark
of_turn greatest cells turn =
    map taken_in (filter (λ cell. is_held greatest cell && (turn_of cell == turn)) cells)

-- the held marks of all turns before this one, in the order in which they were taken
abbrev pub before : ℕ → List Cell → ℕ → List TakenMark
before greatest cells zero = []
before greatest cells (suc turn) = before greatest cells turn ++ of_turn greatest cells turn

-- the place among so many where the search for a mark begins: the first four octets of its name and
-- its moment are mixed into a number below 2^32, and the places go up with that number
abbrev pub word_of : List ℕ → ℕ
word_of who =
    slice_index_or who 0 0 * 0x1000000 + slice_index_or who 1 0 * 0x10000 + slice_index_or who 2
    0 * 0x100 + slice_index_or who 3 0

-- the place, among so many, where the search for this mark begins: its home
abbrev pub home_of : ℕ → Mark → ℕ
home_of count mark =
    (mark.at % 0x100000000 * 2654435761 + word_of mark.who) % 0x100000000 * count / 0x100000000

-- the place so many steps after a home, and how many steps a place lies after it, round the end
abbrev pub place_after : ℕ → ℕ → ℕ
place_after count k = if nat_lt k count then k else k - count

-- how many steps a place lies after a home, round the end
abbrev pub steps_to : ℕ → ℕ → ℕ → ℕ
steps_to count home p = if nat_le home p then p - home else p + count - home

-- the cell at the place holds this mark, or one whose search begins at this home
abbrev pub has_mark : ℕ → List Cell → Mark → ℕ → Bool
has_mark greatest cells mark p =
    is_held greatest (cell_at cells p) && same_mark (mark_in (cell_at cells p)) mark

-- the cell at the place holds a mark whose search begins at this home
abbrev pub is_from : ℕ → List Cell → ℕ → ℕ → Bool
is_from greatest cells home p = is_held greatest (cell_at cells p)
    && (home_of (length cells) (mark_in (cell_at cells p)) == home)
