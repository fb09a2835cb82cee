-- The sizes in which a link in memory gives its octets.
use Rattle.std.specs.Prelude.{ℕ, List, [], ◌∷◌, min, max}

-- how many octets a read gives, of at most `most` that are there and fit: as many as the next piece
-- has, but one at least; all of them where no further piece is stated
abbrev pub piece_of : List ℕ → ℕ → ℕ
piece_of [] most = most
piece_of (size ∷ sizes) most = min (max size 1) most
