use Rattle.std.proofs.Common.{[], ◌∷◌}
use Rattle.book_seats.proofs.Moves.{begins}
use Rattle.book_seats.proofs.opening.open_board.Goals as goal

pub of_words-requires : goal.of_words-requires
of_words-requires g c = begins (0 ∷ [])
