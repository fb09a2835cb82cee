-- The limits of a drill's book, in this order: the width of its windows, and how many entries,
-- contexts and marks it may have; and what its log has in memory.
use Rattle.std.specs.Prelude.{ℕ, true, false, List, [], ◌∷◌}
use Rattle.accept_book.specs.Booking.{BookOf}
use Rattle.accept_core.specs.Logs.{LogOf}
use Rattle.accept_core.specs.declared.entry.Keeping.{Keeping}

-- those of a book
abbrev pub book_limits : BookOf → List ℕ × Keeping
book_limits book = (
  book.core.width ∷ book.core.limit ∷ book.core.table.limit ∷ book.core.cache.capacity ∷ [],
  book.core.keeping,
)

-- those under which a log was kept
abbrev pub log_limits : LogOf → List ℕ × Keeping
log_limits log = (log.width ∷ log.limit ∷ log.contexts ∷ log.marks ∷ [], log.keeping)

-- those of a drill: those of the server without options, and its log's entries are in memory
abbrev pub drill_limits : List ℕ × Keeping
drill_limits = (
  128 ∷ 262144 ∷ 1024 ∷ 65536 ∷ [],
  record { entries = true; digest = false },
)
