-- What a run of desks came to.
use Rattle.std.specs.Prelude.{◌≡◌, reverse}
use Rattle.accept_book.specs.Booking.{BookOf}
use Rattle.accept_core.specs.Logs.{LogOf}

-- a log is that of a book
pub record IsLogOf (book : BookOf) (log : LogOf) : Type 0 where
  pub entries : reverse log.entries ≡ book.core.history
  pub width : log.width ≡ book.core.width
  pub limit : log.limit ≡ book.core.limit
  pub keeping : log.keeping ≡ book.core.keeping
  pub contexts : log.contexts ≡ book.core.table.limit
  pub marks : log.marks ≡ book.core.cache.capacity
