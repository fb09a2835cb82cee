-- The book that a run of the server opens, the program beside it, and the history of what its desks
-- ask.
use Rattle.std.specs.Prelude.{◌≡◌, ℕ, List, [], length, Option, None, Some, is_some}
use Rattle.sec_base.specs.declared.port.Port as ports
use Rattle.sec_base.specs.declared.link.Link as links
use Rattle.sec_base.specs.declared.clock.Clock as clocks
use Rattle.sec_base.specs.declared.draw.Draw as draws
use Rattle.accept_book.specs.Booking.{BookOf}
use Rattle.book_seats.specs.Both.{BothOf}
use Rattle.gss_server.specs.Hearing.{serving}
use Rattle.rpc_program.specs.declared.program.Program as programs
use Rattle.rpc_program.specs.declared.program.Speller as spellers
use Rattle.accept_core.specs.Logs.{LogOf, greatest_log}
use Rattle.accept_core.specs.declared.entry.Keeping.{Keeping}
use Rattle.gss_server.specs.declared.answer.Kept.{Kept}
use Rattle.gss_server.specs.declared.connection.Served.{Served}
use Rattle.gss_server.specs.declared.keeper.Keeper as keepers
use Rattle.server_desks.specs.Desks.{run_limit}
use Rattle.server_desks.specs.declared.desk.Desk.{Desk}
use Rattle.server_options.specs.declared.ending.RunEnd.{RunEnd}
use Rattle.server_options.specs.declared.keys.Keys.{Keys}
use Rattle.server_options.specs.declared.options.Options.{Options}
use Rattle.server_seating.specs.SideBySide.{SideBySide}

-- how many entries the log of a run may have: as many as its option says, else as many as any
abbrev pub log_limit : Option ℕ → ℕ
log_limit None = greatest_log
log_limit (Some limit) = limit

-- what the log of a run has in memory: its entries where an option limits them, and its digest
-- where an option names it
abbrev pub keeping_of : Options → Keeping
keeping_of options = record { entries = is_some options.log; digest = options.digest }

-- a book as it is opened: for the own name, with these keys and the bindings of the options,
-- offering the options' mechanisms in their order, taking a request without negotiation where the
-- options say so, under the options' limits, without contexts
pub record IsOpened (options : Options) (keys : Keys) (start : ℕ) (book : BookOf) : Type 0 where
  pub own : book.setup.own ≡ options.name
  pub keytab : book.setup.keytab ≡ keys.keytab
  pub verifiers : book.setup.verifiers ≡ keys.verifiers
  pub bindings : book.setup.bindings ≡ options.bindings
  pub offer : book.setup.offer ≡ options.offer
  pub bare : book.setup.bare ≡ options.bare
  pub history : book.core.history ≡ []
  pub limit : book.core.limit ≡ log_limit options.log
  pub width : book.core.width ≡ options.window
  pub keeping : book.core.keeping ≡ keeping_of options
  pub contexts : book.core.table.limit ≡ options.contexts
  pub empty : book.core.table.slots ≡ []
  pub marks : book.core.cache.capacity ≡ options.marks
  pub greatest : book.core.cache.greatest ≡ start

-- a book as it is opened, beside the program that was handed in
pub record Begin {V : Type 0} (options : Options) (keys : Keys) (start : ℕ) (program : V)
    (both : BothOf V) : Type 0 where
  pub opened : IsOpened options keys start both.book
  pub handed : both.program ≡ program

-- one book, which is opened for these options and keys, with the program that was handed in,
-- answered all questions of all desks, from its opening to the log and the program that are
-- returned. Where the options name a journal, desks are told its refusals; the count of faults of
-- its disk went from one number to another
abbrev pub OneHistory : {V P C D K M T W L Q R : Type 0} → programs.Ghosts V T
    → spellers.Ghosts W T → Options → Keys → ℕ → ℕ → ℕ → ports.Ghosts P L → links.Ghosts L
    → clocks.Ghosts C → draws.Ghosts D → keepers.Ghosts K Kept Q → keepers.Ghosts M (Served L) R
    → List (Desk P C D K M W) → V → RunEnd → List (Desk P C D K M W) → V → LogOf → Type 0
OneHistory served spelling options keys start faults faults' port link clock draw keeper kept olds
    old end news new log =
    SideBySide served spelling (Begin options keys start old) (is_some options.files.journal)
    faults faults' (serving spelling.says options.window)
    (run_limit options.connections (length olds)) port link clock draw keeper kept olds end news new
    log
