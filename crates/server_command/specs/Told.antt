-- All that a run of the server did, as its log tells it.
use Rattle.std.specs.Prelude.{◌≡◌, ℕ, List, reverse}
use Rattle.std.specs.List.{flat_map}
use Rattle.sec_base.specs.declared.port.Port as ports
use Rattle.sec_base.specs.declared.link.Link as links
use Rattle.sec_base.specs.declared.clock.Clock as clocks
use Rattle.sec_base.specs.declared.draw.Draw as draws
use Rattle.rpc_program.specs.declared.program.Program as programs
use Rattle.rpc_program.specs.declared.program.Speller as spellers
use Rattle.accept_core.specs.Entering.{gained}
use Rattle.accept_core.specs.Legal.{Legal}
use Rattle.accept_core.specs.Logs.{LogOf}
use Rattle.gss_server.specs.Telling.{limits_of}
use Rattle.gss_server.specs.declared.answer.Kept.{Kept}
use Rattle.gss_server.specs.declared.connection.Served.{Served}
use Rattle.gss_server.specs.declared.keeper.Keeper as keepers
use Rattle.book_seats.specs.Notes.{questions_of}
use Rattle.history_laws.specs.Lent.{AllLent}
use Rattle.history_laws.specs.Receipts.{receipts_in}
use Rattle.history_laws.specs.Seen.{AllSeen}
use Rattle.server_command.specs.Through.{OneHistory}
use Rattle.server_desks.specs.declared.desk.Desk.{Desk}
use Rattle.server_options.specs.declared.ending.RunEnd.{RunEnd}
use Rattle.server_options.specs.declared.keys.Keys.{Keys}
use Rattle.server_options.specs.declared.options.Options.{Options}

-- there is one history of all that the desks asked, in which the program entered each call whose
-- number was taken once, in the log's order (`once` of the history); the log is legal; the receipts
-- of all answers, in the history's order, are the log's entries, each with its place; and each
-- answer is what the log before it says, for the setup, the limits and the start of the book that
-- was opened. A number is taken of no lease but one that a look gave before
pub record ToldByLog {V P C D K M T W L Q R : Type 0} (served : programs.Ghosts V T)
    (spelling : spellers.Ghosts W T) (options : Options) (keys : Keys) (start faults faults' : ℕ)
    (port : ports.Ghosts P L) (link : links.Ghosts L) (clock : clocks.Ghosts C)
    (draw : draws.Ghosts D) (keeper : keepers.Ghosts K Kept Q)
    (kept : keepers.Ghosts M (Served L) R) (olds : List (Desk P C D K M W)) (old : V)
    (end : RunEnd) (news : List (Desk P C D K M W)) (new : V) (log : LogOf) : Type 0 where
  pub history : OneHistory served spelling options keys start faults faults' port link clock draw
      keeper kept olds old end news new log
  pub legal : Legal log.width (reverse log.entries)
  pub in_place : flat_map receipts_in (questions_of history.all) ≡ gained 0 (reverse log.entries)
  pub seen : AllSeen history.first.book.setup (limits_of history.first.book.core) start
      (questions_of history.all)
  pub lent : AllLent (questions_of history.all)
