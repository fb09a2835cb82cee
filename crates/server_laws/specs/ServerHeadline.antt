-- The headline of a server: what the log says that its run returns.
use Rattle.std.specs.Prelude.{◌≡◌, ℕ, true, List, [], length, map, replicate, reverse, slice_get}
use Rattle.std.specs.Prelude.{is_some, Ok, Some, None}
use Rattle.sec_base.specs.declared.port.Port as ports
use Rattle.sec_base.specs.declared.link.Link as links
use Rattle.sec_base.specs.declared.clock.Clock as clocks
use Rattle.sec_base.specs.declared.draw.Draw as draws
use Rattle.sec_base.specs.declared.shelf.Shelf as shelves
use Rattle.spnego_core.specs.Ends.{PlainSetup}
use Rattle.spnego_core.specs.InitMech.{is_own_list}
use Rattle.accept_book.specs.Booking.{BookOf}
use Rattle.rpc_program.specs.Programs.{Serving}
use Rattle.rpc_program.specs.declared.program.Program as programs
use Rattle.rpc_program.specs.declared.program.Speller as spellers
use Rattle.gss_server.specs.Hearing.{serving}
use Rattle.accept_core.specs.Legal.{Legal}
use Rattle.accept_core.specs.Logs.{LogOf}
use Rattle.accept_core.specs.declared.entry.Entry.{Entry}
use Rattle.gss_server.specs.declared.answer.Kept.{Kept}
use Rattle.gss_server.specs.declared.connection.Served.{Served}
use Rattle.gss_server.specs.declared.keeper.Keeper as keepers
use Rattle.server_desks.specs.Desks.{run_limit}
use Rattle.server_desks.specs.declared.desk.Desk.{Desk}
use Rattle.server_command.specs.Through.{OneHistory}
use Rattle.server_options.specs.Keys.{KeysFrom}
use Rattle.server_options.specs.declared.ending.RunEnd.{RunEnd}
use Rattle.server_options.specs.declared.keys.Keys.{Keys}
use Rattle.server_options.specs.declared.options.Options.{Options}
use Rattle.world_laws.specs.declared.event.WorldEvent.{WorldEvent}
use Rattle.world_laws.specs.Agreement.{Agreement}
use Rattle.world_laws.specs.Events.{Run, Begins}
use Rattle.world_laws.specs.Headline.{StandsOnce}
use Rattle.world_laws.specs.Origin.{Origin}
use Rattle.world_laws.specs.Premises.{Marking, NoForgery, Fresh}
use Rattle.world_laws.specs.Setups.{IsSetup}
use Rattle.world_laws.specs.Stages.{Ready}
use Rattle.world_laws.specs.State.{InHand, World}
use Rattle.told_apart.specs.Apart.{IsApart}
use Rattle.server_laws.specs.Apart.{SpellsApart}
use Rattle.server_laws.specs.Beside.{BookNote}
use Rattle.server_laws.specs.Served.{Meanwhile}
use Rattle.server_laws.specs.ServerRun.{opened_book, book_notes, AreTheirs, LogIsRun}

-- ---- the world that a run begins in

-- what is served, these initiators, of whom nobody was started, a book, and a free lane for each of
-- so many desks; nothing was fixed or handed out
abbrev pub world_of : Serving → List PlainSetup → BookOf → ℕ → World
world_of serves initiators book desks = record {
  serves = serves;
  facts = initiators;
  stages = map (λ own. Ready own) initiators;
  book = book;
  lanes = replicate desks None;
  fixed = [];
  makings = [];
}

-- each has one or two credentials, of different mechanisms, and is one that can be begun
pub record AreInitiators (initiators : List PlainSetup) : Type 0 where
  pub lists : (i : ℕ) (own : PlainSetup) → slice_get initiators i ≡ Some own
      → is_own_list own.list ≡ true
  pub setups : (i : ℕ) (own : PlainSetup) → slice_get initiators i ≡ Some own → IsSetup own

-- ---- what the log says

-- the log is the book's of a world at the end of a run, and of this world and this run agreement
-- and origin hold: what the log says was settled has one partner, and what it says was called was
-- called by the partner
pub record HeadlineOf (marking : Marking) (old : World) (events : List WorldEvent) (new : World)
    (run : Run old events new) (log : List Entry) : Type 0 where
  pub logged : new.book.core.history ≡ log
  pub agreement : Agreement marking new
  pub origin : Origin marking old events new run

-- the log that a run of the server returned, by the run of the world that it is: one that begins
-- with the book that the server opened, in which the desks' lanes serve the records of their links.
-- Where nothing was forged in that run under guarded keys, and draws were fresh, agreement and
-- origin hold of this very log. And whatever was forged, nothing stands in it twice
pub record OfThatLog (Are : (ℕ → List InHand) → Type 0) (meanwhile : (w : World) → Meanwhile w)
    (notes : List BookNote) (old : World) (log : List Entry) : Type 0 where
  pub begins : Begins old
  pub is : LogIsRun Are (λ desk. desk) meanwhile notes old log
  pub says : (marking : Marking)
      → NoForgery marking old is.runs.events is.runs.next is.runs.run
      → Fresh marking is.runs.next
      → HeadlineOf marking old is.runs.events is.runs.next is.runs.run log
  pub once : StandsOnce log

-- the headline of a server with this program and this speller. What `run_server` promises of its
-- log in `booked` and `legal` is enough: files gave these keys, one book with them and one program
-- answered all questions of all desks, and the log is legal. Then for any initiators, whatever they
-- do meanwhile, the headline holds of that log, whatever the program does
abbrev pub HeadlineOfRuns : {F V P C D K M T W L Q R : Type 0} → shelves.Ghosts F
    → programs.Ghosts V T → spellers.Ghosts W T → ports.Ghosts P L → links.Ghosts L
    → clocks.Ghosts C → draws.Ghosts D → keepers.Ghosts K Kept Q → keepers.Ghosts M (Served L) R
    → Type 0
HeadlineOfRuns {F} {V} {P} {C} {D} {K} {M} {T} {W} shelf served spelling port link clock draw keeper
    kept = (options : Options) (keys : Keys) (start faults faults' : ℕ) (before after : F)
    (olds : List (Desk P C D K M W)) (old : V) (end : RunEnd) (news : List (Desk P C D K M W))
    (new : V) (log : LogOf)
    → KeysFrom shelf before after options.files options.name (Ok keys)
    → (one : OneHistory served spelling options keys start faults faults' port link clock draw
    keeper kept olds old end news new log)
    → Legal log.width (reverse log.entries)
    → (initiators : List PlainSetup) (meanwhile : (w : World) → Meanwhile w)
    → AreInitiators initiators → OfThatLog
    (AreTheirs spelling (is_some options.files.journal) faults faults'
    (serving spelling.says options.window) (run_limit options.connections (length olds)) port link
    clock draw keeper kept olds one.ends news one.all) meanwhile (book_notes one.all)
    (world_of (serving spelling.says options.window) initiators (opened_book options keys start)
    (length olds)) (reverse log.entries)

-- the server's headline: it holds where what the program takes, and what is spelled for that, is
-- told apart from what else is signed by a context's key
abbrev pub ServerHeadline : {F V P C D K M T W L Q R : Type 0} → shelves.Ghosts F
    → programs.Ghosts V T → spellers.Ghosts W T → ports.Ghosts P L → links.Ghosts L
    → clocks.Ghosts C → draws.Ghosts D → keepers.Ghosts K Kept Q → keepers.Ghosts M (Served L) R
    → Type 0
ServerHeadline shelf served spelling port link clock draw keeper kept = IsApart spelling.says
    → SpellsApart served.says spelling
    → HeadlineOfRuns shelf served spelling port link clock draw keeper kept
