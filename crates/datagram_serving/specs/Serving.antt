-- The run of a server over datagrams.
use Rattle.std.specs.Prelude.{◌≡◌, ◌⊎◌, ℕ, ◌*◌, List, [], ◌++◌, length, map, reverse}
use Rattle.std.specs.Prelude.{Option, None, Some, Result, Ok, Err}
use Rattle.std.specs.List.{flat_map}
use Rattle.sec_base.specs.declared.clock.Clock as clocks
use Rattle.sec_base.specs.declared.draw.Draw as draws
use Rattle.sec_base.specs.declared.shelf.Shelf as shelves
use Rattle.accept_book.specs.Booking.{BookOf}
use Rattle.accept_book.specs.RecordShown.{booked}
use Rattle.rpc_program.specs.Programs.{Serving}
use Rattle.accept_core.specs.Entering.{gained}
use Rattle.accept_core.specs.Legal.{Legal}
use Rattle.accept_core.specs.Logs.{LogOf, no_log, kept_digest}
use Rattle.again_gate.specs.Again.{AgainOf, opened_gate}
use Rattle.again_gate.specs.Turns.{Turned}
use Rattle.again_laws.specs.Acting.{acting, xids, NoneAgain}
use Rattle.again_laws.specs.Below.{HasBelow, asked_in}
use Rattle.again_laws.specs.Sole.{receipts_in}
use Rattle.datagram_options.specs.declared.ending.ServeEnd.{ServeEnd}
use Rattle.datagram_options.specs.declared.ending.ServeEnd.TheVariants as serves
use Rattle.datagram_post.specs.declared.post.Post as posts
use Rattle.gss_server.specs.Hearing.{serving}
use Rattle.gss_server.specs.Steady.{Timed, Drawn}
use Rattle.gss_server.specs.Telling.{limits_of}
use Rattle.gss_server.specs.declared.gate.Gate as gates
use Rattle.gss_server.specs.declared.answer.Kept.{Kept}
use Rattle.history_laws.specs.Seen.{AllSeen}
use Rattle.rpc_datagram.specs.Served.{Datagram, DatagramsServed, turn_of}
use Rattle.rpc_datagram.specs.declared.serving.ServeEnd.TheVariants as ends
use Rattle.rpc_datagram.specs.declared.serving.ServeEnd as servings
use Rattle.server_command.specs.Runs.{HasLimits}
use Rattle.server_command.specs.Through.{IsOpened}
use Rattle.server_desks.specs.Desks.{greatest_count}
use Rattle.server_options.specs.Keys.{KeysFrom}
use Rattle.server_options.specs.declared.ending.Counts.{Counts}
use Rattle.server_options.specs.declared.ending.RunEnd.{RunEnd}
use Rattle.server_options.specs.declared.ending.RunEnd.TheVariants.{Served, NoMemory}
use Rattle.server_options.specs.declared.keys.Keys.{Keys}
use Rattle.server_options.specs.declared.options.Options.{Options}
use Rattle.server_seating.specs.SideBySide.{IsUnder}

-- the run ends as its serving does
abbrev pub end_of : servings.ServeEnd → ServeEnd
end_of ends.Done = serves.As Served
end_of ends.PostFault = serves.PostFault
end_of ends.NoMemory = serves.As NoMemory

-- what a run's line says: one connection, the datagrams that were answered, the log's entries, and
-- its digest where it was kept
abbrev pub counts_of : LogOf → ℕ → Counts
counts_of log records =
    record {
      connections = 1;
      records = records;
      entries = length log.entries;
      digest = kept_digest log;
    }

-- how often a run waits for a datagram, by its option; without it until its post fails, or so often
-- that it comes to the same
abbrev pub waits_of : Option ℕ → ℕ
waits_of None = greatest_count
waits_of (Some waits) = waits

-- a gate below that another stands over: the book and the program that it has, the program that was
-- handed in, and what it begins with beside these
pub record Below (S V : Type 0) : Type 1 where
  pub gate : gates.Ghosts S
  pub book : S → BookOf
  pub program : S → V
  pub handed : V
  pub begins : S → Type 0

-- such a gate, by these
abbrev pub below_of : {S V : Type 0} → gates.Ghosts S → (S → BookOf) → (S → V) → V → (S → Type 0)
    → Below S V
below_of gate book program handed begins =
    record { gate = gate; book = book; program = program; handed = handed; begins = begins }

-- a gate as it is opened: over one that has a book for these options and keys and the program that
-- was handed in and begins as it is to, with places for as many contexts as the book has, each for
-- twice as many calls as a window has numbers; of a result at most so many octets are kept
pub record IsGate {S V : Type 0} (below : Below S V) (options : Options) (keys : Keys)
    (start most : ℕ) (gate : AgainOf S) : Type 0 where
  pub first : S
  pub handed : below.program first ≡ below.handed
  pub begins : below.begins first
  pub opened : IsOpened options keys start (below.book first)
  pub over : gate ≡ opened_gate first options.contexts (2 * options.window) most

-- a gate answered the datagrams that came in so many waits, so many of them, and the log is that of
-- its book; its program is given back
pub record Answers {P C D S V : Type 0} (post : posts.Ghosts P) (clock : clocks.Ghosts C)
    (draw : draws.Ghosts D) (below : gates.Ghosts S) (book : S → BookOf) (program : S → V)
    (width most : ℕ) (gate : AgainOf S) (old new : P) (clock_old clock_new : C)
    (draw_old draw_new : D) (end : ServeEnd) (log : LogOf) (records : ℕ) (given : Option V)
    : Type 0 where
  pub kept : List Kept
  pub count : records ≡ length kept
  pub gate_new : AgainOf S
  pub stop : servings.ServeEnd
  pub served : DatagramsServed post below (serving below.program width) most old new gate gate_new
      stop kept
  pub ends : end ≡ end_of stop
  pub timed : Timed clock clock_old clock_new kept
  pub drawn : Drawn draw draw_old draw_new kept
  pub entries : reverse log.entries ≡ (book gate_new.gate).core.history
  pub legal : Legal (book gate_new.gate).core.width (book gate_new.gate).core.history
  pub book_width : log.width ≡ (book gate_new.gate).core.width
  pub under : IsUnder (limits_of (book gate.gate).core) log
  pub back : given ≡ Some (program gate_new.gate)

-- no book was opened: nothing was heard or sent
pub record NoBook {P : Type 0} (old new : P) (log : LogOf) (records : ℕ) : Type 0 where
  pub same : new ≡ old
  pub log_is : log ≡ no_log
  pub none : records ≡ 0

-- the transaction numbers of datagrams, and what the gate was asked for them
abbrev pub turns_of : Serving → List Datagram → List Turned
turns_of serves all = map (turn_of serves) all

-- a gate of these options and keys answered. No call of a context that acted has a transaction
-- number that stands among those of the last calls of the context that acted, twice as many as a
-- window has numbers. The receipts of the answers, in order, are the log's entries. The gate below
-- answered what this one asked of it, each question of a datagram as it was, as one that doesn't
-- act, or not at all; and what its book answered is what the log before says
pub record Booked {P C D S V : Type 0} (post : posts.Ghosts P) (clock : clocks.Ghosts C)
    (draw : draws.Ghosts D) (below : Below S V) (options : Options) (keys : Keys)
    (start most : ℕ) (old new : P) (clock_old clock_new : C) (draw_old draw_new : D)
    (end : ServeEnd) (log : LogOf) (records : ℕ) (given : Option V) : Type 0 where
  pub gate : AgainOf S
  pub is : IsGate below options keys start most gate
  pub answers : Answers post clock draw below.gate below.book below.program options.window
      (waits_of options.connections) gate old new clock_old clock_new draw_old draw_new end log
      records given
  pub limits : HasLimits options log
  pub turns : List Turned
  pub turns_are : turns ≡ turns_of (serving below.gate.program options.window)
      (answers.served.answered ++ answers.served.last)
  pub once : (id : ℕ) → NoneAgain (2 * options.window) [] (xids (acting id turns))
  pub in_order : flat_map receipts_in (asked_in turns) ≡ gained 0 (reverse log.entries)
  pub asked : HasBelow below.gate.answers gate answers.gate_new (asked_in turns)
  pub seen : AllSeen (below.book gate.gate).setup (limits_of (below.book gate.gate).core) start
      (map booked asked.below)

-- unless there was no memory to open it, where no program is given back
abbrev pub IsServed : {P C D S V : Type 0} → posts.Ghosts P → clocks.Ghosts C → draws.Ghosts D
    → Below S V → Options → Keys → ℕ → ℕ → P → P → C → C → D → D → ServeEnd → LogOf → ℕ → Option V
    → Type 0
IsServed post clock draw below options keys start most old new clock_old clock_new draw_old draw_new
    end log records given =
    ((end ≡ serves.As NoMemory) × NoBook old new log records × (given ≡ None))
    ⊎ Booked post clock draw below options keys start most old new clock_old clock_new draw_old
    draw_new end log records given

-- by what the keys come to: the run ends by them, and gives back the program as it was handed in;
-- or they are served by
abbrev pub BehindKeys : {P C D S V : Type 0} → posts.Ghosts P → clocks.Ghosts C → draws.Ghosts D
    → Below S V → Options → ℕ → ℕ → Result Keys RunEnd → P → P → C → C → D → D → ServeEnd
    → LogOf → ℕ → Option V → Type 0
BehindKeys post clock draw below options start most (Err stop) old new clock_old clock_new draw_old
    draw_new end log records given =
    (end ≡ serves.As stop) × NoBook old new log records × (given ≡ Some below.handed)
BehindKeys post clock draw below options start most (Ok keys) old new clock_old clock_new draw_old
    draw_new end log records given = IsServed post clock draw below options keys start most old new
    clock_old clock_new draw_old draw_new end log records given

-- the keys are read from the files that the options name, and what follows is by them
pub record Runs {F P C D S V : Type 0} (shelf : shelves.Ghosts F) (post : posts.Ghosts P)
    (clock : clocks.Ghosts C) (draw : draws.Ghosts D) (below : Below S V)
    (options : Options) (start most : ℕ) (shelf_old shelf_new : F) (old new : P)
    (clock_old clock_new : C) (draw_old draw_new : D) (end : ServeEnd) (log : LogOf)
    (records : ℕ) (given : Option V) : Type 0 where
  pub keys : Result Keys RunEnd
  pub read : KeysFrom shelf shelf_old shelf_new options.files options.name keys
  pub behind : BehindKeys post clock draw below options start most keys old new clock_old clock_new
      draw_old draw_new end log records given
