-- The receipts in the keepers of all desks are the entries of the log that a run returns.
use Rattle.std.specs.Prelude.{◌≡◌, ℕ, ◌+◌, List, ◌++◌, map, reverse, slice_get, Some}
use Rattle.std.specs.List.{flat_map}
use Rattle.sec_base.specs.declared.port.Port as ports
use Rattle.sec_base.specs.declared.link.Link as links
use Rattle.sec_base.specs.declared.clock.Clock as clocks
use Rattle.sec_base.specs.declared.draw.Draw as draws
use Rattle.rpc_program.specs.Programs.{Serving}
use Rattle.rpc_program.specs.declared.program.Program as programs
use Rattle.rpc_program.specs.declared.program.Speller as spellers
use Rattle.accept_book.specs.RecordShown.{booked}
use Rattle.accept_core.specs.Entering.{gained}
use Rattle.accept_core.specs.Logs.{LogOf}
use Rattle.accept_core.specs.declared.entry.Receipt.{Receipt}
use Rattle.gss_server.specs.Connections.{asked_for, IsExact}
use Rattle.gss_server.specs.Receipts.{receipts_of}
use Rattle.gss_server.specs.declared.answer.Kept.{Kept}
use Rattle.gss_server.specs.declared.connection.Served.{Served}
use Rattle.gss_server.specs.declared.keeper.Keeper as keepers
use Rattle.book_seats.specs.Notes.{Note, asked_by}
use Rattle.book_seats.specs.Weights.{weigh}
use Rattle.history_laws.specs.Receipts.{receipts_in}
use Rattle.server_desks.specs.declared.desk.Desk.{Desk}
use Rattle.server_command.specs.Through.{OneHistory}
use Rattle.server_options.specs.declared.ending.RunEnd.{RunEnd}
use Rattle.server_options.specs.declared.keys.Keys.{Keys}
use Rattle.server_options.specs.declared.options.Options.{Options}

-- the receipts of what is kept of a record are those of the questions that were asked for it, in
-- order, where each kept answer was asked for
abbrev pub KeptLaw : Type 0
KeptLaw = (serves : Serving) (octets : List ℕ) (one : Kept) → IsExact serves octets one
    → receipts_of one ≡ flat_map receipts_in (map booked (asked_for serves octets one))

-- a keeper that keeps of each record its receipts, in order, each once
abbrev pub KeepsReceipts : {K : Type 0} → keepers.Ghosts K Kept Receipt → Type 0
KeepsReceipts keeper = (one : Kept) → keeper.parts one ≡ receipts_of one

-- what the receipts in the keepers of all desks weigh together
abbrev pub kept_weight : {P C D K M W : Type 0} → (K → List Receipt) → (Receipt → ℕ)
    → List (Desk P C D K M W) → ℕ
kept_weight kept weight desks = weigh (λ desk. weigh weight (kept desk.keeper)) desks

-- of the desks of a run, whose keepers keep receipts, by the history of their questions
pub record AreKept {P C D K M T W : Type 0} (keeper : keepers.Ghosts K Kept Receipt)
    (olds news : List (Desk P C D K M W)) (log : LogOf) (all : List (Note T)) : Type 0 where
  -- each keeper was given, behind what it had, the receipts of its desk's questions, as the book
  -- answered them, in order
  pub each : (i : ℕ) (old new : Desk P C D K M W) → slice_get olds i ≡ Some old
      → slice_get news i ≡ Some new → keeper.kept new.keeper
      ≡ keeper.kept old.keeper ++ flat_map receipts_in (asked_by i all)
  -- what all keepers were given is the log: each entry once, with its place, none missing and none
  -- invented, however receipts are weighed
  pub together : (weight : Receipt → ℕ) → kept_weight keeper.kept weight news
      ≡ kept_weight keeper.kept weight olds + weigh weight (gained 0 (reverse log.entries))

-- so it is of each run of the server whose desks have such keepers
abbrev pub KeptReceiptsLaw : {V P C D K M T W L R : Type 0} → programs.Ghosts V T
    → spellers.Ghosts W T → ports.Ghosts P L → links.Ghosts L → clocks.Ghosts C → draws.Ghosts D
    → keepers.Ghosts K Kept Receipt → keepers.Ghosts M (Served L) R → Type 0
KeptReceiptsLaw {V} {P} {C} {D} {K} {M} {T} {W} served spelling port link clock draw keeper kept =
    KeepsReceipts keeper → (options : Options) (keys : Keys) (start faults faults' : ℕ)
    (olds : List (Desk P C D K M W)) (before : V) (end : RunEnd) (news : List (Desk P C D K M W))
    (after : V) (log : LogOf)
    (one : OneHistory served spelling options keys start faults faults' port link clock draw keeper
    kept olds before end news after log) → AreKept keeper olds news log one.all
