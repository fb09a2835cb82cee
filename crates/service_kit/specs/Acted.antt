-- What a program that was served did, as the log of its run tells it.
use Rattle.std.specs.Prelude.{◌≡◌, List, [], reverse, Option, None, Some}
use Rattle.std.specs.List.{AllByRecursion}
use Rattle.rpc_program.specs.declared.program.Program as programs
use Rattle.accept_core.specs.Logs.{LogOf}
use Rattle.accept_core.specs.declared.entry.Entry.{Entry}
use Rattle.book_seats.specs.Acts.{Act, IsOwnEntry, Folds, calls_in, receipts_of}
pub use Rattle.book_seats.specs.Acts.{Act, IsOwnEntry, Folds, calls_in, receipts_of}
pub use Rattle.gss_server.specs.Programs.{Enters}

-- the entries of a log, oldest first; none where no run began
abbrev pub entries_of : Option LogOf → List Entry
entries_of None = []
entries_of (Some log) = log.entries

-- the calls of a log are these acts, in its order, each with its caller, procedure and arguments;
-- and the program is what it was when it was handed in, with each of them entered, once, in this
-- order, and nothing else
pub record Acted {V T : Type 0} (served : programs.Ghosts V T) (old new : V)
    (entries : List Entry) : Type 0 where
  pub acts : List (Act T)
  pub log : calls_in (reverse entries) ≡ receipts_of acts
  pub own : AllByRecursion IsOwnEntry acts
  pub folds : Folds served old acts new
