-- How a program's run ended, by its words.
use Rattle.std.specs.Prelude.{◌≡◌, ◌≢◌, ℕ, true, List, reverse, Option, Some, None, Result, Ok, Err}
use Rattle.cli_base.specs.declared.given.WordsRefusal.{WordsRefusal}
use Rattle.cli_base.specs.declared.given.WordsRefusal.TheVariants as refusals
use Rattle.accept_core.specs.Legal.{Legal}
use Rattle.accept_core.specs.Logs.{LogOf, no_log}
use Rattle.server_options.specs.Control.{control_of}
use Rattle.server_options.specs.Lines.{is_begun, status_of}
use Rattle.server_options.specs.Options.{options_of}
use Rattle.server_options.specs.declared.ending.RunEnd.{RunEnd}
use Rattle.server_options.specs.declared.ending.RunEnd.TheVariants as ends
use Rattle.server_options.specs.declared.options.Options.{Options}
use Rattle.server_command.specs.Runs.{HasLimits}
use Rattle.service_kit.specs.declared.running.Ending.{Ending}
use Rattle.service_kit.specs.declared.running.Ending.TheVariants.{Ended, NoDraws, NoControl}
use Rattle.service_kit.specs.declared.running.Ending.TheVariants.{NoMemory}

-- the exit status of a run, by how it ended
abbrev pub status_at : Ending → ℕ
status_at (Ended end) = status_of end
status_at NoDraws = 1
status_at NoControl = 5
status_at NoMemory = 8

-- a run that was made by words of this reading: it ended by its usage exactly where they aren't in
-- the command, want of memory aside, and then its log is empty; its log is legal, and where desks
-- were served, it was kept under the limits of the words
pub record IsRun (read : Result Options WordsRefusal) (end : RunEnd) (log : LogOf) : Type 0 where
  pub usage : end ≡ ends.Usage → read ≡ Err refusals.Usage
  pub always : read ≡ Err refusals.Usage → end ≢ ends.NoMemory → end ≡ ends.Usage
  pub unread : (refusal : WordsRefusal) → read ≡ Err refusal → log ≡ no_log
  pub legal : Legal log.width (reverse log.entries)
  pub limits : (options : Options) → read ≡ Ok options → is_begun end ≡ true
      → HasLimits options log

-- how a run by these words ended, and its log; there is none where no run began, and a control
-- address is missed only by words that name one
abbrev pub EndsAs : List (List ℕ) → Ending → Option LogOf → Type 0
EndsAs words (Ended end) (Some log) = IsRun (options_of words) end log
EndsAs words (Ended end) None = ⊥
EndsAs words NoDraws log = log ≡ None
EndsAs words NoControl log = (log ≡ None) × (path : List ℕ) × (control_of words ≡ Ok (Some path))
EndsAs words NoMemory log = log ≡ None
