-- What words ask for of the devices of a run.
use Rattle.std.specs.Prelude.{◌≡◌, ℕ, List, Option, Some, Result, Ok, Err}
use Rattle.cli_base.specs.declared.given.WordsRefusal.{WordsRefusal}
use Rattle.server_desks.specs.Desks.{run_limit}
use Rattle.server_options.specs.Control.{control_of}
use Rattle.server_options.specs.Options.{options_of}
use Rattle.server_options.specs.declared.options.Options.{Options}

-- desks, connections of all of them together, and seconds of silence, as these options say; for
-- words that aren't in the command one of each, since their run says so before it serves
pub record AsOptions (read : Result Options WordsRefusal) (desks connections idle : ℕ) : Type 0
  where
    pub given : (options : Options) → read ≡ Ok options → (desks ≡ options.desks)
        × (connections ≡ run_limit options.connections options.desks) × (idle ≡ options.idle)
    pub refused : (refusal : WordsRefusal) → read ≡ Err refusal
        → (desks ≡ 1) × (connections ≡ 1) × (idle ≡ 1)

-- the same with the control address that the words name
pub record IsStaff (words : List (List ℕ)) (desks connections idle : ℕ)
    (control : Option (List ℕ)) : Type 0 where
  pub options : AsOptions (options_of words) desks connections idle
  pub named : (path : List ℕ) → control ≡ Some path → control_of words ≡ Ok (Some path)
  pub told : (options : Options) → options_of words ≡ Ok options → control_of words ≡ Ok control
