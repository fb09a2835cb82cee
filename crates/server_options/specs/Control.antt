-- The control address of a server.
use Rattle.std.specs.Prelude.{ℕ, List, Option, Result, Ok, codes, nat_eq, if◌then◌else◌}
use Rattle.std.specs.List.{starts_with}
use Rattle.cli_base.specs.Words.{value_of}
use Rattle.cli_base.specs.Given.{◌>>=◌}
use Rattle.cli_base.specs.declared.given.WordsRefusal.{WordsRefusal}
use Rattle.server_options.specs.Options.{formed}
use Rattle.server_options.specs.declared.control.Order.{Order}
use Rattle.server_options.specs.declared.control.Order.TheVariants.{Stop, Unknown}

-- what the first octets of a peer ask for
abbrev pub order_of : List ℕ → Order
order_of octets = if starts_with nat_eq octets (codes "stop\n") then Stop else Unknown

-- the line that a peer is answered
abbrev pub answer_line : Order → List ℕ
answer_line Stop = codes "done\n"
answer_line Unknown = codes "refused: usage\n"

-- the path that the words name, where they name one
abbrev pub control_of : List (List ℕ) → Result (Option (List ℕ)) WordsRefusal
control_of words = do
  formed ← formed words
  Ok (value_of (codes "--control") words)
