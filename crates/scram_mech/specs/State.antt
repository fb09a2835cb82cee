-- What is due of a part's value, octet by octet.
use Rattle.std.specs.Prelude.{ℕ, Bool, Option, None}
use Rattle.std.specs.Option.{option_map}
use Rattle.scram_mech.specs.declared.run.Class.{Class}
use Rattle.scram_mech.specs.declared.name.Escape.TheVariants.{Outside}
use Rattle.scram_mech.specs.declared.digits.Digits.TheVariants as digits
use Rattle.scram_mech.specs.declared.symbols.Spot.TheVariants as spots
use Rattle.scram_mech.specs.declared.further.Due.TheVariants as dues
use Rattle.scram_mech.specs.declared.state.State.{State}
use Rattle.scram_mech.specs.declared.state.State.TheVariants as states
use Rattle.scram_mech.specs.Run.{run_step, run_ends}
use Rattle.scram_mech.specs.Name.{name_step, name_ends}
use Rattle.scram_mech.specs.Digits.{digits_step, digits_end}
use Rattle.scram_mech.specs.Symbols.{symbols_step, symbols_end}
use Rattle.scram_mech.specs.Further.{further_step, further_ends}

-- octets of a class, one at least and so many at most
abbrev pub some : Class → ℕ → State
some class most = states.Run (record { class = class; need = 1; left = most })

-- a name in a text: 1 to 255 octets, with its escapes
abbrev pub a_name : State
a_name = states.Name (record { escape = Outside; need = 1; left = 255 })

-- a number of at most ten digits
abbrev pub rounds_number : State
rounds_number = states.Digits digits.First

-- base64 of a number of octets in this range
abbrev pub base64 : ℕ → ℕ → State
base64 least most = states.Symbols (record { spot = spots.First; need = least; left = most })

-- further parts up to the end, or up to the letter of a named part behind them
abbrev pub further_parts : Option ℕ → State
further_parts last = states.Further (record { due = dues.Part; last = last })

-- a value and further parts behind it
abbrev pub value_and_further : State
value_and_further = states.Further (record { due = dues.Value; last = None })

-- what is due behind an octet of a value, none if it can't stand here
abbrev pub step : State → ℕ → Option State
step (states.Run run) octet = option_map states.Run (run_step run octet)
step (states.Name name) octet = option_map states.Name (name_step name octet)
step (states.Digits due) octet = option_map states.Digits (digits_step due octet)
step (states.Symbols symbols) octet = option_map states.Symbols (symbols_step symbols octet)
step (states.Further further) octet = option_map states.Further (further_step further octet)

-- the value may end here
abbrev pub ends : State → Bool
ends (states.Run run) = run_ends run
ends (states.Name name) = name_ends name
ends (states.Digits due) = digits_end due
ends (states.Symbols symbols) = symbols_end symbols
ends (states.Further further) = further_ends further
