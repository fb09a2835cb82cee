-- Octets of one class in a row.
use Rattle.std.specs.Prelude.{◌≡◌, ℕ, ◌-◌, ◌≤◌, Bool, true, List, length, not, ◌==◌, ◌||◌, Option}
use Rattle.std.specs.Prelude.{Some, None, if◌then◌else◌}
use Rattle.std.specs.List.{list_all}
use Rattle.scram_mech.specs.declared.run.Class.{Class}
use Rattle.scram_mech.specs.declared.run.Class.TheVariants.{Nonce, Printable, LineName}
use Rattle.scram_mech.specs.declared.run.Run.{Run}
use Rattle.scram_mech.specs.Signs.{is_nonce, is_printable, is_line_name}

-- the octet is one of the class
abbrev pub has : Class → ℕ → Bool
has Nonce octet = is_nonce octet
has Printable octet = is_printable octet
has LineName octet = is_line_name octet

-- one octet more of the class, where there is room for it
abbrev pub run_step : Run → ℕ → Option Run
run_step run octet =
    if (run.left == 0) || not (has run.class octet) then None
    else Some (record { class = run.class; need = run.need - 1; left = run.left - 1 })

-- the octets may end here: enough of them were there
abbrev pub run_ends : Run → Bool
run_ends run = run.need == 0

-- a name of a verifier file
pub record IsLineName (name : List ℕ) : Type 0 where
  pub each : list_all is_line_name name ≡ true
  pub some : 1 ≤ length name
  pub few : length name ≤ 255
