-- What records ask: laws over all records.
use Rattle.std.specs.Prelude.{◌≡◌, ◌<◌, ◌≤◌, ℕ, Bool, true, false, List, length}
use Rattle.std.specs.List.{list_any}
use Rattle.accept_book.specs.RecordShown.{KeptAnswers, Asked, AskedStep, AskedLook, AskedAdmit}
use Rattle.accept_book.specs.RecordShown.{AskedEnd}
use Rattle.accept_book.specs.RecordRule.{record_ruling}
use Rattle.rpc_program.specs.Programs.{Serving}

-- the question takes a number of the context
abbrev pub takes_number : {A : Type 0} → Asked A → Bool
takes_number (AskedStep id token now draws answer) = false
takes_number (AskedLook id now answer) = false
takes_number (AskedAdmit lease seq service procedure args answer) = true
takes_number (AskedEnd lease seq answer) = true

-- no record asks more than two questions, and a record that one of the rules 1 to 14 decides asked
-- for no number
pub record AsksLaws : Type 0 where
  pub few : (octets : List ℕ) (kept : KeptAnswers) (serves : Serving)
      → length (record_ruling octets kept serves).asked ≤ 2
  pub early : (octets : List ℕ) (kept : KeptAnswers) (serves : Serving)
      → 0 < (record_ruling octets kept serves).rule → (record_ruling octets kept serves).rule ≤ 14
      → list_any takes_number (record_ruling octets kept serves).asked ≡ false
