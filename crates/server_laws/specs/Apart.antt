-- Results that can't be taken for a list of mechanisms.
use Rattle.std.specs.Prelude.{◌≡◌, ℕ, List, true, Some}
use Rattle.rpc_program.specs.Programs.{ProgramSays, CallerOf, result_in}
use Rattle.rpc_program.specs.declared.outcome.Outcome.{Outcome}
use Rattle.rpc_program.specs.declared.program.Speller as spellers
use Rattle.told_apart.specs.Apart.{NoList}

-- what is spelled for arguments that the program takes is told apart from a list of mechanisms,
-- which an acceptor signs by the same key
abbrev pub SpellsApart : {W T : Type 0} → ProgramSays → spellers.Ghosts W T → Type 0
SpellsApart {W} {T} says spelling = (old new : W) (caller : CallerOf) (procedure : ℕ)
    (args : List ℕ) (ticket : T) (outcome : Outcome) → says.takes procedure args ≡ true
    → spelling.spells old caller procedure args ticket outcome new
    → (result : List ℕ) → result_in args outcome ≡ Some result → NoList result
