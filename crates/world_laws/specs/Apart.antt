-- The result of an admitted call, told apart from a list of mechanisms, which an acceptor signs by
-- the same key.
use Rattle.std.specs.Prelude.{◌≡◌, ℕ, List, Some, Ok, Err}
use Rattle.rpc_program.specs.Programs.{result_in}
use Rattle.accept_book.specs.declared.book_answer.Admitted.{Admitted}
use Rattle.accept_book.specs.RecordShown.{Asked, AskedStep, AskedLook, AskedAdmit, AskedEnd}
use Rattle.told_apart.specs.Apart.{NoList}

-- the result of an admitted call, where it has one, is told from a list
abbrev pub ToldApart : Asked Admitted → Type 0
ToldApart (AskedStep id token now draws answer) = Unit {0}
ToldApart (AskedLook id now answer) = Unit {0}
ToldApart (AskedAdmit lease seq service procedure args (Ok admitted)) =
    (result : List ℕ) → result_in args admitted.outcome ≡ Some result → NoList result
ToldApart (AskedAdmit lease seq service procedure args (Err refusal)) = Unit {0}
ToldApart (AskedEnd lease seq answer) = Unit {0}
