-- Records in a row, each with its transaction number.
use Rattle.std.specs.Prelude.{◌≡◌, ℕ, List, [], ◌∷◌}
use Rattle.accept_book.specs.RecordShown.{Asked}
use Rattle.accept_book.specs.declared.book_answer.Admitted.{Admitted}
use Rattle.gss_server.specs.Asking.{Asking}
use Rattle.again_gate.specs.Again.{AgainOf, AgainAnswers, with_xid}

-- a record's transaction number, and what was asked for it
pub record Turned : Type 0 where
  pub xid : ℕ
  pub asked : List (Asked Admitted)

-- records in a row: each names its transaction number, and then the gate is asked
abbrev pub Turning : {S : Type 0} → (S → Asked Admitted → S → Type 0) → AgainOf S → List Turned
    → AgainOf S → Type 0
Turning Answers old [] new = new ≡ old
Turning {S} Answers old (turn ∷ turns) new = (middle : AgainOf S)
    × Asking (AgainAnswers Answers) (with_xid turn.xid old) turn.asked middle
    × Turning Answers middle turns new
