-- What each part of a book's `negotiate` needs of the contexts, and what it leaves of them.
use Rattle.std.specs.Prelude.{ℕ, ◌≤◌, Option}
use Rattle.accept_book.specs.BookAnswers.{ComesTo}
use Rattle.accept_book.specs.Booking.{Outcomes, stands_of, token_size, AllFit, OthersFit}
use Rattle.accept_core.specs.Ready.{ReadyFor}
use Rattle.accept_core.specs.Replays.{Accepting, Keeps}
use Rattle.accept_book.specs.declared.book_answer.Negotiated.{Negotiated}
use Rattle.spnego_core.specs.declared.accept_end.AcceptEnd.{AcceptEnd}
use Rattle.spnego_core.specs.declared.outcome.Outcome.{Outcome}

-- a step of this id may be taken: it has its room, and all other contexts fit
pub record AwaitsStep (core : Accepting AcceptEnd Outcome) (id : Option ℕ) : Type 0 where
  pub ready : ReadyFor core id
  pub others : OthersFit id core

-- a core took a token: it came to this, its limits are those of before, and its contexts fit
pub record TookToken
    (old new : Accepting AcceptEnd Outcome) (id : Option ℕ) (outcome : Option ℕ → Outcomes)
    (result : Negotiated) : Type 0 where
  pub size : token_size result.answer ≤ 65536
  pub comes : ComesTo (stands_of old) id outcome result new
  pub keeps : Keeps old new
  pub fits : AllFit new
