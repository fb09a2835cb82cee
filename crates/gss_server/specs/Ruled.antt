-- A call or a record that is answered by its ruling, and what the gate was asked for it.
use Rattle.std.specs.Prelude.{◌≡◌, ℕ, List, length, Option, Some, None}
use Rattle.rpcsec_msgs.specs.Cred.{CredValue}
use Rattle.rpc_program.specs.Programs.{Serving}
use Rattle.accept_book.specs.declared.book_answer.Admitted.{Admitted}
use Rattle.accept_book.specs.RecordShown.{Asked, Ruling, KeptAnswers, Shown}
use Rattle.accept_book.specs.RecordRule.{in_context, IsInContext, record_ruling}
use Rattle.accept_book.specs.declared.book_answer.Lease.{Lease}
use Rattle.gss_server.specs.Answers.{Says, Fits, IsSaid}
use Rattle.gss_server.specs.Asking.{IsAsked}
use Rattle.gss_server.specs.Hearing.{count_of, kept_answers}
use Rattle.gss_server.specs.declared.answer.Answered.{Answered}
use Rattle.gss_server.specs.declared.asks.Asks.{Asks}
use Rattle.gss_server.specs.declared.gate.Gate.{Ghosts}
use Rattle.gss_server.specs.declared.saying.Said.{Said}

-- a gate, from its old state to its new one, was asked these, and tells them where it has room for
-- so many
abbrev pub Questions : {S : Type 0} → Ghosts S → ℕ → S → S → List (Asked Admitted) → Type 0
Questions gate least old new = IsAsked gate.answers gate.tells gate.room gate.told least old new

-- the gate has answered nothing yet
abbrev pub unasked : Asks
unasked = record { negotiated = None; looked = None; admitted = None; ended = None }

-- what is said is what the ruling says, unless memory was wanted where it may be, and fits into a
-- record; each answer that is kept was asked for, and none is missing; the gate was asked exactly
-- the ruling's questions, in order; whether it tells, and its limits, are as before
pub record IsRuled {S : Type 0} (gate : Ghosts S) (least : ℕ) (old new : S) (asks : Asks)
    (said : Said) (ruling : Ruling) : Type 0 where
  pub says : Says said.reply said.rule ruling
  pub fits : Fits said.reply
  pub exact : length ruling.asked ≡ count_of asks.negotiated asks.looked asks.admitted asks.ended
  pub asked : Questions gate least old new ruling.asked
  pub tells : gate.tells new ≡ gate.tells old
  pub limits : gate.limits new ≡ gate.limits old

-- the same of a call whose context was shown: it asks one question at most, and for no context
pub record IsRuledInContext {S : Type 0} (gate : Ghosts S) (old new : S) (asks : Asks)
    (said : Said) (ruling : Ruling) : Type 0 where
  pub ruled : IsRuled gate 1 old new asks said ruling
  pub unlooked : asks.looked ≡ None

-- what is said to a call of the context that a lease shows, where its verifier, its program or its
-- version refuses it, whatever decides behind them
abbrev pub IsScreened : Shown → CredValue → Lease → Option Said → Type 0
IsScreened s cred lease None = IsInContext s lease
IsScreened s cred lease (Some said) = (rest : Ruling) → IsSaid said (in_context s cred lease rest)

-- what a record's answer has of what was asked
abbrev pub asks_of : Answered → Asks
asks_of answered = record {
  negotiated = answered.kept.negotiated;
  looked = answered.kept.looked;
  admitted = answered.kept.admitted;
  ended = answered.kept.ended;
}

-- what a record's answer has of what is said
abbrev pub said_of : Answered → Said
said_of answered = record { rule = answered.rule; reply = answered.reply }

-- a record was answered at this moment by these draws: the rule, the reply and what the gate was
-- asked are the ruling's, by what was kept
pub record AnswersRecord {S : Type 0} (gate : Ghosts S) (old new : S) (octets : List ℕ)
    (moment : ℕ) (drawing : List ℕ) (serves : Serving) (answered : Answered) : Type 0 where
  pub ruled : IsRuled gate 2 old new (asks_of answered) (said_of answered)
      (record_ruling octets (kept_answers answered.kept) serves)
  pub now : answered.kept.now ≡ moment
  pub draws : answered.kept.draws ≡ drawing
  pub drawn : length answered.kept.draws ≡ 82

-- what is kept of the answer to a record with this moment and these draws
abbrev pub kept_with : ℕ → List ℕ → Asks → KeptAnswers
kept_with now draws asks = record {
  now = now;
  draws = draws;
  negotiated = asks.negotiated;
  looked = asks.looked;
  admitted = asks.admitted;
  ended = asks.ended;
}
