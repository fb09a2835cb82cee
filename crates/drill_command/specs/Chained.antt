-- The sessions of a drill, one after the other over one book.
use Rattle.std.specs.Prelude.{◌≡◌, ℕ, zero, suc, ◌+◌, ◌%◌, ◌^◌, List, [], ◌∷◌, ◌++◌, reverse}
use Rattle.accept_book.specs.Booking.{BookOf}
use Rattle.accept_core.specs.declared.entry.Entry.{Entry}
use Rattle.gss_server.specs.declared.answer.Kept.{Kept}
use Rattle.gss_client.specs.Conferring.{DueCall}
use Rattle.pair_laws.specs.Resting.{RestsAt}
use Rattle.drill_command.specs.Drilled.{calls_of, client_before, IsDrilled}
use Rattle.drill_command.specs.Held.{after_answers}
use Rattle.drill_plan.specs.Limits.{book_limits, drill_limits}
use Rattle.drill_command.specs.Rested.{IsNext}
use Rattle.drill_plan.specs.Sessions.{session_count, moment_of}
use Rattle.drill_plan.specs.Setting.{drill_acceptor}
use Rattle.drill_plan.specs.declared.session.DrillSession.{DrillSession}

-- a session of these calls was held behind others, from one book to another; the client's generator
-- had this value, and the server's went on from the one to the other
pub record IsAdded (number client server server' : ℕ) (wanted : List DueCall) (old new : BookOf)
    (sessions sessions' : List DrillSession) : Type 0 where
  pub one : DrillSession
  pub kept : List Kept
  pub next : IsNext number client server wanted old new kept one
  pub goes_on : server' ≡ after_answers kept server
  pub added : sessions' ≡ sessions ++ one ∷ []

-- so many sessions were held, each over the book that the one before it left, and with the octets
-- that come next of the client's generator and of the server's. The server's begins with the second
-- number after the seed, and has this value in the end.
abbrev pub AreHeld : ℕ → ℕ → ℕ → BookOf → BookOf → List DrillSession → ℕ → Type 0
AreHeld seed calls zero first book sessions server =
    (book ≡ first) × (sessions ≡ []) × (server ≡ (seed + 2) % 2 ^ 64)
AreHeld seed calls (suc number) first book sessions server =
    (before : BookOf) × (front : List DrillSession) × (value : ℕ)
    × AreHeld seed calls number first before front value
    × IsAdded number (client_before seed calls number) value server (calls_of seed calls number)
    before book front sessions

-- ---- all sessions

-- a drill's book before the first session: it has the server's setup and limits, and no entry, and
-- is at rest
pub record IsFirst (book : BookOf) : Type 0 where
  pub setup : book.setup ≡ drill_acceptor
  pub limits : book_limits book ≡ drill_limits
  pub empty : book.core.history ≡ []
  pub rests : RestsAt 0 (moment_of 0) book.core

-- all sessions of a drill were held, from its first book on; the last one left the book with this
-- log. The sessions and the log are as they should be.
pub record AreAllHeld (seed calls : ℕ) (sessions : List DrillSession) (log : List Entry) : Type 0
  where
    pub first : BookOf
    pub last : BookOf
    pub server : ℕ
    pub begins : IsFirst first
    pub held : AreHeld seed calls (session_count calls) first last sessions server
    pub log_is : reverse log ≡ last.core.history
    pub done : IsDrilled seed calls sessions log
