-- A session's run against an acceptor's book, of calls that may differ: each of them, and the end
-- of the context, over the book that created it.
use Rattle.std.specs.Prelude.{◌≡◌, ℕ, ◌+◌, ◌*◌, ◌<◌, ◌≤◌, List, [], ◌∷◌, ◌++◌, length, take}
use Rattle.std.specs.Prelude.{drop, Some}
use Rattle.std.specs.List.{AllByRecursion, flat_map}
use Rattle.krb_derive.specs.declared.key.Key.{Key}
use Rattle.rpc_msgs.specs.Records.{last_fragment}
use Rattle.seq_window.specs.Marks.{greatest}
use Rattle.spnego_core.specs.declared.setup.AcceptSetup.{AcceptSetup}
use Rattle.accept_core.specs.History.{numbers}
use Rattle.accept_book.specs.Honest.{IsOctets}
use Rattle.accept_book.specs.declared.book_answer.Lease.{Lease}
use Rattle.gss_client.specs.declared.terms.Terms.{Terms}
use Rattle.gss_client.specs.Start.{StartSays}
use Rattle.gss_client.specs.Conferring.{DueCall, confers, talk_of}
use Rattle.rpc_program.specs.Programs.{ProgramSays}
use Rattle.pair_laws.specs.Answering.{Server}
use Rattle.pair_laws.specs.Booked.{id_in}
use Rattle.pair_laws.specs.Honest.{HonestExchange}
use Rattle.pair_laws.specs.HonestCalls.{IsToServer, session_on}
use Rattle.pair_laws.specs.Laws.{Completes}
use Rattle.pair_laws.specs.Live.{lease_on}
use Rattle.pair_laws.specs.Running.{Turn, sent_in, heard_in, Serves, IsProper, calls_made}
use Rattle.pair_laws.specs.Running.{Succeeds, results_in, parting_of, IsLogged, IsGone}

-- ---- what the session asks for

-- proper calls of the program from a number on, with random octets of which there are 16 for each
pub record ArePlanned (program : ProgramSays) (terms : Terms) (first : ℕ) (due : List DueCall)
    (confounders : List ℕ) : Type 0 where
  pub called : IsToServer program terms
  pub first_fits : first ≤ 0x80000000
  pub each : AllByRecursion (IsProper program terms) due
  pub octets : IsOctets confounders
  pub enough : 16 * length due ≤ length confounders

-- behind its creation a session makes these calls: it writes records and hears the replies to them,
-- from the book that settled its context, of which no number from the first on was called yet; the
-- server's results are results of what is asked
pub record HonestSession (setup : AcceptSetup) (serves : Server) (start : StartSays)
    (stream : List ℕ)
    (x : HonestExchange setup serves start stream) (c : Completes setup serves start stream x)
    (due : List DueCall) (confounders : List ℕ) : Type 0 where
  pub turns : List Turn
  pub rest : List ℕ
  pub written : (confers due
      (session_on (lease_on (id_in x.books) c.outcome c.lasts) start.terms start.first
      (1 + length x.answers)) confounders x.converses.rest).written ≡ flat_map sent_in turns
  pub heard : x.converses.rest ≡ flat_map (heard_in serves) turns ++ rest
  pub served : Serves serves (lease_on (id_in x.books) c.outcome c.lasts) c.core turns
  pub unused : greatest (numbers (id_in x.books) c.core.history) < start.first
  pub planned : ArePlanned serves.serving.program start.terms start.first due confounders
  pub succeed : AllByRecursion (Succeeds serves c.outcome.initiator) due

-- ---- what comes of it

-- the calls of a list that are made from a number on: all, or as many as numbers are left
abbrev pub made_of : ℕ → List DueCall → List DueCall
made_of first due = take (calls_made first (length due)) due

-- these calls, the first with this number and each with the next one, and then the destruction
abbrev pub AreLogged : Server → Lease → List DueCall → ℕ → List Turn → Type 0
AreLogged serves lease [] number [] = ⊥
AreLogged serves lease [] number (last ∷ []) = IsGone serves lease number last
AreLogged serves lease [] number (turn ∷ next ∷ turns) = ⊥
AreLogged serves lease (call ∷ later) number [] = ⊥
AreLogged serves lease (call ∷ later) number (turn ∷ turns) =
    IsLogged serves lease number call.query.number call.args turn
    × AreLogged serves lease later (number + 1) turns

-- the session agrees on the outcome, is answered the server's results, parts with all calls made
-- or its numbers spent, and leaves the rest of the stream and of the random octets; the book has
-- each call in its log, and has destroyed the context
pub record SessionRuns (setup : AcceptSetup) (serves : Server) (start : StartSays) (stream : List ℕ)
    (x : HonestExchange setup serves start stream) (c : Completes setup serves start stream x)
    (due : List DueCall) (confounders : List ℕ)
    (r : HonestSession setup serves start stream x c due confounders) : Type 0 where
  pub session : talk_of start due confounders stream ≡ record {
    written = flat_map last_fragment x.converses.records ++ flat_map sent_in r.turns;
    outcome = Some c.outcome;
    results = results_in serves (made_of start.first due) c.outcome.initiator r.turns;
    parting = parting_of start.first (length due);
    undrawn = drop (16 * calls_made start.first (length due)) confounders;
    rest = r.rest;
  }
  pub logged : AreLogged serves (lease_on (id_in x.books) c.outcome c.lasts)
      (made_of start.first due) start.first r.turns

-- every honest session on this key is complete
abbrev pub SessionLaw : Key → Type 0
SessionLaw key =
    (setup : AcceptSetup) (serves : Server) (start : StartSays) (stream : List ℕ)
    (x : HonestExchange setup serves start stream) (c : Completes setup serves start stream x)
    (due : List DueCall) (confounders : List ℕ) → c.outcome.key ≡ key
    → (r : HonestSession setup serves start stream x c due confounders)
    → SessionRuns setup serves start stream x c due confounders r
