-- A client's whole talk: calls of one procedure after the other, the end of the context, and the
-- creation before them. Each is a function of what the client begins with, the octets that its
-- source of random octets gives, and the stream of octets that it hears.
use Rattle.std.specs.Prelude.{ℕ, zero, suc, ◌==◌, if◌then◌else◌, List, [], ◌∷◌, ◌++◌, take, drop}
use Rattle.std.specs.Prelude.{Option, Some, None, Result, Ok, Err}
use Rattle.spnego_core.specs.declared.outcome.Outcome.{Outcome}
use Rattle.gss_client.specs.declared.conversation.Parting.{Parting}
use Rattle.gss_client.specs.declared.conversation.Parting.TheVariants.{Finished, Spent, Foreign}
use Rattle.gss_client.specs.declared.conversation.Parting.TheVariants.{Refused}
use Rattle.gss_client.specs.Query.{QuerySays}
use Rattle.gss_client.specs.declared.refusal.ClientRefusal.{ClientRefusal}
use Rattle.gss_client.specs.Start.{StartSays}
use Rattle.gss_client.specs.Session.{SessionState}
use Rattle.gss_client.specs.Talk.{created_from, calls, destroys}
use Rattle.gss_client.specs.Talking.{Said, Talking}

-- ---- the calls of a session, and the end of its context

-- the octets that were written, the results of the calls in their order, how it ended, the random
-- octets that weren't drawn, and the rest of the stream
pub record Conversed : Type 0 where
  pub written : List ℕ
  pub results : List (List ℕ)
  pub parting : Parting
  pub undrawn : List ℕ
  pub rest : List ℕ

-- a conversation with these parts
abbrev pub conversed : List ℕ → List (List ℕ) → Parting → List ℕ → List ℕ → Conversed
conversed written results parting undrawn rest = record {
  written = written;
  results =
      results;
  parting = parting;
  undrawn = undrawn;
  rest = rest;
}

-- the same behind what was written and answered before
abbrev pub behind : List ℕ → List (List ℕ) → Conversed → Conversed
behind written results c =
    conversed (written ++ c.written) (results ++ c.results) c.parting c.undrawn c.rest

-- the end that was due, unless the destruction was refused
abbrev pub parted : Parting → Result (Unit {0}) ClientRefusal → Parting
parted due (Ok destroyed) = due
parted due (Err refusal) = Refused refusal

-- the context was destroyed
abbrev pub leaves : Parting → List ℕ → Said (Unit {0}) → Conversed
leaves due undrawn s = conversed s.written [] (parted due s.answer) undrawn s.rest

-- a call was answered: its result counts if it is one of the procedure, and the conversation goes
-- on; else it ends here, and nothing more is written
abbrev pub goes_on : QuerySays → List ℕ → List ℕ → List ℕ
    → (SessionState → List ℕ → List ℕ → Conversed) → Result (SessionState × List ℕ) ClientRefusal
    → Conversed
goes_on query written undrawn rest next (Ok called) =
    if query.is_result called.1 then behind written (called.1 ∷ []) (next called.0 undrawn rest)
    else conversed written [] Foreign undrawn rest
goes_on query written undrawn rest next (Err refusal) =
    conversed written [] (Refused refusal) undrawn rest

-- so many calls of a procedure with these arguments, each with the next 16 random octets as its
-- confounder, and then the destruction. Where a call is due and the numbers are spent, it isn't
-- made, and the context is destroyed.
unfoldable pub converses : ℕ → QuerySays → List ℕ → SessionState → List ℕ → List ℕ → Conversed
converses zero query args s draws stream = leaves Finished draws (destroys s stream)
converses (suc left) query args s draws stream =
    if s.number == 0x80000000 then leaves Spent draws (destroys s stream)
    else (let said : Said (SessionState × List ℕ) =
    calls s query.number args (take 16 draws) stream in
    goes_on query said.written (drop 16 draws) said.rest (converses left query args)
    said.answer)

-- ---- a whole session

-- the outcome is there once the context stands
pub record Talk : Type 0 where
  pub written : List ℕ
  pub outcome : Option Outcome
  pub results : List (List ℕ)
  pub parting : Parting
  pub undrawn : List ℕ
  pub rest : List ℕ

-- the talk of a session: its creation wrote this and agreed on this, and its calls went so
abbrev pub by_session : List ℕ → Option Outcome → Conversed → Talk
by_session written outcome c =
    record {
      written = written ++ c.written;
      outcome = outcome;
      results = c.results;
      parting =
          c.parting;
      undrawn = c.undrawn;
      rest = c.rest;
    }

-- a talk by what its creation answered: with a session its calls follow, without one it ends
abbrev pub by_creation : ℕ → QuerySays → List ℕ → List ℕ → List ℕ → List ℕ
    → Result SessionState ClientRefusal → Talk
by_creation times query args draws written rest (Ok s) =
    by_session written (Some s.outcome) (converses times query args s draws rest)
by_creation times query args draws written rest (Err refusal) =
    record {
      written = written;
      outcome = None;
      results = [];
      parting = Refused refusal;
      undrawn =
          draws;
      rest = rest;
    }

-- this creation of a context, so many calls, and the destruction
unfoldable pub talk_by : Talking SessionState → ℕ → QuerySays → List ℕ → List ℕ → List ℕ → Talk
talk_by creation times query args draws stream =
    let said : Said SessionState = creation stream in
    by_creation times query args draws said.written said.rest said.answer

-- the creation of a context from this start, by plain credentials, so many calls, and the
-- destruction
abbrev pub talk : StartSays → ℕ → QuerySays → List ℕ → List ℕ → List ℕ → Talk
talk start times query args draws stream =
    talk_by (created_from start) times query args draws stream
