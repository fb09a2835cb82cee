-- A client's talk over calls that may differ: each in its order, the end of the context, and the
-- creation before them, by whichever machine the initiator is.
use Rattle.std.specs.Prelude.{ℕ, ◌==◌, if◌then◌else◌, List, [], ◌∷◌, map, take, drop}
use Rattle.std.specs.Prelude.{Some, None, Result, Ok, Err}
use Rattle.gss_client.specs.declared.conversation.Parting.TheVariants.{Finished, Spent, Refused}
use Rattle.gss_client.specs.Query.{QuerySays}
use Rattle.gss_client.specs.declared.refusal.ClientRefusal.{ClientRefusal}
use Rattle.gss_client.specs.Start.{StartSays}
use Rattle.gss_client.specs.Conversation.{Conversed, leaves, goes_on, Talk, by_session}
use Rattle.gss_client.specs.Session.{SessionState}
use Rattle.gss_client.specs.Talk.{created_from, calls, destroys}
use Rattle.gss_client.specs.Talking.{Said, Talking}

-- a call that is due: what is asked, and the arguments
pub record DueCall : Type 0 where
  pub query : QuerySays
  pub args : List ℕ

-- the same as it lies in memory, with whatever says what is asked
pub record DueOf (Q : Type 0) : Type 0 where
  pub query : Q
  pub args : List ℕ

-- the call, by what is said there
abbrev pub call_of : {Q : Type 0} → (Q → QuerySays) → DueOf Q → DueCall
call_of says due = record { query = says due.query; args = due.args }

-- each of a list
abbrev pub calls_of : {Q : Type 0} → (Q → QuerySays) → List (DueOf Q) → List DueCall
calls_of says due = map (call_of says) due

-- ---- the calls of a session, and the end of its context

-- each of these calls, with the next 16 random octets as its confounder, and then the destruction.
-- Where a call is due and the numbers are spent, it isn't made, and the context is destroyed.
unfoldable pub confers : List DueCall → SessionState → List ℕ → List ℕ → Conversed
confers [] s draws stream = leaves Finished draws (destroys s stream)
confers (call ∷ later) s draws stream =
    if s.number == 0x80000000 then leaves Spent draws (destroys s stream)
    else (let said : Said (SessionState × List ℕ) =
    calls s call.query.number call.args (take 16 draws) stream in
    goes_on call.query said.written (drop 16 draws) said.rest (confers later) said.answer)

-- ---- a whole session

-- a talk by what its creation answered: with a session these calls follow, without one it ends
abbrev pub by_opening : List DueCall → List ℕ → List ℕ → List ℕ
    → Result SessionState ClientRefusal → Talk
by_opening due draws written rest (Ok s) =
    by_session written (Some s.outcome) (confers due s draws rest)
by_opening due draws written rest (Err refusal) = record {
  written = written;
  outcome = None;
  results = [];
  parting = Refused refusal;
  undrawn = draws;
  rest = rest;
}

-- this creation of a context, these calls, and the destruction
unfoldable pub talk_behind : Talking SessionState → List DueCall → List ℕ → List ℕ → Talk
talk_behind creation due draws stream =
    let said : Said SessionState = creation stream in
    by_opening due draws said.written said.rest said.answer

-- the creation of a context from this start, by plain credentials, these calls, and the
-- destruction
abbrev pub talk_of : StartSays → List DueCall → List ℕ → List ℕ → Talk
talk_of start due draws stream = talk_behind (created_from start) due draws stream
