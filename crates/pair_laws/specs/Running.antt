-- A session's run against an acceptor's book: calls of one procedure, and the end of the context,
-- over the book that created it.
use Rattle.std.specs.Prelude.{◌≡◌, ℕ, zero, suc, ◌+◌, ◌-◌, ◌*◌, ◌<◌, ◌≤◌}
use Rattle.std.specs.Prelude.{◌^◌, nat_le, true, List, []}
use Rattle.std.specs.Prelude.{◌∷◌, ◌++◌, length, drop, replicate, if◌then◌else◌, map}
use Rattle.std.specs.Prelude.{Some, None}
use Rattle.std.specs.List.{flat_map}
use Rattle.sha1.specs.Sha1.{sha1}
use Rattle.krb_derive.specs.declared.key.Key.{Key}
use Rattle.rpc_msgs.specs.Records.{last_fragment}
use Rattle.seq_window.specs.Marks.{greatest}
use Rattle.context_table.specs.Places.{slot_at}
use Rattle.spnego_core.specs.declared.setup.AcceptSetup.{AcceptSetup}
use Rattle.spnego_core.specs.declared.accept_end.AcceptEnd.{AcceptEnd}
use Rattle.spnego_core.specs.declared.outcome.Outcome.{Outcome}
use Rattle.accept_book.specs.Booking.{BookOf}
use Rattle.accept_core.specs.History.{standing, numbers}
use Rattle.accept_book.specs.Honest.{IsOctets}
use Rattle.accept_book.specs.RecordShown.{KeptAnswers}
use Rattle.accept_book.specs.RecordRule.{record_ruling}
use Rattle.accept_core.specs.Replays.{Accepting}
use Rattle.accept_book.specs.declared.book_answer.Lease.{Lease}
use Rattle.accept_core.specs.declared.entry.Entry.{Entry}
use Rattle.accept_core.specs.declared.entry.Entry.TheVariants.{Call, Ended}
use Rattle.accept_core.specs.declared.entry.EndCause.TheVariants.{Destroyed}
use Rattle.gss_client.specs.declared.conversation.Parting.{Parting}
use Rattle.gss_client.specs.declared.conversation.Parting.TheVariants.{Finished, Spent}
use Rattle.gss_client.specs.Query.{QuerySays}
use Rattle.gss_client.specs.Start.{StartSays}
use Rattle.gss_client.specs.declared.terms.Terms.{Terms}
use Rattle.rpcsec_bodies.specs.Service.{number_of}
use Rattle.gss_client.specs.Conferring.{DueCall}
use Rattle.gss_client.specs.Conversation.{converses, talk}
use Rattle.gss_server.specs.Connections.{framed}
use Rattle.rpc_program.specs.Programs.{ProgramSays}
use Rattle.rpc_program.specs.declared.limits.TheConstants.{MOST}
use Rattle.pair_laws.specs.Answering.{Server}
use Rattle.pair_laws.specs.Booked.{id_in}
use Rattle.pair_laws.specs.Honest.{HonestExchange}
use Rattle.pair_laws.specs.HonestCalls.{IsToServer, session_on}
use Rattle.pair_laws.specs.Laws.{Completes}
use Rattle.pair_laws.specs.Live.{lease_on}
use Rattle.pair_laws.specs.Turns.{IsAnsweredBy}

-- ---- what the server does

-- a record of the session, what was kept of its answer, and the book as it was asked and as it is
-- afterwards
pub record Turn : Type 0 where
  pub octets : List ℕ
  pub kept : KeptAnswers
  pub before : BookOf
  pub after : BookOf

-- what the session writes in a turn
abbrev pub sent_in : Turn → List ℕ
sent_in turn = last_fragment turn.octets

-- what it hears
abbrev pub heard_in : Server → Turn → List ℕ
heard_in serves turn = framed (record_ruling turn.octets turn.kept serves.serving).reply

-- the context of an id is in both books the same, and no number was called of it meanwhile
pub record IsUntouched (id : ℕ) (old new : Accepting AcceptEnd Outcome) : Type 0 where
  pub stands : standing id new.history ≡ standing id old.history
  pub called : numbers id new.history ≡ numbers id old.history
  pub slot : slot_at new.table id ≡ slot_at old.table id

-- the record is within its limit, and is answered by a book that has the context as it was; 82
-- octets were drawn for it
pub record IsServed (serves : Server) (lease : Lease) (core : Accepting AcceptEnd Outcome)
    (turn : Turn) : Type 0 where
  pub within : length turn.octets ≤ 131072
  pub untouched : IsUntouched lease.id core turn.before.core
  pub wide : 0 < turn.before.core.width
  pub answered : IsAnsweredBy serves lease.ends turn.octets turn.kept turn.before turn.after
  pub drawn : length turn.kept.draws ≡ 82
  pub octets : IsOctets turn.kept.draws

-- the same of each of these turns, one after the other
abbrev pub Serves : Server → Lease → Accepting AcceptEnd Outcome → List Turn → Type 0
Serves serves lease core [] = Unit {0}
Serves serves lease core (turn ∷ turns) =
    IsServed serves lease core turn × Serves serves lease turn.after.core turns

-- ---- what the session asks for

-- a call asks a procedure that the program has, with that procedure's arguments, by a service that
-- the procedure allows
pub record IsProper (program : ProgramSays) (terms : Terms) (call : DueCall) : Type 0 where
  pub fits : call.query.number < 2 ^ 32
  pub served : program.has call.query.number ≡ true
  pub proper : program.takes call.query.number call.args ≡ true
  pub protected : number_of (program.needs call.query.number) ≤ number_of terms.service
  pub size : length call.args ≤ 65540
  pub octets : IsOctets call.args

-- calls of the program from a number on, each the same proper one, with random octets
pub record IsPlan (program : ProgramSays) (terms : Terms) (first : ℕ) (query : QuerySays)
    (args confounders : List ℕ) : Type 0 where
  pub called : IsToServer program terms
  pub first_fits : first ≤ 0x80000000
  pub proper : IsProper program terms (record { query = query; args = args })
  pub octets : IsOctets confounders

-- ---- what the program gives

-- octets are a result of what was asked, and fit into a reply
pub record IsResult (query : QuerySays) (result : List ℕ) : Type 0 where
  pub taken : query.is_result result ≡ true
  pub short : length result ≤ MOST
  pub octets : IsOctets result

-- whatever the log, the server's result of a call by this name is one
abbrev pub Succeeds : Server → List ℕ → DueCall → Type 0
Succeeds serves name call = (log : List Entry)
    → IsResult call.query (serves.results name call.query.number call.args log)

-- what was kept of the turns' answers
abbrev pub answers_of : List Turn → List KeptAnswers
answers_of turns = map (λ turn. turn.kept) turns

-- behind its creation a session writes records and hears the replies to them, from the book that
-- settled its context, of which no number from the first on was called yet; the server's results
-- are results of what is asked
pub record HonestRun (setup : AcceptSetup) (serves : Server) (start : StartSays) (stream : List ℕ)
    (x : HonestExchange setup serves start stream) (c : Completes setup serves start stream x)
    (times : ℕ) (query : QuerySays) (args confounders : List ℕ) : Type 0 where
  pub turns : List Turn
  pub rest : List ℕ
  pub written : (converses times query args
      (session_on (lease_on (id_in x.books) c.outcome c.lasts) start.terms start.first
      (1 + length x.answers)) confounders x.converses.rest).written ≡ flat_map sent_in turns
  pub heard : x.converses.rest ≡ flat_map (heard_in serves) turns ++ rest
  pub served : Serves serves (lease_on (id_in x.books) c.outcome c.lasts) c.core turns
  pub unused : greatest (numbers (id_in x.books) c.core.history) < start.first
  pub plan : IsPlan serves.serving.program start.terms start.first query args confounders
  pub enough : 16 * times ≤ length confounders
  pub succeeds : Succeeds serves c.outcome.initiator (record { query = query; args = args })

-- ---- what comes of it

-- how many calls are made: so many, or as many as numbers are left
abbrev pub calls_made : ℕ → ℕ → ℕ
calls_made first times = if nat_le (first + times) 0x80000000 then times else 0x80000000 - first

-- how the session parts: all calls were made, or the numbers are spent
abbrev pub parting_of : ℕ → ℕ → Parting
parting_of first times = if nat_le (first + times) 0x80000000 then Finished else Spent

-- the server's results of these calls by this name, each by the log that has it
abbrev pub results_in : Server → List DueCall → List ℕ → List Turn → List (List ℕ)
results_in serves [] name turns = []
results_in serves (call ∷ later) name [] = []
results_in serves (call ∷ later) name (turn ∷ turns) =
    serves.results name call.query.number call.args turn.after.core.history
    ∷ results_in serves later name turns

-- a call was answered by rule 23, and the log has it
pub record IsLogged (serves : Server) (lease : Lease) (number procedure : ℕ) (args : List ℕ)
    (turn : Turn) : Type 0 where
  pub rule : (record_ruling turn.octets turn.kept serves.serving).rule ≡ 23
  pub history : turn.after.core.history
      ≡ Call lease.id number procedure (sha1 args) ∷ turn.before.core.history

-- the destruction was answered by rule 24, the log has the end, and the context is gone
pub record IsGone (serves : Server) (lease : Lease) (number : ℕ) (turn : Turn) : Type 0 where
  pub rule : (record_ruling turn.octets turn.kept serves.serving).rule ≡ 24
  pub history : turn.after.core.history
      ≡ Ended lease.id (Destroyed number) ∷ turn.before.core.history
  pub gone : slot_at turn.after.core.table lease.id ≡ None

-- so many calls from a number on, each with the next one, and then the destruction
abbrev pub Logged : Server → Lease → ℕ → List ℕ → ℕ → ℕ → List Turn → Type 0
Logged serves lease procedure args zero number [] = ⊥
Logged serves lease procedure args zero number (last ∷ []) = IsGone serves lease number last
Logged serves lease procedure args zero number (turn ∷ next ∷ turns) = ⊥
Logged serves lease procedure args (suc made) number [] = ⊥
Logged serves lease procedure args (suc made) number (turn ∷ turns) =
    IsLogged serves lease number procedure args turn
    × Logged serves lease procedure args made (number + 1) turns

-- the session agrees on the outcome, is answered the server's results, parts with all calls made
-- or its numbers spent, and leaves the rest of the stream and of the random octets; the book has
-- each call in its log, and has destroyed the context
pub record Runs (setup : AcceptSetup) (serves : Server) (start : StartSays) (stream : List ℕ)
    (x : HonestExchange setup serves start stream) (c : Completes setup serves start stream x)
    (times : ℕ) (query : QuerySays) (args confounders : List ℕ)
    (r : HonestRun setup serves start stream x c times query args confounders) : Type 0 where
  pub session : talk start times query args confounders stream ≡ record {
    written = flat_map last_fragment x.converses.records ++ flat_map sent_in r.turns;
    outcome = Some c.outcome;
    results = results_in serves (replicate (calls_made start.first times)
        (record { query = query; args = args })) c.outcome.initiator r.turns;
    parting = parting_of start.first times;
    undrawn = drop (16 * calls_made start.first times) confounders;
    rest = r.rest;
  }
  pub logged : Logged serves (lease_on (id_in x.books) c.outcome c.lasts)
      query.number args (calls_made start.first times) start.first r.turns

-- every honest run on this key is complete
abbrev pub RunLaw : Key → Type 0
RunLaw key =
    (setup : AcceptSetup) (serves : Server) (start : StartSays) (stream : List ℕ)
    (x : HonestExchange setup serves start stream) (c : Completes setup serves start stream x)
    (times : ℕ) (query : QuerySays) (args confounders : List ℕ) → c.outcome.key ≡ key
    → (r : HonestRun setup serves start stream x c times query args confounders)
    → Runs setup serves start stream x c times query args confounders r
