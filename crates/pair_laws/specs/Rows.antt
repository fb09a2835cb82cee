-- A session's turns in a row: between two of them nobody else asks the book anything.
use Rattle.std.specs.Prelude.{◌≡◌, ◌⊎◌, ℕ, ◌+◌, ◌*◌, ◌<◌, ◌≤◌, ◌^◌, max, List, [], ◌∷◌, ◌++◌}
use Rattle.std.specs.Prelude.{length, map, None}
use Rattle.std.specs.List.{AllByRecursion, flat_map}
use Rattle.sha1.specs.Sha1.{sha1}
use Rattle.krb_derive.specs.declared.key.Key.{Key}
use Rattle.rpc_msgs.specs.Records.{Fragments, octets_in, last_fragment, IsRecord, IsFront}
use Rattle.rpc_msgs.specs.Records.{IsTooLong, IsTooMany}
use Rattle.context_table.specs.Places.{slot_at, KeepsOthers}
use Rattle.accept_book.specs.Booking.{BookOf}
use Rattle.accept_book.specs.Honest.{IsOctets}
use Rattle.accept_book.specs.RecordRule.{record_ruling}
use Rattle.accept_book.specs.declared.book_answer.Lease.{Lease}
use Rattle.accept_core.specs.declared.entry.EndCause.TheVariants.{Destroyed}
use Rattle.accept_core.specs.declared.entry.Entry.{Entry}
use Rattle.accept_core.specs.declared.entry.Entry.TheVariants.{Call, Ended}
use Rattle.gss_client.specs.declared.terms.Terms.{Terms}
use Rattle.gss_client.specs.Session.{SessionState}
use Rattle.gss_server.specs.Answers.{IsDecided}
use Rattle.gss_server.specs.Asking.{Asking}
use Rattle.gss_server.specs.Connections.{octets_of, written_in, asked_in, AllDecided, AllExact}
use Rattle.gss_server.specs.Hearing.{kept_answers}
use Rattle.gss_server.specs.declared.answer.Kept.{Kept}
use Rattle.gss_client.specs.Conferring.{DueCall, confers}
use Rattle.pair_laws.specs.Answering.{Server, AnswersBy}
use Rattle.pair_laws.specs.Conversing.{IsWithin}
use Rattle.pair_laws.specs.HonestCalls.{session_on}
use Rattle.pair_laws.specs.Live.{IsLiveAt}
use Rattle.pair_laws.specs.Running.{Turn, sent_in, heard_in, Serves, Succeeds, answers_of}
use Rattle.pair_laws.specs.Sessions.{ArePlanned, made_of}
use Rattle.pair_laws.specs.Running.{results_in}

-- ---- turns in a row

-- the record is within its limit, and a rule decides it; the book gave each answer that the rule
-- asked for, at a moment that isn't behind this end; 82 octets were drawn for it
pub record IsTurn (serves : Server) (lasts : ℕ) (turn : Turn) : Type 0 where
  pub within : length turn.octets ≤ 131072
  pub decided : IsDecided (record_ruling turn.octets turn.kept serves.serving)
  pub asked : Asking (AnswersBy serves) turn.before
      (record_ruling turn.octets turn.kept serves.serving).asked turn.after
  pub lasting : turn.kept.now ≤ lasts
  pub drawn : length turn.kept.draws ≡ 82
  pub octets : IsOctets turn.kept.draws

-- each of these turns begins at the book that the one before it left: from one book to another
abbrev pub InRow : Server → ℕ → BookOf → List Turn → BookOf → Type 0
InRow serves lasts old [] new = new ≡ old
InRow serves lasts old (turn ∷ turns) new =
    (turn.before ≡ old) × IsTurn serves lasts turn × InRow serves lasts turn.after turns new

-- ---- records that were answered one after the other

-- a kept answer was given at a moment that isn't behind this end, by octets
pub record IsKeptBy (lasts : ℕ) (kept : Kept) : Type 0 where
  pub lasting : kept.now ≤ lasts
  pub octets : IsOctets kept.draws

-- rules decided these records by these answers, of which a book was asked each part in order
pub record AreAnswered (serves : Server) (lasts : ℕ) (records : List Fragments)
    (answers : List Kept)
    (old new : BookOf) : Type 0 where
  pub each : AllByRecursion IsRecord records
  pub counted : length records ≡ length answers
  pub exact : AllExact serves.serving records answers
  pub decided : AllDecided serves.serving records answers
  pub asked : Asking (AnswersBy serves) old (asked_in serves.serving records answers) new
  pub kept : AllByRecursion (IsKeptBy lasts) answers

-- records of a stream, however each is cut into fragments, are those of the turns
abbrev pub AreCuts : List Fragments → List Turn → Type 0
AreCuts [] [] = Unit {0}
AreCuts [] (turn ∷ turns) = ⊥
AreCuts (cut ∷ records) [] = ⊥
AreCuts (cut ∷ records) (turn ∷ turns) =
    IsRecord cut × (octets_in cut ≡ turn.octets) × AreCuts records turns

-- they are turns in a row, with these answers and with the replies that were written
pub record AreTurns (serves : Server) (lasts : ℕ) (records : List Fragments) (answers : List Kept)
    (old new : BookOf) : Type 0 where
  pub turns : List Turn
  pub row : InRow serves lasts old turns new
  pub cuts : AreCuts records turns
  pub kept : answers_of turns ≡ map kept_answers answers
  pub replies : flat_map (heard_in serves) turns ≡ written_in serves.serving records answers

-- a row is cut in two, where another book stands
pub record IsCutAt (serves : Server) (lasts : ℕ) (old : BookOf) (front back : List Turn)
    (new : BookOf) : Type 0
  where
    pub middle : BookOf
    pub before : InRow serves lasts old front middle
    pub behind : InRow serves lasts middle back new

-- what stands behind the whole records of a stream is no record: a front of one, or what begins
-- none, for it is too long or has too many fragments
abbrev pub IsNoRecord : List ℕ → Type 0
IsNoRecord rest = IsFront rest
    ⊎ ((front more : List ℕ) × (IsTooLong front ⊎ IsTooMany front) × (rest ≡ front ++ more))

-- a call's arguments fit into its record
abbrev pub IsSized : DueCall → Type 0
IsSized call = length call.args ≤ 65540

-- octets are whole records, each in one fragment and within its limit
pub record AreRecords (octets : List ℕ) : Type 0 where
  pub calls : List (List ℕ)
  pub each : AllByRecursion IsWithin calls
  pub is : octets ≡ flat_map last_fragment calls

-- records that were answered are turns in a row, which may be cut anywhere; what a session's calls
-- write are whole records, and where a stream of such reads as turns, they are the turns'
pub record ChainLaw : Type 0 where
  pub turns : (serves : Server) (lasts : ℕ) (records : List Fragments) (answers : List Kept)
      (old new : BookOf)
      → AreAnswered serves lasts records answers old new
      → AreTurns serves lasts records answers old new
  pub cuts : (serves : Server) (lasts : ℕ) (old : BookOf) (front back : List Turn) (new : BookOf)
      → InRow serves lasts old (front ++ back) new → IsCutAt serves lasts old front back new
  pub writes : (due : List DueCall) (s : SessionState) (draws stream : List ℕ)
      → length s.handle ≤ 64 → AllByRecursion IsSized due → 16 * length due ≤ length draws
      → AreRecords (confers due s draws stream).written
  pub reads : (calls : List (List ℕ)) (records : List Fragments) (turns : List Turn)
      (rest : List ℕ) → AllByRecursion IsWithin calls → AreCuts records turns → IsNoRecord rest
      → flat_map last_fragment calls ≡ octets_of records ++ rest
      → (flat_map last_fragment calls ≡ flat_map sent_in turns)

-- ---- a session in a row

-- these calls, and the end, as a row of turns from a book that has the context live and places in
-- its log
pub record IsRow (serves : Server) (lease : Lease) (terms : Terms) (first xid : ℕ)
    (due : List DueCall) (confounders stream : List ℕ) (old new : BookOf) (turns : List Turn)
    (rest : List ℕ) : Type 0 where
  pub id : lease.id < 2 ^ 64
  pub xid_fits : xid < 2 ^ 32
  pub live : IsLiveAt old lease first
  pub room : length old.core.history + length due < old.core.limit
  pub row : InRow serves lease.ends old turns new
  pub written : (confers due (session_on lease terms first xid) confounders stream).written
      ≡ flat_map sent_in turns
  pub heard : stream ≡ flat_map (heard_in serves) turns ++ rest
  pub planned : ArePlanned serves.serving.program terms first due confounders
  pub succeed : AllByRecursion (Succeeds serves lease.outcome.initiator) due

-- a history behind these calls of an id, the first with this number and each with the next one,
-- and the end
abbrev pub history_after : ℕ → ℕ → List DueCall → List Entry → List Entry
history_after id number [] h = Ended id (Destroyed number) ∷ h
history_after id number (call ∷ later) h =
    history_after id (number + 1) later
    (Call id number call.query.number (sha1 call.args) ∷ h)

-- the greatest moment once those of these turns were seen
abbrev pub greatest_after : List Turn → ℕ → ℕ
greatest_after [] greatest = greatest
greatest_after (turn ∷ turns) greatest = greatest_after turns (max greatest turn.kept.now)

-- the server's results of these calls of an id by a name, where nobody else asks the book anything:
-- the first has this number, and stands behind this log
abbrev pub results_by : Server → List ℕ → ℕ → ℕ → List DueCall → List Entry → List (List ℕ)
results_by serves name id number [] h = []
results_by serves name id number (call ∷ later) h =
    serves.results name call.query.number call.args
    (Call id number call.query.number (sha1 call.args) ∷ h)
    ∷ results_by serves name id (number + 1) later
    (Call id number call.query.number (sha1 call.args) ∷ h)

-- what such a row leaves: the log has the calls and the end and nothing else, the context is gone,
-- every other one is as it was, and so are the setup and the limits
pub record RowLeaves (id first : ℕ) (made : List DueCall) (turns : List Turn) (old new : BookOf)
    : Type 0 where
  pub history : new.core.history ≡ history_after id first made old.core.history
  pub gone : slot_at new.core.table id ≡ None
  pub others : KeepsOthers old.core.table new.core.table id
  pub setup : new.setup ≡ old.setup
  pub limit : new.core.limit ≡ old.core.limit
  pub width : new.core.width ≡ old.core.width
  pub capacity : new.core.cache.capacity ≡ old.core.cache.capacity
  pub greatest : new.core.cache.greatest ≡ greatest_after turns old.core.cache.greatest

-- an honest server serves the turns, as `HonestSession` asks for, the results are by the calls'
-- entries alone, and the book is left so
pub record RowRuns (serves : Server) (lease : Lease) (first : ℕ) (due : List DueCall)
    (turns : List Turn) (old new : BookOf) : Type 0 where
  pub served : Serves serves lease old.core turns
  pub results : results_in serves (made_of first due) lease.outcome.initiator turns
      ≡ results_by serves lease.outcome.initiator lease.id first (made_of first due)
      old.core.history
  pub leaves : RowLeaves lease.id first (made_of first due) turns old new

-- every session in a row on this key is served
abbrev pub RowLaw : Key → Type 0
RowLaw key =
    (serves : Server) (lease : Lease) (terms : Terms) (first xid : ℕ) (due : List DueCall)
    (confounders stream : List ℕ) (old new : BookOf) (turns : List Turn) (rest : List ℕ)
    → lease.outcome.key ≡ key
    → IsRow serves lease terms first xid due confounders stream old new turns rest
    → RowRuns serves lease first due turns old new
