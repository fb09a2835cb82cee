-- A whole session over a link that answers by a book at rest: its records were answered one after
-- the other, in whatever fragments they came.
use Rattle.std.specs.Prelude.{◌≡◌, ℕ, ◌+◌, ◌*◌, ◌<◌, ◌≤◌, ◌^◌, List, [], ◌++◌, length, map}
use Rattle.std.specs.Prelude.{drop, Some}
use Rattle.std.specs.List.{AllByRecursion}
use Rattle.sec_base.specs.Moment.{greatest_moment}
use Rattle.gss_base.specs.declared.mech.MechKind.{MechKind}
use Rattle.krb_derive.specs.declared.key.Key.{Key}
use Rattle.rpc_msgs.specs.Records.{Fragments}
use Rattle.spnego_core.specs.Exchange.{HonestPair}
use Rattle.spnego_core.specs.declared.outcome.Outcome.{Outcome}
use Rattle.accept_book.specs.Booking.{BookOf, names_of}
use Rattle.accept_book.specs.RecordShown.{KeptAnswers}
use Rattle.accept_core.specs.declared.entry.Entry.{Entry}
use Rattle.gss_client.specs.Start.{StartSays}
use Rattle.gss_server.specs.Connections.{octets_of, written_in}
use Rattle.gss_server.specs.Hearing.{kept_answers}
use Rattle.gss_server.specs.declared.answer.Kept.{Kept}
use Rattle.gss_client.specs.Conferring.{DueCall, talk_of}
use Rattle.pair_laws.specs.Answering.{Server}
use Rattle.pair_laws.specs.Creation.{IsAt, SameLimits, Enters, padded}
use Rattle.pair_laws.specs.Honest.{occasion_of}
use Rattle.pair_laws.specs.Resting.{RestsAt}
use Rattle.pair_laws.specs.Rows.{AreAnswered, IsNoRecord, history_after, results_by}
use Rattle.pair_laws.specs.Running.{Succeeds, calls_made, parting_of}
use Rattle.pair_laws.specs.Sessions.{ArePlanned, made_of}
use Rattle.pair_laws.specs.Walking.{IsNamed}

-- what was kept of answers, in the terms of the rule of a record
abbrev pub kept_of : List Kept → List KeptAnswers
kept_of answers = map kept_answers answers

-- what a session's talk wrote are these records and no other, which a book at rest answered, all
-- of them at the moment of the client's stamp; with what was drawn for the first answers, so many,
-- both ends are an honest pair
pub record IsServed (serves : Server) (lasts tokens : ℕ) (start : StartSays) (kind : MechKind)
    (count moment : ℕ) (due : List DueCall) (confounders stream : List ℕ) (old new : BookOf)
    (records : List Fragments) (answers : List Kept) (tail : List ℕ) : Type 0 where
  -- the link
  pub answered : AreAnswered serves lasts records answers old new
  pub none : IsNoRecord tail
  pub written : (talk_of start due confounders stream).written ≡ octets_of records ++ tail
  pub heard : stream ≡ written_in serves.serving records answers
  pub some_width : 0 < serves.serving.width
  pub width_fits : serves.serving.width < 2 ^ 32
  -- the answers
  pub pair : HonestPair old.setup start.setup kind
      (padded moment tokens (map occasion_of (kept_of answers)))
  pub moments : AllByRecursion (IsAt moment) (kept_of answers)
  pub known : moment ≤ greatest_moment
  pub stamp : start.setup.stamp ≡ moment
  -- the book
  pub rests : RestsAt count moment old.core
  pub number : count + 1 < 2 ^ 64
  pub wide : 0 < old.core.width
  pub table : 0 < old.core.table.limit
  pub cache : count < old.core.cache.capacity
  pub log : length old.core.history + 4 * tokens + length due < old.core.limit
  -- the session
  pub some : 0 < start.first
  pub planned : ArePlanned serves.serving.program start.terms start.first due confounders

-- such a session is created: it tells an outcome
abbrev pub CreatedLaw : Type 0
CreatedLaw =
    (serves : Server) (lasts tokens : ℕ) (start : StartSays) (kind : MechKind) (count moment : ℕ)
    (due : List DueCall) (confounders stream : List ℕ) (old new : BookOf)
    (records : List Fragments) (answers : List Kept) (tail : List ℕ)
    → IsServed serves lasts tokens start kind count moment due confounders stream old new records
    answers tail
    → (agreed : Outcome) × ((talk_of start due confounders stream).outcome ≡ Some agreed)

-- the same of a session that tells this outcome, on this key, where the server's results are
-- results of what is asked
pub record IsLinked (key : Key) (serves : Server) (lasts tokens : ℕ) (start : StartSays)
    (kind : MechKind)
    (count moment : ℕ) (due : List DueCall) (confounders stream : List ℕ) (old new : BookOf)
    (records : List Fragments) (answers : List Kept) (tail : List ℕ) (outcome : Outcome) : Type 0
  where
    pub served : IsServed serves lasts tokens start kind count moment due confounders stream old new
        records answers tail
    pub told : (talk_of start due confounders stream).outcome ≡ Some outcome
    pub key_is : outcome.key ≡ key
    pub succeed : AllByRecursion (Succeeds serves outcome.initiator) due

-- the session is answered the server's results, parts with all calls made or its numbers spent, and
-- leaves no octet; the book has the entries of its creation, its calls and its end in the log and
-- nothing else, and rests again
pub record LinkedDone (serves : Server) (tokens : ℕ) (start : StartSays) (kind : MechKind)
    (count moment : ℕ)
    (due : List DueCall) (confounders stream : List ℕ) (old new : BookOf) (outcome : Outcome)
    : Type 0 where
  pub mech : outcome.mech ≡ kind
  pub named : IsNamed start.setup kind outcome
  pub opened : List Entry
  pub results_are : (talk_of start due confounders stream).results
      ≡ results_by serves outcome.initiator (count + 1) start.first (made_of start.first due) opened
  pub parts : (talk_of start due confounders stream).parting
      ≡ parting_of start.first (length due)
  pub undrawn_is : (talk_of start due confounders stream).undrawn
      ≡ drop (16 * calls_made start.first (length due)) confounders
  pub left : (talk_of start due confounders stream).rest ≡ []
  pub enters : Enters (count + 1) moment kind tokens old.core.history opened
  pub names : enters.names ≡ names_of outcome
  pub history : new.core.history
      ≡ history_after (count + 1) start.first (made_of start.first due) opened
  pub grown : length new.core.history ≤ length old.core.history + 4 * tokens + length due + 1
  pub limits : SameLimits old new
  pub rests : (later : ℕ) → moment < later → RestsAt (count + 1) later new.core

-- every session over such a link on this key is done
abbrev pub LinkedLaw : Key → Type 0
LinkedLaw key =
    (serves : Server) (lasts tokens : ℕ) (start : StartSays) (kind : MechKind) (count moment : ℕ)
    (due : List DueCall) (confounders stream : List ℕ) (old new : BookOf)
    (records : List Fragments) (answers : List Kept) (tail : List ℕ) (outcome : Outcome)
    → IsLinked key serves lasts tokens start kind count moment due confounders stream old new
    records
    answers tail outcome
    → LinkedDone serves tokens start kind count moment due confounders stream old new outcome
