-- A whole session in a row over a book at rest: its creation, its calls, and its end.
use Rattle.std.specs.Prelude.{◌≡◌, ℕ, ◌+◌, ◌*◌, ◌<◌, ◌≤◌, List, ◌++◌, length, drop, Some}
use Rattle.std.specs.List.{AllByRecursion, flat_map}
use Rattle.gss_base.specs.declared.mech.MechKind.{MechKind}
use Rattle.krb_derive.specs.declared.key.Key.{Key}
use Rattle.rpc_msgs.specs.Records.{Fragments}
use Rattle.spnego_core.specs.declared.outcome.Outcome.{Outcome}
use Rattle.accept_book.specs.Booking.{BookOf, names_of}
use Rattle.accept_core.specs.declared.entry.Entry.{Entry}
use Rattle.gss_client.specs.Start.{StartSays}
use Rattle.gss_client.specs.Talk.{created_from}
use Rattle.gss_client.specs.Conferring.{DueCall, talk_of}
use Rattle.pair_laws.specs.Answering.{Server}
use Rattle.pair_laws.specs.Creation.{IsCreation, SameLimits, Enters}
use Rattle.pair_laws.specs.Resting.{RestsAt, IsBy}
use Rattle.pair_laws.specs.Rows.{IsNoRecord, history_after, results_by}
use Rattle.pair_laws.specs.Running.{Turn, sent_in, Succeeds, answers_of}
use Rattle.pair_laws.specs.Running.{calls_made, parting_of}
use Rattle.pair_laws.specs.Sessions.{ArePlanned, made_of}
use Rattle.pair_laws.specs.Walking.{IsNamed}

-- turns in a row from a book at rest with places: those of a creation by an honest pair, and those
-- of these calls and the end, all of them at one moment; what was written reads as their records
-- and nothing else, however these are cut; the session tells this outcome, on this key, and the
-- server's results are results of what is asked
pub record IsSession (key : Key) (serves : Server) (lasts : ℕ) (start : StartSays) (kind : MechKind)
    (count moment : ℕ) (due : List DueCall) (confounders stream : List ℕ) (old new : BookOf)
    (front back : List Turn) (rest : List ℕ) (outcome : Outcome) : Type 0 where
  pub more : List ℕ
  pub records : List Fragments
  pub tail : List ℕ
  pub creation : IsCreation serves lasts start kind count moment stream more old new front back
      records tail rest
  pub none : IsNoRecord tail
  pub written : (talk_of start due confounders stream).written
      ≡ (created_from start stream).written ++ more
  pub wide : 0 < old.core.width
  pub log : length old.core.history + 4 * length front + length due < old.core.limit
  pub some : 0 < start.first
  pub planned : ArePlanned serves.serving.program start.terms start.first due confounders
  pub moments : AllByRecursion (IsBy moment) (answers_of back)
  pub told : (talk_of start due confounders stream).outcome ≡ Some outcome
  pub key_is : outcome.key ≡ key
  pub succeed : AllByRecursion (Succeeds serves outcome.initiator) due

-- the outcome is of the chosen mechanism and has its credential's names; the session is answered
-- the server's results, and parts with all calls made or its numbers spent; the book has its calls
-- and its end in the log, behind the entries of its creation, and rests again
pub record SessionDone (serves : Server) (start : StartSays) (kind : MechKind) (count moment : ℕ)
    (due : List DueCall) (confounders stream : List ℕ) (old new : BookOf) (front back : List Turn)
    (rest : List ℕ) (outcome : Outcome) : Type 0 where
  pub mech : outcome.mech ≡ kind
  pub named : IsNamed start.setup kind outcome
  pub opened : List Entry
  pub session : talk_of start due confounders stream ≡ record {
    written = flat_map sent_in (front ++ back);
    outcome = Some outcome;
    results = results_by serves outcome.initiator (count + 1) start.first
        (made_of start.first due) opened;
    parting = parting_of start.first (length due);
    undrawn = drop (16 * calls_made start.first (length due)) confounders;
    rest = rest;
  }
  pub enters : Enters (count + 1) moment kind (length front) old.core.history opened
  pub names : enters.names ≡ names_of outcome
  pub history : new.core.history
      ≡ history_after (count + 1) start.first (made_of start.first due) opened
  pub grown : length new.core.history
      ≤ length old.core.history + 4 * length front + length due + 1
  pub limits : SameLimits old new
  pub rests : (later : ℕ) → moment < later → RestsAt (count + 1) later new.core

-- every session in a row on this key is done
abbrev pub WholeLaw : Key → Type 0
WholeLaw key =
    (serves : Server) (lasts : ℕ) (start : StartSays) (kind : MechKind) (count moment : ℕ)
    (due : List DueCall)
    (confounders stream : List ℕ) (old new : BookOf) (front back : List Turn) (rest : List ℕ)
    (outcome : Outcome)
    → IsSession key serves lasts start kind count moment due confounders stream old new front back
    rest outcome
    → SessionDone serves start kind count moment due confounders stream old new front back rest
    outcome
