-- Short histories by hand: what an answer has to be, and what it can't be.
use Rattle.std.specs.Prelude.{◌≡◌, ℕ, false, List, [], ◌∷◌, Some, None, Ok, Err}
use Rattle.gss_base.specs.declared.mech.MechKind.TheVariants.{Scram}
use Rattle.spnego_core.specs.declared.setup.AcceptSetup.{AcceptSetup}
use Rattle.accept_core.specs.declared.answer.LookRefusal.TheVariants.{NoContext, NotReady, Expired}
use Rattle.accept_core.specs.declared.entry.EndCause.TheVariants.{Refused, Destroyed, Lapsed}
use Rattle.accept_core.specs.declared.entry.Entry.{Entry}
use Rattle.accept_core.specs.declared.entry.Entry.TheVariants.{Opened, Settled, Ended}
use Rattle.accept_core.specs.declared.entry.Receipt.{Receipt}
use Rattle.accept_core.specs.History.{living}
use Rattle.accept_book.specs.RecordShown.{AskedLook, AskedEnd}
use Rattle.accept_book.specs.declared.book_answer.BookRefusal.TheVariants as refusals
use Rattle.accept_book.specs.declared.book_answer.Lease.{Lease}
use Rattle.accept_book.specs.declared.book_answer.NegAnswer.TheVariants as answers
use Rattle.history_laws.specs.Before.{Before, greatest_of}
use Rattle.history_laws.specs.Receipts.{logged}
use Rattle.history_laws.specs.Seen.{LookSeen, StepSeen}

-- a log of at most eight entries, of so many contexts that may live
abbrev pub of_places : ℕ → AcceptSetup → List Entry → Before
of_places contexts setup log = record {
  setup = setup;
  limits = record {
    contexts = contexts;
    marks = 2;
    log = 8;
    width = 4;
    keeping = record { entries = false; digest = false };
  };
  greatest = 1000;
  log = log;
  asked = [];
}

-- two may live
abbrev pub with_log : AcceptSetup → List Entry → Before
with_log setup log = of_places 2 setup log

-- one may live
abbrev pub of_one : AcceptSetup → List Entry → Before
of_one setup log = of_places 1 setup log

-- context 1 was opened, and is complete until 1500
abbrev pub begun : List Entry
begun = Opened 1 1000 ∷ []

abbrev pub complete : List Entry
complete = Settled 1 Scram [] 1500 1000 ∷ begun

-- as many contexts live as may: the second one was opened too, and negotiates
abbrev pub crowded : List Entry
crowded = Opened 2 1000 ∷ complete

-- looks, tokens, and what answers tell
pub record Examples : Type 0 where
  -- the receipt of an end is the log's entry; the greatest moment isn't the last
  pub told : (lease : Lease) → logged (AskedEnd lease 9 (Ok (record
      { place = 0; entry = Ended 1 (Destroyed 9) })) ∷ []) ≡ Ended 1 (Destroyed 9) ∷ []
  pub greatest : greatest_of 1000 (AskedLook 1 1200 (Err NoContext)
      ∷ AskedLook 1 1100 (Err NoContext) ∷ []) ≡ 1200
  -- a look at a context that isn't there, negotiates, is past its end, has ended
  pub unopened : (setup : AcceptSetup) → LookSeen (with_log setup []) 1 1000 (Err NoContext)
  pub not_unopened : (setup : AcceptSetup) → LookSeen (with_log setup []) 1 1000 (Err NotReady) → ⊥
  pub negotiates : (setup : AcceptSetup) → LookSeen (with_log setup begun) 1 1000 (Err NotReady)
  pub not_gone : (setup : AcceptSetup) → LookSeen (with_log setup begun) 1 1000 (Err NoContext) → ⊥
  pub past : (setup : AcceptSetup) → LookSeen (with_log setup complete) 1 1501 (Err Expired)
  pub not_past : (setup : AcceptSetup) → LookSeen (with_log setup complete) 1 1500 (Err Expired) → ⊥
  pub ended : (setup : AcceptSetup)
      → LookSeen (with_log setup (Ended 1 Refused ∷ begun)) 1 1000 (Err NoContext)
  -- a token of a context that negotiates isn't refused as one of none; the log isn't full with one
  -- entry; and a later token needs no place in the table
  pub known : (setup : AcceptSetup) (token draws : List ℕ)
      → StepSeen (with_log setup begun) (Some 1) token 1000 draws
      (answers.Refused refusals.NoContext) [] → ⊥
  pub free : (setup : AcceptSetup) (token draws : List ℕ)
      → StepSeen (with_log setup begun) None token 1000 draws (answers.Refused refusals.LogFull) []
      → ⊥
  pub placed : (setup : AcceptSetup) (token draws : List ℕ)
      → StepSeen (with_log setup begun) (Some 1) token 1000 draws
      (answers.Refused refusals.TableFull) [] → ⊥
  -- how many contexts live: an end makes them fewer
  pub one_lives : living complete ≡ 1
  pub two_live : living crowded ≡ 2
  pub one_ended : living (Ended 1 (Destroyed 9) ∷ crowded) ≡ 1
  -- of one place a first token is turned away whose context isn't past its end; no step is taken
  -- there. It isn't turned away once that is, nor where fewer live than may, nor where of two one
  -- negotiates
  pub full : (setup : AcceptSetup) (token draws : List ℕ)
      → StepSeen (of_one setup complete) None token 1500 draws
      (answers.Refused refusals.TableFull) []
  pub not_full : (setup : AcceptSetup) (token draws reply : List ℕ) (receipts : List Receipt)
      → StepSeen (of_one setup complete) None token 1500 draws (answers.Going 2 reply) receipts
      → ⊥
  pub roomy : (setup : AcceptSetup) (token draws : List ℕ)
      → StepSeen (with_log setup complete) None token 1500 draws
      (answers.Refused refusals.TableFull) [] → ⊥
  pub one_past : (setup : AcceptSetup) (token draws : List ℕ)
      → StepSeen (of_one setup complete) None token 1501 draws
      (answers.Refused refusals.TableFull) [] → ⊥
  pub one_waits : (setup : AcceptSetup) (token draws : List ℕ)
      → StepSeen (with_log setup crowded) None token 1500 draws
      (answers.Refused refusals.TableFull) [] → ⊥
  -- a first token that goes on ends no complete context that isn't past its end: the one that
  -- negotiates goes
  pub stays : (setup : AcceptSetup) (token draws reply : List ℕ)
      → StepSeen (with_log setup crowded) None token 1500 draws (answers.Going 3 reply)
      ((record { place = 3; entry = Ended 1 Lapsed })
      ∷ (record { place = 4; entry = Opened 3 1500 }) ∷ []) → ⊥
  -- one that settles where complete ones have their share, one of two places, ends the complete one
  pub shared : (setup : AcceptSetup) (token draws reply : List ℕ) (lease : Lease)
      (more : List Receipt)
      → StepSeen (with_log setup complete) None token 1500 draws (answers.Settled lease reply)
      ((record { place = 2; entry = Opened 2 1500 }) ∷ more) → ⊥
  -- no context goes for a new one's place while fewer live than may, though it is past its end
  pub kept : (setup : AcceptSetup) (token draws reply : List ℕ)
      → StepSeen (with_log setup complete) None token 1501 draws (answers.Going 2 reply)
      ((record { place = 2; entry = Ended 1 Lapsed })
      ∷ (record { place = 3; entry = Opened 2 1501 }) ∷ []) → ⊥
