-- A book between two sessions: no context lives in it.
use Rattle.std.specs.Prelude.{◌≡◌, ◌≢◌, ℕ, ◌+◌, ◌<◌, ◌≤◌, max, List, [], ◌∷◌, length}
use Rattle.std.specs.Prelude.{take, None, Ok}
use Rattle.std.specs.List.{AllByRecursion}
use Rattle.gss_base.specs.declared.mark.Mark.{Mark}
use Rattle.replay_cache.specs.Taking.{cache_verdict}
use Rattle.replay_cache.specs.declared.cache.CacheVerdict.TheVariants.{Taken}
use Rattle.replay_cache.specs.declared.cache.TakenMark.{TakenMark}
use Rattle.context_table.specs.Places.{slot_at, live_of}
use Rattle.spnego_core.specs.Accepting.{accept_step, step_of, mark_asked}
use Rattle.spnego_core.specs.declared.accept_end.AcceptEnd.{AcceptEnd}
use Rattle.spnego_core.specs.declared.accept_end.AcceptEnd.TheVariants as ends
use Rattle.spnego_core.specs.declared.accept_end.AcceptPause.{AcceptPause}
use Rattle.spnego_core.specs.declared.accept_end.AcceptStep.TheVariants as steps
use Rattle.spnego_core.specs.declared.outcome.Outcome.{Outcome}
use Rattle.spnego_core.specs.declared.setup.AcceptSetup.{AcceptSetup}
use Rattle.accept_book.specs.Booking.{BookOf}
use Rattle.accept_core.specs.Aging.{in_use}
use Rattle.accept_core.specs.Entering.{id_of}
use Rattle.accept_core.specs.History.{opened, numbers, taken_of}
use Rattle.accept_book.specs.RecordShown.{KeptAnswers}
use Rattle.accept_core.specs.Replays.{Accepting}
use Rattle.accept_core.specs.Stepping.{IsNext}
use Rattle.gss_client.specs.Conferring.{DueCall}
use Rattle.pair_laws.specs.Opening.{HasPlaces}
use Rattle.pair_laws.specs.Rows.{RowLeaves}
use Rattle.pair_laws.specs.Running.{Turn, answers_of}

-- a mark of an authenticator lies before this moment
abbrev pub IsBefore : ℕ → TakenMark → Type 0
IsBefore moment taken = taken.mark.at < moment

-- no context lives and none is in use, so many ids were opened and no other one called, and no
-- moment behind this one was seen; at most one mark an id was taken, each before this moment
pub record RestsAt (count moment : ℕ) (core : Accepting AcceptEnd Outcome) : Type 0 where
  pub empty : (id : ℕ) → slot_at core.table id ≡ None
  pub unused : in_use core.history ≡ []
  pub ids : opened core.history ≡ count
  pub uncalled : (id : ℕ) → count < id → numbers id core.history ≡ []
  pub seen : core.cache.greatest ≤ moment
  pub marks : AllByRecursion (IsBefore moment) (taken_of core.history)
  pub few : length (taken_of core.history) ≤ count

-- such a book has places for the next session: no slot is taken, no context gives its place, and
-- the next context has the next id
pub record RestGives (count moment : ℕ) (core : Accepting AcceptEnd Outcome) : Type 0 where
  pub live : live_of core.table ≡ 0
  pub past : (now : ℕ) → IsNext core.table now None
  pub next : id_of None core.history ≡ count + 1

-- the mark that a first token asks for, where it does, is of this moment
abbrev pub MarksAt : AcceptSetup → ℕ → List ℕ → KeptAnswers → Type 0
MarksAt setup moment token kept =
    (pause : AcceptPause)
    → step_of (accept_step setup ends.New token kept.now (take 66 kept.draws))
    ≡ Ok (steps.WantsAuth pause) → (mark_asked pause).at ≡ moment

-- one opened context lives, is in use, and no other, and the rest of the book is as `RestsAt` says
pub record HoldsOne (id count moment : ℕ) (core : Accepting AcceptEnd Outcome) : Type 0 where
  pub others : (other : ℕ) → id ≢ other → slot_at core.table other ≡ None
  pub used : in_use core.history ≡ id ∷ []
  pub own : id ≤ count
  pub ids : opened core.history ≡ count
  pub uncalled : (other : ℕ) → count < other → numbers other core.history ≡ []
  pub seen : core.cache.greatest ≤ moment
  pub marks : AllByRecursion (IsBefore moment) (taken_of core.history)
  pub few : length (taken_of core.history) ≤ count

-- an answer's moment isn't behind this one
abbrev pub IsBy : ℕ → KeptAnswers → Type 0
IsBy moment kept = kept.now ≤ moment

-- a book with an empty history and table rests, a book that rests does so at every later moment,
-- and has places for the next session and its first token; it rests again behind a session's row
-- on the one context that lives
pub record RestLaw : Type 0 where
  pub begins : (moment : ℕ) (core : Accepting AcceptEnd Outcome) → core.history ≡ []
      → live_of core.table ≡ 0 → core.cache.greatest ≤ moment → RestsAt 0 moment core
  pub stays : (count moment later : ℕ) (core : Accepting AcceptEnd Outcome)
      → RestsAt count moment core → moment ≤ later → RestsAt count later core
  pub gives : (count moment : ℕ) (core : Accepting AcceptEnd Outcome)
      → RestsAt count moment core → RestGives count moment core
  pub opens : (count moment : ℕ) (setup : AcceptSetup) (core : Accepting AcceptEnd Outcome)
      (token : List ℕ) (kept : KeptAnswers) → RestsAt count moment core → kept.now ≡ moment
      → length core.history + 4 ≤ core.limit → 0 < core.table.limit → count < core.cache.capacity
      → MarksAt setup moment token kept → HasPlaces setup core None token kept
  pub ends : (id count moment first : ℕ) (made : List DueCall) (turns : List Turn)
      (old new : BookOf) → HoldsOne id count moment old.core
      → RowLeaves id first made turns old new → AllByRecursion (IsBy moment) (answers_of turns)
      → RestsAt count moment new.core
  -- a mark of this moment, where the cache has room for one an id, is taken, as it is neither stale
  -- nor a repeat
  pub marks_give : (count moment : ℕ) (core : Accepting AcceptEnd Outcome) (mark : Mark)
      → RestsAt count moment core → mark.at ≡ moment → count < core.cache.capacity
      → (cache_verdict core.cache.capacity (max core.cache.greatest moment) (taken_of core.history)
      mark ≡ Taken)
