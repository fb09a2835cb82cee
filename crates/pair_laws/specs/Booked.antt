-- What a book is asked in an exchange, and how it stands meanwhile.
use Rattle.std.specs.Prelude.{◌≡◌, ◌⊎◌, ℕ, ◌+◌, ◌<◌, ◌≤◌, true, max, is_some, List, [], ◌∷◌, length}
use Rattle.std.specs.Prelude.{take, Option, Some, None, Ok}
use Rattle.spnego_core.specs.declared.setup.AcceptSetup.{AcceptSetup}
use Rattle.spnego_core.specs.declared.accept_end.AcceptEnd.{AcceptEnd}
use Rattle.spnego_core.specs.declared.accept_end.AcceptPause.{AcceptPause}
use Rattle.spnego_core.specs.declared.accept_end.AcceptStep.TheVariants as steps
use Rattle.spnego_core.specs.declared.outcome.Outcome.{Outcome}
use Rattle.spnego_core.specs.Accepting.{step_of, mark_asked}
use Rattle.replay_cache.specs.Taking.{cache_verdict}
use Rattle.replay_cache.specs.declared.cache.CacheVerdict.TheVariants.{Taken}
use Rattle.context_table.specs.Places.{Places, slot_at, live_of, state_of}
use Rattle.accept_core.specs.History.{opened, taken_of, standing}
use Rattle.accept_core.specs.Replays.{Accepting}
use Rattle.accept_core.specs.Stepping.{context_of, IsNext}
use Rattle.accept_book.specs.Booking.{Changed, negotiated, raised, token_size, later_step}
use Rattle.accept_book.specs.RecordShown.{KeptAnswers, AskedStep}
use Rattle.accept_book.specs.RecordRule.{record_ruling}
use Rattle.accept_book.specs.declared.book_answer.Negotiated.{Negotiated}
use Rattle.pair_laws.specs.Answering.{Server}

-- how a book stands before a call, and after it
pub record Around : Type 0 where
  pub before : Accepting AcceptEnd Outcome
  pub after : Accepting AcceptEnd Outcome

-- the end by which the context of an id negotiates, where it does
abbrev pub end_in : Places AcceptEnd Outcome → Option ℕ → Option AcceptEnd
end_in table None = None
end_in table (Some id) = state_of (slot_at table id)

-- the record's one question is a step of a creation. The book answers it by its contract, in a
-- token of at most 65,536 octets, and has places: four in its log; for a first token one in its
-- table, or a context that gives its own; and one in its cache for the mark of an authenticator,
-- which isn't stale by the greatest moment, and which no authenticator that was taken has
pub record IsBooked (setup : AcceptSetup) (serves : Server) (octets : List ℕ) (kept : KeptAnswers)
    (book : Around) : Type 0 where
  pub id : Option ℕ
  pub token : List ℕ
  pub answer : Negotiated
  pub asked : (record_ruling octets kept serves.serving).asked
      ≡ AskedStep id token kept.now (take 66 kept.draws) answer ∷ []
  pub past : Option ℕ
  pub is_past : id ≡ None
      → IsNext book.before.table (max book.before.cache.greatest kept.now) past
  pub answered : answer.answer ≡ (negotiated setup (raised book.before kept.now) id past token
      kept.now (take 66 kept.draws)).answer
  pub history : book.after.history ≡ (negotiated setup (raised book.before kept.now) id past token
      kept.now (take 66 kept.draws)).history
  pub contexts : Changed book.before.table (negotiated setup (raised book.before kept.now) id past
      token kept.now (take 66 kept.draws)).change book.after.table
  pub size : token_size answer.answer ≤ 65536
  pub log : length book.before.history + 4 ≤ book.before.limit
  pub table : id ≡ None
      → (live_of book.before.table < book.before.table.limit) ⊎ (is_some past ≡ true)
  pub mark : (pause : AcceptPause)
      → step_of (later_step setup (end_in book.before.table id) token kept.now (take 66 kept.draws))
      ≡ Ok (steps.WantsAuth pause)
      → cache_verdict book.before.cache.capacity (max book.before.cache.greatest kept.now)
      (taken_of book.before.history) (mark_asked pause) ≡ Taken

-- one call of the book for each of these answers, in order, each to the question of its record
abbrev pub Booked : AcceptSetup → Server → List (List ℕ) → List KeptAnswers → List Around → Type 0
Booked setup serves records [] books = Unit {0}
Booked setup serves [] (one ∷ kept) books = ⊥
Booked setup serves (octets ∷ records) (one ∷ kept) [] = ⊥
Booked setup serves (octets ∷ records) (one ∷ kept) (book ∷ books) =
    IsBooked setup serves octets one book × Booked setup serves records kept books

-- the context of an id is the same in both
pub record SameContext (id : ℕ) (old new : Accepting AcceptEnd Outcome) : Type 0 where
  pub context : context_of (slot_at new.table id) ≡ context_of (slot_at old.table id)
  pub stands : standing id new.history ≡ standing id old.history

-- between two calls for the exchange its context isn't ended, and no other token is handed in for
-- it
abbrev pub IsLeftAlone : ℕ → List Around → Type 0
IsLeftAlone id [] = Unit {0}
IsLeftAlone id (last ∷ []) = Unit {0}
IsLeftAlone id (book ∷ next ∷ later) =
    SameContext id book.after next.before × IsLeftAlone id (next ∷ later)

-- the id of the context that the exchange opens: the next one of the book as it stands at first
abbrev pub id_in : List Around → ℕ
id_in [] = 0
id_in (first ∷ later) = opened first.before.history + 1
