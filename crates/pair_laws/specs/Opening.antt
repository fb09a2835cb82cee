-- One token of a creation over a book: what the book is asked and answers, and what it must have
-- for that.
use Rattle.std.specs.Prelude.{◌≡◌, ◌⊎◌, ℕ, ◌+◌, ◌<◌, ◌≤◌, ◌^◌, max, true, is_some, List, [], length}
use Rattle.std.specs.Prelude.{take, Option, Some, None, IfSome, Ok}
use Rattle.rpcsec_msgs.specs.declared.numbers.TheConstants.{RPCSEC_GSS_INIT}
use Rattle.rpcsec_msgs.specs.declared.numbers.TheConstants.{RPCSEC_GSS_CONTINUE_INIT}
use Rattle.gss_client.specs.declared.terms.Terms.{Terms}
use Rattle.replay_cache.specs.Taking.{cache_verdict}
use Rattle.replay_cache.specs.declared.cache.CacheVerdict.TheVariants.{Taken}
use Rattle.context_table.specs.Places.{live_of}
use Rattle.spnego_core.specs.Accepting.{step_of, mark_asked}
use Rattle.spnego_core.specs.declared.accept_end.AcceptEnd.{AcceptEnd}
use Rattle.spnego_core.specs.declared.accept_end.AcceptPause.{AcceptPause}
use Rattle.spnego_core.specs.declared.accept_end.AcceptStep.TheVariants as steps
use Rattle.spnego_core.specs.declared.outcome.Outcome.{Outcome}
use Rattle.spnego_core.specs.declared.setup.AcceptSetup.{AcceptSetup}
use Rattle.accept_book.specs.Booking.{BookOf, token_size, later_step}
use Rattle.accept_core.specs.History.{taken_of}
use Rattle.accept_book.specs.RecordRule.{record_ruling}
use Rattle.accept_book.specs.RecordShown.{KeptAnswers, handle_of}
use Rattle.accept_core.specs.Replays.{Accepting}
use Rattle.accept_core.specs.Stepping.{IsNext}
use Rattle.accept_book.specs.declared.book_answer.Negotiated.{Negotiated}
use Rattle.gss_client.specs.Calling.{creation_call}
use Rattle.gss_server.specs.Answers.{IsDecided}
use Rattle.gss_server.specs.Asking.{Asking}
use Rattle.pair_laws.specs.Answering.{Server, AnswersBy}
use Rattle.pair_laws.specs.HonestCalls.{IsToServer}
use Rattle.pair_laws.specs.Booked.{end_in, IsBooked}

-- a call with a token: of a new context, or of the one that was opened with this id (RFC 2203
-- section 5.2.2)
abbrev pub creation_of : Terms → ℕ → Option ℕ → List ℕ → List ℕ
creation_of terms xid None token = creation_call terms xid RPCSEC_GSS_INIT [] token
creation_of terms xid (Some id) token =
    creation_call terms xid RPCSEC_GSS_CONTINUE_INIT (handle_of id) token

-- its transaction number and its id have a spelling, and its token fits
pub record FitsCreation (xid : ℕ) (id : Option ℕ) (token : List ℕ) : Type 0 where
  pub xid_fits : xid < 2 ^ 32
  pub id_fits : IfSome id (λ number. number < 2 ^ 64)
  pub size : length token ≤ 65536

-- the book has places for the token: four in its log; for a first token one in its table, or a
-- context that gives its own; and one in its cache for the mark of an authenticator, which isn't
-- stale by the greatest moment, and which no authenticator that was taken has
pub record HasPlaces (setup : AcceptSetup) (core : Accepting AcceptEnd Outcome) (id : Option ℕ)
    (token : List ℕ) (kept : KeptAnswers) : Type 0 where
  pub past : Option ℕ
  pub is_past : id ≡ None → IsNext core.table (max core.cache.greatest kept.now) past
  pub log : length core.history + 4 ≤ core.limit
  pub table : id ≡ None → (live_of core.table < core.table.limit) ⊎ (is_some past ≡ true)
  pub mark : (pause : AcceptPause)
      → step_of (later_step setup (end_in core.table id) token kept.now (take 66 kept.draws))
      ≡ Ok (steps.WantsAuth pause)
      → cache_verdict core.cache.capacity (max core.cache.greatest kept.now)
      (taken_of core.history) (mark_asked pause) ≡ Taken

-- a rule decided the record by what was kept, and the book gave the answer that the rule asked for,
-- in a token of at most 65,536 octets
pub record IsStepped (serves : Server) (octets : List ℕ) (kept : KeptAnswers) (old new : BookOf)
    : Type 0
  where
    pub decided : IsDecided (record_ruling octets kept serves.serving)
    pub asked : Asking (AnswersBy serves) old (record_ruling octets kept serves.serving).asked new
    pub size : (answer : Negotiated) → kept.negotiated ≡ Some answer
        → token_size answer.answer ≤ 65536

-- a book that has places for a token of a creation books it, as `HonestExchange` asks for
abbrev pub StepTurnLaw : Type 0
StepTurnLaw =
    (terms : Terms) (xid : ℕ) (serves : Server) (id : Option ℕ) (token : List ℕ)
    (kept : KeptAnswers)
    (old new : BookOf) → IsToServer serves.serving.program terms → FitsCreation xid id token
    → IsStepped serves (creation_of terms xid id token) kept old new
    → HasPlaces old.setup old.core id token kept
    → IsBooked old.setup serves (creation_of terms xid id token) kept
    (record { before = old.core; after = new.core })
