-- One call of a session, and its end, over a book: what the book is asked and answers, and how it
-- stands behind them.
use Rattle.std.specs.Prelude.{◌≡◌, ℕ, ◌+◌, ◌<◌, ◌≤◌, List, ◌∷◌, length, None}
use Rattle.std.specs.Prelude.{Some, Ok}
use Rattle.sha1.specs.Sha1.{sha1}
use Rattle.context_table.specs.Places.{slot_at, KeepsOthers}
use Rattle.accept_core.specs.Answers.{receipt_of}
use Rattle.accept_book.specs.Booking.{BookOf, NotesMoment}
use Rattle.accept_book.specs.RecordShown.{KeptAnswers}
use Rattle.accept_book.specs.RecordRule.{record_ruling}
use Rattle.accept_book.specs.declared.book_answer.Admitted.{Admitted}
use Rattle.accept_book.specs.declared.book_answer.Lease.{Lease}
use Rattle.accept_core.specs.declared.entry.Entry.TheVariants.{Call, Ended}
use Rattle.accept_core.specs.declared.entry.EndCause.TheVariants.{Destroyed}
use Rattle.gss_client.specs.declared.terms.Terms.{Terms}
use Rattle.gss_client.specs.Calling.{data_call, destroy_call}
use Rattle.gss_server.specs.Answers.{IsDecided}
use Rattle.gss_server.specs.Asking.{Asking}
use Rattle.rpc_program.specs.Programs.{result_in}
use Rattle.pair_laws.specs.Answering.{Server, AnswersBy}
use Rattle.pair_laws.specs.HonestCalls.{IsToServer, session_on, HonestCall}
use Rattle.pair_laws.specs.Ending.{HonestEnd}
use Rattle.pair_laws.specs.Live.{IsLiveAt}

-- a rule decided the record by what was kept, the book gave each answer that the rule asked for,
-- the moment isn't behind the end of the context, and the log has a place
pub record IsAnsweredBy (serves : Server) (lasts : ℕ) (octets : List ℕ) (kept : KeptAnswers)
    (old new : BookOf) : Type 0 where
  pub decided : IsDecided (record_ruling octets kept serves.serving)
  pub asked : Asking (AnswersBy serves) old (record_ruling octets kept serves.serving).asked new
  pub lasting : kept.now ≤ lasts
  pub room : length old.core.history < old.core.limit

-- the context was shown, the next number was admitted, the log has the call, and the call came to
-- its result by the log; every other context is as it was, and the moment was taken note of
pub record IsCallTurn (serves : Server) (old new : BookOf) (lease : Lease) (next procedure : ℕ)
    (args : List ℕ) (kept : KeptAnswers) : Type 0 where
  pub looked : kept.looked ≡ Some (Ok lease)
  pub admitted : Admitted
  pub admitted_is : kept.admitted ≡ Some (Ok admitted)
  pub receipt_is : admitted.receipt
      ≡ receipt_of old.core.history (Call lease.id next procedure (sha1 args))
  pub came : result_in args admitted.outcome
      ≡ Some (serves.results lease.outcome.initiator procedure args new.core.history)
  pub live : IsLiveAt new lease (next + 1)
  pub history : new.core.history ≡ Call lease.id next procedure (sha1 args) ∷ old.core.history
  pub others : KeepsOthers old.core.table new.core.table lease.id
  pub notes : NotesMoment old new kept.now

-- an honest call of a session on a live context of a book that answers it is shown and admitted
abbrev pub CallTurnLaw : Lease → Type 0
CallTurnLaw lease =
    (terms : Terms) (next xid procedure : ℕ) (args confounder : List ℕ) (kept : KeptAnswers)
    (serves : Server) (old new : BookOf)
    → HonestCall serves.serving.program lease terms next xid procedure args confounder
    → IsAnsweredBy serves lease.ends
    (data_call (session_on lease terms next xid) procedure args confounder) kept old new
    → IsLiveAt old lease next → IsCallTurn serves old new lease next procedure args kept

-- the context was shown, its end was taken, the log has it, and the context is gone; every other
-- one is as it was, and the moment was taken note of
pub record IsEndTurn (old new : BookOf) (lease : Lease) (next : ℕ) (kept : KeptAnswers) : Type 0
  where
    pub looked : kept.looked ≡ Some (Ok lease)
    pub ended_is : kept.ended
        ≡ Some (Ok (receipt_of old.core.history (Ended lease.id (Destroyed next))))
    pub gone : slot_at new.core.table lease.id ≡ None
    pub history : new.core.history ≡ Ended lease.id (Destroyed next) ∷ old.core.history
    pub others : KeepsOthers old.core.table new.core.table lease.id
    pub notes : NotesMoment old new kept.now

-- the end of a session on a live context of a book that answers it is taken
abbrev pub EndTurnLaw : Type 0
EndTurnLaw =
    (lease : Lease) (terms : Terms) (next xid : ℕ) (kept : KeptAnswers) (serves : Server)
    (old new : BookOf) → IsToServer serves.serving.program terms → HonestEnd lease next xid
    → IsAnsweredBy serves lease.ends (destroy_call (session_on lease terms next xid)) kept old new
    → IsLiveAt old lease next → IsEndTurn old new lease next kept
