-- What a book is asked leaves its limits as they are.
use Rattle.std.proofs.Common.{◌≡◌, inl, inr, ap, refl, ℕ, Bool, true, false, List, ◌++◌}
use Rattle.context_table.specs.Places.{Places}
use Rattle.rpc_msgs.specs.Records.{octets_in}
use Rattle.spnego_core.specs.declared.accept_end.AcceptEnd.{AcceptEnd}
use Rattle.spnego_core.specs.declared.outcome.Outcome.{Outcome}
use Rattle.accept_book.specs.Booking.{BookOf}
use Rattle.accept_book.specs.RecordShown.{Asked, AskedStep, AskedLook, AskedAdmit, AskedEnd}
use Rattle.accept_book.specs.declared.book_answer.Admitted.{Admitted}
use Rattle.accept_core.specs.declared.entry.Receipt.{Receipt}
use Rattle.rpc_program.specs.Programs.{Serving}
use Rattle.gss_server.specs.Asking.{BookAnswers}
use Rattle.gss_server.specs.Connections.{asked_for, asked_in}
use Rattle.gss_server.specs.declared.answer.Kept.{Kept}
use Rattle.gate_models.specs.Looping.{Rest, Looped}
use Rattle.drill_plan.specs.Limits.{book_limits}

same : (old new : BookOf) → new.core.width ≡ old.core.width → new.core.limit ≡ old.core.limit → new.core.table.limit ≡ old.core.table.limit → new.core.cache.capacity ≡ old.core.cache.capacity → new.core.keeping ≡ old.core.keeping → book_limits new ≡ book_limits old
same old new w l c m k = rw (w, l, c, m, k) refl

pub asked-one : (old new : BookOf) (one : Asked Receipt) → BookAnswers old one new → book_limits new ≡ book_limits old
asked-one old new (AskedStep id token now draws answer) b = same old new b.notes.width b.notes.limit b.notes.contexts b.notes.capacity b.notes.keeping
asked-one old new (AskedLook id now answer) b = same old new b.looked.width b.looked.limit (ap (λ (t : Places AcceptEnd Outcome). t.limit) b.looked.table) b.looked.capacity b.looked.keeping
asked-one old new (AskedAdmit lease seq service procedure args answer) b = same old new b.keeps.width b.keeps.limit b.keeps.contexts b.keeps.capacity b.keeps.keeping
asked-one old new (AskedEnd lease seq answer) b = same old new b.keeps.width b.keeps.limit b.keeps.contexts b.keeps.capacity b.keeps.keeping

-- ---- along a link

-- what is so of whatever was asked is so of what a link asked
rested : {F : Type 0} (gained : List (Asked Admitted) → Type 0) → ((asked : List (Asked Admitted)) → gained asked → F) → (serves : Serving) (starved : Bool) (asked : List (Asked Admitted)) (rest : List ℕ) (last : List Kept) → Rest gained serves starved asked rest last → F
rested gained so serves false asked rest last r = so asked r.0
rested gained so serves true asked rest last (inl r) = so asked r.0
rested gained so serves true asked rest last (inr k) = so (asked ++ asked_for serves (octets_in k.cut) k.one) k.asked

pub looped : {F : Type 0} (gained : List (Asked Admitted) → Type 0) → ((asked : List (Asked Admitted)) → gained asked → F) → (serves : Serving) (moment : ℕ) (heard said : List ℕ) (kept : List Kept) (cut : ℕ) (starved : Bool) → Looped gained serves moment heard said kept cut starved → F
looped gained so serves moment heard said kept cut starved l = rested gained so serves starved (asked_in serves l.records l.answers) l.rest l.last l.stands
