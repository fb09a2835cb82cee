-- All that a book answered is seen.
use Rattle.std.proofs.Common.{List, [], ◌∷◌, ◌++◌, append_assoc, append-nil, refl, sym, subst}
use Rattle.accept_core.specs.Legal.{Legal}
use Rattle.accept_book.specs.Booking.{BookOf}
use Rattle.accept_book.specs.RecordShown.{Asked}
use Rattle.gss_server.specs.Asking.{Asking, BookAnswers}
use Rattle.gss_server.specs.Telling.{limits_of}
use Rattle.history_laws.specs.Before.{Before, before_of}
use Rattle.history_laws.specs.Seen.{Seen, IsEmpty, SeenLaw}
use Rattle.history_laws.proofs.Growth.{legal-before, legal-asking}
use Rattle.history_laws.proofs.Steps.{unstepped}
use Rattle.history_laws.proofs.Turns.{Kept, question-seen, question-kept}
use Rattle.history_laws.proofs.Views.{as-told}
use Rattle.accept_core.specs.declared.entry.Receipt.{Receipt}

-- the books before and after a question of a history
record Around (first last : BookOf) (earlier : List (Asked Receipt)) (one : Asked Receipt) (later : List (Asked Receipt)) : Type 0 where
  old : BookOf
  new : BookOf
  before : Asking BookAnswers first earlier old
  answer : BookAnswers old one new
  after : Asking BookAnswers new later last

around-more : (first middle last : BookOf) (head : Asked Receipt) (earlier : List (Asked Receipt)) (one : Asked Receipt) (later : List (Asked Receipt)) → BookAnswers first head middle → Around middle last earlier one later
    → Around first last (head ∷ earlier) one later
around-more first middle last head earlier one later b a = record { old = a.old; new = a.new; before = (middle, b, a.before); answer = a.answer; after = a.after }

around : (first last : BookOf) (earlier : List (Asked Receipt)) (one : Asked Receipt) (later : List (Asked Receipt)) → Asking BookAnswers first (earlier ++ one ∷ later) last → Around first last earlier one later
around first last [] one later a = record { old = first; new = a.0; before = refl; answer = a.1; after = a.2 }
around first last (head ∷ earlier) one later a = around-more first a.0 last head earlier one later a.1 (around a.0 last earlier one later a.2)

-- ---- the contexts along a history

kept-all : (more asked : List (Asked Receipt)) (old new : BookOf) → Asking BookAnswers old more new → Legal new.core.width new.core.history → Kept old asked → Kept new (asked ++ more)
kept-all [] asked old new same legal k = subst (λ (l : List (Asked Receipt)). Kept new l) (sym (append-nil asked)) (subst (λ (b : BookOf). Kept b asked) (sym same) k)
kept-all (one ∷ more) asked old new a legal k =
    let middle = legal-asking a.0 new more a.2 legal in
    let before = legal-before old a.0 one a.1 middle in
    subst (λ (l : List (Asked Receipt)). Kept new l) (append_assoc asked (one ∷ []) more)
    (kept-all more (asked ++ one ∷ []) a.0 new a.2 legal (question-kept old a.0 asked one before k a.1))

kept-first : (first : BookOf) → IsEmpty first → Kept first []
kept-first first empty = record {
  each = λ id. rw (empty.history, empty.slots) tt;
  lives = rw (empty.history, empty.slots) refl;
  unstepped = λ id e. unstepped id;
  leases = λ lease none. absurd none;
}

-- ---- the law

seen-around : (first last : BookOf) (earlier : List (Asked Receipt)) (one : Asked Receipt) (later : List (Asked Receipt)) → IsEmpty first → Around first last earlier one later → Legal last.core.width last.core.history
    → Seen (before_of first.setup (limits_of first.core) first.core.cache.greatest earlier) one
seen-around first last earlier one later empty a legal =
    let behind = legal-asking a.new last later a.after legal in
    let before = legal-before a.old a.new one a.answer behind in
    subst (λ (b : Before). Seen b one) (as-told earlier first a.old empty.history a.before)
    (question-seen a.old a.new earlier one before (kept-all earlier [] first a.old a.before before (kept-first first empty)) a.answer)

pub seen-law : SeenLaw
seen-law first last all empty chain legal earlier one later is =
    seen-around first last earlier one later empty
    (around first last earlier one later (subst (λ (l : List (Asked Receipt)). Asking BookAnswers first l last) is chain)) legal
