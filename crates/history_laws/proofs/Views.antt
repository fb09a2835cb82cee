-- A book as a reader sees it who has its questions and answers.
use Rattle.std.proofs.Common.{◌≡◌, ◌∙◌, ℕ, List, [], ◌∷◌, length, map, reverse, refl, sym, ap, arith}
use Rattle.std.proofs.lemmas.List.{map-append, reverse-append}
use Rattle.accept_core.specs.Entering.{gained}
use Rattle.accept_core.specs.declared.entry.Entry.{Entry}
use Rattle.accept_core.specs.declared.entry.Receipt.{Receipt}
use Rattle.accept_core.proofs.Steps.{gained-more}
use Rattle.accept_book.specs.Booking.{BookOf}
use Rattle.accept_book.specs.RecordShown.{Asked, AskedStep, AskedLook, AskedAdmit, AskedEnd}
use Rattle.gss_server.specs.Asking.{Asking, BookAnswers}
use Rattle.gss_server.specs.Telling.{limits_of}
use Rattle.history_laws.specs.Before.{Before, before_of, greatest_of}
use Rattle.history_laws.specs.Receipts.{logged}
use Rattle.history_laws.proofs.Answering.{answers-setup}
use Rattle.history_laws.proofs.InPlace.{in-place}

-- what stands in a book, after these questions
abbrev pub before_in : BookOf → List (Asked Receipt) → Before
before_in book asked = record {
  setup = book.setup;
  limits = limits_of book.core;
  greatest = book.core.cache.greatest;
  log = book.core.history;
  asked = asked;
}

-- ---- setup and limits stay

setup-all : (asked : List (Asked Receipt)) (old new : BookOf) → Asking BookAnswers old asked new → new.setup ≡ old.setup
setup-all [] old new same = ap (λ (b : BookOf). b.setup) same
setup-all (one ∷ more) old new a = setup-all more a.0 new a.2 ∙ answers-setup old a.0 one a.1

limits-one : (old new : BookOf) (one : Asked Receipt) → BookAnswers old one new → limits_of new.core ≡ limits_of old.core
limits-one old new (AskedStep id token now draws answer) b = λ i. record { contexts = b.notes.contexts i; marks = b.notes.capacity i; log = b.notes.limit i; width = b.notes.width i; keeping = b.notes.keeping i }
limits-one old new (AskedLook id now answer) b = λ i. record { contexts = (b.looked.table i).limit; marks = b.looked.capacity i; log = b.looked.limit i; width = b.looked.width i; keeping = b.looked.keeping i }
limits-one old new (AskedAdmit lease seq service procedure args answer) b = λ i. record { contexts = b.keeps.contexts i; marks = b.keeps.capacity i; log = b.keeps.limit i; width = b.keeps.width i; keeping = b.keeps.keeping i }
limits-one old new (AskedEnd lease seq answer) b = λ i. record { contexts = b.keeps.contexts i; marks = b.keeps.capacity i; log = b.keeps.limit i; width = b.keeps.width i; keeping = b.keeps.keeping i }

limits-all : (asked : List (Asked Receipt)) (old new : BookOf) → Asking BookAnswers old asked new → limits_of new.core ≡ limits_of old.core
limits-all [] old new same = ap (λ (b : BookOf). limits_of b.core) same
limits-all (one ∷ more) old new a = limits-all more a.0 new a.2 ∙ limits-one old a.0 one a.1

-- ---- the greatest moment is that of the questions

greatest-all : (asked : List (Asked Receipt)) (old new : BookOf) → Asking BookAnswers old asked new → new.core.cache.greatest ≡ greatest_of old.core.cache.greatest asked
unfolding greatest_of
greatest-all [] old new same = ap (λ (b : BookOf). b.core.cache.greatest) same
greatest-all (AskedStep id token now draws answer ∷ more) old new a = greatest-all more a.0 new a.2 ∙ ap (λ (n : ℕ). greatest_of n more) a.1.notes.greatest
greatest-all (AskedLook id now answer ∷ more) old new a = greatest-all more a.0 new a.2 ∙ ap (λ (n : ℕ). greatest_of n more) a.1.looked.greatest
greatest-all (AskedAdmit lease seq service procedure args answer ∷ more) old new a = greatest-all more a.0 new a.2 ∙ ap (λ (n : ℕ). greatest_of n more) a.1.keeps.greatest
greatest-all (AskedEnd lease seq answer ∷ more) old new a = greatest-all more a.0 new a.2 ∙ ap (λ (n : ℕ). greatest_of n more) a.1.keeps.greatest

-- ---- the log is that of the receipts

abbrev entry_of : Receipt → Entry
entry_of receipt = receipt.entry

back : (h : List Entry) → reverse (map entry_of (gained 0 h)) ≡ h
back [] = refl
back (entry ∷ h) =
    let one : Receipt = record { place = length h; entry = entry } in
    ap (λ (l : List Receipt). reverse (map entry_of l)) (gained-more 0 h entry (omega arith))
    ∙ (ap (λ (l : List Entry). reverse l) (map-append entry_of (gained 0 h) (one ∷ []))
    ∙ (reverse-append (map entry_of (gained 0 h)) (entry ∷ []) ∙ ap (λ (l : List Entry). entry ∷ l) (back h)))

pub logged-all : (asked : List (Asked Receipt)) (old new : BookOf) → old.core.history ≡ [] → Asking BookAnswers old asked new → new.core.history ≡ logged asked
unfolding logged
logged-all asked old new empty a =
    sym (back new.core.history)
    ∙ ap (λ (l : List Receipt). reverse (map entry_of l)) (sym (in-place asked old new a ∙ ap (λ (h : List Entry). gained (length h) new.core.history) empty))

-- ---- so what stands in the book is what its questions and their answers tell

pub as-told : (asked : List (Asked Receipt)) (old new : BookOf) → old.core.history ≡ [] → Asking BookAnswers old asked new
    → before_in new asked ≡ before_of old.setup (limits_of old.core) old.core.cache.greatest asked
as-told asked old new empty a =
    let setup = setup-all asked old new a in
    let limits = limits-all asked old new a in
    let greatest = greatest-all asked old new a in
    let log = logged-all asked old new empty a in
    λ i. record { setup = setup i; limits = limits i; greatest = greatest i; log = log i; asked = asked }
