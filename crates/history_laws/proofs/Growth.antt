-- What a book is asked only adds to its log.
use Rattle.std.proofs.Common.{◌≡◌, ◌∙◌, ℕ, max, List, [], ◌∷◌, ◌++◌, append_assoc, Option, None, sym, ap, subst}
use Rattle.accept_core.specs.Legal.{Legal}
use Rattle.accept_core.specs.declared.entry.Entry.{Entry}
use Rattle.accept_book.specs.Booking.{BookOf}
use Rattle.accept_book.specs.RecordShown.{Asked, AskedStep, AskedLook, AskedAdmit, AskedEnd}
use Rattle.gss_server.specs.Asking.{Asking, BookAnswers}
use Rattle.history_laws.proofs.Answering.{IsNextFor, answers-front}
use Rattle.history_laws.proofs.Histories.{Fronts}
use Rattle.accept_core.proofs.Nexts.{next-of}
use Rattle.accept_core.specs.declared.entry.Receipt.{Receipt}

pub next-for : (old : BookOf) (one : Asked Receipt) → (past : Option ℕ) × IsNextFor old past one
next-for old (AskedStep id token now draws answer) = next-of old.core.table (max old.core.cache.greatest now)
next-for old (AskedLook id now answer) = (None, tt)
next-for old (AskedAdmit lease seq service procedure args answer) = (None, tt)
next-for old (AskedEnd lease seq answer) = (None, tt)

pub fronts-one : (old new : BookOf) (one : Asked Receipt) → BookAnswers old one new → Fronts old.core.history new.core.history
fronts-one old new one b = let past = next-for old one in answers-front old new past.0 one past.1 b

fronts-then : (old mid new : List Entry) → Fronts old mid → Fronts mid new → Fronts old new
fronts-then old mid new first second = record { more = second.more ++ first.more; is = second.is ∙ ap (λ (h : List Entry). second.more ++ h) first.is ∙ sym (append_assoc second.more first.more old) }

pub fronts-all : (asked : List (Asked Receipt)) (old new : BookOf) → Asking BookAnswers old asked new → Fronts old.core.history new.core.history
fronts-all [] old new h = record { more = []; is = ap (λ (b : BookOf). b.core.history) h }
fronts-all (one ∷ more) old new h = fronts-then old.core.history h.0.core.history new.core.history (fronts-one old h.0 one h.1) (fronts-all more h.0 new h.2)

-- ---- so what is legal at the end was legal before

pub answers-width : (old new : BookOf) (asked : Asked Receipt) → BookAnswers old asked new → new.core.width ≡ old.core.width
answers-width old new (AskedStep id token now draws answer) b = b.notes.width
answers-width old new (AskedLook id now answer) b = b.looked.width
answers-width old new (AskedAdmit lease seq service procedure args answer) b = b.keeps.width
answers-width old new (AskedEnd lease seq answer) b = b.keeps.width

legal-front : (width : ℕ) (more h : List Entry) → Legal width (more ++ h) → Legal width h
legal-front width [] h legal = legal
legal-front width (entry ∷ more) h legal = legal-front width more h legal.1

pub legal-before : (old new : BookOf) (asked : Asked Receipt) → BookAnswers old asked new → Legal new.core.width new.core.history → Legal old.core.width old.core.history
legal-before old new asked answers legal =
    let f = fronts-one old new asked answers in
    legal-front old.core.width f.more old.core.history
    (subst (λ (h : List Entry). Legal old.core.width h) f.is (subst (λ (w : ℕ). Legal w new.core.history) (answers-width old new asked answers) legal))

pub legal-asking : (old new : BookOf) (asked : List (Asked Receipt)) → Asking BookAnswers old asked new → Legal new.core.width new.core.history → Legal old.core.width old.core.history
legal-asking old new [] same legal = subst (λ (b : BookOf). Legal b.core.width b.core.history) same legal
legal-asking old new (one ∷ more) a legal = legal-before old a.0 one a.1 (legal-asking a.0 new more a.2 legal)
