-- The receipts of a book's answers are the entries that its log gained.
use Rattle.std.proofs.Common.{◌≡◌, ◌≤◌, ℕ, List, [], ◌∷◌, ◌++◌, append_assoc, length, length-append, append-nil, Option, Some, None, Result, sym, ap, ◌∙◌, subst, arith}
use Rattle.std.specs.List.{flat_map}
use Rattle.accept_core.specs.Answers.{or_refused, after, receipt_of}
use Rattle.accept_book.specs.Booking.{BookOf}
use Rattle.accept_core.specs.Entering.{gained}
use Rattle.accept_book.specs.RecordShown.{Asked, AskedStep, AskedLook, AskedAdmit, AskedEnd}
use Rattle.accept_core.specs.declared.answer.AdmitRefusal.{AdmitRefusal}
use Rattle.accept_core.specs.declared.entry.Entry.{Entry}
use Rattle.accept_core.specs.declared.entry.Receipt.{Receipt}
use Rattle.accept_core.proofs.Steps.{gained-none, gained-more}
use Rattle.gss_server.specs.Asking.{Asking, BookAnswers}
use Rattle.gss_server.specs.Receipts.{of_end}
use Rattle.history_laws.proofs.Histories.{Fronts}
use Rattle.history_laws.proofs.Growth.{fronts-one, fronts-all}
use Rattle.history_laws.specs.Receipts.{receipts_in}

-- ---- a log in two stretches

gained-two : (from : ℕ) (more h : List Entry) → from ≤ length h → gained from (more ++ h) ≡ gained from h ++ gained (length h) (more ++ h)
gained-two from [] h le = sym (append-nil (gained from h)) ∙ ap (λ (l : List Receipt). gained from h ++ l) (sym (gained-none (length h) h (omega arith)))
gained-two from (entry ∷ more) h le =
    let within : from ≤ length (more ++ h) = omega (arith, le, length-append more h) in
    let behind : length h ≤ length (more ++ h) = omega (arith, length-append more h) in
    let one : Receipt = record { place = length (more ++ h); entry = entry } in
    gained-more from (more ++ h) entry within
    ∙ ap (λ (l : List Receipt). l ++ one ∷ []) (gained-two from more h le)
    ∙ append_assoc (gained from h) (gained (length h) (more ++ h)) (one ∷ [])
    ∙ ap (λ (l : List Receipt). gained from h ++ l) (sym (gained-more (length h) (more ++ h) entry behind))

gained-by : (old mid new : List Entry) → Fronts old mid → Fronts mid new → gained (length old) new ≡ gained (length old) mid ++ gained (length mid) new
gained-by old mid new first second =
    subst (λ (h : List Entry). gained (length old) h ≡ gained (length old) mid ++ gained (length mid) h) (sym second.is)
    (gained-two (length old) second.more mid (omega (arith, ap (length {A = Entry}) first.is, length-append first.more old)))

-- ---- one answer

one-more : (h : List Entry) (entry : Entry) → gained (length h) (entry ∷ h) ≡ receipt_of h entry ∷ []
one-more h entry = gained-more (length h) h entry (omega arith) ∙ ap (λ (l : List Receipt). l ++ receipt_of h entry ∷ []) (gained-none (length h) h (omega arith))

of-end : (refusal : Option AdmitRefusal) (h : List Entry) (entry : Entry) (answer : Result Receipt AdmitRefusal) → answer ≡ or_refused refusal (receipt_of h entry) → of_end (Some answer) ≡ gained (length h) (after refusal entry h)
of-end None h entry answer is = ap (λ (a : Result Receipt AdmitRefusal). of_end (Some a)) is ∙ sym (one-more h entry)
of-end (Some refusal) h entry answer is = ap (λ (a : Result Receipt AdmitRefusal). of_end (Some a)) is ∙ sym (gained-none (length h) h (omega arith))

one-in-place : (old new : BookOf) (one : Asked Receipt) → BookAnswers old one new → receipts_in one ≡ gained (length old.core.history) new.core.history
one-in-place old new (AskedStep id token now draws answer) b = b.comes.receipts
one-in-place old new (AskedLook id now answer) b = sym (ap (λ (h : List Entry). gained (length old.core.history) h) b.looked.history ∙ gained-none (length old.core.history) old.core.history (omega arith))
one-in-place old new (AskedAdmit lease seq service procedure args answer) b = of-end _ old.core.history _ answer b.answer ∙ ap (λ (h : List Entry). gained (length old.core.history) h) (sym b.history)
one-in-place old new (AskedEnd lease seq answer) b = of-end _ old.core.history _ answer b.answer ∙ ap (λ (h : List Entry). gained (length old.core.history) h) (sym b.history)

-- ---- all answers

pub in-place : (asked : List (Asked Receipt)) (old new : BookOf) → Asking BookAnswers old asked new → flat_map receipts_in asked ≡ gained (length old.core.history) new.core.history
in-place [] old new h = sym (ap (λ (b : BookOf). gained (length old.core.history) b.core.history) h ∙ gained-none (length old.core.history) old.core.history (omega arith))
in-place (one ∷ more) old new h =
    (λ i. one-in-place old h.0 one h.1 i ++ in-place more h.0 new h.2 i)
    ∙ sym (gained-by old.core.history h.0.core.history new.core.history (fronts-one old h.0 one h.1) (fronts-all more h.0 new h.2))
