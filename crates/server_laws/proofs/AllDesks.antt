-- The receipts of all desks' answers are the entries of the log.
use Rattle.std.proofs.Common.{◌≡◌, ◌≤◌, ◌+◌, ℕ, List, [], ◌∷◌, ◌++◌, length, refl, sym, ap, ◌∙◌, arith}
use Rattle.std.specs.List.{flat_map}
use Rattle.accept_book.specs.Booking.{BookOf}
use Rattle.accept_core.specs.Entering.{gained}
use Rattle.accept_book.specs.RecordShown.{Asked}
use Rattle.accept_core.specs.declared.entry.Entry.{Entry}
use Rattle.accept_core.specs.declared.entry.Receipt.{Receipt}
use Rattle.gss_server.specs.Asking.{Asking, BookAnswers}
use Rattle.book_seats.specs.Notes.{Note, asked_by, questions_of}
use Rattle.book_seats.specs.Weights.{weigh, total}
use Rattle.book_seats.proofs.Weights.{weighs-asked, total-same}
use Rattle.history_laws.proofs.InPlace.{in-place}
use Rattle.history_laws.specs.Receipts.{receipts_in}

pub weigh-append : {A : Type 0} (weight : A → ℕ) (xs ys : List A) → weigh weight (xs ++ ys) ≡ weigh weight xs + weigh weight ys
weigh-append weight [] ys = omega arith
weigh-append weight (x ∷ xs) ys = omega (arith, weigh-append weight xs ys)

weigh-receipts : (weight : Receipt → ℕ) (asked : List (Asked Receipt)) → weigh weight (flat_map receipts_in asked) ≡ weigh (λ one. weigh weight (receipts_in one)) asked
weigh-receipts weight [] = refl
weigh-receipts weight (one ∷ more) = weigh-append weight (receipts_in one) (flat_map receipts_in more) ∙ ap (λ (n : ℕ). weigh weight (receipts_in one) + n) (weigh-receipts weight more)

pub of-all-desks : {T : Type 0} (desks : ℕ) (weight : Receipt → ℕ) (all : List (Note T)) (first last : BookOf) → first.core.history ≡ [] → Asking BookAnswers first (questions_of all) last → ((desk : ℕ) → desks ≤ desk → asked_by desk all ≡ [])
    → total desks (λ desk. weigh weight (flat_map receipts_in (asked_by desk all))) ≡ weigh weight (gained 0 last.core.history)
of-all-desks desks weight all first last empty chain others =
    total-same desks _ _ (λ desk. weigh-receipts weight (asked_by desk all))
    ∙ weighs-asked desks (λ one. weigh weight (receipts_in one)) all others
    ∙ sym (weigh-receipts weight (questions_of all))
    ∙ ap (λ (l : List Receipt). weigh weight l) (in-place (questions_of all) first last chain)
    ∙ ap (λ (h : List Entry). weigh weight (gained (length h) last.core.history)) empty
