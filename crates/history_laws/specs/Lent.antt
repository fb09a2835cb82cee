-- Whose numbers are taken: those of contexts that a look showed before.
use Rattle.std.specs.Prelude.{◌≡◌, List, ◌∷◌, ◌++◌}
use Rattle.accept_book.specs.RecordShown.{Asked, AskedStep, AskedLook, AskedAdmit, AskedEnd}
use Rattle.accept_book.specs.declared.book_answer.Lease.{Lease}
use Rattle.history_laws.specs.Before.{IsGiven}

-- the question takes a number of this lease: it asks for a call, or for an end
abbrev pub Takes : {A : Type 0} → Lease → Asked A → Type 0
Takes lease (AskedStep id token now draws answer) = ⊥
Takes lease (AskedLook id now answer) = ⊥
Takes lease (AskedAdmit other seq service procedure args answer) = other ≡ lease
Takes lease (AskedEnd other seq answer) = other ≡ lease

-- each lease of which a number is taken was given by a look before
abbrev pub AllLent : {A : Type 0} → List (Asked A) → Type 0
AllLent {A} all = (earlier : List (Asked A)) (one : Asked A) (later : List (Asked A))
    → all ≡ earlier ++ one ∷ later → (lease : Lease) → Takes lease one → IsGiven lease earlier
