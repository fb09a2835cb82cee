-- What a legal log says of an id, by which entries it has.
use Rattle.std.specs.Prelude.{◌≡◌, ◌⊎◌, ℕ, List, [], ◌∷◌}
use Rattle.gss_base.specs.declared.mech.MechKind.{MechKind}
use Rattle.accept_core.specs.History.{Standing, Unknown, Open, Whole, Over, standing}
use Rattle.accept_core.specs.Legal.{Legal}
use Rattle.accept_core.specs.declared.entry.EndCause.{EndCause}
use Rattle.accept_core.specs.declared.entry.Entry.{Entry}
use Rattle.accept_core.specs.declared.entry.Entry.TheVariants.{Opened, Settled, Ended}

-- the log has this entry
abbrev pub Has : Entry → List Entry → Type 0
Has entry [] = ⊥
Has entry (first ∷ h) = (first ≡ entry) ⊎ Has entry h

-- it has no entry that opens the id, none that settles it, none that ends it
abbrev pub NeverOpened : ℕ → List Entry → Type 0
NeverOpened id h = (at : ℕ) → Has (Opened id at) h → ⊥

abbrev pub NeverSettled : ℕ → List Entry → Type 0
NeverSettled id h = (mech : MechKind) (names : List ℕ) (ends at : ℕ)
    → Has (Settled id mech names ends at) h → ⊥

abbrev pub NeverEnded : ℕ → List Entry → Type 0
NeverEnded id h = (cause : EndCause) → Has (Ended id cause) h → ⊥

-- never opened, and so neither settled nor ended; opened, and neither settled nor ended; settled
-- and not ended; ended
abbrev pub SaysBy : Standing → ℕ → List Entry → Type 0
SaysBy Unknown id h = NeverOpened id h × NeverSettled id h × NeverEnded id h
SaysBy (Open at) id h = Has (Opened id at) h × NeverSettled id h × NeverEnded id h
SaysBy (Whole mech names ends) id h =
    ((at : ℕ) × Has (Settled id mech names ends at) h) × NeverEnded id h
SaysBy Over id h = (cause : EndCause) × Has (Ended id cause) h

-- so a legal log says of each id what its entries are
abbrev pub SaysLaw : Type 0
SaysLaw = (width : ℕ) (h : List Entry) (id : ℕ) → Legal width h → SaysBy (standing id h) id h
