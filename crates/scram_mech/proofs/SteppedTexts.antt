-- Texts read step by step have the values of their pieces.
use Rattle.std.proofs.Common.{◌≡◌, ℕ, List, [], ◌∷◌, Result, Ok, Err, refl, ap}
use Rattle.scram_mech.specs.declared.refusal.Stuck.{Stuck}
use Rattle.scram_mech.specs.Reading.{◌>>=◌, word_at, end_at}
use Rattle.scram_mech.specs.Values.{value_at}
use Rattle.scram_mech.specs.Formats.{Segment, Word, Value, End, pieces, pieces_of, value_behind, steps, steps_of}

same_next : {A B : Type 0} (r : Result A Stuck) (f g : A → Result B Stuck) → ((x : A) → f x ≡ g x) → (r >>= f) ≡ (r >>= g)
same_next (Ok x) f g same = same x
same_next (Err e) f g same = refl

behind : {A B : Type 0} (r : Result A Stuck) (k : A → Result (List ℕ × List ℕ) Stuck) (f g : List ℕ × List ℕ → Result B Stuck)
    → ((x : List ℕ × List ℕ) → f x ≡ g x) → (r >>= (λ x. k x >>= f)) ≡ ((r >>= k) >>= g)
behind (Ok x) k f g same = same_next (k x) f g same
behind (Err e) k f g same = refl

-- with a value before the others
abbrev with_value : List ℕ → Result (List (List ℕ) × List ℕ) Stuck → Result (List (List ℕ) × List ℕ) Stuck
with_value value others = others >>= (λ x. Ok (value ∷ x.0, x.1))

-- without what is left
abbrev alone : Result (List (List ℕ) × List ℕ) Stuck → Result (List (List ℕ)) Stuck
alone values = values >>= (λ x. Ok x.0)

pub steps_pieces : (format : List Segment) (octets : List ℕ) → pieces format octets ≡ steps format octets
unfolding pieces steps value_behind
steps_pieces [] octets = refl
steps_pieces (Word word ∷ []) octets = refl
steps_pieces (Word word ∷ Word next ∷ format) octets =
    same_next (word_at word octets) _ _ (λ w. steps_pieces (Word next ∷ format) w.1)
steps_pieces (Word word ∷ Value start ∷ format) octets =
    behind (word_at word octets) (λ w. value_at start w.1) _ _ (λ v. ap (with_value v.0) (steps_pieces format v.1))
steps_pieces (Word word ∷ End ∷ format) octets =
    same_next (word_at word octets) _ _ (λ w. steps_pieces (End ∷ format) w.1)
steps_pieces (Value start ∷ format) octets =
    same_next (value_at start octets) _ _ (λ v. ap (with_value v.0) (steps_pieces format v.1))
steps_pieces (End ∷ format) octets = same_next (end_at octets) _ _ (λ e. steps_pieces format e.1)

pub steps_of_pieces : (format : List Segment) (text : List ℕ) → pieces_of format text ≡ steps_of format text
unfolding pieces_of steps_of
steps_of_pieces format text = ap alone (steps_pieces format text)
