-- Steps of the loop that reads the lines of a verifier file.
use Rattle.std.proofs.Common.{◌≡◌, ℕ, zero, suc, ◌+◌, ◌-◌, ◌<◌, List, [], ◌∷◌, ◌++◌, length, Result, Ok, Err, refl, sym, ◌∙◌, arith, append_assoc}
use Rattle.std.proofs.lemmas.List.{append-nil}
use Rattle.scram_mech.specs.declared.verifiers.Verifier.{Verifier}
use Rattle.scram_mech.specs.declared.refusal.VerifierRefusal.{VerifierRefusal}
use Rattle.scram_mech.specs.Reading.{◌>>=◌}
use Rattle.scram_mech.specs.Verifiers.{line_at, lines_at}

-- what was read before, in front of the rest
abbrev pub with_front : List Verifier → Result (List Verifier) VerifierRefusal → Result (List Verifier) VerifierRefusal
with_front front (Ok lines) = Ok (front ++ lines)
with_front front (Err e) = Err e

none_before : (r : Result (List Verifier) VerifierRefusal) → with_front [] r ≡ r
none_before (Ok x) = refl
none_before (Err e) = refl

pub starts : (most number : ℕ) (octets : List ℕ) → with_front [] (lines_at (most - 0) number octets) ≡ lines_at most number octets
starts most number octets = let same : most - 0 ≡ most = omega arith in rw same (none_before (lines_at most number octets))

-- at the end of the octets, or behind as many lines as there can be
pub is_done : (most number : ℕ) (octets : List ℕ) (front : List Verifier) (whole : Result (List Verifier) VerifierRefusal) → length octets ≡ 0 → with_front front (lines_at most number octets) ≡ whole → whole ≡ Ok front
unfolding lines_at
is_done zero number octets front whole none before = sym (rw (append-nil front) at before)
is_done (suc most) number [] front whole none before = sym (rw (append-nil front) at before)
is_done (suc most) number (o ∷ os) front whole none before = absurd (omega arith)

pub is_full : (most number : ℕ) (octets : List ℕ) (front : List Verifier) (whole : Result (List Verifier) VerifierRefusal) → most ≡ 0 → with_front front (lines_at most number octets) ≡ whole → whole ≡ Ok front
unfolding lines_at
is_full most number octets front whole none before = sym (rw (none, append-nil front) at before)

step : (most count number : ℕ) (octets : List ℕ) → count < most → 0 < length octets
    → lines_at (most - count) number octets ≡ (line_at number octets >>= (λ x. lines_at (most - (count + 1)) (number + 1) x.1 >>= (λ others. Ok (x.0 ∷ others))))
unfolding lines_at
step most count number [] lt some = absurd (omega arith)
step most count number (o ∷ os) lt some = let more : most - count ≡ suc (most - (count + 1)) = omega arith in rw more refl

-- a line that is refused refuses all
pub fails : (most count number : ℕ) (octets : List ℕ) (front : List Verifier) (whole : Result (List Verifier) VerifierRefusal) (e : VerifierRefusal) → count < most → 0 < length octets
    → line_at number octets ≡ Err e → with_front front (lines_at (most - count) number octets) ≡ whole → whole ≡ Err e
fails most count number octets front whole e lt some read before = sym (rw (step most count number octets lt some, read) at before)

one_more : (front : List Verifier) (line : Verifier) (r : Result (List Verifier) VerifierRefusal) → with_front (front ++ line ∷ []) r ≡ with_front front (r >>= (λ others. Ok (line ∷ others)))
one_more front line (Ok x) = rw (append_assoc front (line ∷ []) x) refl
one_more front line (Err e) = refl

-- one more line
pub goes_on : (most count number : ℕ) (octets left : List ℕ) (front : List Verifier) (line : Verifier) (whole : Result (List Verifier) VerifierRefusal) → count < most → 0 < length octets
    → line_at number octets ≡ Ok (line, left) → with_front front (lines_at (most - count) number octets) ≡ whole → with_front (front ++ line ∷ []) (lines_at (most - (count + 1)) (number + 1) left) ≡ whole
goes_on most count number octets left front line whole lt some read before =
    one_more front line (lines_at (most - (count + 1)) (number + 1) left) ∙ (rw (step most count number octets lt some, read) at before)
