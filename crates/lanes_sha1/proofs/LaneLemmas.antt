-- Lanes of vectors.
use Rattle.std.proofs.Common.{◌≡◌, ℕ, zero, suc, ◌<◌, ◌-◌, ◌*◌, ◌/◌, ◌%◌, ◌^◌, List, [], ◌∷◌, length, slice_index, slice_index_or, slice_set, bit_or, arith, refl, ap}
use Rattle.std.specs.Int.{w32, rotate_left}
use Rattle.std.specs.Simd.Lanes.{zip2}
use Rattle.std.specs.Borrow.{Bor}
use Rattle.lanes_sha1.specs.Lanes.{EachLane, words_of, read_lane}

-- what holds of each of the four lanes
pub below_four : (P : ℕ → Type 0) → P 0 → P 1 → P 2 → P 3 → EachLane P
below_four P p0 p1 p2 p3 zero h = p0
below_four P p0 p1 p2 p3 (suc zero) h = p1
below_four P p0 p1 p2 p3 (suc (suc zero)) h = p2
below_four P p0 p1 p2 p3 (suc (suc (suc zero))) h = p3
below_four P p0 p1 p2 p3 (suc (suc (suc (suc n)))) h = absurd (omega arith)

-- one number in each lane
pub splat_each : (x : ℕ) → EachLane (λ j. slice_index (x ∷ x ∷ x ∷ x ∷ []) j ≡ x)
splat_each x = below_four (λ j. slice_index (x ∷ x ∷ x ∷ x ∷ []) j ≡ x) refl refl refl refl

-- what holds of each list of four elements
pub four_lanes : (P : List ℕ → Type 0) → ((a b c d : ℕ) → P (a ∷ b ∷ c ∷ d ∷ [])) → (xs : List ℕ) → length xs ≡ 4 → P xs
four_lanes P p (a ∷ b ∷ c ∷ d ∷ []) h = p a b c d
four_lanes P p [] h = absurd (omega arith)
four_lanes P p (a ∷ []) h = absurd (omega arith)
four_lanes P p (a ∷ b ∷ []) h = absurd (omega arith)
four_lanes P p (a ∷ b ∷ c ∷ []) h = absurd (omega arith)
four_lanes P p (a ∷ b ∷ c ∷ d ∷ e ∷ xs) h = absurd (omega arith)

-- two shifts of each lane and an or are a rotation
abbrev Rotates : ℕ → List ℕ → Type 0
Rotates k a = EachLane (λ j.
    slice_index (zip2 bit_or
    (zip2 (λ x n. x * 2 ^ n % 2 ^ 32) a (k ∷ k ∷ k ∷ k ∷ []))
    (zip2 (λ x n. x / 2 ^ n) a ((32 - k) ∷ (32 - k) ∷ (32 - k) ∷ (32 - k) ∷ []))) j
    ≡ rotate_left w32 (slice_index a j) k)

pub shifts_rotate : (k : ℕ) → 0 < k → k < 32 → (a : List ℕ) → length a ≡ 4 → Rotates k a
shifts_rotate k low high =
    let left : k % 32 ≡ k = omega arith in
    let right : (32 - k) % 32 ≡ 32 - k = omega arith in
    four_lanes (Rotates k) (λ a0 a1 a2 a3.
    below_four _ (rw (left, right) refl) (rw (left, right) refl) (rw (left, right) refl) (rw (left, right) refl))

-- a word of a lane
pub slice_index-words : (j : ℕ) (x : List (List ℕ)) (k : ℕ) → slice_index (words_of j x) k ≡ slice_index (slice_index_or x k []) j
slice_index-words j [] k = refl
slice_index-words j (v ∷ x) zero = refl
slice_index-words j (v ∷ x) (suc k) = slice_index-words j x k

-- a vector written is a word written in each lane
pub words-set : (j : ℕ) (x : List (List ℕ)) (k : ℕ) (v : List ℕ) → words_of j (slice_set x k v) ≡ slice_set (words_of j x) k (slice_index v j)
words-set j [] k v = refl
words-set j (u ∷ x) zero v = refl
words-set j (u ∷ x) (suc k) v = ap (λ (r : List ℕ). slice_index u j ∷ r) (words-set j x k v)

pub length-words : (j : ℕ) (x : List (List ℕ)) → length (words_of j x) ≡ length x
length-words j [] = refl
length-words j (v ∷ x) = omega (arith, length-words j x)

-- what the reference at a place points to
pub read_at : (references : List (Bor (List ℕ))) (k : ℕ) → (slice_index_or references k (record { ref_ptr = (0, 0); now = [] })).now ≡ read_lane k references
read_at [] k = refl
read_at (reference ∷ references) zero = refl
read_at (reference ∷ references) (suc k) = read_at references k
