-- Four messages side by side (FIPS 180-4). Each word of a hash value or of a schedule is a vector,
-- a list of four numbers, with one lane for each message.
use Rattle.std.specs.Prelude.{ℕ, ◌+◌, ◌/◌, ◌<◌, List, [], ◌∷◌, length, map}
use Rattle.std.specs.Prelude.{slice_index, slice_index_or}
use Rattle.std.specs.Borrow.{Bor}

-- what holds of each lane
abbrev pub EachLane : (ℕ → Type 0) → Type 0
EachLane P = (j : ℕ) → j < 4 → P j

-- lane j of vector k
abbrev pub lane_at : List (List ℕ) → ℕ → ℕ → ℕ
lane_at vectors k j = slice_index (slice_index_or vectors k []) j

-- the five words of lane j, as of a hash value (section 5.3.1)
abbrev pub lane : ℕ → List (List ℕ) → List ℕ
lane j vectors =
    lane_at vectors 0 j ∷ lane_at vectors 1 j ∷ lane_at vectors 2 j ∷ lane_at vectors 3 j
    ∷ lane_at vectors 4 j ∷ []

-- the words of lane j, of any number of vectors
abbrev pub words_of : ℕ → List (List ℕ) → List ℕ
words_of j vectors = map (λ vector. slice_index vector j) vectors

-- what stands in lane j of four lists: hash values or digests
abbrev pub of_lane : ℕ → List (List ℕ) → List ℕ
of_lane j lists = slice_index_or lists j []

-- what the reference of lane j points to: a message or a block
abbrev pub read_lane : ℕ → List (Bor (List ℕ)) → List ℕ
read_lane j references = of_lane j (map (λ reference. reference.now) references)

-- the blocks that a message, or what is left of it after whole blocks, takes with its padding
-- (section 5.1.1)
abbrev pub block_count : List ℕ → ℕ
block_count m = (length m + 8) / 64 + 1
