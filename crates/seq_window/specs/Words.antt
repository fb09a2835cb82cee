-- A window as it lies in memory: a ring of 17 words of 64 bits. The numbers go into blocks of 64, a
-- word each, and the blocks go round the ring. Any 1,024 numbers in a row lie in at most 17 blocks,
-- so no two of a window share a bit.
use Rattle.std.specs.Prelude.{◌≡◌, ℕ, ◌+◌, ◌-◌, ◌*◌, ◌/◌, ◌^◌, ◌<◌, ◌≤◌, ◌%◌, Bool, false, ◌==◌}
use Rattle.std.specs.Prelude.{List, map, min, length, slice_index_or, slice_set, bit_or}
use Rattle.std.specs.Int.{bit_at}
use Rattle.std.specs.List.{range_with_len}
use Rattle.seq_window.specs.Marks.{Seen}

-- the bit of the number is set
abbrev pub in_words : List ℕ → ℕ → Bool
in_words words n = bit_at (slice_index_or words (n / 64 % 17) 0) (n % 64) == 1

-- the words where the bit of the number is set too
abbrev pub with_bit : List ℕ → ℕ → List ℕ
with_bit words n = slice_set words (n / 64 % 17)
    (bit_or (slice_index_or words (n / 64 % 17) 0) (1 * 2 ^ (n % 64) % 2 ^ 64))

-- what the words say of the numbers from the last one down
abbrev pub seen_of : ℕ → ℕ → List ℕ → Seen
seen_of width last words = record {
  width = width;
  last = last;
  flags = map (λ k. in_words words (last - k)) (range_with_len 0 (min width (last + 1)));
}

-- the numbers of the last block above the last one have no bit
pub record IsWhole (width last : ℕ) (words : List ℕ) : Type 0 where
  pub some : 0 < width
  pub bounded : width ≤ 1024
  pub words_of : length words ≡ 17
  pub above : (n : ℕ) → last < n → n / 64 ≡ last / 64 → in_words words n ≡ false
