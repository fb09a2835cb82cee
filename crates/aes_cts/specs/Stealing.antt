-- CBC with ciphertext stealing, RFC 3962 section 5, with the zero vector. Blocks have 16 octets and
-- are counted from 0.
use Rattle.std.specs.Prelude.{ℕ, zero, suc, ◌+◌, ◌-◌, ◌*◌, ◌/◌, nat_le, List, [], ◌∷◌, ◌++◌, length}
use Rattle.std.specs.Prelude.{take, drop, replicate, bit_xor, if◌then◌else◌}
use Rattle.aes_cts.specs.Cipher.{cipher, inverse_cipher}

-- the octets of two lists added one by one, as far as both go
unfoldable pub add_octets : List ℕ → List ℕ → List ℕ
add_octets [] ys = []
add_octets (x ∷ xs) [] = []
add_octets (x ∷ xs) (y ∷ ys) = bit_xor x y ∷ add_octets xs ys

-- the zero vector
abbrev pub zero_block : List ℕ
zero_block = 0 ∷ 0 ∷ 0 ∷ 0 ∷ 0 ∷ 0 ∷ 0 ∷ 0 ∷ 0 ∷ 0 ∷ 0 ∷ 0 ∷ 0 ∷ 0 ∷ 0 ∷ 0 ∷ []

-- block i of some octets; the last may be short
abbrev pub block_at : List ℕ → ℕ → List ℕ
block_at octets i = take 16 (drop (16 * i) octets)

-- the number of blocks before the last, which has 1 to 16 octets
abbrev pub blocks_before_last : List ℕ → ℕ
blocks_before_last octets = (length octets - 1) / 16

-- ---- encryption

-- the cipher block before block n, the zero vector before the first: each is the cipher of the
-- plain block added to the one before
unfoldable pub chain : List ℕ → List ℕ → ℕ → List ℕ
chain key plain zero = zero_block
chain key plain (suc n) = cipher key (add_octets (chain key plain n) (block_at plain n))

-- the first n blocks of CBC
unfoldable pub chained : List ℕ → List ℕ → ℕ → List ℕ
chained key plain zero = []
chained key plain (suc n) = chained key plain n ++ chain key plain (suc n)

-- zeros up to a whole last block
abbrev pub padded : List ℕ → List ℕ
padded octets = octets ++ replicate (16 * (blocks_before_last octets + 1) - length octets) 0

-- the last two cipher blocks change places, and the one that then stands last is cut to what the
-- last plain block had
abbrev pub stolen : List ℕ → List ℕ → ℕ → List ℕ
stolen key plain n =
    chained key (padded plain) (n - 1) ++ chain key (padded plain) (n + 1)
    ++ take (length plain - 16 * n) (chain key (padded plain) n)

-- a single block is enciphered alone
unfoldable pub cts_encrypted : List ℕ → List ℕ → List ℕ
cts_encrypted key plain = if nat_le (length plain) 16 then cipher key plain
    else stolen key plain (blocks_before_last plain)

-- ---- decryption

-- what is added to block n of CBC once it is deciphered
abbrev pub before : List ℕ → ℕ → List ℕ
before octets zero = zero_block
before octets (suc n) = block_at octets n

-- the first n blocks of CBC deciphered
unfoldable pub unchained : List ℕ → List ℕ → ℕ → List ℕ
unchained key octets zero = []
unchained key octets (suc n) =
    unchained key octets n ++ add_octets (inverse_cipher key (block_at octets n)) (before octets n)

-- the block that stands whole before the short end deciphers to the last plain block, with zeros,
-- added to the cipher block that was cut: so its octets past the end are those that were cut off
abbrev pub given_back : List ℕ → List ℕ → ℕ → List ℕ
given_back key octets n =
    let whole : List ℕ = inverse_cipher key (block_at octets (n - 1)) in
    let end : List ℕ = drop (16 * n) octets in
    unchained key (take (16 * (n - 1)) octets ++ end ++ drop (length end) whole) n
    ++ add_octets end whole

-- the plain text of what was enciphered so; a single block is deciphered alone
unfoldable pub cts_decrypted : List ℕ → List ℕ → List ℕ
cts_decrypted key octets = if nat_le (length octets) 16 then inverse_cipher key octets
    else given_back key octets (blocks_before_last octets)
