-- Sums of octets, parts of lists, and the blocks of CBC one after the other.
use Rattle.std.proofs.Common.{◌≡◌, ℕ, zero, suc, ◌+◌, ◌*◌, ◌<◌, ◌≤◌, min, refl, sym, ap, ◌∙◌, arith, List, [], ◌∷◌, ◌++◌, length, take, drop, get_or, add-one}
use Rattle.std.specs.Int.Bits.{bit_xor}
use Rattle.std.proofs.lemmas.List.{length-append, length-take, length-drop, length-take-le, append_assoc, take_at, drop_at, drop-drop, drop-append-le, take-append-le}
use borrow.Rule.Slice.PartMut.{put_mid}
use Rattle.aes_cts.specs.State.{State, state_octets, add_column, add_state}
use Rattle.aes_cts.specs.Words.{state_of}
use Rattle.aes_cts.specs.declared.columns.Columns.{Columns}
use Rattle.aes_cts.specs.Cipher.{cipher, inverse_cipher}
use Rattle.aes_cts.specs.Stealing.{add_octets, block_at, chain, chained, before, unchained}
use Rattle.aes_cts.proofs.Octets.{column_of-xor}
use Rattle.aes_cts.proofs.Blocks.{length-cipher, length-inverse_cipher}

-- ---- sums

pub length-add_octets : (xs ys : List ℕ) → length (add_octets xs ys) ≡ min (length xs) (length ys)
unfolding add_octets
length-add_octets [] ys = omega arith
length-add_octets (x ∷ xs) [] = omega arith
length-add_octets (x ∷ xs) (y ∷ ys) = omega (arith, length-add_octets xs ys)

pub get_or-add_octets : (xs ys : List ℕ) (i : ℕ) → i < length xs → i < length ys → get_or (add_octets xs ys) i 0 ≡ bit_xor (get_or xs i 0) (get_or ys i 0)
unfolding add_octets
get_or-add_octets [] ys i h g = absurd (omega arith)
get_or-add_octets (x ∷ xs) [] i h g = absurd (omega arith)
get_or-add_octets (x ∷ xs) (y ∷ ys) zero h g = refl
get_or-add_octets (x ∷ xs) (y ∷ ys) (suc i) h g = get_or-add_octets xs ys i (omega arith) (omega arith)

state_octets-add_state : (s t : State) → state_octets (add_state s t) ≡ add_octets (state_octets s) (state_octets t)
unfolding state_octets add_state add_column add_octets
state_octets-add_state s t = refl

added_state : (a b : Columns)
    → state_of (record { first = bit_xor a.first b.first; second = bit_xor a.second b.second; third = bit_xor a.third b.third; fourth = bit_xor a.fourth b.fourth })
    ≡ add_state (state_of a) (state_of b)
unfolding state_of add_state
added_state a b = simp column_of-xor

pub added_octets : (a b : Columns)
    → state_octets (state_of (record { first = bit_xor a.first b.first; second = bit_xor a.second b.second; third = bit_xor a.third b.third; fourth = bit_xor a.fourth b.fourth }))
    ≡ add_octets (state_octets (state_of a)) (state_octets (state_of b))
added_octets a b = ap state_octets (added_state a b) ∙ state_octets-add_state (state_of a) (state_of b)

-- ---- parts of lists

-- a part that stands behind a front is written over
pub replaced : (front rest ys : List ℕ) (at k : ℕ) → length front ≡ at → put_mid at k (front ++ rest) ys ≡ front ++ (ys ++ drop k rest)
replaced front rest ys at k e = rw (take_at front rest at e, drop_at front rest at e) refl

-- ---- encryption

pub length-chain : (key plain : List ℕ) (n : ℕ) → length (chain key plain n) ≡ 16
unfolding chain
length-chain key plain zero = refl
length-chain key plain (suc n) = length-cipher key (add_octets (chain key plain n) (block_at plain n))

pub length-chained : (key plain : List ℕ) (n : ℕ) → length (chained key plain n) ≡ 16 * n
unfolding chained
length-chained key plain zero = refl
length-chained key plain (suc n) =
    omega (arith, length-append (chained key plain n) (chain key plain (suc n)), length-chained key plain n, length-chain key plain (suc n))

pub chained-suc : (key plain : List ℕ) (n : ℕ) → chained key plain (suc n) ≡ chained key plain n ++ chain key plain (suc n)
unfolding chained
chained-suc key plain n = refl

-- whole blocks are read in the front of a list
pub block_at-append : (xs ys : List ℕ) (n : ℕ) → 16 * n + 16 ≤ length xs → block_at (xs ++ ys) n ≡ block_at xs n
block_at-append xs ys n h =
    rw (drop-append-le (16 * n) xs ys (omega arith)) (take-append-le 16 (drop (16 * n) xs) ys (omega (arith, length-drop (16 * n) xs)))

pub chain-append : (key xs ys : List ℕ) (n : ℕ) → 16 * n ≤ length xs → chain key (xs ++ ys) n ≡ chain key xs n
unfolding chain
chain-append key xs ys zero h = refl
chain-append key xs ys (suc n) h = rw (chain-append key xs ys n (omega arith), block_at-append xs ys n (omega arith)) refl

pub chained-append : (key xs ys : List ℕ) (n : ℕ) → 16 * n ≤ length xs → chained key (xs ++ ys) n ≡ chained key xs n
unfolding chained
chained-append key xs ys zero h = refl
chained-append key xs ys (suc n) h = rw (chained-append key xs ys n (omega arith), chain-append key xs ys (suc n) h) refl

-- the list after a block more was written
pub blocks_more : (key plain bytes ys : List ℕ) (n k : ℕ) → bytes ≡ chained key plain n ++ drop (16 * n) plain → k ≡ 16
    → ys ≡ chain key plain (n + 1) → put_mid (16 * n) k bytes ys ≡ chained key plain (n + 1) ++ drop (16 * (n + 1)) plain
unfolding chained
blocks_more key plain bytes ys n k e size made =
    let y : ys ≡ chain key plain (suc n) = rw add-one at made in
    let further : 16 * n + 16 ≡ 16 * (n + 1) = omega arith in
    rw (e, size, replaced (chained key plain n) (drop (16 * n) plain) ys (16 * n) 16 (length-chained key plain n), drop-drop 16 (16 * n) plain, further, add-one, y)
    (sym (append_assoc (chained key plain n) (chain key plain (suc n)) (drop (16 * suc n) plain)))

-- the block that is read there
pub block_there : (front rest bytes : List ℕ) (at : ℕ) → bytes ≡ front ++ drop at rest → length front ≡ at → take 16 (drop at bytes) ≡ take 16 (drop at rest)
block_there front rest bytes at e len = rw (e, drop_at front (drop at rest) at len) refl

-- ---- decryption

pub length-before : (octets : List ℕ) (n : ℕ) → 16 * n ≤ length octets → length (before octets n) ≡ 16
length-before octets zero h = refl
length-before octets (suc n) h = length-take-le 16 (drop (16 * n) octets) (omega (arith, length-drop (16 * n) octets))

pub length-unchained : (key octets : List ℕ) (n : ℕ) → 16 * n ≤ length octets → length (unchained key octets n) ≡ 16 * n
unfolding unchained
length-unchained key octets zero h = refl
length-unchained key octets (suc n) h =
    let block : List ℕ = add_octets (inverse_cipher key (block_at octets n)) (before octets n) in
    omega (
      arith,
      length-append (unchained key octets n) block,
      length-unchained key octets n (omega arith),
      length-add_octets (inverse_cipher key (block_at octets n)) (before octets n),
      length-inverse_cipher key (block_at octets n),
      length-before octets n (omega arith),
    )

pub unblocks_more : (key octets bytes ys : List ℕ) (n k : ℕ) → bytes ≡ unchained key octets n ++ drop (16 * n) octets → k ≡ 16 → 16 * n ≤ length octets
    → ys ≡ add_octets (inverse_cipher key (block_at octets n)) (before octets n)
    → put_mid (16 * n) k bytes ys ≡ unchained key octets (n + 1) ++ drop (16 * (n + 1)) octets
unfolding unchained
unblocks_more key octets bytes ys n k e size within made =
    let further : 16 * n + 16 ≡ 16 * (n + 1) = omega arith in
    rw (e, size, replaced (unchained key octets n) (drop (16 * n) octets) ys (16 * n) 16 (length-unchained key octets n within), drop-drop 16 (16 * n) octets, further, add-one, made)
    (sym (append_assoc (unchained key octets n) (add_octets (inverse_cipher key (block_at octets n)) (before octets n)) (drop (16 * suc n) octets)))

pub before-append : (xs ys : List ℕ) (n : ℕ) → 16 * n ≤ length xs → before (xs ++ ys) n ≡ before xs n
before-append xs ys zero h = refl
before-append xs ys (suc n) h = block_at-append xs ys n (omega arith)

pub unchained-append : (key xs ys : List ℕ) (n : ℕ) → 16 * n ≤ length xs → unchained key (xs ++ ys) n ≡ unchained key xs n
unfolding unchained
unchained-append key xs ys zero h = refl
unchained-append key xs ys (suc n) h =
    rw (unchained-append key xs ys n (omega arith), block_at-append xs ys n (omega arith), before-append xs ys n (omega arith)) refl

-- ---- the steps of the loops

pub chain_more : (key plain previous block result : List ℕ) (n : ℕ) → previous ≡ chain key plain n → block ≡ block_at plain n
    → result ≡ cipher key (add_octets previous block) → result ≡ chain key plain (n + 1)
unfolding chain
chain_more key plain previous block result n p b r = rw add-one (rw (p, b) at r)

-- the block that stands at n, read as a part of the list
pub part_is : (front plain bytes : List ℕ) (n k : ℕ) → bytes ≡ front ++ drop (16 * n) plain → length front ≡ 16 * n → k ≡ 16
    → take k (drop (16 * n) bytes) ≡ block_at plain n
part_is front plain bytes n k e len size = rw size (block_there front plain bytes (16 * n) e len)

-- a part of 16 octets is written over by 16
pub length-put_mid : (bytes ys : List ℕ) (n k : ℕ) → 16 * n + 16 ≤ length bytes → k ≡ 16 → length ys ≡ 16 → length (put_mid (16 * n) k bytes ys) ≡ length bytes
length-put_mid bytes ys n k within size len =
    rw size (simp (length-append, length-take, length-drop) (omega arith))
