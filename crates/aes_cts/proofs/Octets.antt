-- Words of 32 bits as columns of four octets.
use Rattle.std.proofs.Common.{◌≡◌, ℕ, zero, suc, ◌/◌, ◌%◌, ◌<◌, ◌^◌, List, [], ◌∷◌, get_or, refl, sym, ap, ◌∙◌, arith}
use Rattle.std.specs.Int.Bits.{bit_xor, xor_assoc, xor_zero_r}
use Rattle.std.specs.Int.{w32, from_be_bytes, to_be_bytes}
use Rattle.std.proofs.lemmas.Nat.{xor_comm, xor_shr, xor_mod, be_bytes_4, mod_below}
use Rattle.std.proofs.Math.Nat.{div-one}
use Rattle.aes_cts.specs.State.{Column, octet_of, column_of, add_column, mix_column, inverse_mix_column}
use Rattle.aes_cts.specs.Words.{part0, part1, part2, part3, unpart0, unpart1, unpart2, unpart3}

pub octet_of-xor : (a b shift : ℕ) → octet_of (bit_xor a b) shift ≡ bit_xor (octet_of a shift) (octet_of b shift)
octet_of-xor a b shift = ap (λ (x : ℕ). x % 2 ^ 8) (xor_shr a b shift) ∙ xor_mod (a / 2 ^ shift) (b / 2 ^ shift) 8

pub column_of-xor : (a b : ℕ) → column_of (bit_xor a b) ≡ add_column (column_of a) (column_of b)
unfolding column_of add_column
column_of-xor a b = rw (octet_of-xor a b 24, octet_of-xor a b 16, octet_of-xor a b 8, octet_of-xor a b 0)

pub to_be_bytes-octets : (word : ℕ) → to_be_bytes w32 word ≡ octet_of word 24 ∷ octet_of word 16 ∷ octet_of word 8 ∷ octet_of word 0 ∷ []
to_be_bytes-octets word =
    ap (λ (x : ℕ). octet_of word 24 ∷ octet_of word 16 ∷ octet_of word 8 ∷ x % 2 ^ 8 ∷ []) (sym (div-one word))

four_below : (a b c d : ℕ) → a < 256 → b < 256 → c < 256 → d < 256 → (i : ℕ) → get_or (a ∷ b ∷ c ∷ d ∷ []) i 0 < 256
four_below a b c d ha hb hc hd zero = ha
four_below a b c d ha hb hc hd (suc zero) = hb
four_below a b c d ha hb hc hd (suc (suc zero)) = hc
four_below a b c d ha hb hc hd (suc (suc (suc zero))) = hd
four_below a b c d ha hb hc hd (suc (suc (suc (suc i)))) = omega arith

pub from_be_bytes-column : (n a b c d : ℕ) → a < 256 → b < 256 → c < 256 → d < 256 → n ≡ from_be_bytes w32 (a ∷ b ∷ c ∷ d ∷ [])
    → column_of n ≡ record { row0 = a; row1 = b; row2 = c; row3 = d }
unfolding column_of
from_be_bytes-column n a b c d ha hb hc hd e =
    let octets : List ℕ = a ∷ b ∷ c ∷ d ∷ [] in
    let same : octet_of n 24 ∷ octet_of n 16 ∷ octet_of n 8 ∷ octet_of n 0 ∷ [] ≡ octets =
    sym (to_be_bytes-octets n) ∙ be_bytes_4 octets n refl (four_below a b c d ha hb hc hd) e in
    cc

pub octet_of-lt : (word shift : ℕ) → octet_of word shift < 256
octet_of-lt word shift = mod_below (word / 2 ^ shift) 256 (omega arith)

-- the sum of what four octets add to a column is the column mixed
pub mixed-parts : (p q r s a b c d : ℕ) → column_of p ≡ part0 a → column_of q ≡ part1 b → column_of r ≡ part2 c → column_of s ≡ part3 d
    → column_of (bit_xor (bit_xor (bit_xor p q) r) s) ≡ mix_column (record { row0 = a; row1 = b; row2 = c; row3 = d })
unfolding mix_column add_column
mixed-parts p q r s a b c d hp hq hr hs =
    rw (column_of-xor (bit_xor (bit_xor p q) r) s, column_of-xor (bit_xor p q) r, column_of-xor p q, hp, hq, hr, hs) refl

pub unmixed-parts : (p q r s a b c d : ℕ) → column_of p ≡ unpart0 a → column_of q ≡ unpart1 b → column_of r ≡ unpart2 c → column_of s ≡ unpart3 d
    → column_of (bit_xor (bit_xor (bit_xor p q) r) s) ≡ inverse_mix_column (record { row0 = a; row1 = b; row2 = c; row3 = d })
unfolding inverse_mix_column add_column
unmixed-parts p q r s a b c d hp hq hr hs =
    rw (column_of-xor (bit_xor (bit_xor p q) r) s, column_of-xor (bit_xor p q) r, column_of-xor p q, hp, hq, hr, hs) refl

-- a sum of five in another order
pub turned_about : (a b c d k : ℕ) → bit_xor (bit_xor (bit_xor (bit_xor k d) c) a) b ≡ bit_xor (bit_xor (bit_xor (bit_xor a b) c) d) k
turned_about a b c d k =
    xor_assoc (bit_xor (bit_xor k d) c) a b
    ∙ xor_comm (bit_xor (bit_xor k d) c) (bit_xor a b)
    ∙ ap (λ (x : ℕ). bit_xor (bit_xor a b) x) (xor_comm (bit_xor k d) c)
    ∙ ap (λ (x : ℕ). bit_xor (bit_xor a b) (bit_xor c x)) (xor_comm k d)
    ∙ sym (xor_assoc (bit_xor a b) c (bit_xor d k))
    ∙ sym (xor_assoc (bit_xor (bit_xor a b) c) d k)

-- nothing is added by a word of zeros
pub add_column-zero : (a : Column) → add_column a (column_of 0) ≡ a
unfolding add_column column_of
add_column-zero a = rw (xor_zero_r a.row0, xor_zero_r a.row1, xor_zero_r a.row2, xor_zero_r a.row3) refl
