-- The field GF(2^8) and the S-box of FIPS 197, sections 4 and 5.1.1. An octet is the polynomial
-- whose coefficients are its bits.
use Rattle.std.specs.Prelude.{ℕ, zero, suc, ◌+◌, ◌*◌, ◌/◌, ◌%◌, ◌==◌, bit_xor, if◌then◌else◌}
use Rattle.std.specs.Int.{bit_at}

-- times x, modulo x^8 + x^4 + x^3 + x + 1 (section 4.2.1)
unfoldable pub times_x : ℕ → ℕ
times_x a = bit_xor (2 * a) (bit_at a 7 * 0x11b)

-- the product of a and the polynomial of the given number of bits of b (section 4.2)
unfoldable pub product : ℕ → ℕ → ℕ → ℕ
product zero a b = 0
product (suc bits) a b = bit_xor (if b % 2 == 1 then a else 0) (product bits (times_x a) (b / 2))

-- b times a
unfoldable pub times : ℕ → ℕ → ℕ
times b a = product 8 a b

-- the power of a with that exponent
unfoldable pub power : ℕ → ℕ → ℕ
power zero a = 1
power (suc exponent) a = times (power exponent a) a

-- the multiplicative inverse, a to the 254th, and 0 of 0 (section 4.2)
unfoldable pub inverse : ℕ → ℕ
inverse a = power 254 a

-- an octet rotated left by that many places, the factor being 2 to the number of places
abbrev pub rotated : ℕ → ℕ → ℕ
rotated factor b = (b * factor) % 256 + b * factor / 256

-- the affine map (section 5.1.1): bit i is the sum of bits i, i+4, i+5, i+6, i+7 of b and bit i of
-- 63
abbrev pub affine : ℕ → ℕ
affine b = bit_xor (bit_xor
    (bit_xor (bit_xor (bit_xor b (rotated 2 b)) (rotated 4 b)) (rotated 8 b)) (rotated 16 b)) 0x63

-- its inverse (section 5.3.2): bit i is the sum of bits i+2, i+5, i+7 of b and bit i of 05
abbrev pub affine_back : ℕ → ℕ
affine_back b = bit_xor (bit_xor (bit_xor (rotated 2 b) (rotated 8 b)) (rotated 64 b)) 0x05

-- SBox and InvSBox (sections 5.1.1 and 5.3.2)
unfoldable pub sbox : ℕ → ℕ
sbox a = affine (inverse a)

-- InvSBox (section 5.3.2)
unfoldable pub inverse_sbox : ℕ → ℕ
inverse_sbox b = inverse (affine_back b)
