-- The inverse in few steps: to multiply by a is linear, so the map that does it twice, four times and so on is known by its values at the bits.
use Rattle.std.proofs.Common.{◌≡◌, ℕ, zero, suc, ◌+◌, ◌/◌, ◌%◌, ◌==◌, Bool, true, false, if◌then◌else◌, List, [], ◌∷◌, map, refl, sym, ap, ◌∙◌, inl, inr, ◌⊎◌, arith}
use Rattle.std.specs.Int.Bits.{bit_xor, xor_self, xor_zero_l, xor_zero_r}
use Rattle.std.proofs.lemmas.Nat.{xor_shr, xor_mod}
use Rattle.aes_cts.specs.Field.{times_x, product, times, power, inverse}
use Rattle.aes_cts.proofs.Sums.{interchange, below_two}

-- a, x times a, and so on, for so many bits
unfoldable pub multiples : ℕ → ℕ → List ℕ
multiples zero a = []
multiples (suc bits) a = a ∷ multiples bits (times_x a)

-- the sum of those whose bit is set
unfoldable pub weighed : List ℕ → ℕ → ℕ
weighed [] b = 0
weighed (m ∷ ms) b = bit_xor (if b % 2 == 1 then m else 0) (weighed ms (b / 2))

product-weighed : (bits a b : ℕ) → product bits a b ≡ weighed (multiples bits a) b
unfolding product multiples weighed
product-weighed zero a b = refl
product-weighed (suc bits) a b = ap (λ (r : ℕ). bit_xor (if b % 2 == 1 then a else 0) r) (product-weighed bits (times_x a) (b / 2))

-- ---- such a sum is linear

parity : (n : ℕ) → (n % 2 ≡ 0) ⊎ (n % 2 ≡ 1)
parity n = below_two (n % 2) (omega arith)

picked : (x y m : ℕ) → (if bit_xor x y % 2 == 1 then m else 0) ≡ bit_xor (if x % 2 == 1 then m else 0) (if y % 2 == 1 then m else 0)
picked x y m =
    let e : bit_xor x y % 2 ≡ bit_xor (x % 2) (y % 2) = xor_mod x y 1 in
    elim (parity x) [
      | inl a ↦ elim (parity y) [
        | inl b ↦ rw (e, a, b) refl
        | inr b ↦ rw (e, a, b) (sym (xor_zero_l m))
      ]
      | inr a ↦ elim (parity y) [
        | inl b ↦ rw (e, a, b) (sym (xor_zero_r m))
        | inr b ↦ rw (e, a, b) (sym (xor_self m))
      ]
    ]

weighed-xor : (ms : List ℕ) (x y : ℕ) → weighed ms (bit_xor x y) ≡ bit_xor (weighed ms x) (weighed ms y)
unfolding weighed
weighed-xor [] x y = refl
weighed-xor (m ∷ ms) x y =
    ap (λ (r : ℕ). bit_xor (if bit_xor x y % 2 == 1 then m else 0) r) (ap (λ (b : ℕ). weighed ms b) (xor_shr x y 1) ∙ weighed-xor ms (x / 2) (y / 2))
    ∙ ap (λ (r : ℕ). bit_xor r (bit_xor (weighed ms (x / 2)) (weighed ms (y / 2)))) (picked x y m)
    ∙ interchange (if x % 2 == 1 then m else 0) (if y % 2 == 1 then m else 0) (weighed ms (x / 2)) (weighed ms (y / 2))

weighed-zero : (ms : List ℕ) → weighed ms 0 ≡ 0
unfolding weighed
weighed-zero [] = refl
weighed-zero (m ∷ ms) = ap (λ (r : ℕ). bit_xor 0 r) (weighed-zero ms)

weighed-if : (ms : List ℕ) (t : Bool) (n : ℕ) → weighed ms (if t then n else 0) ≡ (if t then weighed ms n else 0)
weighed-if ms true n = refl
weighed-if ms false n = weighed-zero ms

weighed-map : (ms ns : List ℕ) (b : ℕ) → weighed (map (weighed ms) ns) b ≡ weighed ms (weighed ns b)
unfolding weighed
weighed-map ms [] b = sym (weighed-zero ms)
weighed-map ms (n ∷ ns) b =
    ap (λ (r : ℕ). bit_xor (if b % 2 == 1 then weighed ms n else 0) r) (weighed-map ms ns (b / 2))
    ∙ ap (λ (r : ℕ). bit_xor r (weighed ms (weighed ns (b / 2)))) (sym (weighed-if ms (b % 2 == 1) n))
    ∙ sym (weighed-xor ms (if b % 2 == 1 then n else 0) (weighed ns (b / 2)))

-- ---- the map made so many times from 1 on, and the map that makes it twice

stepped : List ℕ → ℕ → ℕ
stepped ms zero = 1
stepped ms (suc n) = weighed ms (stepped ms n)

unfoldable pub squared : List ℕ → List ℕ
squared ms = map (weighed ms) ms

power-stepped : (a n : ℕ) → power n a ≡ stepped (multiples 8 a) n
unfolding power times stepped
power-stepped a zero = refl
power-stepped a (suc n) = product-weighed 8 a (power n a) ∙ ap (weighed (multiples 8 a)) (power-stepped a n)

stepped-squared : (ms : List ℕ) (n : ℕ) → stepped (squared ms) n ≡ stepped ms (n + n)
unfolding stepped squared
stepped-squared ms zero = refl
stepped-squared ms (suc n) =
    let two : suc (suc (n + n)) ≡ suc n + suc n = omega arith in
    weighed-map ms ms (stepped (map (weighed ms) ms) n)
    ∙ ap (λ (v : ℕ). weighed ms (weighed ms v)) (stepped-squared ms n)
    ∙ ap (stepped ms) two

-- one less than that power of 2
less : ℕ → ℕ
less zero = 0
less (suc n) = suc (less n + less n)

-- the map made one time less than that power of 2
unfoldable pub climbed : ℕ → List ℕ → ℕ
climbed zero ms = 1
climbed (suc n) ms = weighed ms (climbed n (squared ms))

climbed-stepped : (n : ℕ) (ms : List ℕ) → climbed n ms ≡ stepped ms (less n)
unfolding climbed stepped less
climbed-stepped zero ms = refl
climbed-stepped (suc n) ms = ap (weighed ms) (climbed-stepped n (squared ms) ∙ stepped-squared ms (less n))

all-times : less 7 + less 7 ≡ 254
unfolding less
all-times = refl

-- 254 times is 127 times the map that makes it twice
pub inverse-climbed : (a : ℕ) → inverse a ≡ climbed 7 (squared (multiples 8 a))
unfolding inverse
inverse-climbed a =
    power-stepped a 254
    ∙ ap (stepped (multiples 8 a)) (sym all-times)
    ∙ sym (climbed-stepped 7 (squared (multiples 8 a)) ∙ stepped-squared (multiples 8 a) (less 7))
