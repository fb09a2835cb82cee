-- Sums of octets, and that the product with an octet is linear.
use Rattle.std.proofs.Common.{◌≡◌, ℕ, zero, suc, ◌+◌, ◌*◌, ◌/◌, ◌%◌, ◌^◌, ◌<◌, ◌==◌, Bool, true, false, if◌then◌else◌, refl, sym, ap, ◌∙◌, arith, inl, inr, ◌⊎◌}
use Rattle.std.specs.Int.Bits.{bit_xor, xor_assoc, xor_self, xor_zero_l, xor_zero_r}
use Rattle.std.specs.Int.{bit_at}
use Rattle.std.proofs.lemmas.Nat.{xor_comm, xor_block}
use Rattle.std.proofs.lemmas.Nat.Bits.{bit_at_xor, bit_at-lt}
use Rattle.aes_cts.specs.Field.{times_x, product, times}
use Rattle.aes_cts.specs.State.{sum4}

-- the middle two of four change places
pub interchange : (a b c d : ℕ) → bit_xor (bit_xor a b) (bit_xor c d) ≡ bit_xor (bit_xor a c) (bit_xor b d)
interchange a b c d =
    let left : bit_xor (bit_xor a b) (bit_xor c d) ≡ bit_xor a (bit_xor b (bit_xor c d)) = xor_assoc a b (bit_xor c d) in
    let middle : bit_xor b (bit_xor c d) ≡ bit_xor c (bit_xor b d) =
    sym (xor_assoc b c d) ∙ ap (λ (x : ℕ). bit_xor x d) (xor_comm b c) ∙ xor_assoc c b d in
    left ∙ ap (λ (x : ℕ). bit_xor a x) middle ∙ sym (xor_assoc a c (bit_xor b d))

-- what is added twice goes
pub cancel : (a b : ℕ) → bit_xor (bit_xor a b) b ≡ a
cancel a b = xor_assoc a b b ∙ ap (λ (x : ℕ). bit_xor a x) (xor_self b) ∙ xor_zero_r a

-- two sums of four, added term by term
pub sum4-xor : (a b c d e f g h : ℕ) → bit_xor (sum4 a b c d) (sum4 e f g h) ≡ sum4 (bit_xor a e) (bit_xor b f) (bit_xor c g) (bit_xor d h)
sum4-xor a b c d e f g h =
    interchange (bit_xor (bit_xor a b) c) d (bit_xor (bit_xor e f) g) h
    ∙ ap (λ (x : ℕ). bit_xor x (bit_xor d h)) (interchange (bit_xor a b) c (bit_xor e f) g ∙ ap (λ (x : ℕ). bit_xor x (bit_xor c g)) (interchange a b e f))

-- four sums of four, summed by columns
pub transposed : (a b c d e f g h i j k l m n o p : ℕ)
    → sum4 (sum4 a b c d) (sum4 e f g h) (sum4 i j k l) (sum4 m n o p) ≡ sum4 (sum4 a e i m) (sum4 b f j n) (sum4 c g k o) (sum4 d h l p)
transposed a b c d e f g h i j k l m n o p =
    ap (λ (x : ℕ). bit_xor (bit_xor x (sum4 i j k l)) (sum4 m n o p)) (sum4-xor a b c d e f g h)
    ∙ ap (λ (x : ℕ). bit_xor x (sum4 m n o p)) (sum4-xor (bit_xor a e) (bit_xor b f) (bit_xor c g) (bit_xor d h) i j k l)
    ∙ sum4-xor (bit_xor (bit_xor a e) i) (bit_xor (bit_xor b f) j) (bit_xor (bit_xor c g) k) (bit_xor (bit_xor d h) l) m n o p

-- a bit times a number
pub below_two : (p : ℕ) → p < 2 → (p ≡ 0) ⊎ (p ≡ 1)
below_two zero h = inl refl
below_two (suc zero) h = inr refl
below_two (suc (suc p)) h = inl (omega arith)

bit_sum : (p q k : ℕ) → p < 2 → q < 2 → (p + q) % 2 * k ≡ bit_xor (p * k) (q * k)
bit_sum p q k hp hq =
    let none : 0 * k ≡ 0 = omega arith in
    elim (below_two p hp) [
      | inl a ↦ elim (below_two q hq) [
        | inl b ↦ rw (a, b) (none ∙ sym (xor_self (0 * k)))
        | inr b ↦ rw (a, b, none) (sym (xor_zero_l (1 * k)))
      ]
      | inr a ↦ elim (below_two q hq) [
        | inl b ↦ rw (a, b, none) (sym (xor_zero_r (1 * k)))
        | inr b ↦ rw (a, b) (none ∙ sym (xor_self (1 * k)))
      ]
    ]

doubled : (a b : ℕ) → 2 * bit_xor a b ≡ bit_xor (2 * a) (2 * b)
doubled a b =
    let e : bit_xor (a * 2 ^ 1 + 0) (b * 2 ^ 1 + 0) ≡ bit_xor a b * 2 ^ 1 + bit_xor 0 0 = xor_block 1 a b 0 0 (omega arith) (omega arith) in
    let l : 2 * a ≡ a * 2 ^ 1 + 0 = omega arith in
    let m : 2 * b ≡ b * 2 ^ 1 + 0 = omega arith in
    let n : bit_xor a b * 2 ^ 1 + bit_xor 0 0 ≡ 2 * bit_xor a b = omega arith in
    sym n ∙ sym e ∙ ap (λ (x : ℕ). bit_xor x (b * 2 ^ 1 + 0)) (sym l) ∙ ap (λ (x : ℕ). bit_xor (2 * a) x) (sym m)

pub times_x-xor : (a b : ℕ) → times_x (bit_xor a b) ≡ bit_xor (times_x a) (times_x b)
unfolding times_x
times_x-xor a b =
    let top : bit_at (bit_xor a b) 7 * 283 ≡ bit_xor (bit_at a 7 * 283) (bit_at b 7 * 283) =
    ap (λ (x : ℕ). x * 283) (bit_at_xor a b 7) ∙ bit_sum (bit_at a 7) (bit_at b 7) 283 (bit_at-lt a 7) (bit_at-lt b 7) in
    ap (λ (x : ℕ). bit_xor x (bit_at (bit_xor a b) 7 * 283)) (doubled a b)
    ∙ ap (λ (x : ℕ). bit_xor (bit_xor (2 * a) (2 * b)) x) top
    ∙ interchange (2 * a) (2 * b) (bit_at a 7 * 283) (bit_at b 7 * 283)

chosen : (t : Bool) (a b : ℕ) → (if t then bit_xor a b else 0) ≡ bit_xor (if t then a else 0) (if t then b else 0)
chosen true a b = refl
chosen false a b = refl

pub product-xor : (bits a b c : ℕ) → product bits (bit_xor a b) c ≡ bit_xor (product bits a c) (product bits b c)
unfolding product
product-xor zero a b c = refl
product-xor (suc bits) a b c =
    ap (λ (x : ℕ). bit_xor x (product bits (times_x (bit_xor a b)) (c / 2))) (chosen (c % 2 == 1) a b)
    ∙ ap (λ (x : ℕ). bit_xor (bit_xor (if c % 2 == 1 then a else 0) (if c % 2 == 1 then b else 0)) x)
    (ap (λ (x : ℕ). product bits x (c / 2)) (times_x-xor a b) ∙ product-xor bits (times_x a) (times_x b) (c / 2))
    ∙ interchange (if c % 2 == 1 then a else 0) (if c % 2 == 1 then b else 0) (product bits (times_x a) (c / 2)) (product bits (times_x b) (c / 2))

pub times-xor : (c a b : ℕ) → times c (bit_xor a b) ≡ bit_xor (times c a) (times c b)
unfolding times
times-xor c a b = product-xor 8 a b c

pub times-sum4 : (k a b c d : ℕ) → times k (sum4 a b c d) ≡ sum4 (times k a) (times k b) (times k c) (times k d)
times-sum4 k a b c d =
    times-xor k (bit_xor (bit_xor a b) c) d
    ∙ ap (λ (x : ℕ). bit_xor x (times k d)) (times-xor k (bit_xor a b) c ∙ ap (λ (x : ℕ). bit_xor x (times k c)) (times-xor k a b))
