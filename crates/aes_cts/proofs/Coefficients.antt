-- MixColumns and InvMixColumns undo each other: their coefficients, multiplied out, are 1 and 0. Each product is tried at every octet.
use Rattle.std.proofs.Common.{◌≡◌, ℕ, zero, suc, ◌<◌, ◌==◌, Bool, true, false, if◌then◌else◌, refl, ap, ◌∙◌, eqb}
use Rattle.std.specs.Int.Bits.{bit_xor, xor_assoc, xor_zero_l, xor_zero_r}
use Rattle.std.proofs.lemmas.Nat.{xor_comm}
use Rattle.std.proofs.lemmas.Bool.{eqb-true}
use Rattle.aes_cts.specs.Field.{times_x, product, times}
use Rattle.aes_cts.specs.State.{Column, sum4, mix_column, inverse_mix_column}
use Rattle.aes_cts.proofs.Sums.{times-sum4, transposed}
use Rattle.aes_cts.proofs.Entries.{all_below, below-each}
use Rattle.aes_cts.proofs.Shapes.{IsColumn}

-- a coefficient times an octet
abbrev term : ℕ → ℕ → ℕ
term k t = if k == 1 then t else times k t

-- the coefficients w, x, y, z after p, q, r, s make 1, or 0
abbrev made : ℕ → ℕ → ℕ → ℕ → ℕ → ℕ → ℕ → ℕ → ℕ → ℕ
made w x y z p q r s t = sum4 (term w (term p t)) (term x (term q t)) (term y (term r t)) (term z (term s t))

makes : ℕ → ℕ → ℕ → ℕ → ℕ → ℕ → ℕ → ℕ → Bool → ℕ → Bool
makes w x y z p q r s one t = eqb (made w x y z p q r s t) (if one then t else 0)

makes-at : (w x y z p q r s : ℕ) (one : Bool) → all_below (makes w x y z p q r s one) 256 ≡ true → (t : ℕ) → t < 256
    → made w x y z p q r s t ≡ (if one then t else 0)
unfolding makes
makes-at w x y z p q r s one all t h =
    eqb-true (made w x y z p q r s t) (if one then t else 0) (below-each (makes w x y z p q r s one) 256 all t h)

only_first : (a : ℕ) → sum4 a 0 0 0 ≡ a
only_first a = rw (xor_zero_r (bit_xor (bit_xor a 0) 0), xor_zero_r (bit_xor a 0), xor_zero_r a)

only_second : (a : ℕ) → sum4 0 a 0 0 ≡ a
only_second a = rw (xor_zero_l a, xor_zero_r (bit_xor a 0), xor_zero_r a)

only_third : (a : ℕ) → sum4 0 0 a 0 ≡ a
only_third a = rw (xor_zero_r (bit_xor (bit_xor 0 0) a), xor_zero_l a)

only_fourth : (a : ℕ) → sum4 0 0 0 a ≡ a
only_fourth a = refl

-- the order in which coefficients are taken is of no account
all-same : (p q : ℕ → Bool) → ((x : ℕ) → p x ≡ q x) → (n : ℕ) → all_below p n ≡ all_below q n
unfolding all_below
all-same p q same zero = refl
all-same p q same (suc n) = rw (same n, all-same p q same n) refl

turned-sum : (a b c d : ℕ) → sum4 d a b c ≡ sum4 a b c d
turned-sum a b c d =
    ap (λ (x : ℕ). bit_xor x c) (xor_assoc d a b) ∙ xor_assoc d (bit_xor a b) c ∙ xor_comm d (bit_xor (bit_xor a b) c)

turned : (w x y z p q r s : ℕ) (one : Bool) → all_below (makes w x y z p q r s one) 256 ≡ true → all_below (makes z w x y s p q r one) 256 ≡ true
unfolding makes
turned w x y z p q r s one all =
    all-same (makes z w x y s p q r one) (makes w x y z p q r s one)
    (λ t. ap (λ (v : ℕ). eqb v (if one then t else 0)) (turned-sum (term w (term p t)) (term x (term q t)) (term y (term r t)) (term z (term s t)))) 256
    ∙ all

undone00 : all_below (makes 14 11 13 9 2 1 1 3 true) 256 ≡ true
unfolding all_below makes times product times_x
undone00 = refl

undone01 : all_below (makes 14 11 13 9 3 2 1 1 false) 256 ≡ true
unfolding all_below makes times product times_x
undone01 = refl

undone02 : all_below (makes 14 11 13 9 1 3 2 1 false) 256 ≡ true
unfolding all_below makes times product times_x
undone02 = refl

undone03 : all_below (makes 14 11 13 9 1 1 3 2 false) 256 ≡ true
unfolding all_below makes times product times_x
undone03 = refl

undone10 : all_below (makes 9 14 11 13 2 1 1 3 false) 256 ≡ true
undone10 = turned 14 11 13 9 1 1 3 2 false undone03

undone11 : all_below (makes 9 14 11 13 3 2 1 1 true) 256 ≡ true
undone11 = turned 14 11 13 9 2 1 1 3 true undone00

undone12 : all_below (makes 9 14 11 13 1 3 2 1 false) 256 ≡ true
undone12 = turned 14 11 13 9 3 2 1 1 false undone01

undone13 : all_below (makes 9 14 11 13 1 1 3 2 false) 256 ≡ true
undone13 = turned 14 11 13 9 1 3 2 1 false undone02

undone20 : all_below (makes 13 9 14 11 2 1 1 3 false) 256 ≡ true
undone20 = turned 9 14 11 13 1 1 3 2 false undone13

undone21 : all_below (makes 13 9 14 11 3 2 1 1 false) 256 ≡ true
undone21 = turned 9 14 11 13 2 1 1 3 false undone10

undone22 : all_below (makes 13 9 14 11 1 3 2 1 true) 256 ≡ true
undone22 = turned 9 14 11 13 3 2 1 1 true undone11

undone23 : all_below (makes 13 9 14 11 1 1 3 2 false) 256 ≡ true
undone23 = turned 9 14 11 13 1 3 2 1 false undone12

undone30 : all_below (makes 11 13 9 14 2 1 1 3 false) 256 ≡ true
undone30 = turned 13 9 14 11 1 1 3 2 false undone23

undone31 : all_below (makes 11 13 9 14 3 2 1 1 false) 256 ≡ true
undone31 = turned 13 9 14 11 2 1 1 3 false undone20

undone32 : all_below (makes 11 13 9 14 1 3 2 1 false) 256 ≡ true
undone32 = turned 13 9 14 11 3 2 1 1 false undone21

undone33 : all_below (makes 11 13 9 14 1 1 3 2 true) 256 ≡ true
undone33 = turned 13 9 14 11 1 3 2 1 true undone22

undone_row0 : (a b c d : ℕ) → a < 256 → b < 256 → c < 256 → d < 256
    → sum4 (times 14 (sum4 (times 2 a) (times 3 b) c d)) (times 11 (sum4 a (times 2 b) (times 3 c) d)) (times 13 (sum4 a b (times 2 c) (times 3 d))) (times 9 (sum4 (times 3 a) b c (times 2 d))) ≡ a
undone_row0 a b c d ha hb hc hd =
    ap (λ (x : ℕ). sum4 x (times 11 (sum4 a (times 2 b) (times 3 c) d)) (times 13 (sum4 a b (times 2 c) (times 3 d))) (times 9 (sum4 (times 3 a) b c (times 2 d)))) (times-sum4 14 (times 2 a) (times 3 b) c d)
    ∙ ap (λ (x : ℕ). sum4 (sum4 (times 14 (times 2 a)) (times 14 (times 3 b)) (times 14 c) (times 14 d)) x (times 13 (sum4 a b (times 2 c) (times 3 d))) (times 9 (sum4 (times 3 a) b c (times 2 d)))) (times-sum4 11 a (times 2 b) (times 3 c) d)
    ∙ ap (λ (x : ℕ). sum4 (sum4 (times 14 (times 2 a)) (times 14 (times 3 b)) (times 14 c) (times 14 d)) (sum4 (times 11 a) (times 11 (times 2 b)) (times 11 (times 3 c)) (times 11 d)) x (times 9 (sum4 (times 3 a) b c (times 2 d)))) (times-sum4 13 a b (times 2 c) (times 3 d))
    ∙ ap (λ (x : ℕ). sum4 (sum4 (times 14 (times 2 a)) (times 14 (times 3 b)) (times 14 c) (times 14 d)) (sum4 (times 11 a) (times 11 (times 2 b)) (times 11 (times 3 c)) (times 11 d)) (sum4 (times 13 a) (times 13 b) (times 13 (times 2 c)) (times 13 (times 3 d))) x) (times-sum4 9 (times 3 a) b c (times 2 d))
    ∙ transposed (times 14 (times 2 a)) (times 14 (times 3 b)) (times 14 c) (times 14 d) (times 11 a) (times 11 (times 2 b)) (times 11 (times 3 c)) (times 11 d) (times 13 a) (times 13 b) (times 13 (times 2 c)) (times 13 (times 3 d)) (times 9 (times 3 a)) (times 9 b) (times 9 c) (times 9 (times 2 d))
    ∙ ap (λ (x : ℕ). sum4 x (sum4 (times 14 (times 3 b)) (times 11 (times 2 b)) (times 13 b) (times 9 b)) (sum4 (times 14 c) (times 11 (times 3 c)) (times 13 (times 2 c)) (times 9 c)) (sum4 (times 14 d) (times 11 d) (times 13 (times 3 d)) (times 9 (times 2 d)))) (makes-at 14 11 13 9 2 1 1 3 true undone00 a ha)
    ∙ ap (λ (x : ℕ). sum4 a x (sum4 (times 14 c) (times 11 (times 3 c)) (times 13 (times 2 c)) (times 9 c)) (sum4 (times 14 d) (times 11 d) (times 13 (times 3 d)) (times 9 (times 2 d)))) (makes-at 14 11 13 9 3 2 1 1 false undone01 b hb)
    ∙ ap (λ (x : ℕ). sum4 a 0 x (sum4 (times 14 d) (times 11 d) (times 13 (times 3 d)) (times 9 (times 2 d)))) (makes-at 14 11 13 9 1 3 2 1 false undone02 c hc)
    ∙ ap (λ (x : ℕ). sum4 a 0 0 x) (makes-at 14 11 13 9 1 1 3 2 false undone03 d hd)
    ∙ only_first a

undone_row1 : (a b c d : ℕ) → a < 256 → b < 256 → c < 256 → d < 256
    → sum4 (times 9 (sum4 (times 2 a) (times 3 b) c d)) (times 14 (sum4 a (times 2 b) (times 3 c) d)) (times 11 (sum4 a b (times 2 c) (times 3 d))) (times 13 (sum4 (times 3 a) b c (times 2 d))) ≡ b
undone_row1 a b c d ha hb hc hd =
    ap (λ (x : ℕ). sum4 x (times 14 (sum4 a (times 2 b) (times 3 c) d)) (times 11 (sum4 a b (times 2 c) (times 3 d))) (times 13 (sum4 (times 3 a) b c (times 2 d)))) (times-sum4 9 (times 2 a) (times 3 b) c d)
    ∙ ap (λ (x : ℕ). sum4 (sum4 (times 9 (times 2 a)) (times 9 (times 3 b)) (times 9 c) (times 9 d)) x (times 11 (sum4 a b (times 2 c) (times 3 d))) (times 13 (sum4 (times 3 a) b c (times 2 d)))) (times-sum4 14 a (times 2 b) (times 3 c) d)
    ∙ ap (λ (x : ℕ). sum4 (sum4 (times 9 (times 2 a)) (times 9 (times 3 b)) (times 9 c) (times 9 d)) (sum4 (times 14 a) (times 14 (times 2 b)) (times 14 (times 3 c)) (times 14 d)) x (times 13 (sum4 (times 3 a) b c (times 2 d)))) (times-sum4 11 a b (times 2 c) (times 3 d))
    ∙ ap (λ (x : ℕ). sum4 (sum4 (times 9 (times 2 a)) (times 9 (times 3 b)) (times 9 c) (times 9 d)) (sum4 (times 14 a) (times 14 (times 2 b)) (times 14 (times 3 c)) (times 14 d)) (sum4 (times 11 a) (times 11 b) (times 11 (times 2 c)) (times 11 (times 3 d))) x) (times-sum4 13 (times 3 a) b c (times 2 d))
    ∙ transposed (times 9 (times 2 a)) (times 9 (times 3 b)) (times 9 c) (times 9 d) (times 14 a) (times 14 (times 2 b)) (times 14 (times 3 c)) (times 14 d) (times 11 a) (times 11 b) (times 11 (times 2 c)) (times 11 (times 3 d)) (times 13 (times 3 a)) (times 13 b) (times 13 c) (times 13 (times 2 d))
    ∙ ap (λ (x : ℕ). sum4 x (sum4 (times 9 (times 3 b)) (times 14 (times 2 b)) (times 11 b) (times 13 b)) (sum4 (times 9 c) (times 14 (times 3 c)) (times 11 (times 2 c)) (times 13 c)) (sum4 (times 9 d) (times 14 d) (times 11 (times 3 d)) (times 13 (times 2 d)))) (makes-at 9 14 11 13 2 1 1 3 false undone10 a ha)
    ∙ ap (λ (x : ℕ). sum4 0 x (sum4 (times 9 c) (times 14 (times 3 c)) (times 11 (times 2 c)) (times 13 c)) (sum4 (times 9 d) (times 14 d) (times 11 (times 3 d)) (times 13 (times 2 d)))) (makes-at 9 14 11 13 3 2 1 1 true undone11 b hb)
    ∙ ap (λ (x : ℕ). sum4 0 b x (sum4 (times 9 d) (times 14 d) (times 11 (times 3 d)) (times 13 (times 2 d)))) (makes-at 9 14 11 13 1 3 2 1 false undone12 c hc)
    ∙ ap (λ (x : ℕ). sum4 0 b 0 x) (makes-at 9 14 11 13 1 1 3 2 false undone13 d hd)
    ∙ only_second b

undone_row2 : (a b c d : ℕ) → a < 256 → b < 256 → c < 256 → d < 256
    → sum4 (times 13 (sum4 (times 2 a) (times 3 b) c d)) (times 9 (sum4 a (times 2 b) (times 3 c) d)) (times 14 (sum4 a b (times 2 c) (times 3 d))) (times 11 (sum4 (times 3 a) b c (times 2 d))) ≡ c
undone_row2 a b c d ha hb hc hd =
    ap (λ (x : ℕ). sum4 x (times 9 (sum4 a (times 2 b) (times 3 c) d)) (times 14 (sum4 a b (times 2 c) (times 3 d))) (times 11 (sum4 (times 3 a) b c (times 2 d)))) (times-sum4 13 (times 2 a) (times 3 b) c d)
    ∙ ap (λ (x : ℕ). sum4 (sum4 (times 13 (times 2 a)) (times 13 (times 3 b)) (times 13 c) (times 13 d)) x (times 14 (sum4 a b (times 2 c) (times 3 d))) (times 11 (sum4 (times 3 a) b c (times 2 d)))) (times-sum4 9 a (times 2 b) (times 3 c) d)
    ∙ ap (λ (x : ℕ). sum4 (sum4 (times 13 (times 2 a)) (times 13 (times 3 b)) (times 13 c) (times 13 d)) (sum4 (times 9 a) (times 9 (times 2 b)) (times 9 (times 3 c)) (times 9 d)) x (times 11 (sum4 (times 3 a) b c (times 2 d)))) (times-sum4 14 a b (times 2 c) (times 3 d))
    ∙ ap (λ (x : ℕ). sum4 (sum4 (times 13 (times 2 a)) (times 13 (times 3 b)) (times 13 c) (times 13 d)) (sum4 (times 9 a) (times 9 (times 2 b)) (times 9 (times 3 c)) (times 9 d)) (sum4 (times 14 a) (times 14 b) (times 14 (times 2 c)) (times 14 (times 3 d))) x) (times-sum4 11 (times 3 a) b c (times 2 d))
    ∙ transposed (times 13 (times 2 a)) (times 13 (times 3 b)) (times 13 c) (times 13 d) (times 9 a) (times 9 (times 2 b)) (times 9 (times 3 c)) (times 9 d) (times 14 a) (times 14 b) (times 14 (times 2 c)) (times 14 (times 3 d)) (times 11 (times 3 a)) (times 11 b) (times 11 c) (times 11 (times 2 d))
    ∙ ap (λ (x : ℕ). sum4 x (sum4 (times 13 (times 3 b)) (times 9 (times 2 b)) (times 14 b) (times 11 b)) (sum4 (times 13 c) (times 9 (times 3 c)) (times 14 (times 2 c)) (times 11 c)) (sum4 (times 13 d) (times 9 d) (times 14 (times 3 d)) (times 11 (times 2 d)))) (makes-at 13 9 14 11 2 1 1 3 false undone20 a ha)
    ∙ ap (λ (x : ℕ). sum4 0 x (sum4 (times 13 c) (times 9 (times 3 c)) (times 14 (times 2 c)) (times 11 c)) (sum4 (times 13 d) (times 9 d) (times 14 (times 3 d)) (times 11 (times 2 d)))) (makes-at 13 9 14 11 3 2 1 1 false undone21 b hb)
    ∙ ap (λ (x : ℕ). sum4 0 0 x (sum4 (times 13 d) (times 9 d) (times 14 (times 3 d)) (times 11 (times 2 d)))) (makes-at 13 9 14 11 1 3 2 1 true undone22 c hc)
    ∙ ap (λ (x : ℕ). sum4 0 0 c x) (makes-at 13 9 14 11 1 1 3 2 false undone23 d hd)
    ∙ only_third c

undone_row3 : (a b c d : ℕ) → a < 256 → b < 256 → c < 256 → d < 256
    → sum4 (times 11 (sum4 (times 2 a) (times 3 b) c d)) (times 13 (sum4 a (times 2 b) (times 3 c) d)) (times 9 (sum4 a b (times 2 c) (times 3 d))) (times 14 (sum4 (times 3 a) b c (times 2 d))) ≡ d
undone_row3 a b c d ha hb hc hd =
    ap (λ (x : ℕ). sum4 x (times 13 (sum4 a (times 2 b) (times 3 c) d)) (times 9 (sum4 a b (times 2 c) (times 3 d))) (times 14 (sum4 (times 3 a) b c (times 2 d)))) (times-sum4 11 (times 2 a) (times 3 b) c d)
    ∙ ap (λ (x : ℕ). sum4 (sum4 (times 11 (times 2 a)) (times 11 (times 3 b)) (times 11 c) (times 11 d)) x (times 9 (sum4 a b (times 2 c) (times 3 d))) (times 14 (sum4 (times 3 a) b c (times 2 d)))) (times-sum4 13 a (times 2 b) (times 3 c) d)
    ∙ ap (λ (x : ℕ). sum4 (sum4 (times 11 (times 2 a)) (times 11 (times 3 b)) (times 11 c) (times 11 d)) (sum4 (times 13 a) (times 13 (times 2 b)) (times 13 (times 3 c)) (times 13 d)) x (times 14 (sum4 (times 3 a) b c (times 2 d)))) (times-sum4 9 a b (times 2 c) (times 3 d))
    ∙ ap (λ (x : ℕ). sum4 (sum4 (times 11 (times 2 a)) (times 11 (times 3 b)) (times 11 c) (times 11 d)) (sum4 (times 13 a) (times 13 (times 2 b)) (times 13 (times 3 c)) (times 13 d)) (sum4 (times 9 a) (times 9 b) (times 9 (times 2 c)) (times 9 (times 3 d))) x) (times-sum4 14 (times 3 a) b c (times 2 d))
    ∙ transposed (times 11 (times 2 a)) (times 11 (times 3 b)) (times 11 c) (times 11 d) (times 13 a) (times 13 (times 2 b)) (times 13 (times 3 c)) (times 13 d) (times 9 a) (times 9 b) (times 9 (times 2 c)) (times 9 (times 3 d)) (times 14 (times 3 a)) (times 14 b) (times 14 c) (times 14 (times 2 d))
    ∙ ap (λ (x : ℕ). sum4 x (sum4 (times 11 (times 3 b)) (times 13 (times 2 b)) (times 9 b) (times 14 b)) (sum4 (times 11 c) (times 13 (times 3 c)) (times 9 (times 2 c)) (times 14 c)) (sum4 (times 11 d) (times 13 d) (times 9 (times 3 d)) (times 14 (times 2 d)))) (makes-at 11 13 9 14 2 1 1 3 false undone30 a ha)
    ∙ ap (λ (x : ℕ). sum4 0 x (sum4 (times 11 c) (times 13 (times 3 c)) (times 9 (times 2 c)) (times 14 c)) (sum4 (times 11 d) (times 13 d) (times 9 (times 3 d)) (times 14 (times 2 d)))) (makes-at 11 13 9 14 3 2 1 1 false undone31 b hb)
    ∙ ap (λ (x : ℕ). sum4 0 0 x (sum4 (times 11 d) (times 13 d) (times 9 (times 3 d)) (times 14 (times 2 d)))) (makes-at 11 13 9 14 1 3 2 1 false undone32 c hc)
    ∙ ap (λ (x : ℕ). sum4 0 0 0 x) (makes-at 11 13 9 14 1 1 3 2 true undone33 d hd)
    ∙ only_fourth d

pub inverse_mix_column-mix_column : (k : Column) → IsColumn k → inverse_mix_column (mix_column k) ≡ k
unfolding inverse_mix_column mix_column
inverse_mix_column-mix_column k h =
    rw (undone_row0 k.row0 k.row1 k.row2 k.row3 h.row0 h.row1 h.row2 h.row3, undone_row1 k.row0 k.row1 k.row2 k.row3 h.row0 h.row1 h.row2 h.row3, undone_row2 k.row0 k.row1 k.row2 k.row3 h.row0 h.row1 h.row2 h.row3, undone_row3 k.row0 k.row1 k.row2 k.row3 h.row0 h.row1 h.row2 h.row3) refl

redone00 : all_below (makes 2 3 1 1 14 9 13 11 true) 256 ≡ true
unfolding all_below makes times product times_x
redone00 = refl

redone01 : all_below (makes 2 3 1 1 11 14 9 13 false) 256 ≡ true
unfolding all_below makes times product times_x
redone01 = refl

redone02 : all_below (makes 2 3 1 1 13 11 14 9 false) 256 ≡ true
unfolding all_below makes times product times_x
redone02 = refl

redone03 : all_below (makes 2 3 1 1 9 13 11 14 false) 256 ≡ true
unfolding all_below makes times product times_x
redone03 = refl

redone10 : all_below (makes 1 2 3 1 14 9 13 11 false) 256 ≡ true
redone10 = turned 2 3 1 1 9 13 11 14 false redone03

redone11 : all_below (makes 1 2 3 1 11 14 9 13 true) 256 ≡ true
redone11 = turned 2 3 1 1 14 9 13 11 true redone00

redone12 : all_below (makes 1 2 3 1 13 11 14 9 false) 256 ≡ true
redone12 = turned 2 3 1 1 11 14 9 13 false redone01

redone13 : all_below (makes 1 2 3 1 9 13 11 14 false) 256 ≡ true
redone13 = turned 2 3 1 1 13 11 14 9 false redone02

redone20 : all_below (makes 1 1 2 3 14 9 13 11 false) 256 ≡ true
redone20 = turned 1 2 3 1 9 13 11 14 false redone13

redone21 : all_below (makes 1 1 2 3 11 14 9 13 false) 256 ≡ true
redone21 = turned 1 2 3 1 14 9 13 11 false redone10

redone22 : all_below (makes 1 1 2 3 13 11 14 9 true) 256 ≡ true
redone22 = turned 1 2 3 1 11 14 9 13 true redone11

redone23 : all_below (makes 1 1 2 3 9 13 11 14 false) 256 ≡ true
redone23 = turned 1 2 3 1 13 11 14 9 false redone12

redone30 : all_below (makes 3 1 1 2 14 9 13 11 false) 256 ≡ true
redone30 = turned 1 1 2 3 9 13 11 14 false redone23

redone31 : all_below (makes 3 1 1 2 11 14 9 13 false) 256 ≡ true
redone31 = turned 1 1 2 3 14 9 13 11 false redone20

redone32 : all_below (makes 3 1 1 2 13 11 14 9 false) 256 ≡ true
redone32 = turned 1 1 2 3 11 14 9 13 false redone21

redone33 : all_below (makes 3 1 1 2 9 13 11 14 true) 256 ≡ true
redone33 = turned 1 1 2 3 13 11 14 9 true redone22

redone_row0 : (a b c d : ℕ) → a < 256 → b < 256 → c < 256 → d < 256
    → sum4 (times 2 (sum4 (times 14 a) (times 11 b) (times 13 c) (times 9 d))) (times 3 (sum4 (times 9 a) (times 14 b) (times 11 c) (times 13 d))) (sum4 (times 13 a) (times 9 b) (times 14 c) (times 11 d)) (sum4 (times 11 a) (times 13 b) (times 9 c) (times 14 d)) ≡ a
redone_row0 a b c d ha hb hc hd =
    ap (λ (x : ℕ). sum4 x (times 3 (sum4 (times 9 a) (times 14 b) (times 11 c) (times 13 d))) (sum4 (times 13 a) (times 9 b) (times 14 c) (times 11 d)) (sum4 (times 11 a) (times 13 b) (times 9 c) (times 14 d))) (times-sum4 2 (times 14 a) (times 11 b) (times 13 c) (times 9 d))
    ∙ ap (λ (x : ℕ). sum4 (sum4 (times 2 (times 14 a)) (times 2 (times 11 b)) (times 2 (times 13 c)) (times 2 (times 9 d))) x (sum4 (times 13 a) (times 9 b) (times 14 c) (times 11 d)) (sum4 (times 11 a) (times 13 b) (times 9 c) (times 14 d))) (times-sum4 3 (times 9 a) (times 14 b) (times 11 c) (times 13 d))
    ∙ transposed (times 2 (times 14 a)) (times 2 (times 11 b)) (times 2 (times 13 c)) (times 2 (times 9 d)) (times 3 (times 9 a)) (times 3 (times 14 b)) (times 3 (times 11 c)) (times 3 (times 13 d)) (times 13 a) (times 9 b) (times 14 c) (times 11 d) (times 11 a) (times 13 b) (times 9 c) (times 14 d)
    ∙ ap (λ (x : ℕ). sum4 x (sum4 (times 2 (times 11 b)) (times 3 (times 14 b)) (times 9 b) (times 13 b)) (sum4 (times 2 (times 13 c)) (times 3 (times 11 c)) (times 14 c) (times 9 c)) (sum4 (times 2 (times 9 d)) (times 3 (times 13 d)) (times 11 d) (times 14 d))) (makes-at 2 3 1 1 14 9 13 11 true redone00 a ha)
    ∙ ap (λ (x : ℕ). sum4 a x (sum4 (times 2 (times 13 c)) (times 3 (times 11 c)) (times 14 c) (times 9 c)) (sum4 (times 2 (times 9 d)) (times 3 (times 13 d)) (times 11 d) (times 14 d))) (makes-at 2 3 1 1 11 14 9 13 false redone01 b hb)
    ∙ ap (λ (x : ℕ). sum4 a 0 x (sum4 (times 2 (times 9 d)) (times 3 (times 13 d)) (times 11 d) (times 14 d))) (makes-at 2 3 1 1 13 11 14 9 false redone02 c hc)
    ∙ ap (λ (x : ℕ). sum4 a 0 0 x) (makes-at 2 3 1 1 9 13 11 14 false redone03 d hd)
    ∙ only_first a

redone_row1 : (a b c d : ℕ) → a < 256 → b < 256 → c < 256 → d < 256
    → sum4 (sum4 (times 14 a) (times 11 b) (times 13 c) (times 9 d)) (times 2 (sum4 (times 9 a) (times 14 b) (times 11 c) (times 13 d))) (times 3 (sum4 (times 13 a) (times 9 b) (times 14 c) (times 11 d))) (sum4 (times 11 a) (times 13 b) (times 9 c) (times 14 d)) ≡ b
redone_row1 a b c d ha hb hc hd =
    ap (λ (x : ℕ). sum4 (sum4 (times 14 a) (times 11 b) (times 13 c) (times 9 d)) x (times 3 (sum4 (times 13 a) (times 9 b) (times 14 c) (times 11 d))) (sum4 (times 11 a) (times 13 b) (times 9 c) (times 14 d))) (times-sum4 2 (times 9 a) (times 14 b) (times 11 c) (times 13 d))
    ∙ ap (λ (x : ℕ). sum4 (sum4 (times 14 a) (times 11 b) (times 13 c) (times 9 d)) (sum4 (times 2 (times 9 a)) (times 2 (times 14 b)) (times 2 (times 11 c)) (times 2 (times 13 d))) x (sum4 (times 11 a) (times 13 b) (times 9 c) (times 14 d))) (times-sum4 3 (times 13 a) (times 9 b) (times 14 c) (times 11 d))
    ∙ transposed (times 14 a) (times 11 b) (times 13 c) (times 9 d) (times 2 (times 9 a)) (times 2 (times 14 b)) (times 2 (times 11 c)) (times 2 (times 13 d)) (times 3 (times 13 a)) (times 3 (times 9 b)) (times 3 (times 14 c)) (times 3 (times 11 d)) (times 11 a) (times 13 b) (times 9 c) (times 14 d)
    ∙ ap (λ (x : ℕ). sum4 x (sum4 (times 11 b) (times 2 (times 14 b)) (times 3 (times 9 b)) (times 13 b)) (sum4 (times 13 c) (times 2 (times 11 c)) (times 3 (times 14 c)) (times 9 c)) (sum4 (times 9 d) (times 2 (times 13 d)) (times 3 (times 11 d)) (times 14 d))) (makes-at 1 2 3 1 14 9 13 11 false redone10 a ha)
    ∙ ap (λ (x : ℕ). sum4 0 x (sum4 (times 13 c) (times 2 (times 11 c)) (times 3 (times 14 c)) (times 9 c)) (sum4 (times 9 d) (times 2 (times 13 d)) (times 3 (times 11 d)) (times 14 d))) (makes-at 1 2 3 1 11 14 9 13 true redone11 b hb)
    ∙ ap (λ (x : ℕ). sum4 0 b x (sum4 (times 9 d) (times 2 (times 13 d)) (times 3 (times 11 d)) (times 14 d))) (makes-at 1 2 3 1 13 11 14 9 false redone12 c hc)
    ∙ ap (λ (x : ℕ). sum4 0 b 0 x) (makes-at 1 2 3 1 9 13 11 14 false redone13 d hd)
    ∙ only_second b

redone_row2 : (a b c d : ℕ) → a < 256 → b < 256 → c < 256 → d < 256
    → sum4 (sum4 (times 14 a) (times 11 b) (times 13 c) (times 9 d)) (sum4 (times 9 a) (times 14 b) (times 11 c) (times 13 d)) (times 2 (sum4 (times 13 a) (times 9 b) (times 14 c) (times 11 d))) (times 3 (sum4 (times 11 a) (times 13 b) (times 9 c) (times 14 d))) ≡ c
redone_row2 a b c d ha hb hc hd =
    ap (λ (x : ℕ). sum4 (sum4 (times 14 a) (times 11 b) (times 13 c) (times 9 d)) (sum4 (times 9 a) (times 14 b) (times 11 c) (times 13 d)) x (times 3 (sum4 (times 11 a) (times 13 b) (times 9 c) (times 14 d)))) (times-sum4 2 (times 13 a) (times 9 b) (times 14 c) (times 11 d))
    ∙ ap (λ (x : ℕ). sum4 (sum4 (times 14 a) (times 11 b) (times 13 c) (times 9 d)) (sum4 (times 9 a) (times 14 b) (times 11 c) (times 13 d)) (sum4 (times 2 (times 13 a)) (times 2 (times 9 b)) (times 2 (times 14 c)) (times 2 (times 11 d))) x) (times-sum4 3 (times 11 a) (times 13 b) (times 9 c) (times 14 d))
    ∙ transposed (times 14 a) (times 11 b) (times 13 c) (times 9 d) (times 9 a) (times 14 b) (times 11 c) (times 13 d) (times 2 (times 13 a)) (times 2 (times 9 b)) (times 2 (times 14 c)) (times 2 (times 11 d)) (times 3 (times 11 a)) (times 3 (times 13 b)) (times 3 (times 9 c)) (times 3 (times 14 d))
    ∙ ap (λ (x : ℕ). sum4 x (sum4 (times 11 b) (times 14 b) (times 2 (times 9 b)) (times 3 (times 13 b))) (sum4 (times 13 c) (times 11 c) (times 2 (times 14 c)) (times 3 (times 9 c))) (sum4 (times 9 d) (times 13 d) (times 2 (times 11 d)) (times 3 (times 14 d)))) (makes-at 1 1 2 3 14 9 13 11 false redone20 a ha)
    ∙ ap (λ (x : ℕ). sum4 0 x (sum4 (times 13 c) (times 11 c) (times 2 (times 14 c)) (times 3 (times 9 c))) (sum4 (times 9 d) (times 13 d) (times 2 (times 11 d)) (times 3 (times 14 d)))) (makes-at 1 1 2 3 11 14 9 13 false redone21 b hb)
    ∙ ap (λ (x : ℕ). sum4 0 0 x (sum4 (times 9 d) (times 13 d) (times 2 (times 11 d)) (times 3 (times 14 d)))) (makes-at 1 1 2 3 13 11 14 9 true redone22 c hc)
    ∙ ap (λ (x : ℕ). sum4 0 0 c x) (makes-at 1 1 2 3 9 13 11 14 false redone23 d hd)
    ∙ only_third c

redone_row3 : (a b c d : ℕ) → a < 256 → b < 256 → c < 256 → d < 256
    → sum4 (times 3 (sum4 (times 14 a) (times 11 b) (times 13 c) (times 9 d))) (sum4 (times 9 a) (times 14 b) (times 11 c) (times 13 d)) (sum4 (times 13 a) (times 9 b) (times 14 c) (times 11 d)) (times 2 (sum4 (times 11 a) (times 13 b) (times 9 c) (times 14 d))) ≡ d
redone_row3 a b c d ha hb hc hd =
    ap (λ (x : ℕ). sum4 x (sum4 (times 9 a) (times 14 b) (times 11 c) (times 13 d)) (sum4 (times 13 a) (times 9 b) (times 14 c) (times 11 d)) (times 2 (sum4 (times 11 a) (times 13 b) (times 9 c) (times 14 d)))) (times-sum4 3 (times 14 a) (times 11 b) (times 13 c) (times 9 d))
    ∙ ap (λ (x : ℕ). sum4 (sum4 (times 3 (times 14 a)) (times 3 (times 11 b)) (times 3 (times 13 c)) (times 3 (times 9 d))) (sum4 (times 9 a) (times 14 b) (times 11 c) (times 13 d)) (sum4 (times 13 a) (times 9 b) (times 14 c) (times 11 d)) x) (times-sum4 2 (times 11 a) (times 13 b) (times 9 c) (times 14 d))
    ∙ transposed (times 3 (times 14 a)) (times 3 (times 11 b)) (times 3 (times 13 c)) (times 3 (times 9 d)) (times 9 a) (times 14 b) (times 11 c) (times 13 d) (times 13 a) (times 9 b) (times 14 c) (times 11 d) (times 2 (times 11 a)) (times 2 (times 13 b)) (times 2 (times 9 c)) (times 2 (times 14 d))
    ∙ ap (λ (x : ℕ). sum4 x (sum4 (times 3 (times 11 b)) (times 14 b) (times 9 b) (times 2 (times 13 b))) (sum4 (times 3 (times 13 c)) (times 11 c) (times 14 c) (times 2 (times 9 c))) (sum4 (times 3 (times 9 d)) (times 13 d) (times 11 d) (times 2 (times 14 d)))) (makes-at 3 1 1 2 14 9 13 11 false redone30 a ha)
    ∙ ap (λ (x : ℕ). sum4 0 x (sum4 (times 3 (times 13 c)) (times 11 c) (times 14 c) (times 2 (times 9 c))) (sum4 (times 3 (times 9 d)) (times 13 d) (times 11 d) (times 2 (times 14 d)))) (makes-at 3 1 1 2 11 14 9 13 false redone31 b hb)
    ∙ ap (λ (x : ℕ). sum4 0 0 x (sum4 (times 3 (times 9 d)) (times 13 d) (times 11 d) (times 2 (times 14 d)))) (makes-at 3 1 1 2 13 11 14 9 false redone32 c hc)
    ∙ ap (λ (x : ℕ). sum4 0 0 0 x) (makes-at 3 1 1 2 9 13 11 14 true redone33 d hd)
    ∙ only_fourth d

pub mix_column-inverse_mix_column : (k : Column) → IsColumn k → mix_column (inverse_mix_column k) ≡ k
unfolding mix_column inverse_mix_column
mix_column-inverse_mix_column k h =
    rw (redone_row0 k.row0 k.row1 k.row2 k.row3 h.row0 h.row1 h.row2 h.row3, redone_row1 k.row0 k.row1 k.row2 k.row3 h.row0 h.row1 h.row2 h.row3, redone_row2 k.row0 k.row1 k.row2 k.row3 h.row0 h.row1 h.row2 h.row3, redone_row3 k.row0 k.row1 k.row2 k.row3 h.row0 h.row1 h.row2 h.row3) refl
