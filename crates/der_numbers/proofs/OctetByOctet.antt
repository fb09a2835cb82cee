-- A number that octets spell is read octet by octet.
use Rattle.std.proofs.Common.{◌≡◌, ℕ, zero, suc, ◌+◌, ◌-◌, ◌*◌, ◌^◌, ◌<◌, ◌≤◌, true, false, List, [], ◌∷◌, length, get_or, drop, ap, sym, ◌∙◌, refl, arith, add-one}
use Rattle.std.proofs.lemmas.Bool.{leb-true, leb-false}
use Rattle.std.proofs.lemmas.List.{at_drop_more, at_drop_all}
use Rattle.der_numbers.specs.Number.{natural_of, natural_behind, flipped, is_negative}

-- 256 to this power
abbrev pub bound : ℕ → ℕ
bound zero = 1
bound (suc n) = bound n * 256

bound_one : (i : ℕ) → bound (i + 1) ≡ bound i * 256
bound_one i = rw add-one refl

-- one octet more
pub grows : (i n octet : ℕ) → n < bound i → octet < 256 → n * 256 + octet < bound (i + 1)
grows i n octet within small = rw (bound_one i) (omega arith)

pub fits : (i n : ℕ) → i < 5 → n < bound i → n < 4294967296
fits zero n few within = omega arith
fits (suc zero) n few within = omega arith
fits (suc (suc zero)) n few within = omega arith
fits (suc (suc (suc zero))) n few within = omega arith
fits (suc (suc (suc (suc zero)))) n few within = omega arith
fits (suc (suc (suc (suc (suc i))))) n few within = absurd (omega arith)

pub behind-zero : (os : List ℕ) → natural_behind 0 os ≡ natural_of os
behind-zero [] = refl
behind-zero (o ∷ os) = let same : 0 * 256 + o ≡ o = omega arith in ap (λ (n : ℕ). natural_behind n os) same

pub behind-more : (n : ℕ) (os : List ℕ) (i whole : ℕ) → i < length os → natural_behind n (drop i os) ≡ whole → natural_behind (n * 256 + get_or os i 0) (drop (i + 1) os) ≡ whole
behind-more n os i whole within read = sym (at_drop_more (natural_behind n) os i 0 within) ∙ read

pub behind-end : (n : ℕ) (os : List ℕ) (i whole : ℕ) → length os ≤ i → natural_behind n (drop i os) ≡ whole → n ≡ whole
behind-end n os i whole past read = sym (at_drop_all (natural_behind n) os i past) ∙ read

pub flipped-more : (n : ℕ) (os : List ℕ) (i whole : ℕ) → i < length os → natural_behind n (flipped (drop i os)) ≡ whole → natural_behind (n * 256 + (255 - get_or os i 0)) (flipped (drop (i + 1) os)) ≡ whole
flipped-more n os i whole within read = sym (at_drop_more (λ (left : List ℕ). natural_behind n (flipped left)) os i 0 within) ∙ read

pub flipped-end : (n : ℕ) (os : List ℕ) (i whole : ℕ) → length os ≤ i → natural_behind n (flipped (drop i os)) ≡ whole → n ≡ whole
flipped-end n os i whole past read = sym (at_drop_all (λ (left : List ℕ). natural_behind n (flipped left)) os i past) ∙ read

four : (a b c d : ℕ) → a < 128 → b < 256 → c < 256 → d < 256 → ((a * 256 + b) * 256 + c) * 256 + d < 2 ^ 31
four a b c d la lb lc ld = omega arith

turned : (o : ℕ) → 255 - o < 256
turned o = omega arith

low : (a : ℕ) → 128 ≤ a → 255 - a < 128
low a h = omega arith

-- four octets without the highest bit
pub small_number : (os : List ℕ) → ((k : ℕ) → get_or os k 0 < 256) → length os ≤ 4 → is_negative os ≡ false → natural_of os < 2 ^ 31
small_number [] h few positive = omega arith
small_number (a ∷ []) h few positive = omega (arith, leb-false 128 a positive)
small_number (a ∷ b ∷ []) h few positive = omega (arith, leb-false 128 a positive, h 1)
small_number (a ∷ b ∷ c ∷ []) h few positive = omega (arith, leb-false 128 a positive, h 1, h 2)
small_number (a ∷ b ∷ c ∷ d ∷ []) h few positive = four a b c d (leb-false 128 a positive) (h 1) (h 2) (h 3)
small_number (a ∷ b ∷ c ∷ d ∷ e ∷ os) h few positive = absurd (omega arith)

pub small_flipped : (os : List ℕ) → length os ≤ 4 → is_negative os ≡ true → natural_of (flipped os) < 2 ^ 31
small_flipped [] few negative = omega arith
small_flipped (a ∷ []) few negative = omega (arith, low a (leb-true 128 a negative))
small_flipped (a ∷ b ∷ []) few negative = omega (arith, low a (leb-true 128 a negative), turned b)
small_flipped (a ∷ b ∷ c ∷ []) few negative = omega (arith, low a (leb-true 128 a negative), turned b, turned c)
small_flipped (a ∷ b ∷ c ∷ d ∷ []) few negative = four (255 - a) (255 - b) (255 - c) (255 - d) (low a (leb-true 128 a negative)) (turned b) (turned c) (turned d)
small_flipped (a ∷ b ∷ c ∷ d ∷ e ∷ os) few negative = absurd (omega arith)
