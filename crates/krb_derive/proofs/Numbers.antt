-- Numbers in octets, and sums of them octet by octet.
use Rattle.std.proofs.Common.{◌≡◌, ℕ, zero, suc, ◌+◌, ◌-◌, ◌*◌, ◌/◌, ◌%◌, ◌^◌, ◌<◌, ◌≤◌, refl, ap, ◌∙◌, arith, List, [], ◌∷◌, length, get_or, drop, replicate}
use Rattle.std.proofs.Math.Nat.{pow-suc, mul-add-div_right, mul-add-mod_self_right, div-eq_of_lt}
use Rattle.std.proofs.Math.ListN.{set}
use Rattle.std.proofs.lemmas.Nat.{mul-le, mod_below}
use Rattle.std.proofs.lemmas.Bool.{lt-ltb, le-ltb}
use Rattle.std.proofs.lemmas.List.{drop_more, drop-set, length-drop}
use Rattle.krb_derive.specs.Fold.{octet_around, octet_of_copies, part_of_copies, number_of, octets_of, add_around}

pub power_pos : (n : ℕ) → 0 < 256 ^ n
power_pos zero = omega arith
power_pos (suc n) = rw pow-suc (omega (arith, power_pos n))

pub number_of-lt : (xs : List ℕ) → ((i : ℕ) → get_or xs i 0 < 256) → number_of xs < 256 ^ length xs
unfolding number_of
number_of-lt [] h = omega arith
number_of-lt (x ∷ xs) h =
    let p : ℕ = 256 ^ length xs in
    let first : x < 256 = h zero in
    let others : number_of xs < p = number_of-lt xs (λ i. h (suc i)) in
    let most : x * p ≤ 255 * p = mul-le x p 255 p (omega arith) (omega arith) in
    rw pow-suc (omega arith)

-- what stands above the octets that are taken doesn't count
octets_of-more : (n a v : ℕ) → octets_of n (a * 256 ^ n + v) ≡ octets_of n v
unfolding octets_of
octets_of-more zero a v = refl
octets_of-more (suc n) a v =
    let p : ℕ = 256 ^ n in
    let split : a * 256 ^ suc n + v ≡ a * 256 * p + v = rw pow-suc (omega arith) in
    let digit : (a * 256 * p + v) / p % 256 ≡ v / p % 256 =
    ap (λ (d : ℕ). d % 256) (mul-add-div_right (power_pos n) (a * 256) v) ∙ mul-add-mod_self_right a 256 (v / p) in
    rw (split, digit, octets_of-more n (a * 256) v) refl

pub octets_of-number_of : (xs : List ℕ) → ((i : ℕ) → get_or xs i 0 < 256) → octets_of (length xs) (number_of xs) ≡ xs
unfolding octets_of number_of
octets_of-number_of [] h = refl
octets_of-number_of (x ∷ xs) h =
    let p : ℕ = 256 ^ length xs in
    let first : x < 256 = h zero in
    let others : number_of xs < p = number_of-lt xs (λ i. h (suc i)) in
    let digit : (x * p + number_of xs) / p % 256 ≡ x =
    ap (λ (d : ℕ). d % 256) (mul-add-div_right (power_pos (length xs)) x (number_of xs)) ∙ rw (div-eq_of_lt others) (omega arith) in
    rw (digit, octets_of-more (length xs) x (number_of xs), octets_of-number_of xs (λ i. h (suc i))) refl

pub number_of-zeros : (n : ℕ) → number_of (replicate n 0) ≡ 0
unfolding number_of
number_of-zeros zero = refl
number_of-zeros (suc n) = omega (arith, number_of-zeros n)

pub length-part_of_copies : (octets : List ℕ) (at n : ℕ) → length (part_of_copies octets at n) ≡ n
unfolding part_of_copies
length-part_of_copies octets at zero = refl
length-part_of_copies octets at (suc n) = omega (arith, length-part_of_copies octets (at + 1) n)

octets_of_part : (octets : List ℕ) (at n i : ℕ) → get_or (part_of_copies octets at n) i 0 < 256
unfolding part_of_copies octet_around
octets_of_part octets at zero i = omega arith
octets_of_part octets at (suc n) zero = mod_below _ 256 (omega arith)
octets_of_part octets at (suc n) (suc i) = octets_of_part octets (at + 1) n i

pub part_of_copies-lt : (octets : List ℕ) (at n : ℕ) → number_of (part_of_copies octets at n) < 256 ^ n
part_of_copies-lt octets at n =
    rw (length-part_of_copies octets at n) at (number_of-lt (part_of_copies octets at n) (octets_of_part octets at n))

-- one place of a sum with its carry
sum_place : (x o t c d low old part p : ℕ) → x + 256 * d ≡ o + t + c → low + c * p ≡ old + part
    → x * p + low + d * (p * 256) ≡ (o * p + old) + (t * p + part)
sum_place x o t c d low old part p e f = omega (arith, ap (λ (v : ℕ). v * p) e)

pub add_step : (sum old octets : List ℕ) (base i j x t c d : ℕ) → j ≡ i + 1 → length sum ≡ length old → i < length old → get_or sum i 0 ≡ get_or old i 0
    → t ≡ octet_of_copies octets (base + i) → x + 256 * d ≡ get_or sum i 0 + t + c
    → number_of (drop j sum) + c * 256 ^ (length old - j) ≡ number_of (drop j old) + number_of (part_of_copies octets (base + j) (length old - j))
    → number_of (drop i (set sum i x)) + d * 256 ^ (length old - i) ≡ number_of (drop i old) + number_of (part_of_copies octets (base + i) (length old - i))
unfolding number_of part_of_copies
add_step sum old octets base i j x t c d next same within keeps is total after =
    let before = rw next at after in
    let n : ℕ = length old - (i + 1) in
    let more : length old - i ≡ suc n = omega arith in
    let longs : length (drop (i + 1) sum) ≡ n = length-drop (i + 1) sum ∙ omega arith in
    let longo : length (drop (i + 1) old) ≡ n = length-drop (i + 1) old in
    let longp : length (part_of_copies octets (base + (i + 1)) n) ≡ n = length-part_of_copies octets (base + (i + 1)) n in
    let here : base + i + 1 ≡ base + (i + 1) = omega arith in
    rw (drop-set sum i x (omega arith), drop_more old i 0 within, more, here, longs, longo, longp, pow-suc, ← is, ← keeps)
    (sum_place x (get_or sum i 0) t c d (number_of (drop (i + 1) sum)) (number_of (drop (i + 1) old)) (number_of (part_of_copies octets (base + (i + 1)) n)) (256 ^ n) total before)

pub carry_step : (sum old : List ℕ) (i j x c d first : ℕ) → j ≡ i + 1 → length sum ≡ length old → i < length old → get_or sum i 0 ≡ get_or old i 0
    → x + 256 * d ≡ get_or sum i 0 + c
    → number_of (drop j sum) + c * 256 ^ (length old - j) ≡ number_of (drop j old) + first
    → number_of (drop i (set sum i x)) + d * 256 ^ (length old - i) ≡ number_of (drop i old) + first
unfolding number_of
carry_step sum old i j x c d first next same within keeps total after =
    let before = rw next at after in
    let n : ℕ = length old - (i + 1) in
    let more : length old - i ≡ suc n = omega arith in
    let longs : length (drop (i + 1) sum) ≡ n = length-drop (i + 1) sum ∙ omega arith in
    let longo : length (drop (i + 1) old) ≡ n = length-drop (i + 1) old in
    let place : x * 256 ^ n + number_of (drop (i + 1) sum) + d * (256 ^ n * 256) ≡ get_or sum i 0 * 256 ^ n + number_of (drop (i + 1) old) + first =
    omega (arith, ap (λ (v : ℕ). v * 256 ^ n) total) in
    rw (drop-set sum i x (omega arith), drop_more old i 0 within, more, longs, longo, pow-suc, ← keeps) place

no_carry : (d new p : ℕ) → new + d * p < p → d < 2 → d ≡ 0
no_carry zero new p h lt = refl
no_carry (suc zero) new p h lt = absurd (omega arith)
no_carry (suc (suc d)) new p h lt = absurd (omega arith)

-- the carry of a sum goes to its other end
pub around : (count a b low c new d : ℕ) → a < 256 ^ count → b < 256 ^ count → low < 256 ^ count → new < 256 ^ count → c < 2 → d < 2
    → low + c * 256 ^ count ≡ a + b → new + d * 256 ^ count ≡ low + c → new ≡ add_around count a b
unfolding add_around
around count a b low zero new d ha hb hl hn hc hd e f =
    let p : ℕ = 256 ^ count in
    let s : a + b ≡ low = omega arith in
    let none : d ≡ 0 = no_carry d new p (omega arith) hd in
    let same : new ≡ a + b = omega (arith, rw none at f) in
    rw (lt-ltb (a + b) p (omega arith)) same
around count a b low (suc zero) new d ha hb hl hn hc hd e f =
    let p : ℕ = 256 ^ count in
    let none : d ≡ 0 = no_carry d new p (omega arith) hd in
    let same : new ≡ a + b - p + 1 = omega (arith, rw none at f) in
    rw (le-ltb (a + b) p (omega arith)) same
around count a b low (suc (suc c)) new d ha hb hl hn hc hd e f = absurd (omega arith)

-- a bit by its octet and its place there
pub octet_around-place : (octets : List ℕ) (bit result : ℕ) → result ≡ octet_around octets (8 * (bit / 8) + bit % 8) → result ≡ octet_around octets bit
octet_around-place octets bit result h =
    let e : 8 * (bit / 8) + bit % 8 ≡ bit = omega arith in
    rw e at h
