-- What a clock and a source of octets in memory give, one value after the other.
use Rattle.std.proofs.Common.{◌≡◌, ℕ, zero, suc, ◌+◌, ◌-◌, ◌<◌, ◌≤◌, ◌%◌, List, [], ◌∷◌, ◌++◌, length, get_or, refl, ap, ◌∙◌, arith, append_assoc, sym, take}
use Rattle.std.proofs.lemmas.List.{take_all, length-append}
use Rattle.std.proofs.lemmas.Grind.{common_steps}
use Rattle.sec_base.specs.MemDraw.{counting, octets_given}
use Rattle.sec_base.specs.MemClock.{moments_given, moment_after}

pub counting-push : (start count : ℕ) → counting start (suc count) ≡ counting start count ++ ((start + count) % 256) ∷ []
counting-push start zero = grind arith
counting-push start (suc count) =
    let e : suc start + count ≡ start + suc count = omega arith in
    let h = counting-push (suc start) count in
    ap (λ (xs : List ℕ). (start % 256) ∷ xs) (h ∙ ap (λ (n : ℕ). counting (suc start) count ++ (n % 256) ∷ []) e)

pub octets_given-past : (octets : List ℕ) (count : ℕ) → length octets ≤ count → octets_given octets (count + 1) ≡ octets_given octets count ++ ((count - length octets) % 256) ∷ []
octets_given-past octets count h =
    let e : count + 1 - length octets ≡ suc (count - length octets) = omega arith in
    let more : length octets ≤ count + 1 = omega arith in
    rw (e, take_all (count + 1) octets more, take_all count octets h, counting-push 0 (count - length octets), append_assoc) (grind (arith, common_steps))

counting-length : (start count : ℕ) → length (counting start count) ≡ count
counting-length start zero = refl
counting-length start (suc count) = ap suc (counting-length (suc start) count)

octets_given-length : (octets : List ℕ) (count : ℕ) → length (octets_given octets count) ≡ count
octets_given-length octets count =
    rw (length-append (take count octets) (counting 0 (count - length octets)), counting-length 0 (count - length octets)) (grind (arith, common_steps))

-- what is given is told by how much it is
pub octets_given-front : (octets : List ℕ) (count : ℕ) → octets_given octets count ≡ octets_given octets (length (octets_given octets count))
octets_given-front octets count = ap (λ (n : ℕ). octets_given octets n) (sym (octets_given-length octets count))

pub moments_given-push : (moments : List ℕ) (last count : ℕ) → moments_given moments last (suc count) ≡ moments_given moments last count ++ moment_after moments last count ∷ []
moments_given-push [] last zero = refl
moments_given-push [] last (suc count) = ap (λ (xs : List ℕ). last ∷ xs) (moments_given-push [] last count)
moments_given-push (moment ∷ moments) last zero = refl
moments_given-push (moment ∷ moments) last (suc count) = ap (λ (xs : List ℕ). moment ∷ xs) (moments_given-push moments moment count)

pub moment_after-within : (moments : List ℕ) (last count d : ℕ) → count < length moments → moment_after moments last count ≡ get_or moments count d
moment_after-within [] last count d h = absurd (omega arith)
moment_after-within (moment ∷ moments) last zero d h = refl
moment_after-within (moment ∷ moments) last (suc count) d h = moment_after-within moments moment count d (omega arith)

pub moment_after-none : (moments : List ℕ) (last count : ℕ) → length moments ≡ 0 → moment_after moments last count ≡ last
moment_after-none [] last count h = refl
moment_after-none (moment ∷ moments) last count h = absurd (omega arith)

pub moment_after-past : (moments : List ℕ) (last count place d : ℕ) → suc place ≡ length moments → place < count → moment_after moments last count ≡ get_or moments place d
moment_after-past [] last count place d e h = absurd (omega arith)
moment_after-past (moment ∷ moments) last zero place d e h = absurd (omega arith)
moment_after-past (moment ∷ moments) last (suc count) zero d e h = moment_after-none moments moment count (omega arith)
moment_after-past (moment ∷ moments) last (suc count) (suc place) d e h = moment_after-past moments moment count place d (omega arith) (omega arith)

pub moments_given-length : (moments : List ℕ) (last count : ℕ) → length (moments_given moments last count) ≡ count
moments_given-length moments last zero = refl
moments_given-length [] last (suc count) = ap suc (moments_given-length [] last count)
moments_given-length (moment ∷ moments) last (suc count) = ap suc (moments_given-length moments moment count)
