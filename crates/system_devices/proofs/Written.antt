-- What was written by several writes, each of a piece of the same octets.
use Rattle.std.proofs.Common.{◌≡◌, ℕ, ◌+◌, ◌-◌, List, ◌++◌, take, drop, ap, sym, ◌∙◌, append_assoc, arith}
use Rattle.std.proofs.Math.Seq.{take-add}

pub one-more : (old now then octets piece : List ℕ) (at count : ℕ) → now ≡ old ++ take at octets → piece ≡ take (at + count - at) (drop at octets) → then ≡ now ++ piece → then ≡ old ++ take (at + count) octets
one-more old now then octets piece at count front is wrote =
    let size : at + count - at ≡ count = omega arith in
    let next : piece ≡ take count (drop at octets) = is ∙ ap (λ (n : ℕ). take n (drop at octets)) size in
    wrote ∙ (ap (λ (xs : List ℕ). xs ++ piece) front
    ∙ (append_assoc old (take at octets) piece
    ∙ ap (λ (xs : List ℕ). old ++ xs) (ap (λ (xs : List ℕ). take at octets ++ xs) next ∙ sym (take-add at count octets))))
