-- Whether octets wait that were read ahead, and what is written before others are read.
use Rattle.std.proofs.Common.{◌≡◌, ℕ, ◌+◌, ◌-◌, ◌≤◌, ◌==◌, inl, inr, Bool, true, false, List, ◌++◌, length, take, drop, ap, refl, sym, ◌∙◌, arith, Result, Ok, Err, OnOk}
use Rattle.std.proofs.Math.Seq.{take-add}
use Rattle.std.proofs.lemmas.Bool.{cases_lt}
use Rattle.std.proofs.lemmas.Bool.Decides.{nat_tests}
use Rattle.std.proofs.lemmas.List.{length-take, length-take-le, length-drop, take_at, drop-drop}
use Rattle.sec_base.specs.Link.{Wire}
use Rattle.sec_base.specs.Streams.{Sends}

both-so : (a b c d : ℕ) → (a == b) ≡ true → (c == d) ≡ true → (a == b) ≡ (c == d)
both-so a b c d e f = e ∙ sym f

neither-so : (a b c d : ℕ) → (a == b) ≡ false → (c == d) ≡ false → (a == b) ≡ (c == d)
neither-so a b c d e f = e ∙ sym f

-- none do exactly where the first that waits is the end
pub none-wait : (at end : ℕ) (octets : List ℕ) → at ≤ end → end ≤ length octets → (at == end) ≡ (length (take (end - at) (drop at octets)) == 0)
none-wait at end octets order within =
    let size : length (take (end - at) (drop at octets)) ≡ end - at = omega (arith, length-take (end - at) (drop at octets), length-drop at octets) in
    elim (cases_lt at end) [
      | inl less ↦ neither-so at end (length (take (end - at) (drop at octets))) 0 (grind (arith, nat_tests)) (grind (arith, nat_tests))
      | inr past ↦ both-so at end (length (take (end - at) (drop at octets))) 0 (grind (arith, nat_tests)) (grind (arith, nat_tests))
    ]

-- the first of those that wait were copied to the front of a buffer, and the others wait
pub moved-on : (octets lent copied rest : List ℕ) (at end count : ℕ) → lent ≡ octets → copied ≡ take (at + count - at) (drop at lent) → at + count ≤ end → end ≤ length octets → take (end - at) (drop at octets) ≡ take count (copied ++ rest) ++ take (end - (at + count)) (drop (at + count) octets)
moved-on octets lent copied rest at end count same is fits within =
    let one : at + count - at ≡ count = omega arith in
    let given : copied ≡ take count (drop at octets) = is ∙ (ap (λ (n : ℕ). take n (drop at lent)) one ∙ ap (λ (xs : List ℕ). take count (drop at xs)) same) in
    let size : length copied ≡ count = ap length given ∙ length-take-le count (drop at octets) (omega (arith, length-drop at octets)) in
    let front : take count (copied ++ rest) ≡ take count (drop at octets) = take_at copied rest count size ∙ given in
    let left : drop (at + count) octets ≡ drop count (drop at octets) = sym (drop-drop count at octets) in
    let more : end - at ≡ count + (end - (at + count)) = omega arith in
    ap (λ (n : ℕ). take n (drop at octets)) more ∙ (take-add count (end - (at + count)) (drop at octets) ∙ rw (front, left) refl)

-- what was sent stands behind what was written
pub sent-written : {T E : Type 0} (told : Bool) (a b : Wire) (result : Result T E) (octets : List ℕ) → Sends told a b result octets → OnOk result (b.written ≡ a.written ++ octets)
sent-written told a b (Ok t) octets p = p.written
sent-written told a b (Err e) octets p = tt

-- what holds in any case
pub on-ok : {T E P : Type 0} (result : Result T E) → P → OnOk result P
on-ok (Ok t) p = p
on-ok (Err e) p = tt
