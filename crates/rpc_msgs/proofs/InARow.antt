-- A header with its octets.
use Rattle.std.proofs.Common.{◌≡◌, ℕ, ◌+◌, ◌≤◌, List, ◌++◌, length, take, ap, sym, ◌∙◌, refl, arith}
use borrow.Rule.Slice.PartMut.{put_mid}
use Rattle.std.proofs.lemmas.List.{length-append, take_all}
use Rattle.std.proofs.Math.Seq.{take-append_seam}
use Rattle.sec_base.proofs.InARow.{take-put_mid-add}

-- a header and octets, put one behind the other to the front of a buffer
pub take-framed : (k : ℕ) (header octets rest head body : List ℕ) → head ≡ header → body ≡ octets → length header ≡ 4 → take (4 + length octets) (put_mid 4 k (head ++ rest) body) ≡ header ++ octets
take-framed k header octets rest head body e f size =
    let long : 4 ≤ length (head ++ rest) = omega (arith, ap length e, length-append head rest) in
    let fits : length octets ≤ length body = omega (arith, ap length f) in
    let front : take 4 (head ++ rest) ≡ head = ap (λ (n : ℕ). take n (head ++ rest)) (sym (ap length e ∙ size)) ∙ take-append_seam head rest in
    let back : take (length octets) body ≡ body = take_all (length octets) body (omega (arith, ap length f)) in
    take-put_mid-add 4 k (length octets) (head ++ rest) body long fits ∙ (rw (front, back, e, f) refl)
