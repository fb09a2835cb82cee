-- Messages in two pieces.
use Rattle.std.proofs.Common.{◌≡◌, ℕ, ◌+◌, List, ◌++◌, length, take, drop, refl, sym, ap, ◌∙◌, arith, length-append}
use Rattle.std.proofs.lemmas.List.{append_assoc, take-append-drop}
use Rattle.std.proofs.lemmas.Slice.{take-put_mid}
use Rattle.std.proofs.Math.Seq.{take-append_seam}
use borrow.Rule.Slice.PartMut.{put_mid}

-- two copies, one after the other
pub joined_is : (first second rest part back x : List ℕ) (taken k : ℕ) → rest ≡ drop taken first → part ≡ rest → back ≡ second
    → take (length rest + length second) (put_mid (length rest) k (part ++ x) back) ≡ drop taken first ++ second
joined_is first second rest part back x taken k er ep eb =
    rw (← er, ep, eb) (take-put_mid (length rest) k (rest ++ x) second (length rest + length second) refl (omega (arith, length-append rest x))
    ∙ ap (λ (r : List ℕ). r ++ second) (take-append_seam rest x))

-- a message is what was taken of it and the rest
pub whole_again : (p m b : List ℕ) (n : ℕ) → (p ++ take n m) ++ (drop n m ++ b) ≡ p ++ (m ++ b)
whole_again p m b n =
    append_assoc p (take n m) (drop n m ++ b)
    ∙ ap (λ (r : List ℕ). p ++ r) (sym (append_assoc (take n m) (drop n m) b) ∙ ap (λ (r : List ℕ). r ++ b) (take-append-drop n m))
