-- Lists compared octet by octet.
use Rattle.std.proofs.Common.{◌≡◌, ℕ, zero, suc, ◌+◌, ◌<◌, ◌&&◌, Bool, true, false, refl, sym, ap, ◌∙◌, arith, List, [], ◌∷◌, length, get_or, take, add-one}
use Rattle.std.specs.Prelude.{nat_eq}
use Rattle.std.proofs.Math.Bool.{and_assoc}
use lib.Pointwise.{pointwise, bytes_decides}

and_true : (b : Bool) → (b && true) ≡ b
and_true true = refl
and_true false = refl

pointwise-more : (xs ys : List ℕ) (i : ℕ) → i < length xs → i < length ys
    → pointwise nat_eq (take (suc i) xs) (take (suc i) ys) ≡ (pointwise nat_eq (take i xs) (take i ys) && nat_eq (get_or xs i 0) (get_or ys i 0))
pointwise-more [] ys i h g = absurd (omega arith)
pointwise-more (x ∷ xs) [] i h g = absurd (omega arith)
pointwise-more (x ∷ xs) (y ∷ ys) zero h g = and_true (nat_eq x y)
pointwise-more (x ∷ xs) (y ∷ ys) (suc i) h g =
    ap (λ (b : Bool). nat_eq x y && b) (pointwise-more xs ys i (omega arith) (omega arith))
    ∙ sym (and_assoc (nat_eq x y) (pointwise nat_eq (take i xs) (take i ys)) (nat_eq (get_or xs i 0) (get_or ys i 0)))

pub tag_more : (xs ys : List ℕ) (i : ℕ) (same : Bool) → i < length xs → i < length ys → same ≡ pointwise nat_eq (take i xs) (take i ys)
    → (same && nat_eq (get_or xs i 0) (get_or ys i 0)) ≡ pointwise nat_eq (take (i + 1) xs) (take (i + 1) ys)
tag_more xs ys i same h g e = rw (add-one, e) (sym (pointwise-more xs ys i h g))

pub same_tag : (xs ys : List ℕ) → xs ≡ ys → pointwise nat_eq xs ys ≡ true
same_tag xs ys e = (bytes_decides xs ys).1 e
