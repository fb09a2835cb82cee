-- A loop over a list, element after element.
use Rattle.std.proofs.Common.{◌≡◌, ℕ, zero, suc, ◌+◌, ◌<◌, ◌≤◌, List, [], ◌∷◌, length, drop, map, refl, sym, ap, ◌∙◌, subst, arith}
use Rattle.std.specs.Prelude.{slice_index_or, sum_by}
use Rattle.std.specs.List.{AllByRecursion, fold}
use Rattle.server_desks.specs.Desks.{joined, end_behind}
use Rattle.server_desks.specs.declared.desk.DeskEnd.{DeskEnd}
use Rattle.server_options.specs.declared.ending.RunEnd.{RunEnd}

-- what is left from a place on begins with what stands there
cut-at : {A : Type 0} (xs : List A) (k : ℕ) (x : A) → k < length xs → x ≡ slice_index_or xs k x → drop k xs ≡ x ∷ drop (suc k) xs
cut-at [] k x h e = absurd (omega arith)
cut-at {A} (y ∷ ys) zero x h e = ap (λ (z : A). z ∷ ys) (sym e)
cut-at (y ∷ ys) (suc k) x h e = cut-at ys k x (omega arith) e

pub cut-next : {A : Type 0} (xs : List A) (k : ℕ) (x : A) → k < length xs → x ≡ slice_index_or xs k x → drop k xs ≡ x ∷ drop (k + 1) xs
cut-next {A} xs k x h e = let n : suc k ≡ k + 1 = omega arith in cut-at xs k x h e ∙ ap (λ (j : ℕ). x ∷ drop j xs) n

none-left : {A : Type 0} (xs : List A) (k : ℕ) → length xs ≤ k → drop k xs ≡ []
none-left [] zero h = refl
none-left [] (suc k) h = refl
none-left (x ∷ xs) zero h = absurd (omega arith)
none-left (x ∷ xs) (suc k) h = none-left xs k (omega arith)

-- what was added up before the first
sum-from : {A : Type 0} (count : A → ℕ) (xs : List A) (n : ℕ) → fold (λ a x. a + count x) n xs ≡ n + sum_by count xs
sum-from count [] n = omega arith
sum-from count (x ∷ xs) n = omega (arith, sum-from count xs (n + count x), sum-from count xs (0 + count x))

-- one more was added up
pub sum-next : {A : Type 0} (xs : List A) (count : A → ℕ) (k : ℕ) (x : A) (so_far whole : ℕ) → drop k xs ≡ x ∷ drop (k + 1) xs → so_far + sum_by count (drop k xs) ≡ whole → (so_far + count x) + sum_by count (drop (k + 1) xs) ≡ whole
sum-next xs count k x so_far whole cut e =
    let one : sum_by count (drop k xs) ≡ (0 + count x) + sum_by count (drop (k + 1) xs) = ap (sum_by count) cut ∙ sum-from count (drop (k + 1) xs) (0 + count x) in omega (arith, one, e)

-- all were added up
pub sum-whole : {A : Type 0} (xs : List A) (count : A → ℕ) (k so_far whole : ℕ) → length xs ≤ k → so_far + sum_by count (drop k xs) ≡ whole → so_far ≡ whole
sum-whole xs count k so_far whole h e =
    let none : sum_by count (drop k xs) ≡ 0 = ap (sum_by count) (none-left xs k h) in omega (arith, none, e)

-- what holds of all that is left holds of the next, and of those behind it
pub all-next : {A : Type 0} (F : A → Type 0) (xs : List A) (k : ℕ) (x : A) → drop k xs ≡ x ∷ drop (k + 1) xs → AllByRecursion F (drop k xs) → F x × AllByRecursion F (drop (k + 1) xs)
all-next {A} F xs k x cut all = subst (λ (ys : List A). AllByRecursion F ys) cut all

-- the end behind one desk more
pub end-next : {J : Type 0} (jobs : List J) (end_of : J → DeskEnd) (k number : ℕ) (job : J) (before after whole : RunEnd) → drop k jobs ≡ job ∷ drop (k + 1) jobs → after ≡ joined before number (end_of job) → end_behind before number (map end_of (drop k jobs)) ≡ whole → end_behind after (number + 1) (map end_of (drop (k + 1) jobs)) ≡ whole
end-next {J} jobs end_of k number job before after whole cut is e =
    let then : end_behind (joined before number (end_of job)) (number + 1) (map end_of (drop (k + 1) jobs)) ≡ whole = subst (λ (ys : List J). end_behind before number (map end_of ys) ≡ whole) cut e in
    ap (λ (end : RunEnd). end_behind end (number + 1) (map end_of (drop (k + 1) jobs))) is ∙ then

-- the end behind all desks
pub end-whole : {J : Type 0} (jobs : List J) (end_of : J → DeskEnd) (k number : ℕ) (end whole : RunEnd) → length jobs ≤ k → end_behind end number (map end_of (drop k jobs)) ≡ whole → end ≡ whole
end-whole {J} jobs end_of k number end whole h e = subst (λ (ys : List J). end_behind end number (map end_of ys) ≡ whole) (none-left jobs k h) e
