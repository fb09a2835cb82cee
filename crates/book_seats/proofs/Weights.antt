-- What the desks asked weighs what the history weighs.
use Rattle.std.proofs.Common.{◌≡◌, ℕ, zero, suc, ◌+◌, ◌<◌, ◌≤◌, ◌==◌, if◌then◌else◌, eq-eqb, ne_eqb, List, [], ◌∷◌, map, Bool, true, false, refl, sym, ap, ◌∙◌, arith}
use mathlib.Core.Logic.{dite}
use native.Mathlib.Decide.{dec_le, ℕ_discrete}
use Rattle.accept_book.specs.RecordShown.{Asked}
use Rattle.accept_core.specs.declared.entry.Receipt.{Receipt}
use Rattle.book_seats.specs.Notes.{Note, Noted, noted_by, noted_in, asked_by, questions_of, receipted}
use Rattle.book_seats.specs.Weights.{weigh, total}

total-zero : (n : ℕ) → total n (λ i. 0) ≡ 0
total-zero zero = refl
total-zero (suc n) = omega (arith, total-zero n)

-- a desk beyond those that are counted changes nothing
total-beyond : (n desk c : ℕ) (f : ℕ → ℕ) → n ≤ desk → total n (λ i. (if desk == i then c else 0) + f i) ≡ total n f
total-beyond zero desk c f h = refl
total-beyond (suc n) desk c f h = ap (λ (b : Bool). ((if b then c else 0) + f n) + total n (λ i. (if desk == i then c else 0) + f i)) (ne_eqb desk n (λ e. omega (arith, e, h))) ∙ ap (λ (t : ℕ). (0 + f n) + t) (total-beyond n desk c f (omega (arith, h))) ∙ omega arith

total-one : (n desk c : ℕ) (f : ℕ → ℕ) → desk < n → total n (λ i. (if desk == i then c else 0) + f i) ≡ c + total n f
total-one zero desk c f h = absurd (omega arith)
total-one (suc n) desk c f h = dite (ℕ_discrete desk n)
    (λ e. ap (λ (b : Bool). ((if b then c else 0) + f n) + total n (λ i. (if desk == i then c else 0) + f i)) (eq-eqb desk n e) ∙ ap (λ (t : ℕ). (c + f n) + t) (total-beyond n desk c f (omega (arith, e))) ∙ omega arith)
    (λ ne. ap (λ (b : Bool). ((if b then c else 0) + f n) + total n (λ i. (if desk == i then c else 0) + f i)) (ne_eqb desk n ne) ∙ ap (λ (t : ℕ). (0 + f n) + t) (total-one n desk c f (omega (arith, ne, h))) ∙ omega arith)

weigh-if : {A : Type 0} (h : A → ℕ) (b : Bool) (x : A) (xs : List A) → weigh h (if b then x ∷ xs else xs) ≡ (if b then h x else 0) + weigh h xs
weigh-if h true x xs = refl
weigh-if h false x xs = omega arith

pub total-same : (n : ℕ) (f g : ℕ → ℕ) → ((i : ℕ) → f i ≡ g i) → total n f ≡ total n g
total-same zero f g e = refl
total-same (suc n) f g e = λ i. e n i + total-same n f g e i

pub weighs : {T : Type 0} (n : ℕ) (h : Noted T → ℕ) (all : List (Note T)) → ((desk : ℕ) → n ≤ desk → noted_by desk all ≡ []) → total n (λ i. weigh h (noted_by i all)) ≡ weigh h (noted_in all)
weighs n h [] others = total-zero n
weighs {T} n h (x ∷ xs) others =
    let inside : x.0 < n = dite (dec_le n x.0) (λ le. absurd (no_more x.1 (noted_by x.0 xs) (sym (ap (λ (b : Bool). if b then x.1 ∷ noted_by x.0 xs else noted_by x.0 xs) (eq-eqb x.0 x.0 refl)) ∙ others x.0 le))) (λ gt. omega (arith, gt)) in
    total-same n _ _ (λ i. weigh-if h (x.0 == i) x.1 (noted_by i xs))
    ∙ total-one n x.0 (h x.1) (λ i. weigh h (noted_by i xs)) inside
    ∙ ap (λ (t : ℕ). h x.1 + t) (weighs n h xs (λ k le. sym (ap (λ (b : Bool). if b then x.1 ∷ noted_by k xs else noted_by k xs) (ne_eqb x.0 k (λ e. omega (arith, e, inside, le)))) ∙ others k le))
  where
    no_more : (y : Noted T) (ys : List (Noted T)) → y ∷ ys ≡ [] → ⊥
    no_more y ys e = cc

-- ---- the same as the book has them

weigh-map : {A B : Type 0} (f : A → B) (h : B → ℕ) (xs : List A) → weigh h (map f xs) ≡ weigh (λ x. h (f x)) xs
weigh-map f h [] = refl
weigh-map f h (x ∷ xs) = ap (λ (n : ℕ). h (f x) + n) (weigh-map f h xs)

map-none : {A B : Type 0} (f : A → B) (xs : List A) → map f xs ≡ [] → xs ≡ []
map-none f [] e = refl
map-none f (x ∷ xs) e = absurd (no_more (f x) (map f xs) e)
  where
    no_more : {C : Type 0} (y : C) (ys : List C) → y ∷ ys ≡ [] → ⊥
    no_more y ys e = cc

pub weighs-asked : {T : Type 0} (n : ℕ) (h : Asked Receipt → ℕ) (all : List (Note T)) → ((desk : ℕ) → n ≤ desk → asked_by desk all ≡ []) → total n (λ i. weigh h (asked_by i all)) ≡ weigh h (questions_of all)
weighs-asked {T} n h all others =
    total-same n _ _ (λ i. weigh-map receipted h (noted_by i all))
    ∙ weighs n (λ (x : Noted T). h (receipted x)) all (λ desk le. map-none receipted (noted_by desk all) (others desk le))
    ∙ sym (weigh-map receipted h (noted_in all))
