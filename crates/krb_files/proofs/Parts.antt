-- Steps of the loop that reads the components of a principal.
use Rattle.std.proofs.Common.{◌≡◌, ℕ, suc, ◌+◌, ◌-◌, ◌<◌, List, [], ◌∷◌, ◌++◌, Result, Ok, Err, refl, sym, ◌∙◌, arith, append_assoc}
use Rattle.std.proofs.lemmas.List.{append-nil}
use Rattle.krb_files.specs.declared.refusal.FileRefusal.{FileRefusal}
use Rattle.krb_files.specs.Fields.{Input, ◌>>=◌, counted_at}
use Rattle.krb_files.specs.Names.{parts_at}

-- what was read before, in front of the rest
abbrev pub with_parts : List (List ℕ) → Result (List (List ℕ) × Input) FileRefusal → Result (List (List ℕ) × Input) FileRefusal
with_parts front (Ok x) = Ok (front ++ x.0, x.1)
with_parts front (Err e) = Err e

none_before : (r : Result (List (List ℕ) × Input) FileRefusal) → with_parts [] r ≡ r
none_before (Ok x) = refl
none_before (Err e) = refl

-- before the first component
pub starts : (size count : ℕ) (i : Input) → with_parts [] (parts_at size (count - 0) i) ≡ parts_at size count i
starts size count i = let same : count - 0 ≡ count = omega arith in rw same (none_before (parts_at size count i))

-- behind the last one
pub is_done : (size left : ℕ) (i : Input) (front : List (List ℕ)) (whole : Result (List (List ℕ) × Input) FileRefusal) → left ≡ 0 → with_parts front (parts_at size left i) ≡ whole → whole ≡ Ok (front, i)
unfolding parts_at
is_done size left i front whole none before = sym (rw (none, append-nil front) at before)

step : (size count counter : ℕ) (i : Input) → counter < count → parts_at size (count - counter) i ≡ (counted_at size i >>= (λ x. parts_at size (count - (counter + 1)) x.1 >>= (λ rest. Ok (x.0 ∷ rest.0, rest.1))))
unfolding parts_at
step size count counter i lt =
    let more : count - counter ≡ suc (count - (counter + 1)) = omega arith in rw more refl

-- a component that is refused refuses all
pub fails : (size count counter : ℕ) (i : Input) (front : List (List ℕ)) (whole : Result (List (List ℕ) × Input) FileRefusal) (e : FileRefusal) → counter < count → counted_at size i ≡ Err e → with_parts front (parts_at size (count - counter) i) ≡ whole → whole ≡ Err e
fails size count counter i front whole e lt read before = sym (rw (step size count counter i lt, read) at before)

one_more : (front : List (List ℕ)) (part : List ℕ) (r : Result (List (List ℕ) × Input) FileRefusal) → with_parts (front ++ part ∷ []) r ≡ with_parts front (r >>= (λ rest. Ok (part ∷ rest.0, rest.1)))
one_more front part (Ok x) = rw (append_assoc front (part ∷ []) x.0) refl
one_more front part (Err e) = refl

-- one more component
pub goes_on : (size count counter : ℕ) (i left : Input) (front : List (List ℕ)) (part : List ℕ) (whole : Result (List (List ℕ) × Input) FileRefusal) → counter < count → counted_at size i ≡ Ok (part, left) → with_parts front (parts_at size (count - counter) i) ≡ whole → with_parts (front ++ part ∷ []) (parts_at size (count - (counter + 1)) left) ≡ whole
goes_on size count counter i left front part whole lt read before =
    one_more front part (parts_at size (count - (counter + 1)) left) ∙ (rw (step size count counter i lt, read) at before)
