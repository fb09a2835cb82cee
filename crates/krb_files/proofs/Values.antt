-- Steps of the loops that read the values of a file up to its end.
use Rattle.std.proofs.Common.{◌≡◌, ℕ, suc, ◌+◌, ◌-◌, ◌<◌, List, [], ◌∷◌, ◌++◌, Result, Ok, Err, refl, sym, ◌∙◌, arith, append_assoc}
use Rattle.std.proofs.lemmas.List.{append-nil}
use Rattle.krb_files.specs.declared.refusal.FileRefusal.{FileRefusal}
use Rattle.krb_files.specs.declared.pieces.Next.{Next}
use Rattle.krb_files.specs.declared.pieces.Next.TheVariants.{End, Other, Item}
use Rattle.krb_files.specs.Fields.{Input, ◌>>=◌}
use Rattle.krb_files.specs.Pieces.{many_by, many_of}

abbrev pub Step : Type 0 → Type 0
Step A = Input → Result (Next A × Input) FileRefusal

-- what was read before, in front of the rest
abbrev pub with_front : {A : Type 0} → List A → Result (List A) FileRefusal → Result (List A) FileRefusal
with_front front (Ok values) = Ok (front ++ values)
with_front front (Err e) = Err e

none_before : {A : Type 0} (r : Result (List A) FileRefusal) → with_front [] r ≡ r
none_before (Ok values) = refl
none_before (Err e) = refl

-- before the first piece
pub starts : {A : Type 0} (step : Step A) (n : ℕ) (i : Input) → with_front [] (many_of step (n - 0) i) ≡ many_of step n i
starts step n i = let same : n - 0 ≡ n = omega arith in rw same (none_before (many_of step n i))

-- behind as many pieces as there can be
pub is_done : {A : Type 0} (step : Step A) (left : ℕ) (i : Input) (front : List A) (whole : Result (List A) FileRefusal) → left ≡ 0 → with_front front (many_of step left i) ≡ whole → whole ≡ Ok front
unfolding many_of
is_done step left i front whole none before = sym (rw (none, append-nil front) at before)

once : {A : Type 0} (step : Step A) (n counter : ℕ) (i : Input) → counter < n → many_of step (n - counter) i ≡ (step i >>= (λ x. many_by (many_of step (n - (counter + 1))) x.0 x.1))
unfolding many_of
once step n counter i lt =
    let more : n - counter ≡ suc (n - (counter + 1)) = omega arith in rw more refl

-- a piece that is refused refuses all
pub fails : {A : Type 0} (step : Step A) (n counter : ℕ) (i : Input) (front : List A) (whole : Result (List A) FileRefusal) (e : FileRefusal) → counter < n → step i ≡ Err e → with_front front (many_of step (n - counter) i) ≡ whole → whole ≡ Err e
fails step n counter i front whole e lt read before = sym (rw (once step n counter i lt, read) at before)

-- the end
pub ends : {A : Type 0} (step : Step A) (n counter : ℕ) (i left : Input) (front : List A) (whole : Result (List A) FileRefusal) → counter < n → step i ≡ Ok (End, left) → with_front front (many_of step (n - counter) i) ≡ whole → whole ≡ Ok front
ends step n counter i left front whole lt read before = sym (rw (once step n counter i lt, read, append-nil front) at before)

-- a piece that isn't kept
pub passes : {A : Type 0} (step : Step A) (n counter : ℕ) (i left : Input) (front : List A) (whole : Result (List A) FileRefusal) → counter < n → step i ≡ Ok (Other, left) → with_front front (many_of step (n - counter) i) ≡ whole → with_front front (many_of step (n - (counter + 1)) left) ≡ whole
passes step n counter i left front whole lt read before = rw (once step n counter i lt, read) at before

one_more : {A : Type 0} (front : List A) (value : A) (r : Result (List A) FileRefusal) → with_front (front ++ value ∷ []) r ≡ with_front front (r >>= (λ values. Ok (value ∷ values)))
one_more front value (Ok values) = rw (append_assoc front (value ∷ []) values) refl
one_more front value (Err e) = refl

-- one more value
pub goes_on : {A : Type 0} (step : Step A) (n counter : ℕ) (i left : Input) (front : List A) (value : A) (whole : Result (List A) FileRefusal) → counter < n → step i ≡ Ok (Item value, left) → with_front front (many_of step (n - counter) i) ≡ whole → with_front (front ++ value ∷ []) (many_of step (n - (counter + 1)) left) ≡ whole
goes_on step n counter i left front value whole lt read before =
    one_more front value (many_of step (n - (counter + 1)) left) ∙ (rw (once step n counter i lt, read) at before)
