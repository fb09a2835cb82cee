-- Steps of the loops that read and write lists.
use Rattle.std.proofs.Common.{◌≡◌, ℕ, zero, suc, ◌+◌, ◌-◌, ◌<◌, ◌≤◌, List, [], ◌∷◌, ◌++◌, length, get_or, drop, Result, Ok, Err, refl, sym, subst, ◌∙◌, arith, append_assoc, add-one, drop-cons}
use Rattle.std.proofs.lemmas.List.{append-nil}
use Rattle.der_core.specs.declared.refusal.DerRefusal.{DerRefusal}
use Rattle.der_core.specs.Format.{Format, Input, Puts, ◌>>=◌}
use Rattle.der_core.specs.Header.{end_at}
use Rattle.der_core.specs.Fields.{many_of, many_step, many_spelling, many_fit}

-- what was read before, in front of the rest
abbrev pub with_front : {A : Type 0} → List A → Result (List A) DerRefusal → Result (List A) DerRefusal
with_front front (Ok vs) = Ok (front ++ vs)
with_front front (Err e) = Err e

front_none : {A : Type 0} (r : Result (List A) DerRefusal) → with_front [] r ≡ r
front_none (Ok vs) = refl
front_none (Err e) = refl

-- before the first value
pub starts : {A : Type 0} (f : Format A) (n : ℕ) (i : Input) → with_front [] (many_of f (n - 0) i) ≡ many_of f n i
starts f n i = let same : n - 0 ≡ n = omega arith in rw same (front_none (many_of f n i))

item : {A : Type 0} (vs : List A) (i : ℕ) (v : A) → i < length vs → v ≡ get_or vs i v → drop i vs ≡ v ∷ drop (i + 1) vs
item vs i v lt is = rw (add-one, drop-cons vs i v, ← is) refl

-- one more value written
pub more_spelled : {A : Type 0} (f : Format A) (vs : List A) (i : ℕ) (v : A) (old out new : List ℕ) → i < length vs → v ≡ get_or vs i v → Puts f v out new → out ++ many_spelling f (drop i vs) ≡ old ++ many_spelling f vs → new ++ many_spelling f (drop (i + 1) vs) ≡ old ++ many_spelling f vs
more_spelled f vs i v old out new lt is puts before =
    let at : drop i vs ≡ v ∷ drop (i + 1) vs = item vs i v lt is in
    let two = subst (λ (ws : _). out ++ many_spelling f ws ≡ old ++ many_spelling f vs) at before in
    rw puts.spells (append_assoc out (f.spell v) (many_spelling f (drop (i + 1) vs)) ∙ two)

pub more_fit : {A : Type 0} (f : Format A) (vs : List A) (i : ℕ) (v : A) (out new : List ℕ) → i < length vs → v ≡ get_or vs i v → Puts f v out new → many_fit f (drop i vs) ≡ many_fit f vs → many_fit f (drop (i + 1) vs) ≡ many_fit f vs
more_fit f vs i v out new lt is puts before =
    let at : drop i vs ≡ v ∷ drop (i + 1) vs = item vs i v lt is in
    let two = subst (λ (ws : _). many_fit f ws ≡ many_fit f vs) at before in
    rw puts.fits at two

end_empty : (end : ℕ) (os : List ℕ) → length os ≡ 0 → end_at (record { end = end; octets = os }) ≡ Ok tt
unfolding end_at
end_empty end [] none = refl
end_empty end (o ∷ os) none = absurd (omega arith)

step_empty : {A : Type 0} (f : Format A) (others : Input → Result (List A) DerRefusal) (i : Input) (os : List ℕ) → length os ≡ 0 → many_step f others i os ≡ Ok []
step_empty f others i [] none = refl
step_empty f others i (o ∷ os) none = absurd (omega arith)

many_empty : {A : Type 0} (f : Format A) (n : ℕ) (i : Input) → length i.octets ≡ 0 → many_of f n i ≡ Ok []
many_empty f zero i none = rw (end_empty i.end i.octets none) refl
many_empty f (suc n) i none = step_empty f (many_of f n) i i.octets none

-- nothing is left, so what was read is the whole
pub is_done : {A : Type 0} (f : Format A) (n : ℕ) (i : Input) (front : List A) (whole : Result (List A) DerRefusal) → length i.octets ≡ 0 → with_front front (many_of f n i) ≡ whole → whole ≡ Ok front
is_done f n i front whole none before = sym (rw (many_empty f n i none, append-nil front) at before)

step_some : {A : Type 0} (f : Format A) (others : Input → Result (List A) DerRefusal) (i : Input) (os : List ℕ) → 0 < length os → many_step f others i os ≡ (f.read i >>= (λ x. others x.1 >>= (λ rest. Ok (x.0 ∷ rest))))
step_some f others i [] some = absurd (omega arith)
step_some f others i (o ∷ os) some = refl

many_some : {A : Type 0} (f : Format A) (n counter : ℕ) (i : Input) → counter < n → 0 < length i.octets → many_of f (n - counter) i ≡ (f.read i >>= (λ x. many_of f (n - (counter + 1)) x.1 >>= (λ rest. Ok (x.0 ∷ rest))))
many_some f n counter i lt some =
    let more : n - counter ≡ suc (n - (counter + 1)) = omega arith in
    rw more (step_some f (many_of f (n - (counter + 1))) i i.octets some)

-- a value that is refused refuses the whole
pub fails : {A : Type 0} (f : Format A) (n counter : ℕ) (i : Input) (front : List A) (whole : Result (List A) DerRefusal) (e : DerRefusal) → counter < n → 0 < length i.octets → f.read i ≡ Err e → with_front front (many_of f (n - counter) i) ≡ whole → whole ≡ Err e
fails f n counter i front whole e lt some read before =
    sym (rw (many_some f n counter i lt some, read) at before)

front_more : {A : Type 0} (front : List A) (v : A) (r : Result (List A) DerRefusal) → with_front (front ++ v ∷ []) r ≡ with_front front (r >>= (λ rest. Ok (v ∷ rest)))
front_more front v (Ok vs) = rw (append_assoc front (v ∷ []) vs) refl
front_more front v (Err e) = refl

-- one more value was read
pub goes_on : {A : Type 0} (f : Format A) (n counter : ℕ) (i left : Input) (front : List A) (v : A) (whole : Result (List A) DerRefusal) → counter < n → 0 < length i.octets → f.read i ≡ Ok (v, left) → with_front front (many_of f (n - counter) i) ≡ whole → with_front (front ++ v ∷ []) (many_of f (n - (counter + 1)) left) ≡ whole
goes_on f n counter i left front v whole lt some read before =
    front_more front v (many_of f (n - (counter + 1)) left) ∙ (rw (many_some f n counter i lt some, read) at before)

-- all was read, and nothing is left
pub ends : {A : Type 0} (f : Format A) (n counter : ℕ) (i : Input) (front : List A) (whole : Result (List A) DerRefusal) → n ≤ counter → end_at i ≡ Ok tt → with_front front (many_of f (n - counter) i) ≡ whole → whole ≡ Ok front
ends f n counter i front whole past none before =
    let no_more : n - counter ≡ 0 = omega arith in
    sym (rw (no_more, none, append-nil front) at before)

-- all was read, and something is left
pub trails : {A : Type 0} (f : Format A) (n counter : ℕ) (i : Input) (front : List A) (whole : Result (List A) DerRefusal) (e : DerRefusal) → n ≤ counter → end_at i ≡ Err e → with_front front (many_of f (n - counter) i) ≡ whole → whole ≡ Err e
trails f n counter i front whole e past left before =
    let no_more : n - counter ≡ 0 = omega arith in
    sym (rw (no_more, left) at before)
