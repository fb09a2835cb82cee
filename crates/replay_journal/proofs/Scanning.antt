-- How a file is read, record by record.
use Rattle.std.proofs.Common.{◌≡◌, inl, inr, ℕ, zero, suc, ◌+◌, ◌-◌, ◌*◌, ◌<◌, ◌≤◌, max, true, false, ◌&&◌, ◌==◌, nat_lt, nat_le, List, [], ◌∷◌, ◌++◌, length, take, drop, get_or, append_assoc, refl, sym, ◌∙◌, ap, subst, arith, length-drop}
use Rattle.std.proofs.lemmas.Bool.{cases_Bool, and_parts, ltb-true, leb-true}
use Rattle.replay_journal.specs.Files.{starts_open, bodies, counted, mark_in, greatest_in, greatest_of, is_moment, is_genuine, all_genuine}
use Rattle.replay_cache.specs.Taking.{skew}
use Rattle.replay_journal.specs.Journals.{AllNear}

pub starts-long : (rest : List ℕ) → starts_open rest ≡ true → 45 < length rest
starts-long rest opens = ltb-true 45 (length rest) (and_parts (get_or rest 0 0 == 0x4a) (nat_lt 45 (length rest)) opens).1

bodies-open : (most : ℕ) (rest : List ℕ) → starts_open rest ≡ true → bodies (suc most) rest ≡ take 44 (drop 1 rest) ∷ bodies most (drop 45 rest)
bodies-open most rest opens = rw opens refl

pub bodies-shut : (most : ℕ) (rest : List ℕ) → starts_open rest ≡ false → bodies most rest ≡ []
bodies-shut zero rest shut = refl
bodies-shut (suc most) rest shut = rw shut refl

pub scan-step : (file rest r : List ℕ) (count : ℕ) → starts_open rest ≡ true → length rest + 8 + 45 * count ≡ length file → length (counted file) ≡ count + length (bodies (length file - count) rest)
    → r ≡ drop 45 rest → (length r + 8 + 45 * (count + 1) ≡ length file) × (length (counted file) ≡ count + 1 + length (bodies (length file - (count + 1)) r))
scan-step file rest r count opens sizes counts is =
    let long = starts-long rest opens in
    let left : length file - count ≡ suc (length file - (count + 1)) = omega (arith, sizes, long) in
    let more : length (bodies (length file - count) rest) ≡ suc (length (bodies (length file - (count + 1)) (drop 45 rest)))
    = ap (λ (m : ℕ). length (bodies m rest)) left ∙ ap length (bodies-open (length file - (count + 1)) rest opens) in
    let same : length (bodies (length file - (count + 1)) (drop 45 rest)) ≡ length (bodies (length file - (count + 1)) r) = ap (λ (l : List ℕ). length (bodies (length file - (count + 1)) l)) (sym is) in
    (omega (arith, sizes, long, ap length is, length-drop 45 rest), omega (arith, counts, more, same))

-- one record more was read
pub read-step : (file rest r : List ℕ) (done : List (List ℕ)) (count : ℕ) → starts_open rest ≡ true → length rest + 8 + 45 * count ≡ length file → counted file ≡ done ++ bodies (length file - count) rest
    → r ≡ drop 45 rest → (length r + 8 + 45 * (count + 1) ≡ length file) × (counted file ≡ (done ++ take 44 (drop 1 rest) ∷ []) ++ bodies (length file - (count + 1)) r)
read-step file rest r done count opens sizes reads is =
    let long = starts-long rest opens in
    let left : length file - count ≡ suc (length file - (count + 1)) = omega (arith, sizes, long) in
    let more : bodies (length file - count) rest ≡ take 44 (drop 1 rest) ∷ bodies (length file - (count + 1)) (drop 45 rest)
    = ap (λ (m : ℕ). bodies m rest) left ∙ bodies-open (length file - (count + 1)) rest opens in (
      omega (arith, sizes, long, ap length is, length-drop 45 rest),
      reads ∙ ap (λ (l : List (List ℕ)). done ++ l) more ∙ sym (append_assoc done (take 44 (drop 1 rest) ∷ []) (bodies (length file - (count + 1)) (drop 45 rest)))
          ∙ ap (λ (l : List ℕ). (done ++ take 44 (drop 1 rest) ∷ []) ++ bodies (length file - (count + 1)) l) (sym is),
    )

-- the record that stands here is one of those that count
pub counted-here : (file rest : List ℕ) (done : List (List ℕ)) (count : ℕ) → starts_open rest ≡ true → length rest + 8 + 45 * count ≡ length file → counted file ≡ done ++ bodies (length file - count) rest
    → counted file ≡ done ++ take 44 (drop 1 rest) ∷ bodies (length file - (count + 1)) (drop 45 rest)
counted-here file rest done count opens sizes reads =
    let long = starts-long rest opens in
    let left : length file - count ≡ suc (length file - (count + 1)) = omega (arith, sizes, long) in
    let more : bodies (length file - count) rest ≡ take 44 (drop 1 rest) ∷ bodies (length file - (count + 1)) (drop 45 rest)
    = ap (λ (m : ℕ). bodies m rest) left ∙ bodies-open (length file - (count + 1)) rest opens in
    reads ∙ ap (λ (l : List (List ℕ)). done ++ l) more

near-at : (greatest : ℕ) (done more : List (List ℕ)) (body : List ℕ) → AllNear greatest (done ++ body ∷ more) → (mark_in body).at ≤ greatest + skew
near-at greatest [] more body near = near.0
near-at greatest (b ∷ done) more body near = near-at greatest done more body near.2

genuine-at : (done more : List (List ℕ)) (body : List ℕ) → all_genuine (done ++ body ∷ more) ≡ true → is_genuine body ≡ true
genuine-at [] more body all = (and_parts (is_genuine body) (all_genuine more) all).0
genuine-at (b ∷ done) more body all = genuine-at done more body (and_parts (is_genuine b) (all_genuine (done ++ body ∷ more)) all).1

-- the record that stands here is near, and genuine
pub near-here : (greatest : ℕ) (file rest : List ℕ) (done : List (List ℕ)) (count : ℕ) → starts_open rest ≡ true → length rest + 8 + 45 * count ≡ length file → counted file ≡ done ++ bodies (length file - count) rest
    → AllNear greatest (counted file) → (mark_in (take 44 (drop 1 rest))).at ≤ greatest + skew
near-here greatest file rest done count opens sizes reads near =
    near-at greatest done (bodies (length file - (count + 1)) (drop 45 rest)) (take 44 (drop 1 rest)) (subst (AllNear greatest) (counted-here file rest done count opens sizes reads) near)

pub genuine-here : (file rest : List ℕ) (done : List (List ℕ)) (count : ℕ) → starts_open rest ≡ true → length rest + 8 + 45 * count ≡ length file → counted file ≡ done ++ bodies (length file - count) rest
    → all_genuine (counted file) ≡ true → is_genuine (take 44 (drop 1 rest)) ≡ true
genuine-here file rest done count opens sizes reads all =
    genuine-at done (bodies (length file - (count + 1)) (drop 45 rest)) (take 44 (drop 1 rest)) (ap all_genuine (sym (counted-here file rest done count opens sizes reads)) ∙ all)

pub bad-here : (file rest : List ℕ) (done : List (List ℕ)) (count : ℕ) → starts_open rest ≡ true → length rest + 8 + 45 * count ≡ length file → counted file ≡ done ++ bodies (length file - count) rest
    → is_genuine (take 44 (drop 1 rest)) ≡ false → all_genuine (counted file) ≡ false
bad-here file rest done count opens sizes reads bad =
    elim (cases_Bool (all_genuine (counted file))) [
      | inr not_ ↦ not_
      | inl all ↦
          let never : true ≡ false = sym (genuine-here file rest done count opens sizes reads all) ∙ bad in
          cc
    ]

pub near-more : (old new : ℕ) (done : List (List ℕ)) (body : List ℕ) → old ≤ new → (mark_in body).at ≤ new + skew → greatest_in body ≤ new → AllNear old done → AllNear new (done ++ body ∷ [])
near-more old new [] body le here at near = (here, at, tt)
near-more old new (b ∷ done) body le here at near = (omega (arith, le, near.0), omega (arith, le, near.1), near-more old new done body le here at near.2)

pub genuine-more : (done : List (List ℕ)) (body : List ℕ) → all_genuine done ≡ true → is_genuine body ≡ true → all_genuine (done ++ body ∷ []) ≡ true
genuine-more [] body all here = rw here refl
genuine-more (b ∷ done) body all here =
    let both = and_parts (is_genuine b) (all_genuine done) all in
    rw both.0 (genuine-more done body both.1 here)

pub greatest-more : (start : ℕ) (done : List (List ℕ)) (body : List ℕ) → greatest_of start (done ++ body ∷ []) ≡ max (greatest_of start done) (greatest_in body)
greatest-more start [] body = refl
greatest-more start (b ∷ done) body = greatest-more (max start (greatest_in b)) done body

-- what a genuine record says
pub genuine-near : (body : List ℕ) → is_genuine body ≡ true → (mark_in body).at ≤ greatest_in body + skew
genuine-near body is = leb-true (mark_in body).at (greatest_in body + skew) (and_parts (is_moment (drop 20 body) && is_moment (drop 32 body)) (nat_le (mark_in body).at (greatest_in body + skew)) is).1
