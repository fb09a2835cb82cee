-- What files of records stand for.
use Rattle.std.proofs.Common.{◌≡◌, ◌≢◌, ℕ, zero, suc, ◌+◌, ◌*◌, ◌<◌, true, false, List, [], ◌∷◌, ◌++◌, length, drop, refl, sym, ◌∙◌, ap, arith, length-append, append_assoc}
use Rattle.std.proofs.lemmas.List.{append-nil, take_at, drop_at}
use Rattle.std.proofs.lemmas.Bool.{ne_eqb, lt-ltb}
use Rattle.replay_journal.specs.Files.{AreBehind, head, starts_open, bodies, counted, blocks, front, Sized, Rests}

pub length-blocks : (records : List (List ℕ)) → Sized records → length (blocks records) ≡ 45 * length records
length-blocks [] sized = refl
length-blocks (b ∷ more) sized = omega (arith, length-append b (blocks more), sized.0, length-blocks more sized.1)

pub length-front : (records : List (List ℕ)) → Sized records → length (front records) ≡ 8 + 45 * length records
length-front records sized = omega (arith, length-append head (blocks records), length-blocks records sized)

pub blocks-push : (records : List (List ℕ)) (body rest : List ℕ) → blocks (records ++ body ∷ []) ++ rest ≡ blocks records ++ 0x4a ∷ (body ++ rest)
blocks-push [] body rest = ap (λ (l : List ℕ). 0x4a ∷ l) (ap (λ (l : List ℕ). l ++ rest) (append-nil body))
blocks-push (b ∷ more) body rest =
    ap (λ (l : List ℕ). 0x4a ∷ l) (append_assoc b (blocks (more ++ body ∷ [])) rest
    ∙ ap (λ (l : List ℕ). b ++ l) (blocks-push more body rest)
    ∙ sym (append_assoc b (blocks more) (0x4a ∷ (body ++ rest))))

pub front-push : (records : List (List ℕ)) (body rest : List ℕ) → front (records ++ body ∷ []) ++ rest ≡ front records ++ 0x4a ∷ (body ++ rest)
front-push records body rest =
    append_assoc head (blocks (records ++ body ∷ [])) rest
    ∙ ap (λ (l : List ℕ). head ++ l) (blocks-push records body rest)
    ∙ sym (append_assoc head (blocks records) (0x4a ∷ (body ++ rest)))

pub sized-push : (records : List (List ℕ)) (body : List ℕ) → Sized records → length body ≡ 44 → Sized (records ++ body ∷ [])
sized-push [] body sized is = (is, tt)
sized-push (b ∷ more) body sized is = (sized.0, sized-push more body sized.1 is)

pub blocks-append : (records new : List (List ℕ)) → blocks (records ++ new) ≡ blocks records ++ blocks new
blocks-append [] new = refl
blocks-append (b ∷ more) new = ap (λ (l : List ℕ). 0x4a ∷ l) (ap (λ (l : List ℕ). b ++ l) (blocks-append more new) ∙ sym (append_assoc b (blocks more) (blocks new)))

-- records, the gate of new ones, and what stands behind that gate
pub front-all : (records new : List (List ℕ)) (inner rest : List ℕ) → 0x4a ∷ inner ≡ blocks new → front (records ++ new) ++ rest ≡ front records ++ 0x4a ∷ (inner ++ rest)
front-all records new inner rest first =
    append_assoc head (blocks (records ++ new)) rest
    ∙ ap (λ (l : List ℕ). head ++ (l ++ rest)) (blocks-append records new ∙ ap (λ (l : List ℕ). blocks records ++ l) (sym first))
    ∙ ap (λ (l : List ℕ). head ++ l) (append_assoc (blocks records) (0x4a ∷ inner) rest)
    ∙ sym (append_assoc head (blocks records) (0x4a ∷ (inner ++ rest)))

pub sized-all : (records new : List (List ℕ)) → Sized records → Sized new → Sized (records ++ new)
sized-all [] new sized is = is
sized-all (b ∷ more) new sized is = (sized.0, sized-all more new sized.1 is)

-- one record, and a closed gate behind it
pub behind-one : (body octets : List ℕ) → octets ≡ body ++ 0 ∷ [] → length octets ≡ 45 → AreBehind (body ∷ []) octets
behind-one body octets is size = record {
  inner = body;
  first = ap (λ (l : List ℕ). 0x4a ∷ l) (sym (append-nil body));
  last = is;
  sized = (omega (arith, ap length is, size, length-append body (0 ∷ [])), tt);
}

closed-start : (gate : ℕ) (tail : List ℕ) → gate ≢ 0x4a → starts_open (gate ∷ tail) ≡ false
closed-start gate tail shut = rw (ne_eqb gate 0x4a shut) refl

pub bodies-blocks : (most : ℕ) (records : List (List ℕ)) (gate : ℕ) (tail : List ℕ) → Sized records → length records < most → gate ≢ 0x4a
    → bodies most (blocks records ++ gate ∷ tail) ≡ records
bodies-blocks zero records gate tail sized few shut = absurd (omega (arith, few))
bodies-blocks (suc most) [] gate tail sized few shut = rw (closed-start gate tail shut) refl
bodies-blocks (suc most) (b ∷ more) gate tail sized few shut =
    let rest = blocks more ++ gate ∷ tail in
    let here : blocks (b ∷ more) ++ gate ∷ tail ≡ 0x4a ∷ (b ++ rest) = ap (λ (l : List ℕ). 0x4a ∷ l) (append_assoc b (blocks more) (gate ∷ tail)) in
    let long : 45 < length (0x4a ∷ (b ++ rest)) = omega (arith, length-append b rest, length-append (blocks more) (gate ∷ tail), sized.0) in
    let opens : starts_open (0x4a ∷ (b ++ rest)) ≡ true = rw (lt-ltb 45 (length (0x4a ∷ (b ++ rest))) long) refl in
    let back : drop 45 (0x4a ∷ (b ++ rest)) ≡ rest = drop_at (0x4a ∷ b) rest 45 (omega (arith, sized.0)) in
    ap (bodies (suc most)) here
    ∙ rw (opens, take_at b rest 44 sized.0, back) (ap (λ (l : List (List ℕ)). b ∷ l) (bodies-blocks most more gate tail sized.1 (omega (arith, few)) shut))

-- the records that count are those that the file has
pub counted-rests : (records : List (List ℕ)) (file : List ℕ) → Rests records file → counted file ≡ records
counted-rests records file rests =
    let rest = blocks records ++ rests.gate ∷ rests.tail in
    let whole : file ≡ head ++ rest = rests.split ∙ append_assoc head (blocks records) (rests.gate ∷ rests.tail) in
    let long : length records < length (head ++ rest) = omega (arith, length-append (blocks records) (rests.gate ∷ rests.tail), length-blocks records rests.sized) in
    ap counted whole ∙ bodies-blocks (length (head ++ rest)) records rests.gate rests.tail rests.sized long rests.shut
