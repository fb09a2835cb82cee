-- What was given and what waits are the last octets that the link below took.
use Rattle.std.proofs.Common.{◌≡◌, ℕ, ◌-◌, List, ◌++◌, length, take, drop, ap, sym, subst, ◌∙◌, append_assoc, length-append, arith}
use Rattle.std.proofs.lemmas.List.{drop_at, take-append-drop}
use Rattle.sec_base.specs.Link.{Wire}
use Rattle.stream_buffers.specs.Ahead.{AreLast, Gives}

-- octets behind others are the last of both
behind-last : (front octets : List ℕ) → AreLast octets (front ++ octets)
behind-last front octets =
    let size : length front ≡ length (front ++ octets) - length octets = omega (arith, length-append front octets) in
    drop_at front octets (length (front ++ octets) - length octets) size

-- those of a read are given, and others wait
pub still-last : (old new : Wire) (given before after octets : List ℕ) → AreLast (given ++ before) old.taken → Gives old new before after octets → AreLast ((given ++ octets) ++ after) new.taken
still-last old new given before after octets last gives =
    let front : List ℕ = take (length old.taken - length (given ++ before)) old.taken in
    let whole : (front ++ given) ++ before ≡ old.taken =
    append_assoc front given before
    ∙ (ap (λ (xs : List ℕ). front ++ xs) (sym last) ∙ take-append-drop (length old.taken - length (given ++ before)) old.taken) in
    let is : front ++ ((given ++ octets) ++ after) ≡ new.taken =
    sym (append_assoc front (given ++ octets) after)
    ∙ (ap (λ (xs : List ℕ). xs ++ after) (sym (append_assoc front given octets)) ∙ gives (front ++ given) whole) in
    subst (λ (xs : List ℕ). AreLast ((given ++ octets) ++ after) xs) is (behind-last front ((given ++ octets) ++ after))
