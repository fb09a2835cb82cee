-- A list of mechanisms whose octets are few is the only one with these octets, whether or not its identifiers have a spelling.
use Rattle.std.proofs.Common.{◌≡◌, ℕ, ◌+◌, ◌<◌, ◌≤◌, true, ltb, refl, sym, ap, ◌∙◌, subst, arith, List, [], ◌∷◌, ◌++◌, length, length-append, lt-ltb}
use Rattle.der_core.specs.Header.{length_octets, tlv}
use Rattle.der_core.specs.Values.{object_identifier}
use Rattle.der_core.specs.Fields.{many_spelling}
use Rattle.spnego_msgs.specs.Lists.{list_octets}
use Rattle.world_laws.proofs.Apart.{split-front}

few-octets : (t : ℕ) (content : List ℕ) → length content < 100 → tlv t content ≡ t ∷ length content ∷ content
unfolding tlv length_octets
few-octets t content few =
    let small : ltb (length content) 128 ≡ true = lt-ltb (length content) 128 (omega arith) in
    rw small refl

no-more : (t : ℕ) (content : List ℕ) → length content ≤ length (tlv t content)
unfolding tlv
no-more t content = omega (arith, length-append (length_octets (length content)) content)

same-heads : (s t m n : ℕ) (xs ys : List ℕ) → s ∷ m ∷ xs ≡ t ∷ n ∷ ys → (m ≡ n) × (xs ≡ ys)
same-heads s t m n xs ys e = (cc, cc)

oid-is : (v : List ℕ) → object_identifier.spell v ≡ tlv 6 v
unfolding object_identifier
oid-is v = refl

one-step : (x y more other : List ℕ) → length x < 100 → length y < 100 → object_identifier.spell x ++ more ≡ object_identifier.spell y ++ other → (x ≡ y) × (more ≡ other)
one-step x y more other few small e =
    let left : object_identifier.spell x ++ more ≡ 6 ∷ length x ∷ (x ++ more) = ap (λ (os : List ℕ). os ++ more) (oid-is x ∙ few-octets 6 x few) in
    let right : object_identifier.spell y ++ other ≡ 6 ∷ length y ∷ (y ++ other) = ap (λ (os : List ℕ). os ++ other) (oid-is y ∙ few-octets 6 y small) in
    let h = same-heads 6 6 (length x) (length y) (x ++ more) (y ++ other) (sym left ∙ (e ∙ right)) in
    split-front x more y other h.0 h.1

within-step : (x : List ℕ) (more : List ℕ) → length (object_identifier.spell x ++ more) < 100 → (length x < 100) × (length more < 100)
within-step x more few =
    let size : length (object_identifier.spell x ++ more) ≡ length (object_identifier.spell x) + length more = length-append (object_identifier.spell x) more in
    let own : length x ≤ length (object_identifier.spell x) = subst (λ (os : List ℕ). length x ≤ length os) (sym (oid-is x)) (no-more 6 x) in
    (omega arith, omega arith)

empty-step : {A : Type 0} (y other : List ℕ) → [] ≡ object_identifier.spell y ++ other → A
unfolding object_identifier tlv
empty-step y other e = absurd cc

many-same : (xs ys : List (List ℕ)) → length (many_spelling object_identifier xs) < 100 → many_spelling object_identifier xs ≡ many_spelling object_identifier ys → xs ≡ ys
many-same [] [] few e = refl
many-same [] (y ∷ ys) few e = empty-step y (many_spelling object_identifier ys) e
many-same (x ∷ xs) [] few e = empty-step x (many_spelling object_identifier xs) (sym e)
many-same (x ∷ xs) (y ∷ ys) few e =
    let a = within-step x (many_spelling object_identifier xs) few in
    let b = within-step y (many_spelling object_identifier ys) (subst (λ (os : List ℕ). length os < 100) e few) in
    let h = one-step x y (many_spelling object_identifier xs) (many_spelling object_identifier ys) a.0 b.0 e in
    let t = many-same xs ys a.1 h.1 in
    ap (λ (z : List ℕ). z ∷ xs) h.0 ∙ ap (λ (zs : List (List ℕ)). y ∷ zs) t

list-is : (xs : List (List ℕ)) → list_octets xs ≡ tlv 0x30 (many_spelling object_identifier xs)
list-is xs = refl

pub one-list : (xs ys : List (List ℕ)) → length (list_octets xs) < 100 → list_octets xs ≡ list_octets ys → xs ≡ ys
one-list xs ys few e =
    let m : List ℕ = many_spelling object_identifier xs in
    let n : List ℕ = many_spelling object_identifier ys in
    let a : length m < 100 = omega (arith, few, no-more 0x30 m) in
    let size : length (list_octets ys) ≡ length (list_octets xs) = ap length (sym e) in
    let b : length n < 100 = omega (arith, few, size, no-more 0x30 n) in
    let h = same-heads 0x30 0x30 (length m) (length n) m n (sym (few-octets 0x30 m a) ∙ (e ∙ few-octets 0x30 n b)) in
    many-same xs ys a h.1
