-- The words of a line as pairs of an id and a value, in the order in which `clap` meets them.
use Rattle.std.proofs.Common.{◌≡◌, ◌∙◌, ◌&&◌, not, ℕ, ◌≤◌, zero, suc, Bool, true, false, List, [], ◌∷◌, ◌++◌, length, slice_get, Option, Some, None, is_some, refl, sym, ap, subst, true≢false, arith, codes}
use Rattle.std.specs.Str.{bytes_eq}
use Rattle.std.specs.Prelude.{if◌then◌else◌, unwrap_or}
use Rattle.std.proofs.lemmas.Slice.Eq.{bytes_eq-Decides}
use Rattle.clap.proofs.WalkLemmas.{both}
use Rattle.clap.proofs.SimpleLemmas.{is_false}
use Rattle.cli_base.specs.Words.{is_dashed, is_one_of, has_value, is_option, are_words, value_from, plain_from}

abbrev pub Word : Type 0
Word = List ℕ

abbrev pub Pair : Type 0
Pair = Word × Word

abbrev pub Each : {A : Type 0} → (A → Type 0) → List A → Type 0
Each P [] = Unit {0}
Each P (x ∷ xs) = P x × Each P xs

-- the ids of the plain words, in their order
abbrev pub places : List Word
places = codes "address" ∷ codes "command" ∷ codes "argument" ∷ codes "second" ∷ codes "third" ∷ codes "fourth" ∷ []

-- a plain word under the first of the places that are left
abbrev pub placed : List Word → Word → (List Word → List Pair) → List Pair
placed [] word rest = rest []
placed (id ∷ left) word rest = (id, word) ∷ rest left

-- the pairs of words: a plain word under the first place that is left, a value under its option, which is due where it stands before
abbrev pub pairs_from : List Word → List Word → Option Word → List Pair
pairs_from left [] due = []
pairs_from left (word ∷ words) None = if is_dashed word then pairs_from left words (Some word) else placed left word (λ rest. pairs_from rest words None)
pairs_from left (word ∷ words) (Some name) = (name, word) ∷ pairs_from left words None

-- the value that stands beside an id
abbrev pub lookup : Word → List Pair → Option Word
lookup id [] = None
lookup id (pair ∷ pairs) = if bytes_eq pair.0 id then Some pair.1 else lookup id pairs

-- no pair has the id
abbrev pub is_fresh : Word → List Pair → Bool
is_fresh id [] = true
is_fresh id (pair ∷ pairs) = not (bytes_eq pair.0 id) && is_fresh id pairs

-- each pair has an id of its own, and none of those that were seen
abbrev pub Apart : List Pair → List Pair → Type 0
Apart seen [] = Unit {0}
Apart seen (pair ∷ pairs) = (is_fresh pair.0 seen ≡ true) × Apart (seen ++ pair ∷ []) pairs

-- the option that is due begins with `-`, its value stands first, and it doesn't come again
abbrev pub Awaits : Option Word → List Word → Type 0
Awaits None words = Unit {0}
Awaits (Some name) words = (is_dashed name ≡ true) × (has_value words ≡ true) × (is_one_of name words ≡ false)

abbrev pub ArePlain : List Word → Type 0
ArePlain left = Each (λ (id : Word). is_dashed id ≡ false) left

abbrev pub Distinct : List Word → Type 0
Distinct [] = Unit {0}
Distinct (id ∷ left) = Each (λ (other : Word). bytes_eq id other ≡ false) left × Distinct left

-- ---- words

pub same-word : (word : Word) → bytes_eq word word ≡ true
same-word word = (bytes_eq-Decides word word).1 refl

-- a word that begins with `-` is none that doesn't
pub differs : (a b : Word) → is_dashed a ≡ true → is_dashed b ≡ false → bytes_eq a b ≡ false
differs a b d p = go (bytes_eq a b) refl
  where
    go : (same : Bool) → bytes_eq a b ≡ same → bytes_eq a b ≡ false
    go true t = absurd (true≢false (sym d ∙ (ap (λ (w : Word). is_dashed w) ((bytes_eq-Decides a b).0 t) ∙ p)))
    go false t = t

pub departs : (a b : Word) → is_dashed a ≡ false → is_dashed b ≡ true → bytes_eq a b ≡ false
departs a b p d = go (bytes_eq a b) refl
  where
    go : (same : Bool) → bytes_eq a b ≡ same → bytes_eq a b ≡ false
    go true t = absurd (true≢false (sym d ∙ (ap (λ (w : Word). is_dashed w) (sym ((bytes_eq-Decides a b).0 t)) ∙ p)))
    go false t = t

one-here : (word : Word) (words : List Word) → is_one_of word (word ∷ words) ≡ true
one-here word words = rw (same-word word) refl

one-behind : (word other : Word) (words : List Word) → is_one_of word words ≡ true → is_one_of word (other ∷ words) ≡ true
one-behind word other words e = go (bytes_eq other word) refl
  where
    go : (b : Bool) → bytes_eq other word ≡ b → is_one_of word (other ∷ words) ≡ true
    go true t = rw t refl
    go false t = rw t e

absent-behind : (word other : Word) (words : List Word) → is_one_of word (other ∷ words) ≡ false → is_one_of word words ≡ false
absent-behind word other words e = go (bytes_eq other word) refl
  where
    go : (b : Bool) → bytes_eq other word ≡ b → is_one_of word words ≡ false
    go true t = absurd (true≢false (rw t at e))
    go false t = rw t at e

-- a word that isn't among others is none of them
not-same : (word other : Word) (words : List Word) → is_one_of word words ≡ false → is_one_of other words ≡ true → bytes_eq word other ≡ false
not-same word other words absent there = go (bytes_eq word other) refl
  where
    go : (b : Bool) → bytes_eq word other ≡ b → bytes_eq word other ≡ false
    go true t = absurd (true≢false (sym there ∙ (ap (λ (w : Word). is_one_of w words) (sym ((bytes_eq-Decides word other).0 t)) ∙ absent)))
    go false t = t

-- ---- the parts of accepted words

pub record OptionHere (names : List Word) (word : Word) (words : List Word) : Type 0 where
  pub one : is_one_of word names ≡ true
  pub awaits : Awaits (Some word) words
  pub known : are_words names words ≡ true

pub option-here : (names : List Word) (word : Word) (words : List Word) → are_words names (word ∷ words) ≡ true → is_dashed word ≡ true → OptionHere names word words
option-here names word words e t =
    let g = both (is_option names word words) (are_words names words) (rw t at e) in
    let o = both (is_one_of word names) (has_value words && not (is_one_of word words)) g.0 in
    let h = both (has_value words) (not (is_one_of word words)) o.1 in
    record { one = o.0; awaits = (t, h.0, is_false (is_one_of word words) h.1); known = g.1 }

pub known-behind : (names : List Word) (word : Word) (words : List Word) → are_words names (word ∷ words) ≡ true → are_words names words ≡ true
known-behind names word words e = (both (if is_dashed word then is_option names word words else true) (are_words names words) e).1

pub dashed-pairs : (left : List Word) (word : Word) (words : List Word) → is_dashed word ≡ true → pairs_from left (word ∷ words) None ≡ pairs_from left words (Some word)
dashed-pairs left word words t = rw t refl

pub plain-pairs : (left : List Word) (word : Word) (words : List Word) → is_dashed word ≡ false → pairs_from left (word ∷ words) None ≡ placed left word (λ rest. pairs_from rest words None)
plain-pairs left word words t = rw t refl

pub dashed-plain : (word : Word) (words : List Word) → is_dashed word ≡ true → plain_from false (word ∷ words) ≡ plain_from true words
dashed-plain word words t = rw t refl

pub plain-plain : (word : Word) (words : List Word) → is_dashed word ≡ false → plain_from false (word ∷ words) ≡ word ∷ plain_from false words
plain-plain word words t = rw t refl

pub value-plain : (word : Word) (words : List Word) → is_dashed word ≡ false → plain_from true (word ∷ words) ≡ plain_from false words
value-plain word words t = rw t refl

-- ---- the value of an option

abbrev pub is_due : Option Word → Word → Bool
is_due None name = false
is_due (Some due) name = bytes_eq due name

abbrev pub ValueIs : List Word → List Word → Type 0
ValueIs names words = (left : List Word) (due : Option Word) (name : Word) → is_dashed name ≡ true → ArePlain left → are_words names words ≡ true → Awaits due words
    → lookup name (pairs_from left words due) ≡ value_from name (is_due due name) words

value-placed : (names left words : List Word) (word name : Word) → ValueIs names words → is_dashed name ≡ true → is_dashed word ≡ false → ArePlain left → are_words names words ≡ true
    → lookup name (placed left word (λ rest. pairs_from rest words None)) ≡ value_from name (bytes_eq word name) words
value-placed names [] words word name more d p plain e = rw (departs word name p d) (more [] None name d plain e tt)
value-placed names (id ∷ left) words word name more d p plain e = rw (departs id name plain.0 d, departs word name p d) (more left None name d plain.1 e tt)

value-step : (names words : List Word) (word : Word) → ValueIs names words → ValueIs names (word ∷ words)
value-step names words word more left (Some due) name d plain e a = go (bytes_eq due name) refl
  where
    go : (b : Bool) → bytes_eq due name ≡ b → lookup name (pairs_from left (word ∷ words) (Some due)) ≡ value_from name (is_due (Some due) name) (word ∷ words)
    go true t = rw t refl
    go false t = rw (t, departs word name (is_false (is_dashed word) a.1) d) (more left None name d plain (known-behind names word words e) tt)
value-step names words word more left None name d plain e a = go (is_dashed word) refl
  where
    go : (b : Bool) → is_dashed word ≡ b → lookup name (pairs_from left (word ∷ words) None) ≡ value_from name (is_due None name) (word ∷ words)
    go true t =
        let o = option-here names word words e t in
        ap (λ (ps : List Pair). lookup name ps) (dashed-pairs left word words t) ∙ more left (Some word) name d plain o.known o.awaits
    go false t = ap (λ (ps : List Pair). lookup name ps) (plain-pairs left word words t) ∙ value-placed names left words word name more d t plain (known-behind names word words e)

-- the value beside an option's name is the word behind it
pub value-is : (names words : List Word) → ValueIs names words
value-is names [] left due name d plain e a = refl
value-is names (word ∷ words) left due name d plain e a = value-step names words word (value-is names words) left due name d plain e a

-- ---- the plain words

none-some : (id : Word) → None ≡ Some id → ⊥
none-some id e = true≢false (sym (ap (λ (o : Option Word). is_some o) e))

some-is : (a b : Word) → Some a ≡ Some b → a ≡ b
some-is a b e = ap (λ (o : Option Word). unwrap_or o a) e

each-found : (P : Word → Type 0) (left : List Word) (number : ℕ) (id : Word) → Each P left → slice_get left number ≡ Some id → P id
each-found P [] number id each e = absurd (none-some id e)
each-found P (x ∷ left) zero id each e = subst P (some-is x id e) each.0
each-found P (x ∷ left) (suc number) id each e = each-found P left number id each.1 e

abbrev pub PlainIs : List Word → List Word → Type 0
PlainIs names words = (left : List Word) (due : Option Word) (number : ℕ) (id : Word) → ArePlain left → Distinct left → are_words names words ≡ true → Awaits due words
    → slice_get left number ≡ Some id → length (plain_from (is_some due) words) ≤ length left
    → lookup id (pairs_from left words due) ≡ slice_get (plain_from (is_some due) words) number

plain-placed : (names left words : List Word) (word : Word) (number : ℕ) (id : Word) → PlainIs names words → ArePlain left → Distinct left → are_words names words ≡ true
    → slice_get left number ≡ Some id → length (word ∷ plain_from false words) ≤ length left
    → lookup id (placed left word (λ rest. pairs_from rest words None)) ≡ slice_get (word ∷ plain_from false words) number
plain-placed names [] words word number id more plain distinct e found few = absurd (none-some id found)
plain-placed names (x ∷ left) words word zero id more plain distinct e found few = rw ((bytes_eq-Decides x id).1 (some-is x id found)) refl
plain-placed names (x ∷ left) words word (suc number) id more plain distinct e found few =
    let other : bytes_eq x id ≡ false = each-found (λ (y : Word). bytes_eq x y ≡ false) left number id distinct.0 found in
    let few' : length (plain_from false words) ≤ length left = omega (arith, few) in
    rw other (more left None number id plain.1 distinct.1 e tt found few')

plain-step : (names words : List Word) (word : Word) → PlainIs names words → PlainIs names (word ∷ words)
plain-step names words word more left (Some due) number id plain distinct e a found few =
    let p : is_dashed word ≡ false = is_false (is_dashed word) a.1 in
    let other : bytes_eq due id ≡ false = differs due id a.0 (each-found (λ (x : Word). is_dashed x ≡ false) left number id plain found) in
    let few' : length (plain_from false words) ≤ length left = subst (λ (ws : List Word). length ws ≤ length left) (value-plain word words p) few in
    let passed : lookup id (pairs_from left (word ∷ words) (Some due)) ≡ lookup id (pairs_from left words None) = rw other refl in
    passed ∙ (more left None number id plain distinct (known-behind names word words e) tt found few' ∙ ap (λ (ws : List Word). slice_get ws number) (sym (value-plain word words p)))
plain-step names words word more left None number id plain distinct e a found few = go (is_dashed word) refl
  where
    go : (b : Bool) → is_dashed word ≡ b → lookup id (pairs_from left (word ∷ words) None) ≡ slice_get (plain_from false (word ∷ words)) number
    go true t =
        let o = option-here names word words e t in
        let few' : length (plain_from true words) ≤ length left = subst (λ (ws : List Word). length ws ≤ length left) (dashed-plain word words t) few in
        ap (λ (ps : List Pair). lookup id ps) (dashed-pairs left word words t)
        ∙ (more left (Some word) number id plain distinct o.known o.awaits found few' ∙ ap (λ (ws : List Word). slice_get ws number) (sym (dashed-plain word words t)))
    go false t =
        let few' : length (word ∷ plain_from false words) ≤ length left = subst (λ (ws : List Word). length ws ≤ length left) (plain-plain word words t) few in
        ap (λ (ps : List Pair). lookup id ps) (plain-pairs left word words t)
        ∙ (plain-placed names left words word number id more plain distinct (known-behind names word words e) found few' ∙ ap (λ (ws : List Word). slice_get ws number) (sym (plain-plain word words t)))

-- the value beside a place is the plain word of its number
pub plain-is : (names words : List Word) → PlainIs names words
plain-is names [] left due number id plain distinct e a found few = refl
plain-is names (word ∷ words) left due number id plain distinct e a found few = plain-step names words word (plain-is names words) left due number id plain distinct e a found few

-- ---- ids of their own

fresh-push : (name : Word) (seen : List Pair) (n v : Word) → is_fresh name seen ≡ true → bytes_eq n name ≡ false → is_fresh name (seen ++ (n, v) ∷ []) ≡ true
fresh-push name [] n v e d = rw d refl
fresh-push name (p ∷ seen) n v e d =
    let two = both (not (bytes_eq p.0 name)) (is_fresh name seen) e in rw (two.0, fresh-push name seen n v two.1 d) refl

abbrev pub AreFresh : List Word → List Pair → Type 0
AreFresh left seen = Each (λ (id : Word). is_fresh id seen ≡ true) left

left-push : (left : List Word) (seen : List Pair) (n v : Word) → AreFresh left seen → Each (λ (id : Word). bytes_eq n id ≡ false) left → AreFresh left (seen ++ (n, v) ∷ [])
left-push [] seen n v fresh apart = tt
left-push (id ∷ left) seen n v fresh apart = (fresh-push id seen n v fresh.0 apart.0, left-push left seen n v fresh.1 apart.1)

left-departs : (left : List Word) (n : Word) → is_dashed n ≡ true → ArePlain left → Each (λ (id : Word). bytes_eq n id ≡ false) left
left-departs [] n d plain = tt
left-departs (id ∷ left) n d plain = (differs n id d plain.0, left-departs left n d plain.1)

-- an option that is still to come wasn't seen
abbrev pub Unseen : List Pair → List Word → Type 0
Unseen seen words = (name : Word) → is_dashed name ≡ true → is_one_of name words ≡ true → is_fresh name seen ≡ true

abbrev pub IsDueFresh : Option Word → List Pair → Type 0
IsDueFresh None seen = Unit {0}
IsDueFresh (Some name) seen = is_fresh name seen ≡ true

unseen-behind : (seen : List Pair) (word : Word) (words : List Word) → Unseen seen (word ∷ words) → Unseen seen words
unseen-behind seen word words u name d there = u name d (one-behind name word words there)

abbrev pub AreApart : List Word → List Word → Type 0
AreApart names words = (left : List Word) (seen : List Pair) (due : Option Word) → ArePlain left → Distinct left → AreFresh left seen → are_words names words ≡ true → Awaits due words
    → IsDueFresh due seen → Unseen seen words → Apart seen (pairs_from left words due)

apart-placed : (names left words : List Word) (seen : List Pair) (word : Word) → AreApart names words → ArePlain left → Distinct left → AreFresh left seen → are_words names words ≡ true → Unseen seen words
    → Apart seen (placed left word (λ rest. pairs_from rest words None))
apart-placed names [] words seen word more plain distinct fresh e u = more [] seen None tt tt tt e tt tt u
apart-placed names (id ∷ left) words seen word more plain distinct fresh e u =
    (fresh.0, more left (seen ++ (id, word) ∷ []) None plain.1 distinct.1 (left-push left seen id word fresh.1 distinct.0) e tt tt (λ name d there. fresh-push name seen id word (u name d there) (departs id name plain.0 d)))

apart-step : (names words : List Word) (word : Word) → AreApart names words → AreApart names (word ∷ words)
apart-step names words word more left seen (Some n) plain distinct fresh e a due u =
    let behind : Unseen seen words = unseen-behind seen word words u in
    let absent : is_one_of n words ≡ false = absent-behind n word words a.2 in (
      due,
      more left (seen ++ (n, word) ∷ []) None plain distinct (left-push left seen n word fresh (left-departs left n a.0 plain)) (known-behind names word words e) tt tt
          (λ name d there. fresh-push name seen n word (behind name d there) (not-same n name words absent there)),
    )
apart-step names words word more left seen None plain distinct fresh e a due u = go (is_dashed word) refl
  where
    go : (b : Bool) → is_dashed word ≡ b → Apart seen (pairs_from left (word ∷ words) None)
    go true t =
        let o = option-here names word words e t in
        subst (λ (ps : List Pair). Apart seen ps) (sym (dashed-pairs left word words t))
        (more left seen (Some word) plain distinct fresh o.known o.awaits (u word t (one-here word words)) (unseen-behind seen word words u))
    go false t = subst (λ (ps : List Pair). Apart seen ps) (sym (plain-pairs left word words t))
        (apart-placed names left words seen word more plain distinct fresh (known-behind names word words e) (unseen-behind seen word words u))

pub are-apart : (names words : List Word) → AreApart names words
are-apart names [] left seen due plain distinct fresh e a d u = tt
are-apart names (word ∷ words) left seen due plain distinct fresh e a d u = apart-step names words word (are-apart names words) left seen due plain distinct fresh e a d u

-- ---- the places of a line

pub places-plain : ArePlain places
places-plain = (refl, (refl, (refl, (refl, (refl, (refl, tt))))))

pub places-distinct : Distinct places
places-distinct = ((refl, (refl, (refl, (refl, (refl, tt))))), ((refl, (refl, (refl, (refl, tt)))), ((refl, (refl, (refl, tt))), ((refl, (refl, tt)), ((refl, tt), (tt, tt))))))
