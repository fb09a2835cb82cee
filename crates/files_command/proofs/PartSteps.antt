-- One component more was written.
use Rattle.std.proofs.Common.{◌≡◌, ◌<◌, ◌≤◌, ◌+◌, ℕ, true, List, ◌∷◌, ◌++◌, length, drop, get_or, refl, sym, ap, subst, ◌∙◌, append_assoc}
use Rattle.std.specs.List.{flat_map}
use Rattle.std.specs.Str.{is_utf8}
use Rattle.std.proofs.lemmas.List.{drop_more}
use Rattle.krb_files.specs.Names.{are_texts}
use Rattle.files_command.specs.Fields.{counted, AreShort}

pub split : (parts : List (List ℕ)) (i : ℕ) (part : List ℕ) → i < length parts → part ≡ get_or parts i part → drop i parts ≡ part ∷ drop (i + 1) parts
split parts i part less is = drop_more parts i part less ∙ ap (λ p. p ∷ drop (i + 1) parts) (sym is)

pub written_on : (size : ℕ) (before out part all : List ℕ) (left others : List (List ℕ)) → left ≡ part ∷ others → out ≡ before ++ counted size part → before ++ flat_map (counted size) left ≡ all → out ++ flat_map (counted size) others ≡ all
written_on size before out part all left others next grows done =
    rw (grows, append_assoc) (ap (λ ps. before ++ flat_map (counted size) ps) (sym next) ∙ done)

pub texts_on : (left others all : List (List ℕ)) (part : List ℕ) → left ≡ part ∷ others → is_utf8 part ≡ true → are_texts left ≡ are_texts all → are_texts others ≡ are_texts all
texts_on left others all part next text done =
    let one : are_texts (part ∷ others) ≡ are_texts others = rw text refl in
    sym one ∙ (ap are_texts (sym next) ∙ done)

pub short_on : (left others : List (List ℕ)) (part : List ℕ) → left ≡ part ∷ others → AreShort left → (length part ≤ 255) × AreShort others
short_on left others part next short = subst AreShort next short
