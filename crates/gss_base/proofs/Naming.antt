use Rattle.std.proofs.Common.{◌≡◌, ℕ, Bool, true, false, if◌then◌else◌, List, [], ◌∷◌, ◌++◌, Result, Ok, Err, refl, sym, ◌∙◌, ap, append_assoc}
use Rattle.std.specs.List.{AllByRecursion}
use Rattle.std.proofs.lemmas.List.{append-nil}
use Rattle.gss_base.specs.Principal.{joined, further, quoted, text_form}
use Rattle.gss_base.specs.Signs.{with_sign}
use Rattle.gss_base.specs.declared.principal.Sign.{Sign}

-- the parts as they are written from here on, where `first` says that none was written
abbrev pub joined_from : Bool → List (List ℕ) → List ℕ
joined_from true parts = joined parts
joined_from false parts = further parts

joined_from-cons : (first : Bool) (part : List ℕ) (more : List (List ℕ)) → joined_from first (part ∷ more) ≡ (if first then [] else 47 ∷ []) ++ (quoted part ++ further more)
joined_from-cons true part more = refl
joined_from-cons false part more = refl

-- one part more was written
pub part_written : (text between after part whole read : List ℕ) (first : Bool) (left more : List (List ℕ)) → text ++ joined_from first left ≡ whole → joined_from first left ≡ joined_from first (part ∷ more) → part ≡ read
    → between ≡ text ++ (if first then [] else 47 ∷ []) → after ≡ between ++ quoted read → after ++ further more ≡ whole
part_written text between after part whole read first left more given here same separated written =
    rw (written, separated, ← same, append_assoc text (if first then [] else 47 ∷ []) (quoted part), append_assoc text _ (further more), append_assoc, ← joined_from-cons first part more, ← here) given

joined_from-nil : (first : Bool) → joined_from first [] ≡ []
joined_from-nil true = refl
joined_from-nil false = refl

-- all parts were written, then the `@` and the realm
pub realm_written : (text marked after realm : List ℕ) (first : Bool) (parts left : List (List ℕ)) → text ++ joined_from first left ≡ joined parts → joined_from first left ≡ joined_from first []
    → marked ≡ text ++ 64 ∷ [] → after ≡ marked ++ quoted realm → after ≡ text_form realm parts
realm_written text marked after realm first parts left given none at written =
    let whole : text ≡ joined parts = sym (append-nil text) ∙ (ap (λ (rest : List ℕ). text ++ rest) (sym (none ∙ joined_from-nil first)) ∙ given) in
    rw (written, at, append_assoc, whole) refl

abbrev pub with_front : List Sign → Result (List Sign) ℕ → Result (List Sign) ℕ
with_front front (Ok signs) = Ok (front ++ signs)
with_front front (Err at) = Err at

pub with_front-push : (front : List Sign) (sign : Sign) (r : Result (List Sign) ℕ) → with_front (front ++ sign ∷ []) r ≡ with_front front (with_sign sign r)
with_front-push front sign (Ok signs) = ap Ok (append_assoc front (sign ∷ []) signs)
with_front-push front sign (Err at) = refl

-- one sign more was read
pub goes-on : (front items : List Sign) (sign : Sign) (before after whole : Result (List Sign) ℕ) → items ≡ front ++ sign ∷ [] → before ≡ with_sign sign after → with_front front before ≡ whole → with_front items after ≡ whole
goes-on front items sign before after whole pushed step given =
    rw (pushed, with_front-push front sign after, ← step) given

pub part_in : (P : List ℕ → Type 0) (xs : List (List ℕ)) (part : List ℕ) (ys : List (List ℕ)) → AllByRecursion P (xs ++ part ∷ ys) → P part
part_in P [] part ys all = all.0
part_in P (x ∷ xs) part ys all = part_in P xs part ys all.1
