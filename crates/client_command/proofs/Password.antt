-- A password's file: a line feed at its end, and its text.
use Rattle.std.proofs.Common.{◌≡◌, ◌≢◌, ℕ, Bool, true, false, nat_eq, if◌then◌else◌, List, [], ◌∷◌, ◌++◌, Ok, Err, refl, sym, ap, ◌∙◌}
use Rattle.std.proofs.lemmas.Bool.{cond-true, cond-false, eqb-true, false_from_ne_true}
use Rattle.std.proofs.lemmas.Str.{IsUtf8-from_is_utf8, is_utf8-from_IsUtf8}
use Rattle.std.specs.Str.{IsUtf8, is_utf8}
use Rattle.std.specs.Str.Lossy.{utf8_valid_len}
use Rattle.client_command.specs.Credentials.{less_feed, password_by}
use Rattle.client_options.specs.declared.ending.RunEnd.TheVariants.{Bad}
use Rattle.client_options.specs.declared.ending.WordFile.TheVariants.{Password}

-- behind a text stands a line feed
pub fed : (front : List ℕ) → less_feed (front ++ 10 ∷ []) ≡ front
fed [] = refl
fed (octet ∷ []) = refl
fed (octet ∷ next ∷ front) = ap (λ (xs : List ℕ). octet ∷ xs) (fed (next ∷ front))

last-kept : (b : Bool) (octet : ℕ) → (b ≡ true → ⊥) → (if b then [] else octet ∷ []) ≡ octet ∷ []
last-kept true octet other = absurd (other refl)
last-kept false octet other = refl

-- none stands there
pub unfed : (octets : List ℕ) → ((front : List ℕ) → octets ≢ front ++ 10 ∷ []) → less_feed octets ≡ octets
unfed [] other = refl
unfed (octet ∷ []) other = last-kept (nat_eq octet 10) octet (λ e. other [] (ap (λ (x : ℕ). x ∷ []) (eqb-true octet 10 e)))
unfed (octet ∷ next ∷ octets) other = ap (λ (xs : List ℕ). octet ∷ xs) (unfed (next ∷ octets) (λ front e. other (octet ∷ front) (ap (λ (xs : List ℕ). octet ∷ xs) e)))

pub texts : (octets text password : List ℕ) → text ≡ octets → IsUtf8 octets → password ≡ less_feed text → password_by octets ≡ Ok password
texts octets text password same utf8 made =
    cond-true (is_utf8 octets) _ _ (is_utf8-from_IsUtf8 octets utf8) ∙ ap (λ (xs : List ℕ). Ok xs) (ap less_feed (sym same) ∙ sym made)

pub no-text : (octets : List ℕ) (at : ℕ) → (IsUtf8 octets → ⊥) → at ≡ utf8_valid_len octets → password_by octets ≡ Err (Bad Password at)
no-text octets at wrong is =
    cond-false (is_utf8 octets) _ _ (false_from_ne_true (is_utf8 octets) (λ e. wrong (IsUtf8-from_is_utf8 octets e))) ∙ ap (λ (n : ℕ). Err (Bad Password n)) (sym is)
