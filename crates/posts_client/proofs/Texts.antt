-- Text in UTF-8, as the library and as a test tells it.
use Rattle.std.proofs.Common.{◌≡◌, ℕ, true, false, List, sym}
use Rattle.std.specs.Str.{IsUtf8, is_utf8}
use Rattle.std.proofs.lemmas.Str.{IsUtf8-from_is_utf8, is_utf8-from_IsUtf8}
use Rattle.std.proofs.lemmas.Bool.{false_from_ne_true}

pub is-text : (octets : List ℕ) → IsUtf8 octets → true ≡ is_utf8 octets
is-text octets right = sym (is_utf8-from_IsUtf8 octets right)

pub is-no-text : (octets : List ℕ) → (IsUtf8 octets → ⊥) → false ≡ is_utf8 octets
is-no-text octets wrong = sym (false_from_ne_true (is_utf8 octets) (λ right. wrong (IsUtf8-from_is_utf8 octets right)))
