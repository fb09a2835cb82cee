-- Text in UTF-8, as the library and as a test tells it.
use Rattle.std.proofs.Common.{◌≡◌, ℕ, false, List}
use Rattle.std.specs.Str.{IsUtf8, is_utf8}
use Rattle.std.proofs.lemmas.Str.{IsUtf8-from_is_utf8, is_utf8-from_IsUtf8}
use Rattle.std.proofs.lemmas.Bool.{false_from_ne_true}

-- octets that the library refuses as text fail the test
pub is_not_utf8 : (octets : List ℕ) → (IsUtf8 octets → ⊥) → is_utf8 octets ≡ false
is_not_utf8 octets wrong = false_from_ne_true (is_utf8 octets) (λ right. wrong (IsUtf8-from_is_utf8 octets right))

pub ruleset texts = (is_not_utf8, is_utf8-from_IsUtf8)
