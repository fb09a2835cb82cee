-- The calls of an end with what they hand out, and what they find verified where the token is
-- taken.
use Rattle.std.specs.Prelude.{ℕ, ◌-◌, Bool, true, false, List, [], ◌∷◌, ◌++◌, length, take, drop}
use Rattle.std.specs.Prelude.{Result, Ok, Err}
use Rattle.krb_derive.specs.Making.{Making, Made, check_making, sealed_making, found_in}
use Rattle.krb_derive.specs.Sealing.{opened}
use Rattle.krb_tokens.specs.declared.end.TokenEnd.{TokenEnd}
use Rattle.krb_tokens.specs.declared.end.TokenRefusal.{TokenRefusal}
use Rattle.krb_tokens.specs.declared.wrap.Unwrapped.{Unwrapped}
use Rattle.krb_tokens.specs.End.{other_side, sign_usage, seal_usage}
use Rattle.krb_tokens.specs.Mic.{mic_header, mic_of, checked_mic}
use Rattle.krb_tokens.specs.Wrap.{wrap_header, wrap_of, word_of, body_of, bare_header, unwrapped}

-- the octets and the header that the checksum is over
abbrev pub mic_making : TokenEnd → ℕ → List ℕ → Making
mic_making end number octets =
    check_making end.key (sign_usage end.side) (octets ++ mic_header end number)

-- a MIC token of this end with this number over these octets, with its making
abbrev pub making_mic : TokenEnd → ℕ → List ℕ → Made
making_mic end number octets =
    record { octets = mic_of end number octets; makes = mic_making end number octets ∷ [] }

-- the content and the header that are sealed, or that the checksum is over
abbrev pub wrap_making : TokenEnd → ℕ → Bool → List ℕ → Making
wrap_making end number true content =
    sealed_making end.key (seal_usage end.side) (content ++ wrap_header end true 0 0 number)
wrap_making end number false content =
    check_making end.key (seal_usage end.side) (content ++ wrap_header end false 0 0 number)

-- a Wrap token of this end with this number and content, sealed or not, with its making
abbrev pub making_wrap : TokenEnd → ℕ → Bool → List ℕ → List ℕ → Made
making_wrap end number sealed confounder content =
    record {
      octets = wrap_of end number sealed confounder content;
      makes =
          wrap_making end number sealed content ∷ [];
    }

-- ---- reading: a token that is refused shows nothing

-- what was found verified of a MIC token, by the answer: the other side's checksum over the octets
-- and the token's header
abbrev pub found_of_mic : TokenEnd → List ℕ → List ℕ → Result (Unit {0}) TokenRefusal → List Making
found_of_mic end token octets (Ok done) =
    check_making end.key (sign_usage (other_side end.side)) (octets ++ take 16 token) ∷ []
found_of_mic end token octets (Err refusal) = []

-- what the check of a MIC token answers, and what it found verified
pub record CheckingMic : Type 0 where
  pub answer : Result (Unit {0}) TokenRefusal
  pub found : List Making

-- a MIC token checked by an end, over these octets
abbrev pub checking_mic : TokenEnd → List ℕ → List ℕ → CheckingMic
checking_mic end token octets =
    record {
      answer = checked_mic end token octets;
      found =
          found_of_mic end token octets (checked_mic end token octets);
    }

-- what was found verified of a Wrap token that was taken: what its body opened to if it was sealed,
-- else the other side's checksum over content and header
abbrev pub found_of_content : TokenEnd → List ℕ → Bool → List ℕ → List Making
found_of_content end token true content =
    found_in end.key (seal_usage (other_side end.side))
    (opened end.key (seal_usage (other_side end.side)) (body_of token))
found_of_content end token false content =
    check_making end.key (seal_usage (other_side end.side)) (content ++ bare_header token) ∷ []

-- what was found verified of a Wrap token, by the answer
abbrev pub found_of_wrap : TokenEnd → List ℕ → Result Unwrapped TokenRefusal → List Making
found_of_wrap end token (Ok value) = found_of_content end token value.sealed value.content
found_of_wrap end token (Err refusal) = []

-- what the taking of a Wrap token answers, and what it found verified
pub record Unwrapping : Type 0 where
  pub answer : Result Unwrapped TokenRefusal
  pub found : List Making

-- a Wrap token taken by an end
abbrev pub unwrapping : TokenEnd → List ℕ → Unwrapping
unwrapping end token =
    record { answer = unwrapped end token; found = found_of_wrap end token (unwrapped end token) }

-- the content of what was opened, by the extra count in the header at its end
abbrev pub content_of : List ℕ → List ℕ
content_of plain = take (length plain - 16 - word_of (drop (length plain - 16) plain) 4) plain
