-- Laws of tokens.
use Rattle.std.specs.Prelude.{◌≡◌, ℕ, Bool, true, false, List, [], ◌∷◌, ◌++◌, length, Ok}
use Rattle.krb_derive.specs.Making.{check_making, sealed_making, VerifiesCheck, VerifiesSealed}
use Rattle.krb_tokens.specs.declared.end.TokenEnd.{TokenEnd}
use Rattle.krb_tokens.specs.End.{other_side, sign_usage, seal_usage}
use Rattle.krb_tokens.specs.Mic.{mic_header, checked_mic}
use Rattle.krb_tokens.specs.Wrap.{wrap_header, body_of, unwrapped}
use Rattle.krb_tokens.specs.Makings.{checking_mic, unwrapping, content_of}

-- what a MIC token that was taken shows: its header and the checksum over octets and header, by the
-- other side's usage
pub record ShownByMic (end : TokenEnd) (token octets : List ℕ) : Type 0 where
  pub header : List ℕ
  pub tag : List ℕ
  pub long : length header ≡ 16
  pub spelled : token ≡ header ++ tag
  pub found : (checking_mic end token octets).found
      ≡ check_making end.key (sign_usage (other_side end.side)) (octets ++ header) ∷ []
  pub verified : VerifiesCheck end.key (sign_usage (other_side end.side)) (octets ++ header) tag

-- what a signed Wrap token that was taken shows: its body, turned back, is the content and the
-- checksum over content and header
pub record ShownBySigned (end : TokenEnd) (token content : List ℕ) : Type 0 where
  pub header : List ℕ
  pub tag : List ℕ
  pub long : length header ≡ 16
  pub body : body_of token ≡ content ++ tag
  pub found : (unwrapping end token).found
      ≡ check_making end.key (seal_usage (other_side end.side)) (content ++ header) ∷ []
  pub verified : VerifiesCheck end.key (seal_usage (other_side end.side)) (content ++ header) tag

-- what a sealed one shows: the content is a function of what was opened
pub record ShownBySealed (end : TokenEnd) (token content : List ℕ) : Type 0 where
  pub plain : List ℕ
  pub found : (unwrapping end token).found
      ≡ sealed_making end.key (seal_usage (other_side end.side)) plain ∷ []
  pub verified : VerifiesSealed end.key (seal_usage (other_side end.side)) plain (body_of token)
  pub held : content ≡ content_of plain

-- what is proved of tokens: a header has 16 octets, and what each kind that was taken shows
pub record Laws : Type 0 where
  pub long_mic : (end : TokenEnd) (number : ℕ) → length (mic_header end number) ≡ 16
  pub long_wrap : (end : TokenEnd) (sealed : Bool) (extra rotation number : ℕ)
      → length (wrap_header end sealed extra rotation number) ≡ 16
  pub mic : (end : TokenEnd) (token octets : List ℕ) → checked_mic end token octets ≡ Ok tt
      → ShownByMic end token octets
  pub signed : (end : TokenEnd) (token content : List ℕ)
      → unwrapped end token ≡ Ok (record { sealed = false; content = content })
      → ShownBySigned end token content
  pub sealed : (end : TokenEnd) (token content : List ℕ)
      → unwrapped end token ≡ Ok (record { sealed = true; content = content })
      → ShownBySealed end token content
