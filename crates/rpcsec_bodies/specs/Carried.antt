-- What a body that was taken carries, RFC 2203 section 5.3.2.
use Rattle.std.specs.Prelude.{◌≡◌, ℕ, true, List, Ok}
use Rattle.krb_tokens.specs.declared.end.TokenEnd.{TokenEnd}
use Rattle.krb_tokens.specs.Mic.{checked_mic}
use Rattle.krb_tokens.specs.Wrap.{unwrapped}
use Rattle.rpc_msgs.specs.Xdr.{Input, whole, word_at}
use Rattle.rpcsec_msgs.specs.Bodies.{checked_at, sealed_at}
use Rattle.rpcsec_bodies.specs.declared.service.Service.{Service}
use Rattle.rpcsec_bodies.specs.declared.service.Service.TheVariants as services

-- a databody is this number, and the content behind it
pub record IsNumbered (seq : ℕ) (databody content : List ℕ) : Type 0 where
  pub rest : Input
  pub read : word_at (whole databody) ≡ Ok (seq, rest)
  pub content_is : content ≡ rest.octets

-- the facing end's MIC over a databody with this number
pub record IsCheckedBody (end : TokenEnd) (seq : ℕ) (body content : List ℕ) : Type 0 where
  pub databody : List ℕ
  pub mic : List ℕ
  pub split : checked_at body ≡ Ok (databody, mic)
  pub proved : checked_mic end mic databody ≡ Ok tt
  pub numbered : IsNumbered seq databody content

-- a databody with this number, sealed by the facing end
pub record IsSealedBody (end : TokenEnd) (seq : ℕ) (body content : List ℕ) : Type 0 where
  pub token : List ℕ
  pub databody : List ℕ
  pub split : sealed_at body ≡ Ok token
  pub opened : unwrapped end token ≡ Ok (record { sealed = true; content = databody })
  pub numbered : IsNumbered seq databody content

-- a body that holds this content by its service: bare, under the facing end's MIC, or sealed by it
abbrev pub IsBody : TokenEnd → Service → ℕ → List ℕ → List ℕ → Type 0
IsBody end services.None seq body content = content ≡ body
IsBody end services.Integrity seq body content = IsCheckedBody end seq body content
IsBody end services.Privacy seq body content = IsSealedBody end seq body content
