-- Bodies as an end takes them, RFC 2203 section 5.3.2: the first rule that applies decides.
use Rattle.std.specs.Prelude.{ℕ, Bool, ◌==◌, if◌then◌else◌, List, Result, Ok, Err}
use Rattle.krb_tokens.specs.declared.end.TokenEnd.{TokenEnd}
use Rattle.krb_tokens.specs.Mic.{checked_mic}
use Rattle.krb_tokens.specs.Wrap.{unwrapped}
use Rattle.rpc_msgs.specs.Xdr.{Input, whole, word_at}
use Rattle.rpc_msgs.specs.declared.xdr_reader.XdrRefusal.{XdrRefusal}
use Rattle.rpcsec_msgs.specs.Bodies.{checked_at, sealed_at}
use Rattle.rpcsec_bodies.specs.declared.refusal.BodyRefusal.{BodyRefusal}
use Rattle.rpcsec_bodies.specs.declared.refusal.BodyRefusal.TheVariants.{Protection, Number}
use Rattle.rpcsec_bodies.specs.declared.service.Service.{Service}
use Rattle.rpcsec_bodies.specs.declared.service.Service.TheVariants as services

-- the rules that follow, unless one before applied
infixl 10 ◌>>=◌
-- the rule that follows takes what the one before found
abbrev pub ◌>>=◌ : {A B : Type 0} → Result A BodyRefusal → (A → Result B BodyRefusal)
    → Result B BodyRefusal
(Ok x) >>= next = next x
(Err refusal) >>= next = Err refusal

-- a rule: this refusal exactly where the test doesn't hold
abbrev pub due : BodyRefusal → Bool → Result (Unit {0}) BodyRefusal
due refusal holds = if holds then Ok tt else Err refusal

-- a part of the protection, or the refusal
abbrev pub or_unprotected : {A E : Type 0} → Result A E → Result A BodyRefusal
or_unprotected (Ok x) = Ok x
or_unprotected (Err e) = Err Protection

-- a number, or the refusal
abbrev pub or_unnumbered : Result (ℕ × Input) XdrRefusal → Result (ℕ × Input) BodyRefusal
or_unnumbered (Ok seq) = Ok seq
or_unnumbered (Err refusal) = Err Number

-- a databody is the call's number and the content: the content of one that has this number
unfoldable pub numbered : ℕ → List ℕ → Result (List ℕ) BodyRefusal
numbered seq databody = do
  number ← or_unnumbered (word_at (whole databody))
  own ← due Number (number.0 == seq)
  Ok number.1.octets

-- the content of a body by integrity: a databody, and the facing end's MIC over it
-- (section 5.3.2.2)
unfoldable pub checked_content : TokenEnd → ℕ → List ℕ → Result (List ℕ) BodyRefusal
checked_content end seq body = do
  parts ← or_unprotected (checked_at body)
  proved ← or_unprotected (checked_mic end parts.1 parts.0)
  numbered seq parts.0

-- the content of a body by privacy: a databody, sealed by the facing end (section 5.3.2.3)
unfoldable pub sealed_content : TokenEnd → ℕ → List ℕ → Result (List ℕ) BodyRefusal
sealed_content end seq body = do
  token ← or_unprotected (sealed_at body)
  content ← or_unprotected (unwrapped end token)
  secret ← due Protection content.sealed
  numbered seq content.content

-- the content of a body by the service of the call of this number
unfoldable pub unprotected : TokenEnd → Service → ℕ → List ℕ → Result (List ℕ) BodyRefusal
unprotected end services.None seq body = Ok body
unprotected end services.Integrity seq body = checked_content end seq body
unprotected end services.Privacy seq body = sealed_content end seq body
