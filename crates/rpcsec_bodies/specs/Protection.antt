-- Bodies as an end makes them, RFC 2203 section 5.3.2.
use Rattle.std.specs.Prelude.{◌≡◌, ℕ, ◌+◌, ◌*◌, true, List, ◌++◌, Ok}
use Rattle.krb_tokens.specs.declared.end.TokenEnd.{TokenEnd}
use Rattle.krb_tokens.specs.Mic.{mic_of}
use Rattle.krb_tokens.specs.End.{facing}
use Rattle.krb_tokens.specs.Wrap.{wrap_of, unwrapped}
use Rattle.rpc_msgs.specs.Words.{word, opaque}
use Rattle.rpcsec_msgs.specs.Bodies.{checked_octets}
use Rattle.rpcsec_bodies.specs.declared.service.Service.{Service}
use Rattle.rpcsec_bodies.specs.declared.service.Service.TheVariants as services

-- the body with this content, arguments or a result, by the service of the call of this number: as
-- it is, or the number and the content with their MIC, or both sealed; the token's number is twice
-- the call's and one more
unfoldable pub protected : TokenEnd → Service → ℕ → List ℕ → List ℕ → List ℕ
protected end services.None seq confounder content = content
protected end services.Integrity seq confounder content =
    checked_octets (word seq ++ content) (mic_of end (2 * seq + 1) (word seq ++ content))
protected end services.Privacy seq confounder content =
    opaque (wrap_of end (2 * seq + 1) true confounder (word seq ++ content))

-- the facing end opens what this end seals
abbrev pub Opens : TokenEnd → ℕ → List ℕ → List ℕ → Type 0
Opens end number confounder databody =
    unwrapped (facing end) (wrap_of end number true confounder databody)
    ≡ Ok (record { sealed = true; content = databody })
