-- How long bodies are.
use Rattle.std.proofs.Common.{◌≡◌, ℕ, ◌+◌, ◌*◌, ◌≤◌, Bool, true, List, ◌++◌, length, ap, ◌∙◌, refl, arith, Result, Ok, Err, IfOk}
use Rattle.std.proofs.lemmas.List.{length-append}
use Rattle.rpc_msgs.specs.Words.{word, opaque}
use Rattle.rpc_msgs.proofs.WordLengths.{length-word, length-opaque}
use Rattle.rpcsec_msgs.specs.Bodies.{checked_octets}
use Rattle.krb_derive.specs.Sealing.{seal_of}
use Rattle.krb_tokens.specs.End.{seal_usage, sign_usage}
use Rattle.krb_tokens.specs.Mic.{mic_of, mic_header}
use Rattle.krb_tokens.specs.Wrap.{wrap_header, sealed_body, wrap_of}
use Rattle.krb_tokens.specs.declared.end.TokenEnd.{TokenEnd}
use Rattle.krb_tokens.proofs.Taken.{length-checksum_of}
use Rattle.krb_tokens.proofs.Unwrapping.{length-seal_of}
use Rattle.rpcsec_bodies.specs.Protection.{protected}
use Rattle.rpcsec_bodies.specs.declared.service.Service.{Service}
use Rattle.rpcsec_bodies.specs.declared.service.Service.TheVariants as services

length-wrap_header : (end : TokenEnd) (sealed : Bool) (extra rotation number : ℕ) → length (wrap_header end sealed extra rotation number) ≡ 16
unfolding wrap_header
length-wrap_header end sealed extra rotation number = refl

pub length-wrap_of : (end : TokenEnd) (number : ℕ) (confounder octets : List ℕ) → length confounder ≡ 16 → length (wrap_of end number true confounder octets) ≡ 60 + length octets
unfolding wrap_of sealed_body
length-wrap_of end number confounder octets size =
    length-append (wrap_header end true 0 0 number) (seal_of end.key (seal_usage end.side) confounder (octets ++ wrap_header end true 0 0 number))
    ∙ omega (arith, length-wrap_header end true 0 0 number, length-seal_of end.key (seal_usage end.side) confounder (octets ++ wrap_header end true 0 0 number) size, length-append octets (wrap_header end true 0 0 number))

pub sealed-fits : (end : TokenEnd) (number : ℕ) (confounder octets : List ℕ) → length confounder ≡ 16 → length octets ≤ 65544 → length (opaque (wrap_of end number true confounder octets)) ≤ 130000
sealed-fits end number confounder octets size few = omega (arith, length-opaque (wrap_of end number true confounder octets), length-wrap_of end number confounder octets size)

pub checked-fits : (octets tag : List ℕ) → length tag ≡ 28 → length octets ≤ 65544 → length (checked_octets octets tag) ≤ 130000
checked-fits octets tag size few = omega (arith, length-append (opaque octets) (opaque tag), length-opaque octets, length-opaque tag)

-- octets behind others, if they were made
pub sized : {E : Type 0} (r : Result (List ℕ) E) (out xs : List ℕ) (n : ℕ) → IfOk r (λ o. o ≡ out ++ xs) → length xs ≤ n → IfOk r (λ o. length o ≤ length out + n)
sized (Ok o) out xs n e h = omega (arith, ap length e, length-append out xs)
sized (Err d) out xs n e h = tt

pub mic-size : (end : TokenEnd) (number : ℕ) (octets : List ℕ) → length (mic_of end number octets) ≡ 28
unfolding mic_of mic_header
mic-size end number octets = omega (arith, length-checksum_of end.key (sign_usage end.side) (octets ++ mic_header end number))

pub long-databody : (seq : ℕ) (content : List ℕ) → length content ≤ 65540 → length (word seq ++ content) ≤ 65544
long-databody seq content few = omega (arith, length-append (word seq) content, length-word seq)

pub longest-databody : (seq : ℕ) (content : List ℕ) → length content ≤ 130952 → length (word seq ++ content) ≤ 130956
longest-databody seq content few = omega (arith, length-append (word seq) content, length-word seq)

-- an opaque whose octets are few is filled up to a multiple of four
filled : (octets : List ℕ) → length octets ≤ 131016 → length (opaque octets) ≤ 131020
filled octets few = omega (arith, length-opaque octets, few)

-- a body with the most octets of a content
pub protected-within : (end : TokenEnd) (service : Service) (seq : ℕ) (confounder content : List ℕ) → length content ≤ 130952 → length confounder ≡ 16 → length (protected end service seq confounder content) ≤ 131020
unfolding protected
protected-within end services.None seq confounder content few block = omega (arith, few)
protected-within end services.Integrity seq confounder content few block =
    let databody : List ℕ = word seq ++ content in
    let tag : List ℕ = mic_of end (2 * seq + 1) databody in
    omega (arith, length-append (opaque databody) (opaque tag), length-opaque databody, length-opaque tag, mic-size end (2 * seq + 1) databody, longest-databody seq content few)
protected-within end services.Privacy seq confounder content few block =
    filled (wrap_of end (2 * seq + 1) true confounder (word seq ++ content)) (omega (arith, length-wrap_of end (2 * seq + 1) confounder (word seq ++ content) block, longest-databody seq content few))

pub protected-fits : (end : TokenEnd) (service : Service) (seq : ℕ) (confounder content : List ℕ) → length content ≤ 65540 → length confounder ≡ 16 → length (protected end service seq confounder content) ≤ 130000
unfolding protected
protected-fits end services.None seq confounder content few block = omega (arith, few)
protected-fits end services.Integrity seq confounder content few block =
    checked-fits (word seq ++ content) (mic_of end (2 * seq + 1) (word seq ++ content)) (mic-size end (2 * seq + 1) (word seq ++ content)) (long-databody seq content few)
protected-fits end services.Privacy seq confounder content few block = sealed-fits end (2 * seq + 1) confounder (word seq ++ content) block (long-databody seq content few)

pub databody-size : (seq : ℕ) (content : List ℕ) → length content + 4 ≡ length (word seq ++ content)
databody-size seq content = omega (arith, length-append (word seq) content, length-word seq)

pub sealed-size : (end : TokenEnd) (seq : ℕ) (confounder content : List ℕ) → length confounder ≡ 16
    → length content + 4 + 60 ≡ length (wrap_of end (2 * seq + 1) true confounder (word seq ++ content))
sealed-size end seq confounder content block =
    omega (arith, length-wrap_of end (2 * seq + 1) confounder (word seq ++ content) block, databody-size seq content)
