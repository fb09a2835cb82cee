-- How long a message is.
use Rattle.std.proofs.Common.{◌≡◌, ℕ, ◌+◌, ◌≤◌, ◌∙◌, true, false, refl, arith, List, ◌++◌, length}
use Rattle.std.specs.Prelude.{nat_lt}
use Rattle.std.proofs.lemmas.Bool.{ltb-false}
use Rattle.std.proofs.lemmas.List.{length-append}
use Rattle.krb_derive.specs.Sealing.{checksum_of, seal_of}
use Rattle.krb_tokens.specs.declared.end.TokenEnd.{TokenEnd}
use Rattle.krb_tokens.specs.End.{seal_usage}
use Rattle.krb_tokens.specs.Wrap.{wrap_header, wrap_of, signed_body, sealed_body}
use Rattle.krb_tokens.proofs.Shown.{long_wrap}
use Rattle.krb_tokens.proofs.Taken.{length-checksum_of}
use Rattle.krb_tokens.proofs.Unwrapping.{length-seal_of}
use Rattle.sasl_layer.specs.declared.layer.Layer.{Layer}
use Rattle.sasl_layer.specs.declared.layer.Layer.TheVariants.{Bare, Signed, Sealed}
use Rattle.sasl_layer.specs.State.{LayerState}
use Rattle.sasl_layer.specs.Layered.{end_under, size_carried, carried_by, carried}

pub signed-long : (end : TokenEnd) (number : ℕ) (confounder octets : List ℕ) → length (wrap_of end number false confounder octets) ≡ length octets + 28
unfolding wrap_of signed_body
signed-long end number confounder octets =
    let header : List ℕ = wrap_header end false 12 0 number in
    let tag : List ℕ = checksum_of end.key (seal_usage end.side) (octets ++ wrap_header end false 0 0 number) in
    length-append header (octets ++ tag)
    ∙ omega (arith, long_wrap end false 12 0 number, length-append octets tag, length-checksum_of end.key (seal_usage end.side) (octets ++ wrap_header end false 0 0 number))

pub sealed-long : (end : TokenEnd) (number : ℕ) (confounder octets : List ℕ) → length confounder ≡ 16
    → length (wrap_of end number true confounder octets) ≡ length octets + 60
unfolding wrap_of sealed_body
sealed-long end number confounder octets block =
    let header : List ℕ = wrap_header end true 0 0 number in
    length-append header (seal_of end.key (seal_usage end.side) confounder (octets ++ header))
    ∙ omega (arith, long_wrap end true 0 0 number, length-seal_of end.key (seal_usage end.side) confounder (octets ++ header) block, length-append octets header)

-- ---- a message of an end

long-by : (layer : Layer) (l : LayerState) (confounder octets : List ℕ) → length confounder ≡ 16
    → length (carried_by layer l confounder octets) ≡ size_carried layer (length octets)
long-by Bare l confounder octets block = refl
long-by Signed l confounder octets block = signed-long (end_under l) l.sends confounder octets
long-by Sealed l confounder octets block = sealed-long (end_under l) l.sends confounder octets block

pub carried_long : (l : LayerState) (confounder octets : List ℕ) → length confounder ≡ 16 → length (carried l confounder octets) ≡ size_carried l.facts.layer (length octets)
carried_long l confounder octets block = long-by l.facts.layer l confounder octets block

pub carried_short : (l : LayerState) (confounder octets : List ℕ) → length confounder ≡ 16 → nat_lt l.facts.outgoing (size_carried l.facts.layer (length octets)) ≡ false
    → length (carried l confounder octets) ≤ l.facts.outgoing
carried_short l confounder octets block fits =
    omega (arith, carried_long l confounder octets block, ltb-false l.facts.outgoing (size_carried l.facts.layer (length octets)) fits)
