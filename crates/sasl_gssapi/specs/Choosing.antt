-- The offer and the choice (RFC 4752 sections 3.1 to 3.3): how they are judged, the first refusal
-- in order, and what an end is left with.
use Rattle.std.specs.Prelude.{ℕ, ◌+◌, ◌==◌, ◌&&◌, nat_lt, not, false}
use Rattle.std.specs.Prelude.{Bool, if◌then◌else◌, List, length}
use Rattle.std.specs.Prelude.{Option, Some, None, Result, Ok, Err}
use Rattle.krb_tokens.specs.declared.done.MechDone.{MechDone}
use Rattle.krb_tokens.specs.declared.end.Side.{Side}
use Rattle.krb_tokens.specs.declared.end.TokenRefusal.{TokenRefusal}
use Rattle.krb_tokens.specs.declared.wrap.Unwrapped.{Unwrapped}
use Rattle.krb_tokens.specs.Wrap.{wrap_of}
use Rattle.sasl_layer.specs.declared.layer.Layer.{Layer}
use Rattle.sasl_layer.specs.declared.layer.Layer.TheVariants.{Bare, Signed, Sealed}
use Rattle.sasl_layer.specs.declared.layer.Wish.{Wish}
use Rattle.sasl_layer.specs.State.{LayerState}
use Rattle.sasl_layer.specs.Layers.{has_layer, strongest, words_of, layers_in}
use Rattle.sasl_layer.specs.Layers.{size_in, number_in}
use Rattle.sasl_layer.specs.Layered.{end_of, begun}
use Rattle.sasl_gssapi.specs.declared.choosing.Judged.{Judged}
use Rattle.sasl_layer.specs.declared.refusal.SaslRefusal.{SaslRefusal}
use Rattle.sasl_layer.specs.declared.refusal.SaslRefusal.TheVariants as refusals

-- the most that a message may have before the layer, and without one
abbrev pub most : ℕ
most = 65536

-- the layer of one bit, where that is one of the mask
abbrev pub picked : ℕ → ℕ → Option Layer
picked mask choice =
    if (choice == 4) && has_layer mask Sealed then Some Sealed
    else if (choice == 2) && has_layer mask Signed then Some Signed
    else if (choice == 1) && has_layer mask Bare then Some Bare
    else None

-- how many octets a message may have, by the layer and the size that was told
abbrev pub limit : Layer → ℕ → ℕ
limit Bare size = most
limit Signed size = size
limit Sealed size = size

-- with a layer the other end has to take at least 64 octets
abbrev pub is_small : Layer → ℕ → Bool
is_small Bare size = false
is_small Signed size = nat_lt size 64
is_small Sealed size = nat_lt size 64

-- ---- what is judged

-- behind the layer: the size, the authorization identity, and the number, which is the first one of
-- the other end
abbrev pub chosen : Option Layer → ℕ → List ℕ → List ℕ → Result Judged SaslRefusal
chosen None due token words = Err refusals.Layers
chosen (Some layer) due token words =
    if is_small layer (size_in words) then Err refusals.Size
    else if nat_lt 4 (length words) then Err refusals.Identity
    else if not (number_in token == due) then Err (refusals.Order due)
    else Ok (record { layer = layer; size = size_in words })

-- what a token held, by which layer it leads to: the offer has four octets, the choice at least
-- four
abbrev pub words_judged : Bool → (List ℕ → Option Layer) → ℕ → List ℕ → Unwrapped
    → Result Judged SaslRefusal
words_judged short leads due token held =
    if short then Err refusals.Length
    else if held.sealed then Err refusals.Layers
    else chosen (leads held.content) due token held.content

-- the layer that an offer leads to, and a choice
abbrev pub offer_leads : ℕ → List ℕ → Option Layer
offer_leads mask words = strongest (layers_in words) mask

abbrev pub choice_leads : ℕ → List ℕ → Option Layer
choice_leads mask words = picked mask (layers_in words)

abbrev pub offer_judged : ℕ → ℕ → List ℕ → Result Unwrapped TokenRefusal
    → Result Judged SaslRefusal
offer_judged mask due token (Err refusal) = Err (refusals.Token refusal)
offer_judged mask due token (Ok held) =
    words_judged (not (length held.content == 4)) (offer_leads mask) due token held

abbrev pub choice_judged : ℕ → ℕ → List ℕ → Result Unwrapped TokenRefusal
    → Result Judged SaslRefusal
choice_judged mask due token (Err refusal) = Err (refusals.Token refusal)
choice_judged mask due token (Ok held) =
    words_judged (nat_lt (length held.content) 4) (choice_leads mask) due token held

-- ---- what is said and kept

-- the signed token with number 0 of a mask or a choice, and a size
abbrev pub told : MechDone → Side → ℕ → ℕ → List ℕ → List ℕ
told done side layers size confounder =
    wrap_of (end_of done side) 0 false confounder (words_of layers size)

-- the end under the layer, where the next number of the other end is the one after its first
abbrev pub layered : MechDone → Side → Wish → Judged → LayerState
layered done side wish chosen =
    begun (record {
      layer = chosen.layer;
      outgoing = limit chosen.layer chosen.size;
      incoming = limit chosen.layer wish.size;
      done = done;
    }) side (done.first + 1)
