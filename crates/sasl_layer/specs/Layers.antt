-- Layers, masks of them, and the four octets in which an end says what it takes (RFC 4752 sections
-- 3.1 to 3.3).
use Rattle.std.specs.Prelude.{ℕ, ◌+◌, ◌*◌, ◌/◌, ◌%◌, ◌==◌, ◌&&◌, Bool, if◌then◌else◌, List, ◌∷◌}
use Rattle.std.specs.Prelude.{take, drop, slice_index, Option, Some, None}
use Rattle.std.specs.Int.{w32, w64, to_be_bytes, from_be_bytes}
use Rattle.sasl_layer.specs.declared.layer.Layer.{Layer}
use Rattle.sasl_layer.specs.declared.layer.Layer.TheVariants.{Bare, Signed, Sealed}

-- the bit of a layer in a mask: 1 none, 2 integrity, 4 confidentiality (section 3.3)
abbrev pub bit_of : Layer → ℕ
bit_of Bare = 1
bit_of Signed = 2
bit_of Sealed = 4

-- the layer is one of a mask
abbrev pub has_layer : ℕ → Layer → Bool
has_layer mask layer = mask / bit_of layer % 2 == 1

-- it is one of both masks
abbrev pub is_common : ℕ → ℕ → Layer → Bool
is_common mask other layer = has_layer mask layer && has_layer other layer

-- the strongest layer of both masks
abbrev pub strongest : ℕ → ℕ → Option Layer
strongest mask other =
    if is_common mask other Sealed then Some Sealed
    else if is_common mask other Signed then Some Signed
    else if is_common mask other Bare then Some Bare
    else None

-- the size as it is sent: 0 exactly beside the mask that has no layer but none
abbrev pub size_sent : ℕ → ℕ → ℕ
size_sent layers size = if layers == 1 then 0 else size

-- the four octets: the mask or the choice, and the size in 24 bits, most significant octet first
unfoldable pub words_of : ℕ → ℕ → List ℕ
words_of layers size = layers ∷ drop 1 (to_be_bytes w32 (size_sent layers size))

-- the mask or the choice in such octets
abbrev pub layers_in : List ℕ → ℕ
layers_in words = slice_index words 0

-- the size in them
abbrev pub size_in : List ℕ → ℕ
size_in words = 65536 * slice_index words 1 + 256 * slice_index words 2 + slice_index words 3

-- the number of a token, most significant octet first (RFC 4121 section 4.2.6.2)
abbrev pub number_in : List ℕ → ℕ
number_in token = from_be_bytes w64 (take 8 (drop 8 token))
