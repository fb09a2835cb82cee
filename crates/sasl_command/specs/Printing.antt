-- What `ask` prints: the layer, once it stands, and the echo.
use Rattle.std.specs.Prelude.{◌≡◌, ◌≢◌, ℕ, List, [], ◌++◌, take, codes, Option, Some, None}
use Rattle.std.specs.Fmt.{decimal}
use Rattle.hex.specs.Hex.{encode_lower}
use Rattle.sasl_layer.specs.Layers.{bit_of}
use Rattle.sasl_layer.specs.declared.facts.LayerFacts.{LayerFacts}

-- `layer L`, by the layer's bit
abbrev pub layer_line : Option LayerFacts → List ℕ
layer_line None = []
layer_line (Some facts) = codes "layer " ++ (decimal (bit_of facts.layer) ++ codes "\n")

-- the echo in lower-case hexadecimal
abbrev pub echo_line : Option (List ℕ) → List ℕ
echo_line None = []
echo_line (Some echo) = encode_lower echo ++ codes "\n"

abbrev pub lines : Option LayerFacts → Option (List ℕ) → List ℕ
lines facts echo = layer_line facts ++ echo_line echo

-- the text was printed; at status 6 and 8 a front of it
pub record Prints (old new : List ℕ) (status : ℕ) (text : List ℕ) : Type 0 where
  pub whole : status ≢ 6 → status ≢ 8 → new ≡ old ++ text
  pub front : (count : ℕ) × (new ≡ old ++ take count text)
