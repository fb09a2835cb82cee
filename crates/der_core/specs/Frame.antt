-- The frame of a mechanism's first token, RFC 2743 section 3.1.
use Rattle.std.specs.Prelude.{ℕ, List}
use Rattle.der_core.specs.Format.{Content}
use Rattle.der_core.specs.Element.{element, whole, plain, any_octets}
use Rattle.der_core.specs.Fields.{with_field}
use Rattle.der_core.specs.Values.{object_identifier}

-- an object identifier, and any octets behind it
unfoldable pub framed : Content (List ℕ × List ℕ)
framed = whole (element 0x60 (with_field object_identifier (plain any_octets)))
