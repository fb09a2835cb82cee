-- Octets with their type, as keys, checksums and addresses have it.
use Rattle.std.specs.Prelude.{ℕ, ℤ, List}
use Rattle.der_core.specs.Format.{Content}
use Rattle.der_core.specs.Element.{explicit, octet_string}
use Rattle.der_core.specs.Fields.{done, with_field}
use Rattle.der_core.specs.Integer.{int32}

-- the type, and the octets
abbrev pub typed_octets : Content (ℤ × ((List ℕ) × Unit {0}))
typed_octets =
    with_field (explicit 0xa0 int32)
    (with_field (explicit 0xa1 octet_string)
    (done))
