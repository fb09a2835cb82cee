-- HostAddress, RFC 4120 section 5.2.5.
use Rattle.std.specs.Prelude.{ℕ, ℤ, List}
use Rattle.der_core.specs.Format.{Format, Content}
use Rattle.der_core.specs.Element.{element, explicit, octet_string}
use Rattle.der_core.specs.Fields.{done, with_field, seen}
use Rattle.der_core.specs.Integer.{int32}
use Rattle.krb_msgs.specs.declared.host_address.HostAddress.{HostAddress}

-- addr-type [0], address [1]
abbrev pub host_address_fields : Content (ℤ × ((List ℕ) × Unit {0}))
host_address_fields =
    with_field (explicit 0xa0 int32)
    (with_field (explicit 0xa1 octet_string)
    (done))

-- the fields by their names
abbrev pub host_address_content : Content HostAddress
host_address_content = seen
    (λ v. record { addr_type = v.0; address = v.1.0 })
    (λ p. (p.addr_type, (p.address, tt)))
    host_address_fields

-- HostAddress ::= SEQUENCE of these fields
unfoldable pub host_address : Format HostAddress
host_address = element 0x30 host_address_content
