-- Checksum, RFC 4120 section 5.2.9.
use Rattle.std.specs.Prelude.{ℕ, ℤ, List}
use Rattle.der_core.specs.Format.{Format, Content}
use Rattle.der_core.specs.Element.{element, explicit, octet_string}
use Rattle.der_core.specs.Fields.{done, with_field, seen}
use Rattle.der_core.specs.Integer.{int32}
use Rattle.krb_msgs.specs.declared.checksum.Checksum.{Checksum}

-- cksumtype [0], checksum [1]
abbrev pub checksum_fields : Content (ℤ × ((List ℕ) × Unit {0}))
checksum_fields =
    with_field (explicit 0xa0 int32)
    (with_field (explicit 0xa1 octet_string)
    (done))

-- the fields by their names
abbrev pub checksum_content : Content Checksum
checksum_content = seen
    (λ v. record { cksumtype = v.0; checksum = v.1.0 })
    (λ p. (p.cksumtype, (p.checksum, tt)))
    checksum_fields

-- Checksum ::= SEQUENCE of these fields
unfoldable pub checksum : Format Checksum
checksum = element 0x30 checksum_content
