-- TransitedEncoding, RFC 4120 section 5.3.
use Rattle.std.specs.Prelude.{ℕ, ℤ, List}
use Rattle.der_core.specs.Format.{Format, Content}
use Rattle.der_core.specs.Element.{element, explicit, octet_string}
use Rattle.der_core.specs.Fields.{done, with_field, seen}
use Rattle.der_core.specs.Integer.{int32}
use Rattle.krb_msgs.specs.declared.transited_encoding.TransitedEncoding.{TransitedEncoding}

-- tr-type [0], contents [1]
abbrev pub transited_encoding_fields : Content (ℤ × ((List ℕ) × Unit {0}))
transited_encoding_fields =
    with_field (explicit 0xa0 int32)
    (with_field (explicit 0xa1 octet_string)
    (done))

-- the fields by their names
abbrev pub transited_encoding_content : Content TransitedEncoding
transited_encoding_content = seen
    (λ v. record { tr_type = v.0; contents = v.1.0 })
    (λ p. (p.tr_type, (p.contents, tt)))
    transited_encoding_fields

-- TransitedEncoding ::= SEQUENCE of these fields
unfoldable pub transited_encoding : Format TransitedEncoding
transited_encoding = element 0x30 transited_encoding_content
