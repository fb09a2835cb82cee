-- AuthorizationDatum, RFC 4120 section 5.2.6.
use Rattle.std.specs.Prelude.{ℕ, ℤ, List}
use Rattle.der_core.specs.Format.{Format, Content}
use Rattle.der_core.specs.Element.{element, explicit, octet_string}
use Rattle.der_core.specs.Fields.{done, with_field, seen}
use Rattle.der_core.specs.Integer.{int32}
use Rattle.krb_msgs.specs.declared.authorization_datum.AuthorizationDatum.{AuthorizationDatum}

-- ad-type [0], ad-data [1]
abbrev pub authorization_datum_fields : Content (ℤ × ((List ℕ) × Unit {0}))
authorization_datum_fields =
    with_field (explicit 0xa0 int32)
    (with_field (explicit 0xa1 octet_string)
    (done))

-- the fields by their names
abbrev pub authorization_datum_content : Content AuthorizationDatum
authorization_datum_content = seen
    (λ v. record { ad_type = v.0; ad_data = v.1.0 })
    (λ p. (p.ad_type, (p.ad_data, tt)))
    authorization_datum_fields

-- an entry of AuthorizationData: a SEQUENCE of these fields
unfoldable pub authorization_datum : Format AuthorizationDatum
authorization_datum = element 0x30 authorization_datum_content
