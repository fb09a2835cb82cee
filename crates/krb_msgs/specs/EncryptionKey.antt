-- EncryptionKey, RFC 4120 section 5.2.9.
use Rattle.std.specs.Prelude.{ℕ, ℤ, List}
use Rattle.der_core.specs.Format.{Format, Content}
use Rattle.der_core.specs.Element.{element, explicit, octet_string}
use Rattle.der_core.specs.Fields.{done, with_field, seen}
use Rattle.der_core.specs.Integer.{int32}
use Rattle.krb_msgs.specs.declared.encryption_key.EncryptionKey.{EncryptionKey}

-- keytype [0], keyvalue [1]
abbrev pub encryption_key_fields : Content (ℤ × ((List ℕ) × Unit {0}))
encryption_key_fields =
    with_field (explicit 0xa0 int32)
    (with_field (explicit 0xa1 octet_string)
    (done))

-- the fields by their names
abbrev pub encryption_key_content : Content EncryptionKey
encryption_key_content = seen
    (λ v. record { keytype = v.0; keyvalue = v.1.0 })
    (λ p. (p.keytype, (p.keyvalue, tt)))
    encryption_key_fields

-- EncryptionKey ::= SEQUENCE of these fields
unfoldable pub encryption_key : Format EncryptionKey
encryption_key = element 0x30 encryption_key_content
