-- EncryptedData, RFC 4120 section 5.2.9.
use Rattle.std.specs.Prelude.{ℕ, ℤ, List, Option}
use Rattle.der_core.specs.Format.{Format, Content}
use Rattle.der_core.specs.Element.{element, explicit, octet_string}
use Rattle.der_core.specs.Fields.{done, with_field, with_optional, seen}
use Rattle.der_core.specs.Integer.{int32, uint32}
use Rattle.krb_msgs.specs.declared.encrypted_data.EncryptedData.{EncryptedData}

-- etype [0], kvno [1] OPTIONAL, cipher [2]
abbrev pub encrypted_data_fields : Content (ℤ × ((Option ℕ) × ((List ℕ) × Unit {0})))
encrypted_data_fields =
    with_field (explicit 0xa0 int32)
    (with_optional 0xa1 (explicit 0xa1 uint32)
    (with_field (explicit 0xa2 octet_string)
    (done)))

-- the fields by their names
abbrev pub encrypted_data_content : Content EncryptedData
encrypted_data_content = seen
    (λ v. record { etype = v.0; kvno = v.1.0; cipher = v.1.1.0 })
    (λ p. (p.etype, (p.kvno, (p.cipher, tt))))
    encrypted_data_fields

-- EncryptedData ::= SEQUENCE of these fields
unfoldable pub encrypted_data : Format EncryptedData
encrypted_data = element 0x30 encrypted_data_content
