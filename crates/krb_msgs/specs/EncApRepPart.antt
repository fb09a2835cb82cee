-- EncApRepPart, RFC 4120 section 5.5.2.
use Rattle.std.specs.Prelude.{ℕ, Option}
use Rattle.der_core.specs.Format.{Format, Content}
use Rattle.der_core.specs.Element.{element, whole, explicit}
use Rattle.der_core.specs.Fields.{done, with_field, with_optional, seen}
use Rattle.der_core.specs.Integer.{uint32, natural}
use Rattle.der_core.specs.Time.{time}
use Rattle.krb_msgs.specs.EncryptionKey.{encryption_key}
use Rattle.krb_msgs.specs.declared.encryption_key.EncryptionKey.{EncryptionKey}
use Rattle.krb_msgs.specs.declared.enc_ap_rep_part.EncApRepPart.{EncApRepPart}

-- ctime [0], cusec [1], subkey [2] OPTIONAL, seq-number [3] OPTIONAL
abbrev pub enc_ap_rep_part_fields : Content
    (ℕ × (ℕ × ((Option EncryptionKey) × ((Option ℕ) × Unit {0}))))
enc_ap_rep_part_fields =
    with_field (explicit 0xa0 time)
    (with_field (explicit 0xa1 (natural 0 999999))
    (with_optional 0xa2 (explicit 0xa2 encryption_key)
    (with_optional 0xa3 (explicit 0xa3 uint32)
    (done))))

-- the fields by their names
abbrev pub enc_ap_rep_part_content : Content EncApRepPart
enc_ap_rep_part_content = seen
    (λ v. record { ctime = v.0; cusec = v.1.0; subkey = v.1.1.0; seq_number = v.1.1.1.0 })
    (λ p. (p.ctime, (p.cusec, (p.subkey, (p.seq_number, tt)))))
    enc_ap_rep_part_fields

-- EncAPRepPart ::= [APPLICATION 27] SEQUENCE of these fields
unfoldable pub enc_ap_rep_part_element : Format EncApRepPart
enc_ap_rep_part_element = explicit 0x7b (element 0x30 enc_ap_rep_part_content)

-- one EncAPRepPart, and nothing behind it
abbrev pub enc_ap_rep_part : Content EncApRepPart
enc_ap_rep_part = whole enc_ap_rep_part_element
