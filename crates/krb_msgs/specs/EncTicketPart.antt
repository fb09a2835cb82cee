-- EncTicketPart, RFC 4120 section 5.3.
use Rattle.std.specs.Prelude.{ℕ, List, Option}
use Rattle.der_core.specs.Format.{Format, Content}
use Rattle.der_core.specs.Element.{element, whole, explicit}
use Rattle.der_core.specs.Fields.{done, with_known, with_field, with_optional, list_of, seen}
use Rattle.der_core.specs.Time.{time}
use Rattle.der_core.specs.Values.{text, flags}
use Rattle.krb_msgs.specs.PrincipalName.{name_in}
use Rattle.krb_msgs.specs.declared.principal_name.PrincipalName.{PrincipalName}
use Rattle.krb_msgs.specs.EncryptionKey.{encryption_key}
use Rattle.krb_msgs.specs.declared.encryption_key.EncryptionKey.{EncryptionKey}
use Rattle.krb_msgs.specs.TransitedEncoding.{transited_encoding}
use Rattle.krb_msgs.specs.declared.transited_encoding.TransitedEncoding.{TransitedEncoding}
use Rattle.krb_msgs.specs.HostAddress.{host_address}
use Rattle.krb_msgs.specs.declared.host_address.HostAddress.{HostAddress}
use Rattle.krb_msgs.specs.AuthorizationDatum.{authorization_datum}
use Rattle.krb_msgs.specs.declared.authorization_datum.AuthorizationDatum.{AuthorizationDatum}
use Rattle.krb_msgs.specs.declared.enc_ticket_part.EncTicketPart.{EncTicketPart}

-- the fields behind the name
abbrev pub
    enc_ticket_part_behind_name : Content (TransitedEncoding × (ℕ × ((Option ℕ) × (ℕ × ((Option ℕ)
    × ((Option (List HostAddress)) × ((Option (List AuthorizationDatum)) × Unit {0})))))))
enc_ticket_part_behind_name =
    with_field (explicit 0xa4 transited_encoding)
    (with_field (explicit 0xa5 time)
    (with_optional 0xa6 (explicit 0xa6 time)
    (with_field (explicit 0xa7 time)
    (with_optional 0xa8 (explicit 0xa8 time)
    (with_optional 0xa9 (explicit 0xa9 (list_of host_address))
    (with_optional 0xaa (explicit 0xaa (list_of authorization_datum))
    (done)))))))

-- flags [0], key [1], crealm [2], cname [3], and the fields behind the name; the name is that of a
-- principal in crealm
abbrev pub enc_ticket_part_fields : Content (ℕ × (EncryptionKey
    × ((List ℕ) × (PrincipalName × (TransitedEncoding × (ℕ × ((Option ℕ) × (ℕ × ((Option ℕ)
    × ((Option (List HostAddress)) × ((Option (List AuthorizationDatum)) × Unit {0})))))))))))
enc_ticket_part_fields =
    with_field (explicit 0xa0 flags)
    (with_field (explicit 0xa1 encryption_key)
    (with_known (explicit 0xa2 text)
    (λ crealm. with_field (explicit 0xa3 (name_in crealm)) enc_ticket_part_behind_name)))

-- the fields by their names
abbrev pub enc_ticket_part_content : Content EncTicketPart
enc_ticket_part_content = seen
    (λ v. record {
      flags = v.0;
      key = v.1.0;
      crealm = v.1.1.0;
      cname = v.1.1.1.0;
      transited =
          v.1.1.1.1.0;
      authtime = v.1.1.1.1.1.0;
      starttime = v.1.1.1.1.1.1.0;
      endtime =
          v.1.1.1.1.1.1.1.0;
      renew_till = v.1.1.1.1.1.1.1.1.0;
      caddr =
          v.1.1.1.1.1.1.1.1.1.0;
      authorization_data = v.1.1.1.1.1.1.1.1.1.1.0;
    })
    (λ p. (
      p.flags,
      (
        p.key,
        (
          p.crealm,
          (
            p.cname,
            (
              p.transited,
              (
                p.authtime,
                (p.starttime, (p.endtime, (p.renew_till, (p.caddr, (p.authorization_data, tt))))),
              ),
            ),
          ),
        ),
      ),
    ))
    enc_ticket_part_fields

-- EncTicketPart ::= [APPLICATION 3] SEQUENCE of these fields
unfoldable pub enc_ticket_part_element : Format EncTicketPart
enc_ticket_part_element = explicit 0x63 (element 0x30 enc_ticket_part_content)

-- one EncTicketPart, and nothing behind it
abbrev pub enc_ticket_part : Content EncTicketPart
enc_ticket_part = whole enc_ticket_part_element
