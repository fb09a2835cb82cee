-- Ticket, RFC 4120 section 5.3.
use Rattle.std.specs.Prelude.{ℕ, List}
use Rattle.der_core.specs.Format.{Format, Content}
use Rattle.der_core.specs.Element.{element, whole, explicit}
use Rattle.der_core.specs.Fields.{done, with_known, with_field, seen}
use Rattle.der_core.specs.Values.{text}
use Rattle.krb_msgs.specs.PrincipalName.{name_in}
use Rattle.krb_msgs.specs.declared.principal_name.PrincipalName.{PrincipalName}
use Rattle.krb_msgs.specs.Constant.{constant}
use Rattle.krb_msgs.specs.EncryptedData.{encrypted_data}
use Rattle.krb_msgs.specs.declared.encrypted_data.EncryptedData.{EncryptedData}
use Rattle.krb_msgs.specs.declared.ticket.Ticket.{Ticket}

-- tkt-vno [0], realm [1], sname [2], enc-part [3]; sname is that of a principal in the realm
abbrev pub ticket_fields : Content
    (Unit {0} × ((List ℕ) × (PrincipalName × (EncryptedData × Unit {0}))))
ticket_fields =
    with_field (explicit 0xa0 (constant 5))
    (with_known (explicit 0xa1 text)
    (λ realm. with_field (explicit 0xa2 (name_in realm))
    (with_field (explicit 0xa3 encrypted_data)
    (done))))

-- the fields by their names
abbrev pub ticket_content : Content Ticket
ticket_content = seen
    (λ v. record { realm = v.1.0; sname = v.1.1.0; enc_part = v.1.1.1.0 })
    (λ p. (tt, (p.realm, (p.sname, (p.enc_part, tt)))))
    ticket_fields

-- Ticket ::= [APPLICATION 1] SEQUENCE of these fields
unfoldable pub ticket_element : Format Ticket
ticket_element = explicit 0x61 (element 0x30 ticket_content)

-- one Ticket, and nothing behind it
abbrev pub ticket : Content Ticket
ticket = whole ticket_element
