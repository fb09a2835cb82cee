-- ApReq, RFC 4120 section 5.5.1.
use Rattle.std.specs.Prelude.{ℕ, List}
use Rattle.der_core.specs.Format.{Format, Content}
use Rattle.der_core.specs.Element.{element, whole, explicit, kept}
use Rattle.der_core.specs.Fields.{done, with_field, seen}
use Rattle.der_core.specs.Values.{flags}
use Rattle.krb_msgs.specs.Constant.{constant}
use Rattle.krb_msgs.specs.EncryptedData.{encrypted_data}
use Rattle.krb_msgs.specs.declared.encrypted_data.EncryptedData.{EncryptedData}
use Rattle.krb_msgs.specs.Ticket.{ticket_element}
use Rattle.krb_msgs.specs.declared.ap_req.ApReq.{ApReq}

-- pvno [0], msg-type [1], ap-options [2], ticket [3], authenticator [4]; the ticket is kept as the
-- octets that spell it
abbrev pub ap_req_fields : Content
    (Unit {0} × (Unit {0} × (ℕ × ((List ℕ) × (EncryptedData × Unit {0})))))
ap_req_fields =
    with_field (explicit 0xa0 (constant 5))
    (with_field (explicit 0xa1 (constant 14))
    (with_field (explicit 0xa2 flags)
    (with_field (explicit 0xa3 (kept ticket_element))
    (with_field (explicit 0xa4 encrypted_data)
    (done)))))

-- the fields by their names
abbrev pub ap_req_content : Content ApReq
ap_req_content = seen
    (λ v. record { ap_options = v.1.1.0; ticket = v.1.1.1.0; authenticator = v.1.1.1.1.0 })
    (λ p. (tt, (tt, (p.ap_options, (p.ticket, (p.authenticator, tt))))))
    ap_req_fields

-- AP-REQ ::= [APPLICATION 14] SEQUENCE of these fields
unfoldable pub ap_req_element : Format ApReq
ap_req_element = explicit 0x6e (element 0x30 ap_req_content)

-- one AP-REQ, and nothing behind it
abbrev pub ap_req : Content ApReq
ap_req = whole ap_req_element
