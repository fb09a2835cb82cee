-- ApRep, RFC 4120 section 5.5.2.
use Rattle.der_core.specs.Format.{Format, Content}
use Rattle.der_core.specs.Element.{element, whole, explicit}
use Rattle.der_core.specs.Fields.{done, with_field, seen}
use Rattle.krb_msgs.specs.Constant.{constant}
use Rattle.krb_msgs.specs.EncryptedData.{encrypted_data}
use Rattle.krb_msgs.specs.declared.encrypted_data.EncryptedData.{EncryptedData}
use Rattle.krb_msgs.specs.declared.ap_rep.ApRep.{ApRep}

-- pvno [0], msg-type [1], enc-part [2]
abbrev pub ap_rep_fields : Content (Unit {0} × (Unit {0} × (EncryptedData × Unit {0})))
ap_rep_fields =
    with_field (explicit 0xa0 (constant 5))
    (with_field (explicit 0xa1 (constant 15))
    (with_field (explicit 0xa2 encrypted_data)
    (done)))

-- the fields by their names
abbrev pub ap_rep_content : Content ApRep
ap_rep_content = seen
    (λ v. record { enc_part = v.1.1.0 })
    (λ p. (tt, (tt, (p.enc_part, tt))))
    ap_rep_fields

-- AP-REP ::= [APPLICATION 15] SEQUENCE of these fields
unfoldable pub ap_rep_element : Format ApRep
ap_rep_element = explicit 0x6f (element 0x30 ap_rep_content)

-- one AP-REP, and nothing behind it
abbrev pub ap_rep : Content ApRep
ap_rep = whole ap_rep_element
