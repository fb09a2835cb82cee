-- Kerberos's messages are never refused for want of memory.
use Rattle.std.proofs.Common.{ℕ, List, [], unwrap_or}
use Rattle.gss_base.specs.Principal.{is_count, is_named}
use Rattle.der_core.specs.Element.{plain, any_octets}
use Rattle.der_core.specs.Integer.{natural}
use Rattle.der_core.specs.Fields.{list_of}
use Rattle.der_core.specs.Values.{text, object_identifier}
use Rattle.der_core.specs.Frame.{framed}
use Rattle.krb_msgs.specs.Constant.{constant}
use Rattle.krb_msgs.specs.PrincipalName.{name_parts, principal_name_fields, principal_name, name_in}
use Rattle.krb_msgs.specs.EncryptedData.{encrypted_data_fields, encrypted_data}
use Rattle.krb_msgs.specs.EncryptionKey.{encryption_key_fields, encryption_key}
use Rattle.krb_msgs.specs.Checksum.{checksum_fields, checksum}
use Rattle.krb_msgs.specs.TransitedEncoding.{transited_encoding_fields, transited_encoding}
use Rattle.krb_msgs.specs.HostAddress.{host_address_fields, host_address}
use Rattle.krb_msgs.specs.AuthorizationDatum.{authorization_datum_fields, authorization_datum}
use Rattle.krb_msgs.specs.Ticket.{ticket_fields, ticket_element, ticket}
use Rattle.krb_msgs.specs.ApRep.{ap_rep_fields, ap_rep_element, ap_rep}
use Rattle.krb_msgs.specs.EncApRepPart.{enc_ap_rep_part_fields, enc_ap_rep_part_element, enc_ap_rep_part}
use Rattle.krb_msgs.specs.Authenticator.{authenticator_behind_name, authenticator_fields, authenticator_element, authenticator}
use Rattle.krb_msgs.specs.EncTicketPart.{enc_ticket_part_behind_name, enc_ticket_part_fields, enc_ticket_part_element, enc_ticket_part}
use Rattle.krb_msgs.specs.KrbError.{krb_error_fields, behind_code, krb_error_element, krb_error}
use Rattle.krb_msgs.specs.ApReq.{ap_req_fields, ap_req_element, ap_req}
use Rattle.ap_exchange.proofs.DerReasons.{ClearFormat, ClearContent, clear-ok, clear-bind, done-clear, element-clear, whole-clear, explicit-clear, plain-clear, guarded-clear, kept-clear, known-clear, field-clear, optional-clear, optional_known-clear, seen-clear, list-clear, text-clear, octet_string-clear, object_identifier-clear, flags-clear, int32-clear, natural-clear, time-clear}

constant-clear : (n : ℕ) → ClearFormat (constant n)
constant-clear n = record { clear = λ i. clear-bind ((natural n n).read i) _ ((natural-clear n n).clear i) (λ x. clear-ok (tt, x.1)) }

name_parts-clear : ClearFormat name_parts
unfolding name_parts
name_parts-clear = guarded-clear is_count (list_of text) (list-clear text text-clear)

principal_name-clear : ClearFormat principal_name
unfolding principal_name
principal_name-clear = element-clear 0x30 _ (seen-clear _ _ principal_name_fields
    (field-clear _ _ (explicit-clear 0xa0 _ int32-clear) (field-clear _ _ (explicit-clear 0xa1 _ name_parts-clear) done-clear)))

name_in-clear : (realm : List ℕ) → ClearFormat (name_in realm)
name_in-clear realm = guarded-clear (λ n. is_named realm n.name_string) principal_name principal_name-clear

encrypted_data-clear : ClearFormat encrypted_data
unfolding encrypted_data
encrypted_data-clear = element-clear 0x30 _ (seen-clear _ _ encrypted_data_fields
    (field-clear _ _ (explicit-clear 0xa0 _ int32-clear) (optional-clear 0xa1 _ _ (explicit-clear 0xa1 _ (natural-clear 0 4294967295)) (field-clear _ _ (explicit-clear 0xa2 _ octet_string-clear) done-clear))))

encryption_key-clear : ClearFormat encryption_key
unfolding encryption_key
encryption_key-clear = element-clear 0x30 _ (seen-clear _ _ encryption_key_fields
    (field-clear _ _ (explicit-clear 0xa0 _ int32-clear) (field-clear _ _ (explicit-clear 0xa1 _ octet_string-clear) done-clear)))

checksum-clear : ClearFormat checksum
unfolding checksum
checksum-clear = element-clear 0x30 _ (seen-clear _ _ checksum_fields
    (field-clear _ _ (explicit-clear 0xa0 _ int32-clear) (field-clear _ _ (explicit-clear 0xa1 _ octet_string-clear) done-clear)))

transited_encoding-clear : ClearFormat transited_encoding
unfolding transited_encoding
transited_encoding-clear = element-clear 0x30 _ (seen-clear _ _ transited_encoding_fields
    (field-clear _ _ (explicit-clear 0xa0 _ int32-clear) (field-clear _ _ (explicit-clear 0xa1 _ octet_string-clear) done-clear)))

host_address-clear : ClearFormat host_address
unfolding host_address
host_address-clear = element-clear 0x30 _ (seen-clear _ _ host_address_fields
    (field-clear _ _ (explicit-clear 0xa0 _ int32-clear) (field-clear _ _ (explicit-clear 0xa1 _ octet_string-clear) done-clear)))

authorization_datum-clear : ClearFormat authorization_datum
unfolding authorization_datum
authorization_datum-clear = element-clear 0x30 _ (seen-clear _ _ authorization_datum_fields
    (field-clear _ _ (explicit-clear 0xa0 _ int32-clear) (field-clear _ _ (explicit-clear 0xa1 _ octet_string-clear) done-clear)))

ticket_element-clear : ClearFormat ticket_element
unfolding ticket_element
ticket_element-clear = explicit-clear 0x61 _ (element-clear 0x30 _ (seen-clear _ _ ticket_fields
    (field-clear _ _ (explicit-clear 0xa0 _ (constant-clear 5)) (known-clear _ _ (explicit-clear 0xa1 _ text-clear) (λ realm. field-clear _ _ (explicit-clear 0xa2 _ (name_in-clear realm)) (field-clear _ _ (explicit-clear 0xa3 _ encrypted_data-clear) done-clear))))))

pub ticket-clear : ClearContent ticket
ticket-clear = whole-clear ticket_element ticket_element-clear

ap_req_element-clear : ClearFormat ap_req_element
unfolding ap_req_element
ap_req_element-clear = explicit-clear 0x6e _ (element-clear 0x30 _ (seen-clear _ _ ap_req_fields
    (field-clear _ _ (explicit-clear 0xa0 _ (constant-clear 5)) (field-clear _ _ (explicit-clear 0xa1 _ (constant-clear 14)) (field-clear _ _ (explicit-clear 0xa2 _ flags-clear) (field-clear _ _ (explicit-clear 0xa3 _ (kept-clear ticket_element ticket_element-clear)) (field-clear _ _ (explicit-clear 0xa4 _ encrypted_data-clear) done-clear)))))))

pub ap_req-clear : ClearContent ap_req
ap_req-clear = whole-clear ap_req_element ap_req_element-clear

ap_rep_element-clear : ClearFormat ap_rep_element
unfolding ap_rep_element
ap_rep_element-clear = explicit-clear 0x6f _ (element-clear 0x30 _ (seen-clear _ _ ap_rep_fields
    (field-clear _ _ (explicit-clear 0xa0 _ (constant-clear 5)) (field-clear _ _ (explicit-clear 0xa1 _ (constant-clear 15)) (field-clear _ _ (explicit-clear 0xa2 _ encrypted_data-clear) done-clear)))))

pub ap_rep-clear : ClearContent ap_rep
ap_rep-clear = whole-clear ap_rep_element ap_rep_element-clear

enc_ap_rep_part_element-clear : ClearFormat enc_ap_rep_part_element
unfolding enc_ap_rep_part_element
enc_ap_rep_part_element-clear = explicit-clear 0x7b _ (element-clear 0x30 _ (seen-clear _ (λ p. (p.ctime, (p.cusec, (p.subkey, (p.seq_number, tt))))) enc_ap_rep_part_fields
    (field-clear _ _ (explicit-clear 0xa0 _ time-clear) (field-clear _ _ (explicit-clear 0xa1 _ (natural-clear 0 999999)) (optional-clear 0xa2 _ _ (explicit-clear 0xa2 _ encryption_key-clear) (optional-clear 0xa3 _ _ (explicit-clear 0xa3 _ (natural-clear 0 4294967295)) done-clear))))))

pub enc_ap_rep_part-clear : ClearContent enc_ap_rep_part
enc_ap_rep_part-clear = whole-clear enc_ap_rep_part_element enc_ap_rep_part_element-clear

authenticator_behind-clear : ClearContent authenticator_behind_name
authenticator_behind-clear =
    optional-clear 0xa3 _ _ (explicit-clear 0xa3 _ checksum-clear) (field-clear _ _ (explicit-clear 0xa4 _ (natural-clear 0 999999)) (field-clear _ _ (explicit-clear 0xa5 _ time-clear) (optional-clear 0xa6 _ _ (explicit-clear 0xa6 _ encryption_key-clear) (optional-clear 0xa7 _ _ (explicit-clear 0xa7 _ (natural-clear 0 4294967295)) (optional-clear 0xa8 _ _ (explicit-clear 0xa8 _ (list-clear authorization_datum authorization_datum-clear)) done-clear)))))

authenticator_element-clear : ClearFormat authenticator_element
unfolding authenticator_element
authenticator_element-clear = explicit-clear 0x62 _ (element-clear 0x30 _ (seen-clear _ (λ p. (tt, (p.crealm, (p.cname, (p.cksum, (p.cusec, (p.ctime, (p.subkey, (p.seq_number, (p.authorization_data, tt)))))))))) authenticator_fields
    (field-clear _ _ (explicit-clear 0xa0 _ (constant-clear 5)) (known-clear _ _ (explicit-clear 0xa1 _ text-clear) (λ crealm. field-clear _ _ (explicit-clear 0xa2 _ (name_in-clear crealm)) authenticator_behind-clear)))))

pub authenticator-clear : ClearContent authenticator
authenticator-clear = whole-clear authenticator_element authenticator_element-clear

enc_ticket_part_behind-clear : ClearContent enc_ticket_part_behind_name
enc_ticket_part_behind-clear =
    field-clear _ _ (explicit-clear 0xa4 _ transited_encoding-clear) (field-clear _ _ (explicit-clear 0xa5 _ time-clear) (optional-clear 0xa6 _ _ (explicit-clear 0xa6 _ time-clear) (field-clear _ _ (explicit-clear 0xa7 _ time-clear) (optional-clear 0xa8 _ _ (explicit-clear 0xa8 _ time-clear) (optional-clear 0xa9 _ _ (explicit-clear 0xa9 _ (list-clear host_address host_address-clear)) (optional-clear 0xaa _ _ (explicit-clear 0xaa _ (list-clear authorization_datum authorization_datum-clear)) done-clear))))))

enc_ticket_part_element-clear : ClearFormat enc_ticket_part_element
unfolding enc_ticket_part_element
enc_ticket_part_element-clear = explicit-clear 0x63 _ (element-clear 0x30 _ (seen-clear _ (λ p. (p.flags, (p.key, (p.crealm, (p.cname, (p.transited, (p.authtime, (p.starttime, (p.endtime, (p.renew_till, (p.caddr, (p.authorization_data, tt)))))))))))) enc_ticket_part_fields
    (field-clear _ _ (explicit-clear 0xa0 _ flags-clear) (field-clear _ _ (explicit-clear 0xa1 _ encryption_key-clear) (known-clear _ _ (explicit-clear 0xa2 _ text-clear) (λ crealm. field-clear _ _ (explicit-clear 0xa3 _ (name_in-clear crealm)) enc_ticket_part_behind-clear))))))

pub enc_ticket_part-clear : ClearContent enc_ticket_part
enc_ticket_part-clear = whole-clear enc_ticket_part_element enc_ticket_part_element-clear

krb_error_element-clear : ClearFormat krb_error_element
unfolding krb_error_element
krb_error_element-clear = explicit-clear 0x7e _ (element-clear 0x30 _ (seen-clear _ (λ p. (tt, (tt, (p.ctime, (p.cusec, (p.stime, (p.susec, (p.error_code, behind_code p)))))))) krb_error_fields
    (field-clear _ _ (explicit-clear 0xa0 _ (constant-clear 5)) (field-clear _ _ (explicit-clear 0xa1 _ (constant-clear 30)) (optional-clear 0xa2 _ _ (explicit-clear 0xa2 _ time-clear) (optional-clear 0xa3 _ _ (explicit-clear 0xa3 _ (natural-clear 0 999999)) (field-clear _ _ (explicit-clear 0xa4 _ time-clear) (field-clear _ _ (explicit-clear 0xa5 _ (natural-clear 0 999999)) (field-clear _ _ (explicit-clear 0xa6 _ int32-clear)
    (optional_known-clear 0xa7 _ _ (explicit-clear 0xa7 _ text-clear) (λ crealm. optional-clear 0xa8 _ _ (explicit-clear 0xa8 _ (name_in-clear (unwrap_or crealm []))) (known-clear _ _ (explicit-clear 0xa9 _ text-clear) (λ realm. field-clear _ _ (explicit-clear 0xaa _ (name_in-clear realm)) (optional-clear 0xab _ _ (explicit-clear 0xab _ text-clear) (optional-clear 0xac _ _ (explicit-clear 0xac _ octet_string-clear) done-clear)))))))))))))))

pub krb_error-clear : ClearContent krb_error
krb_error-clear = whole-clear krb_error_element krb_error_element-clear

pub framed-clear : ClearContent framed
unfolding framed
framed-clear = whole-clear _ (element-clear 0x60 _ (field-clear object_identifier (plain any_octets) object_identifier-clear (plain-clear any_octets)))
