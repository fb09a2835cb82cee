-- The laws of the messages: what is read is spelled so, and what is spelled so is read.
use Rattle.std.proofs.Common.{refl, arith, [], unwrap_or}
use Rattle.der_core.specs.Law.{IsFormat, IsContent}
use Rattle.der_core.proofs.Laws.{element_law, whole_law, explicit_law, explicit_tag, done_law, done_from, field_law, field_from, known_law, known_from, optional_law, optional_from, optional_known_law, seen_law, kept_law}
use Rattle.der_core.proofs.SingleValues.{octet_string_law, int32_law, uint32_law, natural_law, text_law, flags_law, time_law}
use Rattle.krb_msgs.proofs.PartLaws.{constant_law, name_in_law, encrypted_data_law, encryption_key_law, checksum_law, transited_encoding_law, host_address_list_law, authorization_datum_list_law}
use Rattle.krb_msgs.specs.Ticket.{ticket_fields, ticket_element, ticket}
use Rattle.krb_msgs.specs.ApRep.{ap_rep_fields, ap_rep_element, ap_rep}
use Rattle.krb_msgs.specs.EncApRepPart.{enc_ap_rep_part_fields, enc_ap_rep_part_element, enc_ap_rep_part}
use Rattle.krb_msgs.specs.Authenticator.{authenticator_fields, authenticator_element, authenticator}
use Rattle.krb_msgs.specs.EncTicketPart.{enc_ticket_part_fields, enc_ticket_part_element, enc_ticket_part}
use Rattle.krb_msgs.specs.KrbError.{krb_error_fields, krb_error_element, krb_error}
use Rattle.krb_msgs.specs.ApReq.{ap_req_fields, ap_req_element, ap_req}

pub ticket_element_law : IsFormat ticket_element
unfolding ticket_element
ticket_element_law = explicit_law 0x61 _ (element_law 0x30 _ (seen_law _ _ ticket_fields (λ v. refl) (λ p. refl)
    (field_law _ _ (explicit_law 0xa0 _ (constant_law 5 (omega arith))) (known_law _ _ (explicit_law 0xa1 _ text_law) (λ realm. (field_law _ _ (explicit_law 0xa2 _ (name_in_law realm)) (field_law _ _ (explicit_law 0xa3 _ encrypted_data_law) done_law)))))))

pub ticket_law : IsContent ticket
ticket_law = whole_law ticket_element ticket_element_law

pub ap_rep_element_law : IsFormat ap_rep_element
unfolding ap_rep_element
ap_rep_element_law = explicit_law 0x6f _ (element_law 0x30 _ (seen_law _ _ ap_rep_fields (λ v. refl) (λ p. refl)
    (field_law _ _ (explicit_law 0xa0 _ (constant_law 5 (omega arith))) (field_law _ _ (explicit_law 0xa1 _ (constant_law 15 (omega arith))) (field_law _ _ (explicit_law 0xa2 _ encrypted_data_law) done_law)))))

pub ap_rep_law : IsContent ap_rep
ap_rep_law = whole_law ap_rep_element ap_rep_element_law

pub enc_ap_rep_part_element_law : IsFormat enc_ap_rep_part_element
unfolding enc_ap_rep_part_element
enc_ap_rep_part_element_law = explicit_law 0x7b _ (element_law 0x30 _ (seen_law _ _ enc_ap_rep_part_fields (λ v. refl) (λ p. refl)
    (field_law _ _ (explicit_law 0xa0 _ time_law) (field_law _ _ (explicit_law 0xa1 _ (natural_law 0 999999 (omega arith))) (optional_law 0xa2 _ _ (explicit_law 0xa2 _ encryption_key_law) (explicit_tag 0xa2 _) (optional_law 0xa3 _ _ (explicit_law 0xa3 _ uint32_law) (explicit_tag 0xa3 _) done_law (done_from _)) (optional_from _ 0xa3 _ _ (explicit_tag 0xa3 _) (omega arith) (done_from _)))))))

pub enc_ap_rep_part_law : IsContent enc_ap_rep_part
enc_ap_rep_part_law = whole_law enc_ap_rep_part_element enc_ap_rep_part_element_law

pub authenticator_element_law : IsFormat authenticator_element
unfolding authenticator_element
authenticator_element_law = explicit_law 0x62 _ (element_law 0x30 _ (seen_law _ _ authenticator_fields (λ v. refl) (λ p. refl)
    (field_law _ _ (explicit_law 0xa0 _ (constant_law 5 (omega arith))) (known_law _ _ (explicit_law 0xa1 _ text_law) (λ crealm. (field_law _ _ (explicit_law 0xa2 _ (name_in_law crealm)) (optional_law 0xa3 _ _ (explicit_law 0xa3 _ checksum_law) (explicit_tag 0xa3 _) (field_law _ _ (explicit_law 0xa4 _ (natural_law 0 999999 (omega arith))) (field_law _ _ (explicit_law 0xa5 _ time_law) (optional_law 0xa6 _ _ (explicit_law 0xa6 _ encryption_key_law) (explicit_tag 0xa6 _) (optional_law 0xa7 _ _ (explicit_law 0xa7 _ uint32_law) (explicit_tag 0xa7 _) (optional_law 0xa8 _ _ (explicit_law 0xa8 _ (authorization_datum_list_law)) (explicit_tag 0xa8 _) done_law (done_from _)) (optional_from _ 0xa8 _ _ (explicit_tag 0xa8 _) (omega arith) (done_from _))) (optional_from _ 0xa7 _ _ (explicit_tag 0xa7 _) (omega arith) (optional_from _ 0xa8 _ _ (explicit_tag 0xa8 _) (omega arith) (done_from _)))))) (field_from _ 0xa4 _ _ (explicit_tag 0xa4 _) (omega arith)))))))))

pub authenticator_law : IsContent authenticator
authenticator_law = whole_law authenticator_element authenticator_element_law

pub enc_ticket_part_element_law : IsFormat enc_ticket_part_element
unfolding enc_ticket_part_element
enc_ticket_part_element_law = explicit_law 0x63 _ (element_law 0x30 _ (seen_law _ _ enc_ticket_part_fields (λ v. refl) (λ p. refl)
    (field_law _ _ (explicit_law 0xa0 _ flags_law) (field_law _ _ (explicit_law 0xa1 _ encryption_key_law) (known_law _ _ (explicit_law 0xa2 _ text_law) (λ crealm. (field_law _ _ (explicit_law 0xa3 _ (name_in_law crealm)) (field_law _ _ (explicit_law 0xa4 _ transited_encoding_law) (field_law _ _ (explicit_law 0xa5 _ time_law) (optional_law 0xa6 _ _ (explicit_law 0xa6 _ time_law) (explicit_tag 0xa6 _) (field_law _ _ (explicit_law 0xa7 _ time_law) (optional_law 0xa8 _ _ (explicit_law 0xa8 _ time_law) (explicit_tag 0xa8 _) (optional_law 0xa9 _ _ (explicit_law 0xa9 _ (host_address_list_law)) (explicit_tag 0xa9 _) (optional_law 0xaa _ _ (explicit_law 0xaa _ (authorization_datum_list_law)) (explicit_tag 0xaa _) done_law (done_from _)) (optional_from _ 0xaa _ _ (explicit_tag 0xaa _) (omega arith) (done_from _))) (optional_from _ 0xa9 _ _ (explicit_tag 0xa9 _) (omega arith) (optional_from _ 0xaa _ _ (explicit_tag 0xaa _) (omega arith) (done_from _))))) (field_from _ 0xa7 _ _ (explicit_tag 0xa7 _) (omega arith))))))))))))

pub enc_ticket_part_law : IsContent enc_ticket_part
enc_ticket_part_law = whole_law enc_ticket_part_element enc_ticket_part_element_law

pub krb_error_element_law : IsFormat krb_error_element
unfolding krb_error_element
krb_error_element_law = explicit_law 0x7e _ (element_law 0x30 _ (seen_law _ _ krb_error_fields (λ v. refl) (λ p. refl)
    (field_law _ _ (explicit_law 0xa0 _ (constant_law 5 (omega arith))) (field_law _ _ (explicit_law 0xa1 _ (constant_law 30 (omega arith))) (optional_law 0xa2 _ _ (explicit_law 0xa2 _ time_law) (explicit_tag 0xa2 _) (optional_law 0xa3 _ _ (explicit_law 0xa3 _ (natural_law 0 999999 (omega arith))) (explicit_tag 0xa3 _) (field_law _ _ (explicit_law 0xa4 _ time_law) (field_law _ _ (explicit_law 0xa5 _ (natural_law 0 999999 (omega arith))) (field_law _ _ (explicit_law 0xa6 _ int32_law) (optional_known_law 0xa7 _ _ (explicit_law 0xa7 _ text_law) (explicit_tag 0xa7 _) (λ crealm. (optional_law 0xa8 _ _ (explicit_law 0xa8 _ (name_in_law (unwrap_or crealm []))) (explicit_tag 0xa8 _) (known_law _ _ (explicit_law 0xa9 _ text_law) (λ realm. (field_law _ _ (explicit_law 0xaa _ (name_in_law realm)) (optional_law 0xab _ _ (explicit_law 0xab _ text_law) (explicit_tag 0xab _) (optional_law 0xac _ _ (explicit_law 0xac _ octet_string_law) (explicit_tag 0xac _) done_law (done_from _)) (optional_from _ 0xac _ _ (explicit_tag 0xac _) (omega arith) (done_from _)))))) (known_from _ 0xa9 _ _ (explicit_tag 0xa9 _) (omega arith)))) (λ crealm. (optional_from _ 0xa8 _ _ (explicit_tag 0xa8 _) (omega arith) (known_from _ 0xa9 _ _ (explicit_tag 0xa9 _) (omega arith)))))))) (field_from _ 0xa4 _ _ (explicit_tag 0xa4 _) (omega arith))) (optional_from _ 0xa3 _ _ (explicit_tag 0xa3 _) (omega arith) (field_from _ 0xa4 _ _ (explicit_tag 0xa4 _) (omega arith))))))))

pub krb_error_law : IsContent krb_error
krb_error_law = whole_law krb_error_element krb_error_element_law

pub ap_req_element_law : IsFormat ap_req_element
unfolding ap_req_element
ap_req_element_law = explicit_law 0x6e _ (element_law 0x30 _ (seen_law _ _ ap_req_fields (λ v. refl) (λ p. refl)
    (field_law _ _ (explicit_law 0xa0 _ (constant_law 5 (omega arith))) (field_law _ _ (explicit_law 0xa1 _ (constant_law 14 (omega arith))) (field_law _ _ (explicit_law 0xa2 _ flags_law) (field_law _ _ (explicit_law 0xa3 _ (kept_law ticket_element ticket_element_law)) (field_law _ _ (explicit_law 0xa4 _ encrypted_data_law) done_law)))))))

pub ap_req_law : IsContent ap_req
ap_req_law = whole_law ap_req_element ap_req_element_law
