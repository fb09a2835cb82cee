-- The laws of the parts: what is read is spelled so, and what is spelled so is read.
use Rattle.std.proofs.Common.{◌≡◌, ℕ, ◌<◌, true, ◌&&◌, leb, refl, subst, arith}
use Rattle.std.proofs.lemmas.Bool.{leb-true, le-leb, lt-ltb, and_from}
use Rattle.gss_base.specs.Principal.{is_count, is_named}
use Rattle.der_core.specs.Fields.{list_of}
use Rattle.der_core.specs.Integer.{natural}
use Rattle.der_core.specs.Values.{text}
use Rattle.der_core.specs.Law.{Takes, IsFormat, HasTag}
use Rattle.der_core.proofs.Steps.{bind_ok, ok_is, both}
use Rattle.der_core.proofs.Laws.{element_law, element_tag, explicit_law, explicit_tag, done_law, field_law, optional_law, field_from, seen_law, guarded_law, list_law}
use Rattle.der_core.proofs.SingleValues.{octet_string_law, int32_law, uint32_law, natural_law, text_law}
use Rattle.der_core.proofs.TwosComplement.{least_again}
use Rattle.krb_msgs.specs.Constant.{constant}
use Rattle.krb_msgs.specs.PrincipalName.{name_parts, principal_name_fields, principal_name, name_in}
use Rattle.krb_msgs.specs.EncryptedData.{encrypted_data_fields, encrypted_data}
use Rattle.krb_msgs.specs.EncryptionKey.{encryption_key_fields, encryption_key}
use Rattle.krb_msgs.specs.Checksum.{checksum_fields, checksum}
use Rattle.krb_msgs.specs.TransitedEncoding.{transited_encoding_fields, transited_encoding}
use Rattle.krb_msgs.specs.HostAddress.{host_address_fields, host_address}
use Rattle.krb_msgs.specs.AuthorizationDatum.{authorization_datum_fields, authorization_datum}

natural_fits : (n : ℕ) → n < 549755813888 → (natural n n).fits n ≡ true
unfolding natural
natural_fits n small =
    let few = (least_again n small).few in
    and_from _ _ (and_from _ _ (le-leb n n (omega arith)) (le-leb n n (omega arith))) (lt-ltb _ _ (omega (arith, few)))

natural_is : (n v : ℕ) → (natural n n).fits v ≡ true → v ≡ n
unfolding natural
natural_is n v e =
    let a = both (leb n v && leb v n) _ e in
    let b = both (leb n v) (leb v n) a.0 in
    omega (arith, leb-true n v b.0, leb-true v n b.1)

pub constant_law : (n : ℕ) → n < 549755813888 → IsFormat (constant n)
constant_law n small = record {
  takes = λ i x bytes e.
      let a = bind_ok ((natural n n).read i) _ x e in
      let t = (natural_law n n small).takes i a.0 bytes a.1 in
      let took : Takes i ((natural n n).spell n) a.0.1 = subst (λ (v : ℕ). Takes i ((natural n n).spell v) a.0.1) (natural_is n a.0.0 t.1) t.0 in
      subst (λ (y : _). Takes i ((natural n n).spell n) y.1 × (true ≡ true)) (ok_is (tt, a.0.1) x a.2) (took, refl);
  again = λ end v rest fits. rw ((natural_law n n small).again end n rest (natural_fits n small)) refl;
}

text_tag : HasTag 0x1b text
unfolding text
text_tag = element_tag 0x1b _

name_parts_law : IsFormat name_parts
unfolding name_parts
name_parts_law = guarded_law is_count (list_of text) (list_law 0x1b text text_law text_tag)

principal_name_law : IsFormat principal_name
unfolding principal_name
principal_name_law = element_law 0x30 _ (seen_law _ _ principal_name_fields (λ v. refl) (λ p. refl)
    (field_law _ _ (explicit_law 0xa0 _ int32_law) (field_law _ _ (explicit_law 0xa1 _ name_parts_law) done_law)))

pub name_in_law : (realm : _) → IsFormat (name_in realm)
name_in_law realm = guarded_law (λ n. is_named realm n.name_string) principal_name principal_name_law

pub encrypted_data_law : IsFormat encrypted_data
unfolding encrypted_data
encrypted_data_law = element_law 0x30 _ (seen_law _ _ encrypted_data_fields (λ v. refl) (λ p. refl)
    (field_law _ _ (explicit_law 0xa0 _ int32_law) (optional_law 0xa1 _ _ (explicit_law 0xa1 _ uint32_law) (explicit_tag 0xa1 _) (field_law _ _ (explicit_law 0xa2 _ octet_string_law) done_law) (field_from _ 0xa2 _ _ (explicit_tag 0xa2 _) (omega arith)))))

encrypted_data_tag : HasTag 0x30 encrypted_data
unfolding encrypted_data
encrypted_data_tag = element_tag 0x30 _

pub encrypted_data_list_law : IsFormat (list_of encrypted_data)
encrypted_data_list_law = list_law 0x30 encrypted_data encrypted_data_law encrypted_data_tag

pub encryption_key_law : IsFormat encryption_key
unfolding encryption_key
encryption_key_law = element_law 0x30 _ (seen_law _ _ encryption_key_fields (λ v. refl) (λ p. refl)
    (field_law _ _ (explicit_law 0xa0 _ int32_law) (field_law _ _ (explicit_law 0xa1 _ octet_string_law) done_law)))

encryption_key_tag : HasTag 0x30 encryption_key
unfolding encryption_key
encryption_key_tag = element_tag 0x30 _

pub encryption_key_list_law : IsFormat (list_of encryption_key)
encryption_key_list_law = list_law 0x30 encryption_key encryption_key_law encryption_key_tag

pub checksum_law : IsFormat checksum
unfolding checksum
checksum_law = element_law 0x30 _ (seen_law _ _ checksum_fields (λ v. refl) (λ p. refl)
    (field_law _ _ (explicit_law 0xa0 _ int32_law) (field_law _ _ (explicit_law 0xa1 _ octet_string_law) done_law)))

checksum_tag : HasTag 0x30 checksum
unfolding checksum
checksum_tag = element_tag 0x30 _

pub checksum_list_law : IsFormat (list_of checksum)
checksum_list_law = list_law 0x30 checksum checksum_law checksum_tag

pub transited_encoding_law : IsFormat transited_encoding
unfolding transited_encoding
transited_encoding_law = element_law 0x30 _ (seen_law _ _ transited_encoding_fields (λ v. refl) (λ p. refl)
    (field_law _ _ (explicit_law 0xa0 _ int32_law) (field_law _ _ (explicit_law 0xa1 _ octet_string_law) done_law)))

transited_encoding_tag : HasTag 0x30 transited_encoding
unfolding transited_encoding
transited_encoding_tag = element_tag 0x30 _

pub transited_encoding_list_law : IsFormat (list_of transited_encoding)
transited_encoding_list_law = list_law 0x30 transited_encoding transited_encoding_law transited_encoding_tag

pub host_address_law : IsFormat host_address
unfolding host_address
host_address_law = element_law 0x30 _ (seen_law _ _ host_address_fields (λ v. refl) (λ p. refl)
    (field_law _ _ (explicit_law 0xa0 _ int32_law) (field_law _ _ (explicit_law 0xa1 _ octet_string_law) done_law)))

host_address_tag : HasTag 0x30 host_address
unfolding host_address
host_address_tag = element_tag 0x30 _

pub host_address_list_law : IsFormat (list_of host_address)
host_address_list_law = list_law 0x30 host_address host_address_law host_address_tag

pub authorization_datum_law : IsFormat authorization_datum
unfolding authorization_datum
authorization_datum_law = element_law 0x30 _ (seen_law _ _ authorization_datum_fields (λ v. refl) (λ p. refl)
    (field_law _ _ (explicit_law 0xa0 _ int32_law) (field_law _ _ (explicit_law 0xa1 _ octet_string_law) done_law)))

authorization_datum_tag : HasTag 0x30 authorization_datum
unfolding authorization_datum
authorization_datum_tag = element_tag 0x30 _

pub authorization_datum_list_law : IsFormat (list_of authorization_datum)
authorization_datum_list_law = list_law 0x30 authorization_datum authorization_datum_law authorization_datum_tag
