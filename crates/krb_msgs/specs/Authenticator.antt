-- Authenticator, RFC 4120 section 5.5.1.
use Rattle.std.specs.Prelude.{ℕ, List, Option}
use Rattle.der_core.specs.Format.{Format, Content}
use Rattle.der_core.specs.Element.{element, whole, explicit}
use Rattle.der_core.specs.Fields.{done, with_known, with_field, with_optional, list_of, seen}
use Rattle.der_core.specs.Integer.{uint32, natural}
use Rattle.der_core.specs.Time.{time}
use Rattle.der_core.specs.Values.{text}
use Rattle.krb_msgs.specs.PrincipalName.{name_in}
use Rattle.krb_msgs.specs.declared.principal_name.PrincipalName.{PrincipalName}
use Rattle.krb_msgs.specs.Constant.{constant}
use Rattle.krb_msgs.specs.EncryptionKey.{encryption_key}
use Rattle.krb_msgs.specs.declared.encryption_key.EncryptionKey.{EncryptionKey}
use Rattle.krb_msgs.specs.Checksum.{checksum}
use Rattle.krb_msgs.specs.declared.checksum.Checksum.{Checksum}
use Rattle.krb_msgs.specs.AuthorizationDatum.{authorization_datum}
use Rattle.krb_msgs.specs.declared.authorization_datum.AuthorizationDatum.{AuthorizationDatum}
use Rattle.krb_msgs.specs.declared.authenticator.Authenticator.{Authenticator}

-- the fields behind the name
abbrev pub authenticator_behind_name : Content ((Option Checksum) × (ℕ × (ℕ
    × ((Option EncryptionKey) × ((Option ℕ) × ((Option (List AuthorizationDatum)) × Unit {0}))))))
authenticator_behind_name =
    with_optional 0xa3 (explicit 0xa3 checksum)
    (with_field (explicit 0xa4 (natural 0 999999))
    (with_field (explicit 0xa5 time)
    (with_optional 0xa6 (explicit 0xa6 encryption_key)
    (with_optional 0xa7 (explicit 0xa7 uint32)
    (with_optional 0xa8 (explicit 0xa8 (list_of authorization_datum))
    (done))))))

-- authenticator-vno [0], crealm [1], cname [2], and the fields behind the name; the name is that of
-- a principal in crealm
abbrev pub authenticator_fields : Content
    (Unit {0} × ((List ℕ) × (PrincipalName × ((Option Checksum) × (ℕ × (ℕ × ((Option EncryptionKey)
    × ((Option ℕ) × ((Option (List AuthorizationDatum)) × Unit {0})))))))))
authenticator_fields =
    with_field (explicit 0xa0 (constant 5))
    (with_known (explicit 0xa1 text)
    (λ crealm. with_field (explicit 0xa2 (name_in crealm)) authenticator_behind_name))

-- the fields by their names
abbrev pub authenticator_content : Content Authenticator
authenticator_content = seen
    (λ v. record {
      crealm = v.1.0;
      cname = v.1.1.0;
      cksum = v.1.1.1.0;
      cusec = v.1.1.1.1.0;
      ctime =
          v.1.1.1.1.1.0;
      subkey = v.1.1.1.1.1.1.0;
      seq_number = v.1.1.1.1.1.1.1.0;
      authorization_data =
          v.1.1.1.1.1.1.1.1.0;
    })
    (λ p. (
      tt,
      (
        p.crealm,
        (
          p.cname,
          (p.cksum, (p.cusec, (p.ctime, (p.subkey, (p.seq_number, (p.authorization_data, tt)))))),
        ),
      ),
    ))
    authenticator_fields

-- Authenticator ::= [APPLICATION 2] SEQUENCE of these fields
unfoldable pub authenticator_element : Format Authenticator
authenticator_element = explicit 0x62 (element 0x30 authenticator_content)

-- one Authenticator, and nothing behind it
abbrev pub authenticator : Content Authenticator
authenticator = whole authenticator_element
