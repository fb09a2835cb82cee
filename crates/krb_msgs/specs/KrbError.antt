-- KrbError, RFC 4120 section 5.9.1.
use Rattle.std.specs.Prelude.{ℕ, ℤ, List, [], Option, unwrap_or}
use Rattle.der_core.specs.Format.{Format, Content}
use Rattle.der_core.specs.Element.{element, whole, explicit, octet_string}
use Rattle.der_core.specs.Fields.{done, with_known, with_field, with_optional_known, with_optional}
use Rattle.der_core.specs.Fields.{seen}
use Rattle.der_core.specs.Integer.{int32, natural}
use Rattle.der_core.specs.Time.{time}
use Rattle.der_core.specs.Values.{text}
use Rattle.krb_msgs.specs.PrincipalName.{name_in}
use Rattle.krb_msgs.specs.declared.principal_name.PrincipalName.{PrincipalName}
use Rattle.krb_msgs.specs.Constant.{constant}
use Rattle.krb_msgs.specs.declared.krb_error.KrbError.{KrbError}

-- the fields behind the names
abbrev pub krb_error_behind_names : Content ((Option (List ℕ)) × ((Option (List ℕ)) × Unit {0}))
krb_error_behind_names =
    with_optional 0xab (explicit 0xab text)
    (with_optional 0xac (explicit 0xac octet_string)
    (done))

-- the fields behind the code
abbrev pub krb_error_behind_code : Content ((Option (List ℕ)) × ((Option PrincipalName)
    × ((List ℕ) × (PrincipalName × ((Option (List ℕ)) × ((Option (List ℕ)) × Unit {0}))))))
krb_error_behind_code =
    with_optional_known 0xa7 (explicit 0xa7 text)
    (λ crealm. with_optional 0xa8 (explicit 0xa8 (name_in (unwrap_or crealm [])))
    (with_known (explicit 0xa9 text)
    (λ realm. with_field (explicit 0xaa (name_in realm)) krb_error_behind_names)))

-- pvno [0], msg-type [1], ctime [2] OPTIONAL, cusec [3] OPTIONAL, stime [4], susec [5],
-- error-code [6], and the fields behind the code
abbrev pub krb_error_fields : Content (Unit {0} × (Unit {0}
    × ((Option ℕ) × ((Option ℕ) × (ℕ × (ℕ × (ℤ × ((Option (List ℕ)) × ((Option PrincipalName)
    × ((List ℕ) × (PrincipalName × ((Option (List ℕ)) × ((Option (List ℕ)) × Unit {0})))))))))))))
krb_error_fields =
    with_field (explicit 0xa0 (constant 5))
    (with_field (explicit 0xa1 (constant 30))
    (with_optional 0xa2 (explicit 0xa2 time)
    (with_optional 0xa3 (explicit 0xa3 (natural 0 999999))
    (with_field (explicit 0xa4 time)
    (with_field (explicit 0xa5 (natural 0 999999))
    (with_field (explicit 0xa6 int32) krb_error_behind_code))))))

-- what a message has behind its code
abbrev pub behind_code : KrbError → Option (List ℕ) × (Option PrincipalName
    × (List ℕ × (PrincipalName × (Option (List ℕ) × (Option (List ℕ) × Unit {0})))))
behind_code p = (p.crealm, (p.cname, (p.realm, (p.sname, (p.e_text, (p.e_data, tt))))))

-- the fields by their names
abbrev pub krb_error_content : Content KrbError
krb_error_content = seen
    (λ v. record {
      ctime = v.1.1.0;
      cusec = v.1.1.1.0;
      stime = v.1.1.1.1.0;
      susec =
          v.1.1.1.1.1.0;
      error_code = v.1.1.1.1.1.1.0;
      crealm = v.1.1.1.1.1.1.1.0;
      cname =
          v.1.1.1.1.1.1.1.1.0;
      realm = v.1.1.1.1.1.1.1.1.1.0;
      sname = v.1.1.1.1.1.1.1.1.1.1.0;
      e_text =
          v.1.1.1.1.1.1.1.1.1.1.1.0;
      e_data = v.1.1.1.1.1.1.1.1.1.1.1.1.0;
    })
    (λ p. (tt, (tt, (p.ctime, (p.cusec, (p.stime, (p.susec, (p.error_code, behind_code p))))))))
    krb_error_fields

-- KRB-ERROR ::= [APPLICATION 30] SEQUENCE of these fields
unfoldable pub krb_error_element : Format KrbError
krb_error_element = explicit 0x7e (element 0x30 krb_error_content)

-- one KRB-ERROR, and nothing behind it
abbrev pub krb_error : Content KrbError
krb_error = whole krb_error_element
