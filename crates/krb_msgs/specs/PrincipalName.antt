-- PrincipalName, RFC 4120 section 5.2.2, within the limits of a principal.
use Rattle.std.specs.Prelude.{◌≡◌, ℕ, ℤ, true, false, List, All}
use Rattle.gss_base.specs.Principal.{is_count, is_named}
use Rattle.der_core.specs.Format.{Format, Content}
use Rattle.der_core.specs.Element.{element, explicit, guarded}
use Rattle.der_core.specs.Fields.{done, with_field, list_of, seen}
use Rattle.der_core.specs.Integer.{int32}
use Rattle.der_core.specs.Values.{has_zero, text}
use Rattle.krb_msgs.specs.declared.principal_name.PrincipalName.{PrincipalName}

-- SEQUENCE OF KerberosString, 1 to 8
unfoldable pub name_parts : Format (List (List ℕ))
name_parts = guarded is_count (list_of text)

-- name-type [0], name-string [1]
abbrev pub principal_name_fields : Content (ℤ × (List (List ℕ) × Unit {0}))
principal_name_fields =
    with_field (explicit 0xa0 int32)
    (with_field (explicit 0xa1 name_parts)
    done)

-- the fields by their names
abbrev pub principal_name_content : Content PrincipalName
principal_name_content = seen
    (λ v. record { name_type = v.0; name_string = v.1.0 })
    (λ p. (p.name_type, (p.name_string, tt)))
    principal_name_fields

-- PrincipalName ::= SEQUENCE of these fields
unfoldable pub principal_name : Format PrincipalName
principal_name = element 0x30 principal_name_content

-- a name that is a principal in this realm
abbrev pub name_in : List ℕ → Format PrincipalName
name_in realm = guarded (λ n. is_named realm n.name_string) principal_name

-- a name that has a spelling in this realm
pub record IsName (realm : List ℕ) (n : PrincipalName) : Type 0 where
  pub named : is_named realm n.name_string ≡ true
  pub count : is_count n.name_string ≡ true
  pub texts : All (λ t. has_zero t ≡ false) n.name_string
