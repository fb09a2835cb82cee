-- The realm and the parts of a principal have a spelling in messages.
use Rattle.std.proofs.Common.{◌≡◌, ℕ, true, false, List}
use Rattle.gss_base.specs.Principal.{is_named}
use Rattle.der_core.specs.Values.{has_zero}
use Rattle.krb_msgs.specs.declared.principal_name.PrincipalName.{PrincipalName}
use Rattle.krb_msgs.specs.PrincipalName.{IsName}
use Rattle.krb_msgs.proofs.Named.{is_name, realm_free}

pub named : (realm : List ℕ) (n : PrincipalName) → is_named realm n.name_string ≡ true → IsName realm n
named realm n e = is_name realm n e

pub free : (realm : List ℕ) (parts : List (List ℕ)) → is_named realm parts ≡ true → has_zero realm ≡ false
free realm parts e = realm_free realm parts e
