use Rattle.std.specs.Prelude.{ℕ, List}
use Rattle.gss_base.specs.Name.{Name}
use Rattle.krb_derive.specs.declared.key.Key.{Key}

-- a credential as contracts see it
pub record Granted : Type 0 where
  pub client : Name
  pub server : Name
  pub session : Key
  pub ticket : List ℕ

-- a credential as it lies in a cache: with its end, in seconds since the start of 1970
pub record Kept : Type 0 where
  pub granted : Granted
  pub ends : ℕ

-- a credential cache: whose it is, and the credentials of known types with tickets within the
-- limit, in the file's order
pub record Cache : Type 0 where
  pub owner : Name
  pub credentials : List Kept
