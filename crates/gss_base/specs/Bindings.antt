-- Channel bindings, RFC 2744 section 3.11: here the application data alone, with no addresses.
use Rattle.std.specs.Prelude.{ℕ, ◌<◌, ◌≤◌, List, ◌++◌, length, replicate, Option, Some, None}
use Rattle.std.specs.Int.{w32, to_le_bytes}
use Rattle.md5.specs.Md5.{md5}

-- what is hashed, RFC 4121 section 4.1.1.2: type and length of the initiator's address and of the
-- acceptor's, all 0, then the length of the data, each as 32 bits with the least significant octet
-- first, then the data
abbrev pub bindings_octets : List ℕ → List ℕ
bindings_octets application =
    replicate 16 0 ++ (to_le_bytes w32 (length application) ++ application)

-- the hash that an authenticator's checksum carries: 16 octets 00 without bindings
unfoldable pub hash_of : Option (List ℕ) → List ℕ
hash_of None = replicate 16 0
hash_of (Some application) = md5 (bindings_octets application)

-- application data that bindings may have
pub record IsApplicationData (application : List ℕ) : Type 0 where
  pub some : 0 < length application
  pub most : length application ≤ 32768
