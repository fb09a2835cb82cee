-- Derived keys, RFC 3961 section 5.1 with the pseudo-random function of RFC 3962 section 6.
use Rattle.std.specs.Prelude.{ℕ, List, [], ◌∷◌, ◌++◌}
use Rattle.std.specs.Int.{w32, to_be_bytes}
use Rattle.aes_cts.specs.Cipher.{cipher}
use Rattle.krb_derive.specs.declared.derivation.Part.{Part}
use Rattle.krb_derive.specs.declared.derivation.Part.TheVariants.{Encrypt, Integrity, Check}
use Rattle.krb_derive.specs.declared.key.Key.{Key}
use Rattle.krb_derive.specs.declared.key.Key.TheVariants.{Aes128, Aes256}
use Rattle.krb_derive.specs.Fold.{n_fold}

-- Ke, Ki and Kc (RFC 3961 section 5.3)
abbrev pub octet_of_part : Part → ℕ
octet_of_part Encrypt = 0xaa
octet_of_part Integrity = 0x55
octet_of_part Check = 0x99

-- the usage as four octets, and the part's octet
unfoldable pub constant : ℕ → Part → List ℕ
constant usage part = to_be_bytes w32 usage ++ octet_of_part part ∷ []

-- the constant folded to a block and enciphered, and that block again where the key has two
unfoldable pub derived : Key → ℕ → Part → Key
derived (Aes128 key) usage part = Aes128 (cipher key (n_fold 16 (constant usage part)))
derived (Aes256 key) usage part =
    let first : List ℕ = cipher key (n_fold 16 (constant usage part)) in
    Aes256 (first ++ cipher key first)
