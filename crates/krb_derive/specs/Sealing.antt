-- Sealed octets and checksums, RFC 3961 section 5.3 and RFC 3962 section 6.
use Rattle.std.specs.Prelude.{◌≡◌, ℕ, ◌-◌, nat_lt, nat_eq, List, ◌++◌, length, take, drop, Result}
use Rattle.std.specs.Prelude.{Ok, Err, if◌then◌else◌}
use lib.Pointwise.{pointwise}
use Rattle.aes_cts.specs.Cipher.{IsOctets}
use Rattle.aes_cts.specs.Stealing.{cts_encrypted, cts_decrypted}
use Rattle.mac_sha1.specs.Mac.{hmac}
use Rattle.krb_derive.specs.declared.derivation.Part.TheVariants.{Encrypt, Integrity, Check}
use Rattle.krb_derive.specs.declared.key.Key.{Key}
use Rattle.krb_derive.specs.declared.sealing.OpenRefusal.{OpenRefusal}
use Rattle.krb_derive.specs.declared.sealing.OpenRefusal.TheVariants.{Short, BadChecksum}
use Rattle.krb_derive.specs.Key.{key_octets}
use Rattle.krb_derive.specs.Derivation.{derived}

-- the checksum of octets under a derived key, cut to 96 bits
unfoldable pub tag_of : Key → List ℕ → List ℕ
tag_of key octets = take 12 (hmac (key_octets key) octets)

-- what a plain text, with its confounder in front, is sealed to
unfoldable pub seal_of : Key → ℕ → List ℕ → List ℕ → List ℕ
seal_of key usage confounder octets =
    cts_encrypted (key_octets (derived key usage Encrypt)) (confounder ++ octets)
    ++ tag_of (derived key usage Integrity) (confounder ++ octets)

-- what sealed octets decipher to, the confounder in front
unfoldable pub deciphered : Key → ℕ → List ℕ → List ℕ
deciphered key usage octets =
    cts_decrypted (key_octets (derived key usage Encrypt)) (take (length octets - 12) octets)

-- what sealed octets open to: the tag is compared before anything is handed out
unfoldable pub opened : Key → ℕ → List ℕ → Result (List ℕ) OpenRefusal
opened key usage octets =
    if nat_lt (length octets) 28 then Err Short
    else if pointwise nat_eq (tag_of (derived key usage Integrity) (deciphered key usage octets))
    (drop (length octets - 12) octets)
    then Ok (drop 16 (deciphered key usage octets)) else Err BadChecksum

-- what is sealed under this key and usage opens to itself
abbrev pub Opens : Key → ℕ → Type 0
Opens key usage = (confounder plain : List ℕ) → length confounder ≡ 16
    → IsOctets (confounder ++ plain)
    → opened key usage (seal_of key usage confounder plain) ≡ Ok plain

-- the checksum of octets under this key and usage
unfoldable pub checksum_of : Key → ℕ → List ℕ → List ℕ
checksum_of key usage octets = tag_of (derived key usage Check) octets
