-- Encryption types and their keys.
use Rattle.std.specs.Prelude.{ℕ, ◌==◌, ℤ, pos, negsuc, List, length, Option, Some, None}
use Rattle.std.specs.Prelude.{if◌then◌else◌}
use Rattle.krb_derive.specs.declared.key.Etype.{Etype}
use Rattle.krb_derive.specs.declared.key.Etype.TheVariants as types
use Rattle.krb_derive.specs.declared.key.Key.{Key}
use Rattle.krb_derive.specs.declared.key.Key.TheVariants as keys

-- the numbers of RFC 3962 section 7
abbrev pub etype_of : ℤ → Option Etype
etype_of (pos number) =
    if number == 17 then Some types.Aes128 else if number == 18 then Some types.Aes256 else None
etype_of (negsuc number) = None

-- the number of an encryption type (RFC 3962 section 7)
abbrev pub number_of_etype : Etype → ℕ
number_of_etype types.Aes128 = 17
number_of_etype types.Aes256 = 18

-- how many octets a key of the type has
abbrev pub key_length : Etype → ℕ
key_length types.Aes128 = 16
key_length types.Aes256 = 32

-- the encryption type of a key
abbrev pub type_of_key : Key → Etype
type_of_key (keys.Aes128 octets) = types.Aes128
type_of_key (keys.Aes256 octets) = types.Aes256

-- the octets of a key
abbrev pub key_octets : Key → List ℕ
key_octets (keys.Aes128 octets) = octets
key_octets (keys.Aes256 octets) = octets

-- the key of that type with these octets
abbrev pub key_with : Etype → List ℕ → Key
key_with types.Aes128 octets = keys.Aes128 octets
key_with types.Aes256 octets = keys.Aes256 octets

-- the key of that type with these octets, none if the type's keys have another length
abbrev pub key_of : Etype → List ℕ → Option Key
key_of etype octets =
    if length octets == key_length etype then Some (key_with etype octets) else None
