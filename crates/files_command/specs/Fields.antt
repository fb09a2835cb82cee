-- Fields of keytabs and credential caches as they are written, numbers with the most significant
-- octet first.
use Rattle.std.specs.Prelude.{◌≡◌, ◌≤◌, ℕ, true, List, ◌++◌, length}
use Rattle.std.specs.List.{AllByRecursion, flat_map}
use Rattle.std.specs.Int.{bytes_high_first}
use Rattle.std.specs.Str.{is_utf8}
use Rattle.gss_base.specs.Name.{Name}
use Rattle.gss_base.specs.Principal.{is_named}
use Rattle.krb_derive.specs.declared.key.Key.{Key}
use Rattle.krb_derive.specs.Key.{number_of_etype, key_length, type_of_key, key_octets}
use Rattle.krb_files.specs.Names.{are_texts}

-- a number in so many octets
unfoldable pub number : ℕ → ℕ → List ℕ
number size n = bytes_high_first size n

-- octets behind their number, which has so many octets itself
unfoldable pub counted : ℕ → List ℕ → List ℕ
counted size octets = number size (length octets) ++ octets

-- a principal: how many components, the realm, the components
unfoldable pub principal : ℕ → Name → List ℕ
principal size name = number size (length name.parts)
    ++ (counted size name.realm ++ flat_map (counted size) name.parts)

-- a key: the number of its type, its octets
unfoldable pub key_field : ℕ → Key → List ℕ
key_field size key = number 2 (number_of_etype (type_of_key key)) ++ counted size (key_octets key)

-- what is true of each principal: it is one of this project, and its realm and components are texts
pub record IsTextName (name : Name) : Type 0 where
  pub named : is_named name.realm name.parts ≡ true
  pub realm_text : is_utf8 name.realm ≡ true
  pub part_texts : are_texts name.parts ≡ true

-- what is true of each key: it has as many octets as its type's keys have
pub record IsSizedKey (key : Key) : Type 0 where
  pub sized : length (key_octets key) ≡ key_length (type_of_key key)

-- no text is longer than a principal's text form may be
abbrev pub AreShort : List (List ℕ) → Type 0
AreShort = AllByRecursion (λ part. length part ≤ 255)
