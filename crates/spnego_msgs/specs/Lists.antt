-- The list of mechanisms, RFC 4178 section 4.1.
use Rattle.std.specs.Prelude.{◌≡◌, ℕ, Bool, true, ◌&&◌, nat_le, List, length}
use Rattle.der_core.specs.Format.{Format}
use Rattle.der_core.specs.Element.{guarded}
use Rattle.der_core.specs.Fields.{list_of}
use Rattle.der_core.specs.Values.{object_identifier}

-- 1 to 16 mechanisms
abbrev pub is_count : List (List ℕ) → Bool
is_count list = nat_le 1 (length list) && nat_le (length list) 16

-- MechTypeList ::= SEQUENCE OF MechType, where a MechType is an OBJECT IDENTIFIER
unfoldable pub mech_types : Format (List (List ℕ))
mech_types = guarded is_count (list_of object_identifier)

-- the octets over which both ends make the list's MIC
abbrev pub list_octets : List (List ℕ) → List ℕ
list_octets list = (list_of object_identifier).spell list

-- no two lists that have a spelling have the same octets, so a MIC over a list's octets speaks of
-- that list alone
abbrev pub OneList : Type 0
OneList = (xs ys : List (List ℕ)) → (list_of object_identifier).fits xs ≡ true
    → (list_of object_identifier).fits ys ≡ true → list_octets xs ≡ list_octets ys → xs ≡ ys
