-- Keytabs: `05 02`, then pieces, each behind a length of 32 bits in two's complement. Behind a
-- positive length stands a record, behind a negative one a hole of so many octets; a length of 0,
-- or the file's end, ends the list.
use Rattle.std.specs.Prelude.{ℕ, ◌-◌, ◌^◌, max, Bool, true, false, ◌==◌, ◌&&◌, nat_lt}
use Rattle.std.specs.Prelude.{if◌then◌else◌, List, [], ◌∷◌, length, take, Option, Some, None}
use Rattle.std.specs.Prelude.{option_and_then, is_some, Result, Ok}
use Rattle.gss_base.specs.Name.{Name}
use Rattle.gss_base.specs.SameName.{same_name}
use Rattle.krb_derive.specs.declared.key.Etype.{Etype}
use Rattle.krb_derive.specs.declared.key.Key.{Key}
use Rattle.krb_derive.specs.Key.{number_of_etype, type_of_key}
use Rattle.krb_files.specs.declared.refusal.FileRefusal.{FileRefusal}
use Rattle.krb_files.specs.declared.keytab.Entry.{Entry}
use Rattle.krb_files.specs.declared.pieces.Next.{Next}
use Rattle.krb_files.specs.declared.pieces.Next.TheVariants.{End, Other, Item}
use Rattle.krb_files.specs.Fields.{Input, place, ◌>>=◌, number_of, number_at, record_at, passed_at}
use Rattle.krb_files.specs.Fields.{magic_at}
use Rattle.krb_files.specs.Names.{principal_at}
use Rattle.krb_files.specs.Keys.{key_at}
use Rattle.krb_files.specs.Pieces.{all_of}

-- the version in 32 bits, or that in 8 bits if the other is 0
abbrev pub longer_version : ℕ → ℕ → ℕ
longer_version low high = if high == 0 then low else high

-- the version of a key, where a number of 32 bits behind the key counts unless it is 0
abbrev pub version_of : ℕ → List ℕ → ℕ
version_of low octets =
    if nat_lt (length octets) 4 then low else longer_version low (number_of (take 4 octets))

-- a record: the principal, the name's type, the time, the version in 8 bits, the key, and perhaps
-- the version in 32 bits
unfoldable pub entry_at : Input → Result Entry FileRefusal
entry_at i = do
  name ← principal_at 2 (place i) i
  kind ← number_at 4 name.1
  time ← number_at 4 kind.1
  low ← number_at 1 time.1
  key ← key_at 2 low.1
  Ok (record { name = name.0; number = version_of low.0 key.1.octets; key = key.0 })

-- behind a length that isn't 0: a record, or a hole if it is negative in two's complement
abbrev pub record_or_hole_at : ℕ → Input → Result (Next Entry × Input) FileRefusal
record_or_hole_at size i =
    if nat_lt size (2 ^ 31) then (do
      block ← record_at size i
      entry ← entry_at block.0
      Ok (Item entry, block.1))
    else (do
      hole ← passed_at (2 ^ 32 - size) i
      Ok (Other, hole.1))

-- what stands behind a length
unfoldable pub sized_at : ℕ → Input → Result (Next Entry × Input) FileRefusal
sized_at size i = if size == 0 then Ok (End, i) else record_or_hole_at size i

-- the next piece behind its length, or the end
unfoldable pub piece_at : Input → Result (Next Entry × Input) FileRefusal
piece_at i = if length i.octets == 0 then Ok (End, i) else (do
  size ← number_at 4 i
  sized_at size.0 size.1)

-- the records of a keytab, in order
unfoldable pub keytab_of : List ℕ → Result (List Entry) FileRefusal
keytab_of octets = do
  i ← magic_at 2 octets
  all_of piece_at i

-- whether a record's key is of this type; one of an unknown type has none
abbrev pub has_type : Etype → Option Key → Bool
has_type etype None = false
has_type etype (Some key) = number_of_etype (type_of_key key) == number_of_etype etype

-- whether a record is of this principal and of this type
abbrev pub is_for : Name → Etype → Entry → Bool
is_for server etype entry = same_name entry.name server && has_type etype entry.key

-- the key of the first record of this principal, type and number
abbrev pub key_numbered : Name → ℕ → Etype → List Entry → Option Key
key_numbered server number etype [] = None
key_numbered server number etype (entry ∷ entries) =
    if is_for server etype entry && (entry.number == number) then entry.key
    else key_numbered server number etype entries

-- the greater of two numbers, of which one or both may be missing
abbrev pub greater : Option ℕ → Option ℕ → Option ℕ
greater None b = b
greater (Some a) None = Some a
greater (Some a) (Some b) = Some (max a b)

-- the greatest number that this principal and type have
abbrev pub greatest_number : Name → Etype → List Entry → Option ℕ
greatest_number server etype [] = None
greatest_number server etype (entry ∷ entries) =
    greater (if is_for server etype entry then Some entry.number else None)
    (greatest_number server etype entries)

-- the key of this principal, type and number, where no number is given of the greatest number: the
-- first in the file's order
abbrev pub found : List Entry → Name → Option ℕ → Etype → Option Key
found entries server (Some number) etype = key_numbered server number etype entries
found entries server None etype = option_and_then
    (λ number. key_numbered server number etype entries) (greatest_number server etype entries)

-- whether a record of a known type is of this principal
abbrev pub is_served : Name → List Entry → Bool
is_served server [] = false
is_served server (entry ∷ entries) =
    if same_name entry.name server && is_some entry.key then true else is_served server entries
