-- Keys in both files.
use Rattle.std.specs.Prelude.{ℕ, pos, List, Option, Some, None, Result, Ok, Err}
use Rattle.krb_derive.specs.declared.key.Etype.{Etype}
use Rattle.krb_derive.specs.declared.key.Key.{Key}
use Rattle.krb_derive.specs.Key.{etype_of, key_of}
use Rattle.krb_files.specs.declared.refusal.FileRefusal.{FileRefusal}
use Rattle.krb_files.specs.declared.refusal.FileWhy.TheVariants as whys
use Rattle.krb_files.specs.Fields.{Input, place, refusal, ◌>>=◌, number_at, counted_at}

-- the key of a known type, refused at a place if its length isn't the type's
abbrev pub key_or : ℕ → Option Key → Result (Option Key) FileRefusal
key_or at (Some key) = Ok (Some key)
key_or at None = Err (refusal whys.Length at)

-- the key of a type with these octets, refused at a place where the type's keys have another
-- length; none of a type that isn't known
abbrev pub key_by : ℕ → Option Etype → List ℕ → Result (Option Key) FileRefusal
key_by at None octets = Ok None
key_by at (Some etype) octets = key_or at (key_of etype octets)

-- a type's number, then the key behind a number of so many octets that counts its octets
unfoldable pub key_at : ℕ → Input → Result (Option Key × Input) FileRefusal
key_at size i = do
  number ← number_at 2 i
  octets ← counted_at size number.1
  key ← key_by (place number.1) (etype_of (pos number.0)) octets.0
  Ok (key, octets.1)
