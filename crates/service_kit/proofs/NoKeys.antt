-- A keytab with the number of its format alone has no record.
use Rattle.std.proofs.Common.{◌≡◌, List, [], ◌∷◌, Ok, refl}
use Rattle.krb_files.specs.Fields.{magic_at}
use Rattle.krb_files.specs.Keytab.{keytab_of}
use Rattle.krb_files.specs.Pieces.{many_of}
use Rattle.krb_files.specs.declared.keytab.Entry.{Entry}

none-read : keytab_of (5 ∷ 2 ∷ []) ≡ Ok []
unfolding keytab_of magic_at many_of
none-read = refl

pub no_keys : (keytab : List Entry) → keytab_of (5 ∷ 2 ∷ []) ≡ Ok keytab → keytab ≡ []
no_keys keytab e = let is = none-read in cc
