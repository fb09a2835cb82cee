-- Keytabs as they are written: `05 02`, then one record behind its length.
use Rattle.std.specs.Prelude.{ℕ, ◌<◌, ◌^◌, ◌%◌, List, ◌∷◌, ◌++◌, Some}
use Rattle.krb_files.specs.declared.keytab.Entry.{Entry}
use Rattle.files_command.specs.declared.keytab_file.ServiceKey.{ServiceKey}
use Rattle.files_command.specs.Fields.{number, counted, principal, key_field, IsTextName}
use Rattle.files_command.specs.Fields.{IsSizedKey}

-- the record that a reader finds
abbrev pub entry_of : ServiceKey → Entry
entry_of service = record { name = service.server; number = service.kvno; key = Some service.key }

-- a record: the server, its name's type 1, the time 0, the version's lowest octet, the key, the
-- whole version
unfoldable pub key_record : ServiceKey → List ℕ
key_record service =
    principal 2 service.server ++ (number 4 1 ++ (number 4 0
    ++ (number 1 (service.kvno % 256) ++ (key_field 2 service.key ++ number 4 service.kvno))))

-- a keytab that has this key alone
unfoldable pub keytab_file : ServiceKey → List ℕ
keytab_file service = 5 ∷ 2 ∷ counted 4 (key_record service)

-- what is true of each such key: its server's name is of texts, its octets and its number have a
-- length of theirs
pub record IsServiceKey (service : ServiceKey) : Type 0 where
  pub server : IsTextName service.server
  pub key : IsSizedKey service.key
  pub kvno : service.kvno < 2 ^ 32
