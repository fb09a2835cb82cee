-- Keys and sealed data in messages.
use Rattle.std.specs.Prelude.{◌≡◌, ℕ, pos, Bool, false, ◌==◌, if◌then◌else◌, List, Option, Some}
use Rattle.std.specs.Prelude.{None, option_and_then, Result, Ok, Err}
use Rattle.krb_derive.specs.declared.key.Etype.{Etype}
use Rattle.krb_derive.specs.declared.key.Key.{Key}
use Rattle.krb_derive.specs.declared.sealing.OpenRefusal.{OpenRefusal}
use Rattle.krb_derive.specs.Key.{etype_of, number_of_etype, type_of_key, key_octets, key_of}
use Rattle.krb_derive.specs.Sealing.{seal_of, opened}
use Rattle.krb_msgs.specs.declared.encryption_key.EncryptionKey.{EncryptionKey}
use Rattle.krb_msgs.specs.declared.encrypted_data.EncryptedData.{EncryptedData}
use Rattle.ap_exchange.specs.declared.refusal.ApRefusal.{ApRefusal}
use Rattle.ap_exchange.specs.declared.refusal.ApRefusal.TheVariants as refusals
use Rattle.ap_exchange.specs.Steps.{◌>>=◌, or_refuse}

-- the key usages of RFC 4120 section 7.5.1: of a ticket, of a request's authenticator, of a reply
abbrev pub ticket_usage : ℕ
ticket_usage = 2

-- the key usage of a request's authenticator
abbrev pub authenticator_usage : ℕ
authenticator_usage = 11

-- the key usage of a reply
abbrev pub reply_usage : ℕ
reply_usage = 12

-- the key of a message, which is of a known type and has that type's length
abbrev pub known_key : EncryptionKey → Option Key
known_key key = option_and_then (λ etype. key_of etype key.keyvalue) (etype_of key.keytype)

-- the key of a message, refused where its type isn't known or its length isn't that type's
abbrev pub key_in : EncryptionKey → Result Key ApRefusal
key_in key = or_refuse refusals.KeyType (known_key key)

-- a key that may be left out
abbrev pub subkey_in : Option EncryptionKey → Result (Option Key) ApRefusal
subkey_in None = Ok None
subkey_in (Some key) = do
  known ← key_in key
  Ok (Some known)

-- a key as a message has it
abbrev pub key_value : Key → EncryptionKey
key_value key =
    record { keytype = pos (number_of_etype (type_of_key key)); keyvalue = key_octets key }

-- octets sealed with a key, as a message has them
abbrev pub sealed_data : Key → Option ℕ → ℕ → List ℕ → List ℕ → EncryptedData
sealed_data key kvno usage confounder octets =
    record {
      etype = pos (number_of_etype (type_of_key key));
      kvno = kvno;
      cipher =
          seal_of key usage confounder octets;
    }

-- octets that were sealed so open again
pub record SealedOpens (key : Key) (usage : ℕ) (confounder octets : List ℕ) : Type 0 where
  pub opens : opened key usage (seal_of key usage confounder octets) ≡ Ok octets

-- the encryption type is the key's
abbrev pub is_type_of : Key → Option Etype → Bool
is_type_of key None = false
is_type_of key (Some etype) = number_of_etype etype == number_of_etype (type_of_key key)

-- what opened, else this refusal, whatever the reason
abbrev pub opened_or : ApRefusal → Result (List ℕ) OpenRefusal → Result (List ℕ) ApRefusal
opened_or refusal (Ok octets) = Ok octets
opened_or refusal (Err why) = Err refusal

-- what sealed data opens to: its type is the key's, and its tag is right
abbrev pub data_opened : ApRefusal → Key → ℕ → EncryptedData → Result (List ℕ) ApRefusal
data_opened refusal key usage sealed =
    if is_type_of key (etype_of sealed.etype)
    then opened_or refusal (opened key usage sealed.cipher) else Err refusal
