-- What the words of a command line ask for: `keytab PRINCIPAL KVNO TYPE KEYHEX`, `ccache CLIENT
-- SERVER KVNO TYPE KEYHEX HOURS`, `verifier USER PASSWORD SALTHEX ROUNDS`.
use Rattle.std.specs.Prelude.{ℕ, ◌+◌, Bool, ◌&&◌, ◌==◌, nat_eq, nat_lt, List, [], length, codes}
use Rattle.std.specs.Prelude.{slice_index_or, Option, Some, None, Result, Ok, Err, if◌then◌else◌}
use lib.Pointwise.{pointwise}
use Rattle.gss_base.specs.Name.{Name}
use Rattle.gss_base.specs.Signs.{parsed}
use Rattle.krb_derive.specs.declared.key.Etype.{Etype}
use Rattle.krb_derive.specs.declared.key.Etype.TheVariants.{Aes128, Aes256}
use Rattle.krb_derive.specs.declared.key.Key.{Key}
use Rattle.krb_derive.specs.Key.{key_of}
use Rattle.cli_base.specs.Numbers.{number_in}
use Rattle.hex.specs.Hex.{decode_of}
use Rattle.files_command.specs.declared.refusal.NoFile.{NoFile}
use Rattle.files_command.specs.declared.refusal.NoFile.TheVariants.{Usage}
use Rattle.files_command.specs.declared.keytab_file.ServiceKey.{ServiceKey}
use Rattle.files_command.specs.declared.words.Order.{Order}
use Rattle.files_command.specs.declared.words.Order.TheVariants.{Keytab, Ccache, Verifier}

-- the rest of a reading, unless the part before was refused
infixl 10 ◌>>=◌
-- the rest takes what the part before gave
abbrev pub ◌>>=◌ : {A B : Type 0} → Result A NoFile → (A → Result B NoFile) → Result B NoFile
(Ok x) >>= next = next x
(Err e) >>= next = Err e

-- what isn't there is refused
abbrev pub or_usage : {A : Type 0} → Option A → Result A NoFile
or_usage (Some x) = Ok x
or_usage None = Err Usage

-- what is refused elsewhere is refused here
abbrev pub unless_refused : {A E : Type 0} → Result A E → Result A NoFile
unless_refused (Ok x) = Ok x
unless_refused (Err e) = Err Usage

-- two words are the same
abbrev pub same : List ℕ → List ℕ → Bool
same = pointwise nat_eq

-- the word of this number, counted from 0
abbrev pub word : List (List ℕ) → ℕ → List ℕ
word words at = slice_index_or words at []

-- so many words, of which the first is this one
abbrev pub is_command : ℕ → List ℕ → List (List ℕ) → Bool
is_command count name words = length words == count && (nat_lt 0 count && same (word words 0) name)

-- a principal in its text form
abbrev pub principal_word : List ℕ → Result Name NoFile
principal_word text = unless_refused (parsed text)

-- a number in decimal, from `least` to `most`
abbrev pub number_word : ℕ → ℕ → List ℕ → Result ℕ NoFile
number_word least most text = or_usage (number_in least most text)

-- an encryption type by its number, 17 or 18
abbrev pub type_word : List ℕ → Result Etype NoFile
type_word text = if same text (codes "17") then Ok Aes128
    else if same text (codes "18") then Ok Aes256 else Err Usage

-- octets in hexadecimal
abbrev pub octets_word : List ℕ → Result (List ℕ) NoFile
octets_word text = unless_refused (decode_of text)

-- a key of a type, with as many octets as the type's keys have
abbrev pub key_word : List ℕ → List ℕ → Result Key NoFile
key_word kind text = do
  etype ← type_word kind
  octets ← octets_word text
  or_usage (key_of etype octets)

-- a server, its key's number, type and octets, in the words from this place on
unfoldable pub service_word : ℕ → List (List ℕ) → Result ServiceKey NoFile
service_word at words = do
  server ← principal_word (word words at)
  kvno ← number_word 1 4294967295 (word words (at + 1))
  key ← key_word (word words (at + 2)) (word words (at + 3))
  Ok (record { server = server; kvno = kvno; key = key })

-- what the words of `keytab` ask for
unfoldable pub keytab_words : List (List ℕ) → Result Order NoFile
keytab_words words = do
  service ← service_word 1 words
  Ok (Keytab service)

-- 1 to 87,600 hours, which are ten years
unfoldable pub ccache_words : List (List ℕ) → Result Order NoFile
ccache_words words = do
  client ← principal_word (word words 1)
  service ← service_word 2 words
  hours ← number_word 1 87600 (word words 6)
  Ok (Ccache client service hours)

-- what the words of `verifier` ask for, with 4,096 to 200,000 rounds
unfoldable pub verifier_words : List (List ℕ) → Result Order NoFile
verifier_words words = do
  salt ← octets_word (word words 3)
  rounds ← number_word 4096 200000 (word words 4)
  Ok (Verifier (word words 1) (word words 2) salt rounds)

-- what the words ask for: one of three files, or none where they are in no command
abbrev pub order_of : List (List ℕ) → Result Order NoFile
order_of words =
    if is_command 5 (codes "keytab") words then keytab_words words
    else if is_command 7 (codes "ccache") words then ccache_words words
    else if is_command 5 (codes "verifier") words then verifier_words words
    else Err Usage
