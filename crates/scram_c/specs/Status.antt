-- The numbers that C is answered. Those of an exchange's refusals are the minor numbers by which a
-- server and a client tell them; those of tokens are 300 and their place among `TokenRefusal`.
use Rattle.std.specs.Prelude.{ℕ}
use Rattle.krb_tokens.specs.declared.end.TokenRefusal.{TokenRefusal}
use Rattle.krb_tokens.specs.declared.end.TokenRefusal.TheVariants as tokens
use Rattle.scram_mech.specs.declared.refusal.ScramRefusal.{ScramRefusal}
use Rattle.scram_mech.specs.declared.refusal.ScramRefusal.TheVariants as scrams
use Rattle.scram_c.specs.declared.status.Status.{Status}
use Rattle.scram_c.specs.declared.status.Status.TheVariants as statuses

-- no memory was to be had
abbrev pub no_memory : ℕ
no_memory = 2

abbrev pub scram_code : ScramRefusal → ℕ
scram_code (scrams.Text at) = 201
scram_code scrams.Mandatory = 202
scram_code scrams.Nonce = 203
scram_code scrams.Rounds = 204
scram_code scrams.NoUser = 205
scram_code scrams.Bindings = 206
scram_code scrams.Proof = 207
scram_code scrams.Signature = 208
scram_code scrams.PeerError = 209
scram_code scrams.NoMemory = no_memory

abbrev pub token_code : TokenRefusal → ℕ
token_code tokens.Length = 301
token_code tokens.Kind = 302
token_code tokens.Direction = 303
token_code tokens.Subkey = 304
token_code tokens.Filler = 305
token_code tokens.BadChecksum = 306
token_code tokens.ExtraCount = 307
token_code tokens.InnerHeader = 308
token_code tokens.NoMemory = no_memory

abbrev pub status_number : Status → ℕ
status_number statuses.Done = 0
status_number statuses.More = 1
status_number statuses.NoMemory = no_memory
status_number statuses.Empty = 3
status_number statuses.NotDue = 4
status_number statuses.NoVerifiers = 5
status_number statuses.NoRoom = 6
status_number statuses.NotText = 7
status_number statuses.LongBindings = 8
status_number statuses.Line = 9
status_number statuses.Twice = 10
status_number (statuses.Scram refusal) = scram_code refusal
status_number (statuses.Token refusal) = token_code refusal
