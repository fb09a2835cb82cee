-- The numbers by which refusals are told: the minor status that an acceptor sends, and what a
-- client prints.
use Rattle.std.specs.Prelude.{ℕ}
use Rattle.scram_mech.specs.declared.refusal.ScramRefusal.{ScramRefusal}
use Rattle.scram_mech.specs.declared.refusal.ScramRefusal.TheVariants as scrams

-- the number of a refusal is 200 and its place among them; want of memory is 0
abbrev pub scram_number : ScramRefusal → ℕ
scram_number (scrams.Text at) = 201
scram_number scrams.Mandatory = 202
scram_number scrams.Nonce = 203
scram_number scrams.Rounds = 204
scram_number scrams.NoUser = 205
scram_number scrams.Bindings = 206
scram_number scrams.Proof = 207
scram_number scrams.Signature = 208
scram_number scrams.PeerError = 209
scram_number scrams.NoMemory = 0
