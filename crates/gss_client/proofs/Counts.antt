-- A count that never falls rose if it rose on the way.
use Rattle.std.proofs.Common.{◌≡◌, ◌≤◌, ℕ, arith}
use Rattle.sec_base.specs.Answers.{Rose}
use Rattle.gss_client.specs.declared.conversation.Parting.TheVariants.{Finished, Spent, Foreign, Refused}
use Rattle.gss_client.specs.declared.refusal.ClientRefusal.{ClientRefusal}
use Rattle.gss_client.specs.declared.refusal.ClientRefusal.TheVariants.{LinkFault, NoMemory}

pub no-less : {a b c : ℕ} → a ≤ b → b ≤ c → a ≤ c
no-less p q = omega arith

pub rose-behind : {a b c : ℕ} → a ≤ b → b ≤ c → Rose b c → Rose a c
rose-behind p q r = λ small. omega arith

-- ---- the ends of a conversation that are no fault of the link

pub not-spent : Spent ≡ Refused LinkFault → ⊥
not-spent e = cc

pub not-finished : Finished ≡ Refused LinkFault → ⊥
not-finished e = cc

pub not-foreign : Foreign ≡ Refused LinkFault → ⊥
not-foreign e = cc

pub not-memory : Refused NoMemory ≡ Refused LinkFault → ⊥
not-memory e = cc

pub refused-as : {a b : ClientRefusal} → Refused a ≡ Refused b → a ≡ b
refused-as e = cc
