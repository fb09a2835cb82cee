-- Refusals for want of memory.
use Rattle.std.specs.Prelude.{◌≡◌, ℕ, Bool, true, false, List, Option, Err}
use Rattle.scram_mech.specs.declared.refusal.ScramRefusal.{ScramRefusal}
use Rattle.scram_mech.specs.declared.refusal.ScramRefusal.TheVariants as refusals
use Rattle.scram_mech.specs.declared.verifiers.Verifier.{Verifier}
use Rattle.scram_mech.specs.Acceptor.{AcceptModel, accept_started, accept_finished}
use Rattle.scram_mech.specs.Initiator.{InitModel, WaitModel, init_started, init_answered}
use Rattle.scram_mech.specs.Initiator.{init_finished}

-- a refusal is want of memory
abbrev pub scram_wants_memory : ScramRefusal → Bool
scram_wants_memory refusals.NoMemory = true
scram_wants_memory refusal = false

-- each of the five steps is refused for a reason, which is never want of memory
pub record StepReasons : Type 0 where
  pub started : (user password draw : List ℕ) (bindings : Option (List ℕ)) (refusal : ScramRefusal)
      → init_started user password draw bindings ≡ Err refusal → scram_wants_memory refusal ≡ false
  pub taken : (lines : List Verifier) (token draw : List ℕ) (refusal : ScramRefusal)
      → accept_started lines token draw ≡ Err refusal → scram_wants_memory refusal ≡ false
  pub answered : (init : InitModel) (text : List ℕ) (refusal : ScramRefusal)
      → init_answered init text ≡ Err refusal → scram_wants_memory refusal ≡ false
  pub accepted : (accept : AcceptModel) (text : List ℕ) (bindings : Option (List ℕ)) (now : ℕ)
      (refusal : ScramRefusal)
      → accept_finished accept text bindings now ≡ Err refusal → scram_wants_memory refusal ≡ false
  pub finished : (wait : WaitModel) (text : List ℕ) (refusal : ScramRefusal)
      → init_finished wait text ≡ Err refusal → scram_wants_memory refusal ≡ false
