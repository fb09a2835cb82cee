-- The states of Kerberos and SCRAM at the initiator, and what they answer, however they lie in
-- memory.
use Rattle.std.specs.Prelude.{ℕ, List}
use Rattle.ap_exchange.specs.declared.request.ApInit.{ApInit}
use Rattle.scram_mech.specs.Initiator.{InitModel, WaitModel}
use Rattle.spnego_core.specs.declared.outcome.Outcome.{Outcome}

-- a mechanism whose first token was sent
pub data InitMech : Type 0 where
  -- Kerberos waits for the reply
  Kerberos : ApInit → InitMech
  -- SCRAM waits for the acceptor's first text
  Scram : InitModel → InitMech
  -- SCRAM sent its proof, and waits for the signature
  Proof : WaitModel → InitMech

-- what a mechanism says to a token: it goes on, with a token, or it is done
pub data InitAnswer : Type 0 where
  More : InitMech → List ℕ → InitAnswer
  Done : Outcome → InitAnswer
