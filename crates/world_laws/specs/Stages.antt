-- Where an initiator is, by its credentials.
use Rattle.std.specs.Prelude.{ℕ}
use Rattle.spnego_core.specs.Ends.{PlainSetup, EndSays}
use Rattle.gss_client.specs.Session.{SessionState}

-- where an initiator is
pub data StageSays : Type 0 where
  -- it wasn't started
  Ready : PlainSetup → StageSays
  -- a creation call of this transaction number was handed out, whose reply is due
  Asks : ℕ → EndSays → StageSays
  -- its context stands
  Stands : SessionState → StageSays
  -- its context stood, and it has ended since
  Left : SessionState → StageSays
  -- it ended before its context stood
  Over : StageSays
