-- Equal calls: `converses` and `talk` are the case of a list that repeats one call.
use Rattle.std.specs.Prelude.{◌≡◌, ℕ, List, replicate}
use Rattle.gss_client.specs.Conferring.{DueCall, confers, talk_of}
use Rattle.gss_client.specs.Conversation.{converses, talk}
use Rattle.gss_client.specs.Session.{SessionState}
use Rattle.gss_client.specs.Start.{StartSays}

-- so many calls that ask the same with the same arguments are a list that repeats one call
pub record EqualCalls : Type 0 where
  pub calls_are : (times : ℕ) (call : DueCall) (s : SessionState) (draws stream : List ℕ)
      → converses times call.query call.args s draws stream
      ≡ confers (replicate times call) s draws stream
  pub session_is : (start : StartSays) (times : ℕ) (call : DueCall) (draws stream : List ℕ)
      → talk start times call.query call.args draws stream
      ≡ talk_of start (replicate times call) draws stream
