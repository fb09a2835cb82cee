-- Where memory is wanted, a move leads to its initiator's end.
use Rattle.std.specs.Prelude.{ℕ, List, Result, Ok, Err}
use Rattle.spnego_core.specs.declared.refusal.NegRefusal.{NegRefusal}
use Rattle.init_ends.specs.Ends.{EndMeans}
use Rattle.gss_client.specs.declared.refusal.ClientRefusal.{ClientRefusal}
use Rattle.gss_client.specs.Creation.{CreatedMeans}
use Rattle.gss_client.specs.Creation as created
use Rattle.world_runs.specs.ObjectMoves.{started_by, created_by}
use Rattle.world_runs.specs.Moving.{MovesMeans, IsLost, IsMove}

pub lost-start : (r : Result (EndMeans × List ℕ) NegRefusal) (m : MovesMeans) → IsLost m → IsMove (started_by r) m
lost-start (Ok started) m lost = lost _ _
lost-start (Err refusal) m lost = lost _ _

pub lost-take : (first xid : ℕ) (r : Result CreatedMeans ClientRefusal) (m : MovesMeans) → IsLost m → IsMove (created_by first xid r) m
lost-take first xid (Ok (created.Going offer)) m lost = lost _ _
lost-take first xid (Ok (created.Stands outcome handle)) m lost = lost _ _
lost-take first xid (Err refusal) m lost = lost _ _
