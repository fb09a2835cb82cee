use Rattle.accept_core.proofs.Recents.{digest-kept}
use Rattle.accept_core.proofs.log.Log.digest.Goals as goal

pub returns : goal.returns
returns c = rw (← c.self.view_is) (digest-kept c.self.inside.digest c.self.inside.all.entries c.self.invariant.committed)
