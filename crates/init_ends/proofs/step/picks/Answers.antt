use Rattle.std.proofs.Common.{rules}
use Rattle.init_ends.proofs.Picking.{first-picked}
use Rattle.init_ends.proofs.step.picks.Goals as goal

pub returns-then-first-clause-exact : goal.returns-then-first-clause-exact
returns-then-first-clause-exact g c = first-picked _ c.run.result c.args.size _ c.args.oid c.args.resp.now.state c.args.resp.now.token c.args.resp.now.mic (search rules) (rw c.asks_mic.ensures at c.run.ensures.exact)
