use Rattle.std.proofs.Common.{arith}
use Rattle.sec_base.proofs.failing.Failing.fault.Goals as goal

pub returns-clause-rose : goal.returns-clause-rose
returns-clause-rose c = λ less. omega (arith, c.saturating_add-self.ensures, less)
