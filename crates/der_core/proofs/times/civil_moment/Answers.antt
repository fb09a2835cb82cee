use Rattle.der_core.proofs.CivilTimes.{fourteen}
use Rattle.der_core.proofs.times.civil_moment.Goals as goal

pub returns : goal.returns
returns c =
    rw (fourteen c.args.digits.now _ _ _ _ _ _ _ c.requires c.two.ensures.number c.two-in-len14.ensures.number c.two-in-len14-2.ensures.number c.two-in-len14-3.ensures.number c.two-in-len14-4.ensures.number c.two-in-len14-5.ensures.number c.two-in-len14-6.ensures.number) c.moment_at.ensures
