use Rattle.std.proofs.Common.{arith, ◌≡◌, ◌∙◌, refl, suc}
use Rattle.std.proofs.lemmas.Bool.Decides.{nat_tests}
use Rattle.sec_base.proofs.GivenInMemory.{moments_given-push, moments_given-length}
use Rattle.sec_base.proofs.mem_clock.MemClockClock.now.Goals as goal

pub returns-clause-told : goal.returns-clause-told
returns-clause-told c = λ t.
    let e : c.saturating_add-self.result ≡ suc c.args.self.now.count = grind (arith, nat_tests) in
    let h = moments_given-push c.args.self.now.moments.items 0 c.args.self.now.count in
    let m = c.moment_at-moment.ensures in
    let d = c.deref.ensures.value in
    cc

pub returns-clause-next : goal.returns-clause-next
returns-clause-next c =
    let n = moments_given-length c.args.self.now.moments.items 0 c.args.self.now.count in
    let m = c.moment_at-moment.ensures in
    let d = c.deref.ensures.value in
    m ∙ rw (d, n) refl
