use Rattle.std.proofs.Common.{◌≡◌, ◌+◌, length, arith}
use Rattle.drill_command.proofs.Counted.{given-then, steps-then}
use Rattle.drill_command.proofs.draws.DrawingDraw.fill.Goals as goal

pub invariant_of-self : goal.invariant_of-self
invariant_of-self g c =
    let s = c.args.self.now in
    let many : c.then-self.result.count ≡ s.count.count + length c.args.out.now = omega (arith, c.then-self.ensures, c.fill.auto.out) in
    record { place = steps-then s.count.count (length c.args.out.now) c.then-self.result.count g.B.Begun.value s.generator.value c.fill.new.self.value many s.place c.fill.ensures.place }

pub returns-clause-told : goal.returns-clause-told
returns-clause-told g c = λ t.
    let s = c.args.self.now in
    let many : c.then-self.result.count ≡ s.count.count + length c.args.out.now = omega (arith, c.then-self.ensures, c.fill.auto.out) in
    given-then s.count.count (length c.args.out.now) c.then-self.result.count g.B.Begun.value s.generator.value c.fill.new.out many s.place c.fill.ensures.octets
