use Rattle.std.proofs.Common.{◌+◌, ◌-◌, ◌≡◌}
use Rattle.gss_client.specs.Again.{first_verified}
use Rattle.gss_client.specs.Judging.{answer_value}
use Rattle.gss_client.proofs.session.Session.first_verified.Given as goal

abbrev pub invariant-loop-number : goal.invariant-loop-number
invariant-loop-number l = first_verified l.self.outcome (answer_value l.answer) l.number (l.self.number + 1 - l.number)
    ≡ first_verified l.fn.self.outcome (answer_value l.fn.answer) l.fn.first (l.fn.self.number + 1 - l.fn.first)

abbrev pub decreases-loop-number : goal.decreases-loop-number
decreases-loop-number l = l.self-inside.number + 1 - l.number
