use Rattle.std.proofs.Common.{sym, ◌∙◌}
use Rattle.posts_program.proofs.Arguments.{posted-fits}
use Rattle.posts_program.proofs.words.is_posted.Goals as goal

pub returns-clause-size : goal.returns-clause-size
returns-clause-size c = λ whole. posted-fits c.args.octets.now (λ v. v.now) c.opaque_alone.result c.opaque_alone.ensures.spelled (sym c.is_ok.ensures.value ∙ whole)
