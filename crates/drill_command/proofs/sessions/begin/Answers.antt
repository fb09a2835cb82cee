use Rattle.std.proofs.Common.{◌∙◌, ap, sym}
use Rattle.pair_laws.specs.Posts.{posts_in}
use Rattle.drill_command.proofs.sessions.begin.Goals as goal

pub returns-clause-first : goal.returns-clause-first
returns-clause-first c = let b = c.in_ok-book.ensures in record { setup = b.setup; limits = b.limits; empty = b.history; rests = b.rests }

pub returns-clause-counted : goal.returns-clause-counted
returns-clause-counted c = c.in_ok-book.ensures.posts ∙ sym (ap posts_in c.in_ok-book.ensures.history)
