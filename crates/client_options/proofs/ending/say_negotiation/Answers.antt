use Rattle.std.proofs.Common.{sym}
use Rattle.client_options.proofs.ending.say_negotiation.Goals as goal

pub returns-clause-said : goal.returns-clause-said
returns-clause-said g c = λ t. rw (sym c.number-number.ensures) (c.say_made.ensures.said t _ c.format.ensures.ok)
