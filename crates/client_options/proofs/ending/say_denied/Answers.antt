use Rattle.client_options.proofs.ending.say_denied.Goals as goal

pub returns-clause-said : goal.returns-clause-said
returns-clause-said g c = λ t. c.say_made.ensures.said t _ c.denial_text.ensures
