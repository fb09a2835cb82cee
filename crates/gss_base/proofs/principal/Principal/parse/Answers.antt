use Rattle.std.proofs.Common.{◌∙◌, ap}
use Rattle.gss_base.specs.Signs.{parsed}
use Rattle.gss_base.proofs.Spelling.{parsed-form}
use Rattle.gss_base.proofs.principal.Principal.parse.Goals as goal

pub returns-clause-again : goal.returns-clause-again
returns-clause-again c = λ realm parts named same. rw (← (ap parsed same ∙ parsed-form realm parts named)) c.named_by.ensures.exact
