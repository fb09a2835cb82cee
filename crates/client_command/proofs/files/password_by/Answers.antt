use Rattle.std.proofs.Common.{◌∙◌, refl}
use Rattle.cli_base.specs.declared.files.FileStop.TheVariants.{Bad}
use Rattle.client_command.proofs.Password.{texts, no-text}
use Rattle.client_command.proofs.files.password_by.Goals as goal

pub returns-in-Ok-of-clause-value : goal.returns-in-Ok-of-clause-value
returns-in-Ok-of-clause-value c = texts c.args.octets.now c.in-Ok.text.now c.in-Ok-of.password c.in-Ok.ensures.cases.0 c.in-Ok.ensures.cases.1 (c.in-Ok-of.ensures ∙ c.less_feed.ensures)

pub returns-in-Err-clause-value : goal.returns-in-Err-clause-value
returns-in-Err-clause-value c = λ other. no-text c.args.octets.now c.valid_up_to.result c.in-Err.ensures.cases.0 (c.valid_up_to.ensures ∙ c.in-Err.ensures.valid_len)

pub returns-in-Err-clause-stop : goal.returns-in-Err-clause-stop
returns-in-Err-clause-stop c = (Bad c.valid_up_to.result, refl)
