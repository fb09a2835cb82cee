use Rattle.files_command.proofs.UsageLine.{told_usage}
use Rattle.files_command.proofs.running.deliver.Goals as goal

pub returns-in-Err-Usage-clause-told : goal.returns-in-Err-Usage-clause-told
returns-in-Err-Usage-clause-told g c = λ t. told_usage _ _ c.say.result (c.say.ensures.said t) c.say.ensures.status
