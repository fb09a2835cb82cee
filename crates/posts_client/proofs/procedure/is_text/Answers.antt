use Rattle.posts_client.proofs.Texts.{is-text, is-no-text}
use Rattle.posts_client.proofs.procedure.is_text.Goals as goal

pub returns-in-Ok : goal.returns-in-Ok
returns-in-Ok c = is-text c.args.octets.now c.in-Ok.ensures.cases.1

pub returns-in-Err : goal.returns-in-Err
returns-in-Err c = is-no-text c.args.octets.now c.in-Err.ensures.cases.0
