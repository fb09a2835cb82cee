use Rattle.std.proofs.Common.{rules}
use Rattle.gss_client.specs.Judging.{answer_value}
use Rattle.gss_client.proofs.Finishing.{no-width, no-mic, finished}
use Rattle.gss_client.proofs.creation.demand_done.Goals as goal

pub returns-then-granted-eq0 : goal.returns-then-granted-eq0
returns-then-granted-eq0 c = no-width (record { answer = answer_value c.args.answer.now; result = c.args.granted.now }) c.args.outcome.now (search rules) (search rules)

pub returns-then-not-is_verified : goal.returns-then-not-is_verified
returns-then-not-is_verified c = no-mic (record { answer = answer_value c.args.answer.now; result = c.args.granted.now }) c.args.outcome.now (search rules) (search rules) (search rules)

pub returns : goal.returns
returns c = finished (record { answer = answer_value c.args.answer.now; result = c.args.granted.now }) c.args.outcome.now (search rules) (search rules) (search rules)
