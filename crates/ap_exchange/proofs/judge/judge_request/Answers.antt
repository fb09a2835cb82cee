use Rattle.std.proofs.Common.{rules}
use Rattle.ap_exchange.specs.Opening.{judged_by_parts}
use Rattle.ap_exchange.proofs.Opening.{judged_in_parts}
use Rattle.ap_exchange.proofs.judge.judge_request.Goals as goal

pub returns-in_err-request : goal.returns-in_err-request
unfolding judged_by_parts
returns-in_err-request c = rw judged_in_parts (search rules)

pub returns-in-Ok : goal.returns-in-Ok
unfolding judged_by_parts
returns-in-Ok c = rw judged_in_parts (search rules)

pub returns-in-Err : goal.returns-in-Err
unfolding judged_by_parts
returns-in-Err c = rw judged_in_parts (search rules)
