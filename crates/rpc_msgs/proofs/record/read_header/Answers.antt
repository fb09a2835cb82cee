use Rattle.rpc_msgs.proofs.record.read_header.Goals as goal

-- what the link keeps, by what was called last
pub returns-in-Ok-2-clause-tells : goal.returns-in-Ok-2-clause-tells
returns-in-Ok-2-clause-tells g c = c.in-Ok.ensures.tells

pub returns-in-Ok-2-clause-unclosed : goal.returns-in-Ok-2-clause-unclosed
returns-in-Ok-2-clause-unclosed g c = c.in-Ok.ensures.unclosed

pub returns-in-Ok-2-clause-faults : goal.returns-in-Ok-2-clause-faults
returns-in-Ok-2-clause-faults g c = c.in-Ok.ensures.faults

pub returns-in-Err-clause-tells : goal.returns-in-Err-clause-tells
returns-in-Err-clause-tells g c = c.in-Err.ensures.tells

pub returns-in-Err-clause-unclosed : goal.returns-in-Err-clause-unclosed
returns-in-Err-clause-unclosed g c = c.in-Err.ensures.unclosed

pub returns-in-Err-clause-faults : goal.returns-in-Err-clause-faults
returns-in-Err-clause-faults g c = c.in-Err.ensures.faults
