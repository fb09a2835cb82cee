use Rattle.rpc_msgs.proofs.Readings.{finds}
use Rattle.rpc_msgs.proofs.record.next_record.Goals as goal

pub returns-clause-reading : goal.returns-clause-reading
returns-clause-reading g c = λ t. finds (g.L.Link.tells c.args.link.now) (g.L.Link.wire c.args.link.now) (g.L.Link.wire c.read_record.new.link) c.read_record.result t c.read_record.ensures.told
