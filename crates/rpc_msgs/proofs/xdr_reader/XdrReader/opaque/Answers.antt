use Rattle.std.proofs.Common.{rules, arith, Ok}
use Rattle.rpc_msgs.proofs.XdrLaws.{opaque-read}
use Rattle.rpc_msgs.proofs.xdr_reader.XdrReader.opaque.Goals as goal

pub returns-in_err-octets-clause-only : goal.returns-in_err-octets-clause-only
returns-in_err-octets-clause-only c = opaque-read (λ v. v.now) c.args.limit (omega arith) c.args.self.now c.args.self.now c.from_residual.result (search rules)

pub returns-clause-only : goal.returns-clause-only
returns-clause-only c = opaque-read (λ v. v.now) c.args.limit (omega arith) c.args.self.now _ (Ok c.in_ok-octets.octets) (search rules)
