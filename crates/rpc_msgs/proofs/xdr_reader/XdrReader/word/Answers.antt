use Rattle.std.proofs.Common.{rules, Ok}
use Rattle.rpc_msgs.proofs.XdrLaws.{word-read}
use Rattle.rpc_msgs.proofs.xdr_reader.XdrReader.word.Goals as goal

pub returns-in_err-number-clause-only : goal.returns-in_err-number-clause-only
returns-in_err-number-clause-only c = word-read (λ v. v) c.args.self.now c.args.self.now c.from_residual.result (search rules)

pub returns-clause-only : goal.returns-clause-only
returns-clause-only c = word-read (λ v. v) c.args.self.now _ (Ok c.in_ok-number.number) (search rules)
