use Rattle.krb_derive.proofs.Opened.{kept_opens}
use Rattle.krb_derive.proofs.sealing.SealKeys.open.Goals as goal

pub returns-in-Err-clause-undoes : goal.returns-in-Err-clause-undoes
returns-in-Err-clause-undoes c = λ key usage confounder plain kept long small e. kept_opens c.args.self.now key usage confounder plain c.args.bytes.now kept long small e
