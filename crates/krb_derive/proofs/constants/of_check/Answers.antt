use Rattle.std.proofs.Common.{sym}
use Rattle.krb_derive.proofs.FoldedConstants.{acceptor_seal_check, acceptor_sign_check, initiator_seal_check, initiator_sign_check}
use Rattle.krb_derive.proofs.constants.of_check.Goals as goal

pub returns-in-22 : goal.returns-in-22
returns-in-22 c = rw c.in-22.is (sym acceptor_seal_check)

pub returns-in-23 : goal.returns-in-23
returns-in-23 c = rw c.in-23.is (sym acceptor_sign_check)

pub returns-in-24 : goal.returns-in-24
returns-in-24 c = rw c.in-24.is (sym initiator_seal_check)

pub returns-in-25 : goal.returns-in-25
returns-in-25 c = rw c.in-25.is (sym initiator_sign_check)
