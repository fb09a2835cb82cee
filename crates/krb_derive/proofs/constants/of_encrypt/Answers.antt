use Rattle.std.proofs.Common.{sym}
use Rattle.krb_derive.proofs.FoldedConstants.{ticket_encrypt, authenticator_encrypt, reply_encrypt, acceptor_seal_encrypt, initiator_seal_encrypt}
use Rattle.krb_derive.proofs.constants.of_encrypt.Goals as goal

pub returns-in-2 : goal.returns-in-2
returns-in-2 c = rw c.in-2.is (sym ticket_encrypt)

pub returns-in-11 : goal.returns-in-11
returns-in-11 c = rw c.in-11.is (sym authenticator_encrypt)

pub returns-in-12 : goal.returns-in-12
returns-in-12 c = rw c.in-12.is (sym reply_encrypt)

pub returns-in-22 : goal.returns-in-22
returns-in-22 c = rw c.in-22.is (sym acceptor_seal_encrypt)

pub returns-in-24 : goal.returns-in-24
returns-in-24 c = rw c.in-24.is (sym initiator_seal_encrypt)
