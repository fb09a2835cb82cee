use Rattle.spnego_core.specs.Tokens.{resp_octets}
use Rattle.spnego_core.specs.Initiating.{token_sent}
use Rattle.spnego_core.proofs.ShortInit.{if_short, token_short}
use Rattle.spnego_core.proofs.init_reply.token_sent.Goals as goal

pub returns-clause-short : goal.returns-clause-short
returns-clause-short c = λ h. if_short c.resp_octets.result (resp_octets (token_sent c.args.token)) c.resp_octets.ensures (token_short c.args.token h)
