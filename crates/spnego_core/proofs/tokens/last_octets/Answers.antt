use Rattle.spnego_core.specs.Tokens.{last_octets}
use Rattle.spnego_core.proofs.Short.{last_short}
use Rattle.spnego_core.proofs.ShortInit.{if_short}
use Rattle.spnego_core.proofs.tokens.last_octets.Goals as goal

pub returns-clause-short : goal.returns-clause-short
returns-clause-short c = if_short c.last_written.result (last_octets c.args.state) c.last_written.ensures (last_short c.args.state)
