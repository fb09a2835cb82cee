use Rattle.gss_server.proofs.KeptInARow.{makes-so}
use Rattle.gss_server.proofs.OneReading.{comes}
use Rattle.gss_server.proofs.connection.serve_link.Goals as goal

pub returns-clause-always : goal.returns-clause-always
returns-clause-always g c = λ t expected ends fault memory known.
    let s = c.serve-end.ensures.served.holds.1 in
    comes c.serve-end.result expected t s.wire s.counts (rw c.close.ensures.told at ends) fault memory known

pub returns-clause-served : goal.returns-clause-served
returns-clause-served g c = makes-so c.serve-end.ensures.served (λ xs p. (p.0, rw c.close.ensures.told p.1))
