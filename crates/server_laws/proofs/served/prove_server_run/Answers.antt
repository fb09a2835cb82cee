use Rattle.server_laws.proofs.Desks.{server-run}
use Rattle.server_laws.proofs.Openings.{opened, book-run}
use Rattle.server_laws.proofs.served.prove_server_run.Goals as goal

pub returns-clause-opened : goal.returns-clause-opened
returns-clause-opened g c = opened

pub returns-clause-book : goal.returns-clause-book
returns-clause-book g c = book-run

pub returns-clause-run : goal.returns-clause-run
returns-clause-run g c = server-run g.V.Program g.W.Speller g.P.Port g.P.Link.Link g.C.Clock g.D.Draw g.K.Keeper g.S.Keeper
