use Rattle.server_laws.proofs.Headlines.{server-headline}
use Rattle.server_laws.proofs.headline.prove_server_headline.Goals as goal

pub returns : goal.returns
returns g c = server-headline c.prove_laws.ensures c.prove_headline.ensures g.F.Shelf g.V.Program g.W.Speller g.P.Port g.P.Link.Link g.C.Clock g.D.Draw g.K.Keeper g.S.Keeper
