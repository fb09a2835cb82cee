use Rattle.server_laws.proofs.Questions.{questions}
use Rattle.server_laws.proofs.served.prove_questions.Goals as goal

pub returns : goal.returns
returns g c = questions g.W.Speller g.P.Port g.P.Link.Link g.C.Clock g.D.Draw g.K.Keeper g.S.Keeper
