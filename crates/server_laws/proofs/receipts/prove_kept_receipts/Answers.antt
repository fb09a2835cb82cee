use Rattle.std.proofs.Common.{refl}
use Rattle.server_laws.proofs.Keepers.{kept-law, kept-receipts}
use Rattle.server_laws.proofs.receipts.prove_kept_receipts.Goals as goal

pub returns-clause-record : goal.returns-clause-record
returns-clause-record g c = kept-law

pub returns-clause-keeps : goal.returns-clause-keeps
returns-clause-keeps g c = λ one. refl

pub returns-clause-run : goal.returns-clause-run
returns-clause-run g c = kept-receipts g.V.Program g.W.Speller g.P.Port g.P.Link.Link g.C.Clock g.D.Draw _ g.S.Keeper
