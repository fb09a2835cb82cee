use Rattle.spnego_core.proofs.Pairs.{begins, at_once, after_mics, bare_begins, bare}
use Rattle.spnego_core.proofs.pair_laws.prove_pair_laws.Goals as goal

pub returns : goal.returns
returns c = record { begins = begins; at_once = at_once; after_mics = after_mics; bare_begins = bare_begins; bare = bare }
