use Rattle.aes_cts.specs.State.{add_state}
use Rattle.aes_cts.specs.Words.{state_of, state_at}
use Rattle.aes_cts.proofs.Octets.{column_of-xor}
use Rattle.aes_cts.proofs.columns.add.Goals as goal

pub returns : goal.returns
unfolding state_of state_at add_state
returns c = simp column_of-xor
