use Rattle.aes_cts.specs.State.{sub_column, shift_rows, sub_bytes}
use Rattle.aes_cts.specs.Words.{state_of}
use Rattle.aes_cts.proofs.columns.last_round.Goals as goal

pub returns : goal.returns
unfolding state_of shift_rows sub_bytes sub_column
returns c = rw (c.substitute.ensures, c.substitute-2.ensures, c.substitute-3.ensures, c.substitute-4.ensures) at c.add.ensures
