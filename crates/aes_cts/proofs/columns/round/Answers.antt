use Rattle.std.proofs.Common.{refl}
use Rattle.aes_cts.specs.State.{add_state, sub_column, mix_columns, shift_rows, sub_bytes}
use Rattle.aes_cts.specs.Words.{state_of, state_at}
use Rattle.aes_cts.proofs.columns.round.Goals as goal

pub returns : goal.returns
unfolding state_of state_at add_state mix_columns shift_rows sub_bytes sub_column
returns c = rw (c.mix.ensures, c.mix-2.ensures, c.mix-3.ensures, c.mix-4.ensures) refl
