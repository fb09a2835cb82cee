use Rattle.std.proofs.Common.{refl}
use Rattle.aes_cts.specs.State.{add_state, inverse_sub_column, inverse_mix_columns, inverse_shift_rows, inverse_sub_bytes}
use Rattle.aes_cts.specs.Words.{state_of, state_at}
use Rattle.aes_cts.proofs.columns.inverse_round.Goals as goal

pub returns : goal.returns
unfolding state_of state_at add_state inverse_mix_columns inverse_shift_rows inverse_sub_bytes inverse_sub_column
returns c = rw (c.unmix.ensures, c.unmix-2.ensures, c.unmix-3.ensures, c.unmix-4.ensures) refl
