use Rattle.std.proofs.Common.{refl, ◌∙◌}
use Rattle.aes_cts.specs.State.{state_octets, column_of}
use Rattle.aes_cts.specs.Words.{state_of}
use Rattle.aes_cts.proofs.Octets.{to_be_bytes-octets}
use Rattle.aes_cts.proofs.columns.block_of.Goals as goal

pub returns : goal.returns
unfolding state_of state_octets column_of
returns c =
    let first = c.to_be_bytes-first.ensures ∙ to_be_bytes-octets c.args.state.first in
    let second = c.to_be_bytes-second.ensures ∙ to_be_bytes-octets c.args.state.second in
    let third = c.to_be_bytes-third.ensures ∙ to_be_bytes-octets c.args.state.third in
    let fourth = c.to_be_bytes-fourth.ensures ∙ to_be_bytes-octets c.args.state.fourth in
    rw (
      c.copy_from_slice.ensures.after ∙ first,
      c.copy_from_slice-2.ensures.after ∙ second,
      c.copy_from_slice-3.ensures.after ∙ third,
      c.copy_from_slice-4.ensures.after ∙ fourth,
    ) refl
