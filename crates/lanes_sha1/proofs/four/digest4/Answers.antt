use Rattle.std.proofs.Common.{[], refl}
use Rattle.sha1.specs.Sha1.{hash_after}
use Rattle.lanes_sha1.proofs.LaneLemmas.{splat_each}
use Rattle.lanes_sha1.proofs.four.digest4.Goals as goal

pub returns : goal.returns
unfolding hash_after
returns c = λ j lt.
    c.finish4.ensures j lt [] (rw (splat_each 0 j lt) refl) (rw (splat_each 0 j lt) (c.first_states.ensures j lt))
