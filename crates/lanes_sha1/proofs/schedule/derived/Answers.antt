use Rattle.std.proofs.Common.{◌-◌, refl}
use Rattle.lanes_sha1.proofs.LaneLemmas.{slice_index-words}
use Rattle.lanes_sha1.proofs.schedule.derived.Goals as goal

pub returns : goal.returns
returns c = λ j lt.
    let w = c.args.words.now in
    let t = c.args.t in
    rw (slice_index-words j w (t - 3), slice_index-words j w (t - 8), slice_index-words j w (t - 14), slice_index-words j w (t - 16))
    (rw (c.rotate.ensures j lt, c.xor-2.ensures j lt, c.xor.ensures j lt, c.xor-late.ensures j lt) refl)
