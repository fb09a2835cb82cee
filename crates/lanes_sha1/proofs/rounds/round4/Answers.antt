use Rattle.std.proofs.Common.{ℕ, refl, sym, arith, slice_index}
use Rattle.sha1.specs.Sha1.{schedule}
use Rattle.lanes_sha1.specs.Lanes.{lane, words_of}
use Rattle.lanes_sha1.specs.Stages.{function_of}
use Rattle.lanes_sha1.proofs.LaneLemmas.{splat_each, slice_index-words}
use Rattle.lanes_sha1.proofs.Compressing.{round_more}
use Rattle.lanes_sha1.proofs.rounds.round4.Goals as goal

pub returns : goal.returns
returns c = λ j lt block h written begun.
    let v = lane j c.args.working in
    let f : ℕ = function_of c.args.function (slice_index v 1) (slice_index v 2) (slice_index v 3) in
    round_more h (schedule block 64) v _ c.args.t f c.args.constant (slice_index (words_of j c.args.words.now) c.args.t) begun
    (sym (c.requires.round.1 (slice_index v 1) (slice_index v 2) (slice_index v 3))) (sym c.requires.round.0) (written c.args.t (omega arith))
    (rw (
      c.add-first.ensures j lt,
      c.add-2.ensures j lt,
      c.add-turned.ensures j lt,
      c.add.ensures j lt,
      c.rotate.ensures j lt,
      c.applied.ensures j lt,
      c.rotate-2.ensures j lt,
      splat_each c.args.constant j lt,
      slice_index-words j c.args.words.now c.args.t,
    ) refl)
