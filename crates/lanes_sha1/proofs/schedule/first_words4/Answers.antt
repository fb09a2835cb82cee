use Rattle.std.proofs.Common.{◌≡◌, ◌∙◌, arith}
use Rattle.std.proofs.lemmas.List.{length-set}
use Rattle.lanes_sha1.specs.Lanes.{read_lane}
use Rattle.lanes_sha1.proofs.Compressing.{given_more, further_more}
use Rattle.lanes_sha1.proofs.schedule.first_words4.Goals as goal

pub given-init : goal.given-init
given-init c = (c.told-words, λ j lt k under. absurd (omega arith))

pub given-preserved : goal.given-preserved
given-preserved c = (
  length-set c.given.words c.given.t c.word4.result ∙ c.given.invariant.0,
  λ j lt. given_more j (read_lane j c.args.blocks.now) c.given.words c.given.t c.word4.result
      (omega arith) c.given.invariant.0 (c.word4.ensures j lt) (c.given.invariant.1 j lt),
)

pub further-init : goal.further-init
further-init c =
    let e : c.given.t ≡ 16 = omega arith in
    rw e at c.given.invariant

pub further-preserved : goal.further-preserved
further-preserved c = (
  length-set c.further.words c.further.t c.derived.result ∙ c.further.invariant.0,
  λ j lt. further_more j (read_lane j c.args.blocks.now) c.further.words c.further.t c.derived.result
      (omega arith) (omega arith) c.further.invariant.0 (c.derived.ensures j lt) (c.further.invariant.1 j lt),
)

pub returns : goal.returns
returns c =
    let e : c.further.t ≡ 20 = omega arith in
    rw e at c.further.invariant.1
