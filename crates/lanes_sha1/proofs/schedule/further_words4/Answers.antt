use Rattle.std.proofs.Common.{◌≡◌, ◌+◌, ◌∙◌, arith}
use Rattle.std.proofs.lemmas.List.{length-set}
use Rattle.lanes_sha1.proofs.Compressing.{further_more}
use Rattle.lanes_sha1.proofs.schedule.further_words4.Goals as goal

pub further-init : goal.further-init
further-init c = (c.told-words, λ j lt block before. before)

pub further-preserved : goal.further-preserved
further-preserved c = (
  length-set c.further.words c.further.t c.derived.result ∙ c.further.invariant.0,
  λ j lt block before. further_more j block c.further.words c.further.t c.derived.result
      (omega arith) (omega arith) c.further.invariant.0 (c.derived.ensures j lt) (c.further.invariant.1 j lt block before),
)

pub returns : goal.returns
returns c =
    let e : c.further.t ≡ c.args.first + 5 = omega arith in
    rw e at c.further.invariant.1
