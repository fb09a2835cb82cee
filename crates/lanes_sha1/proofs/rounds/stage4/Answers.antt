use Rattle.std.proofs.Common.{ℕ, ◌+◌, ◌*◌, arith}
use Rattle.sha1.specs.Sha1.{schedule}
use Rattle.lanes_sha1.specs.Lanes.{words_of}
use Rattle.lanes_sha1.specs.Stages.{Scheduled}
use Rattle.lanes_sha1.proofs.Compressing.{rounds_at}
use Rattle.lanes_sha1.proofs.rounds.stage4.Goals as goal

pub fives-init : goal.fives-init
fives-init c = λ j lt block h written begun. (
  λ k under. written k (omega arith),
  rounds_at h (schedule block 64) _ c.args.first (c.args.first + 5 * 0) (omega arith) begun,
)

pub fives-preserved : goal.fives-preserved
fives-preserved c = λ j lt block h written begun.
    let t : ℕ = c.args.first + 5 * c.fives.five in
    let held = c.fives.invariant j lt block h written begun in
    let more : Scheduled block (words_of j c.further_words4.new.words) (t + 20 + 5) = c.further_words4.ensures j lt block held.0 in (
      λ k under. more k (omega arith),
      rounds_at h (schedule block 64) _ (t + 5) (c.args.first + 5 * (c.fives.five + 1)) (omega arith)
          (c.five4-turned.ensures j lt block h (λ k under. more k (omega arith)) held.1),
    )

pub returns : goal.returns
returns c = λ j lt block h written begun.
    let held = c.fives.invariant j lt block h written begun in (
      λ k under. held.0 k (omega arith),
      rounds_at h (schedule block 64) _ (c.args.first + 5 * c.fives.five) (c.args.first + 20) (omega arith) held.1,
    )
