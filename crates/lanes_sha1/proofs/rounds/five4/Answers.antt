use Rattle.std.proofs.Common.{◌≡◌, ◌+◌, arith}
use Rattle.sha1.specs.Sha1.{schedule}
use Rattle.lanes_sha1.specs.Lanes.{lane}
use Rattle.lanes_sha1.specs.Stages.{working_after}
use Rattle.lanes_sha1.proofs.Compressing.{rounds_at}
use Rattle.lanes_sha1.proofs.rounds.five4.Goals as goal

pub returns : goal.returns
returns c = λ j lt block h written begun.
    let t = c.args.t in
    let w = schedule block 64 in
    let one : lane j c.round4-one.result ≡ working_after block h (t + 1) =
    c.round4-one.ensures j lt block h (λ k under. written k (omega arith)) begun in
    let two : lane j c.round4-two.result ≡ working_after block h (t + 2) =
    rounds_at h w _ (t + 1 + 1) (t + 2) (omega arith) (c.round4-two.ensures j lt block h (λ k under. written k (omega arith)) one) in
    let three : lane j c.round4-three.result ≡ working_after block h (t + 3) =
    rounds_at h w _ (t + 2 + 1) (t + 3) (omega arith) (c.round4-three.ensures j lt block h (λ k under. written k (omega arith)) two) in
    let four : lane j c.round4-four.result ≡ working_after block h (t + 4) =
    rounds_at h w _ (t + 3 + 1) (t + 4) (omega arith) (c.round4-four.ensures j lt block h (λ k under. written k (omega arith)) three) in
    rounds_at h w _ (t + 4 + 1) (t + 5) (omega arith) (c.round4.ensures j lt block h (λ k under. written k (omega arith)) four)
