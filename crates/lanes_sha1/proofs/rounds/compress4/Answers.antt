use Rattle.std.proofs.Common.{arith}
use Rattle.sha1.proofs.Schedule.{round_fn_choose, round_constant_choose, round_fn_parity, round_constant_parity, round_fn_majority, round_constant_majority}
use Rattle.sha1.specs.Sha1.{schedule}
use Rattle.lanes_sha1.specs.Lanes.{lane, read_lane}
use Rattle.lanes_sha1.proofs.Compressing.{rounds_none, compress_is}
use Rattle.lanes_sha1.proofs.rounds.compress4.Goals as goal

pub stage4-after20-requires : goal.stage4-after20-requires
stage4-after20-requires c = record {
  within = omega arith;
  rounds = λ t low high. (round_constant_choose t high, λ x y z. round_fn_choose t x y z high);
}

pub stage4-after40-requires : goal.stage4-after40-requires
stage4-after40-requires c = record {
  within = omega arith;
  rounds = λ t low high. (round_constant_parity t low high, λ x y z. round_fn_parity t x y z low high);
}

pub stage4-after60-requires : goal.stage4-after60-requires
stage4-after60-requires c = record {
  within = omega arith;
  rounds = λ t low high. (round_constant_majority t low high, λ x y z. round_fn_majority t x y z low high);
}

pub returns : goal.returns
returns c = λ j lt.
    let h = lane j c.args.states.now in
    let block = read_lane j c.args.blocks.now in
    let first = c.stage4-after20.ensures j lt block h (c.first_words4.ensures j lt) (rounds_none h (schedule block 64)) in
    let second = c.stage4-after40.ensures j lt block h first.0 first.1 in
    let third = c.stage4-after60.ensures j lt block h second.0 second.1 in
    compress_is h block (lane j c.last_stage4-after80.result) _ (c.last_stage4-after80.ensures j lt block h third.0 third.1)
    (c.add_working.ensures j lt)
