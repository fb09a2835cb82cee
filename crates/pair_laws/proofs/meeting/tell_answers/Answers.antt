use Rattle.std.proofs.Common.{arith, List, ℕ}
use Rattle.std.proofs.lemmas.Option.{slice_get-get_or}
use Rattle.pair_laws.specs.Meeting.{AnswerTold}
use Rattle.pair_laws.proofs.Meetings.{one-more, each-one}
use Rattle.pair_laws.proofs.meeting.tell_answers.Goals as goal

pub loop-drawn-preserved : goal.loop-drawn-preserved
loop-drawn-preserved c =
    one-more (λ (drawn : List ℕ). AnswerTold c.args.stamp c.args.credential.now drawn) c.args.draws.now c.loop-drawn.drawn-index _ c.loop-drawn.invariant (slice_get-get_or c.args.draws.now c.loop-drawn.drawn-index _ c.loop-drawn-test.true) c.in_ok-tell_answer.ensures

pub returns : goal.returns
returns c = each-one (λ (drawn : List ℕ). AnswerTold c.args.stamp c.args.credential.now drawn) c.args.draws.now c.loop-drawn.drawn-index c.loop-drawn.invariant (omega (arith, c.loop-drawn-test.false, c.loop-drawn.auto.drawn-index-end))
