use Rattle.std.proofs.Common.{ℕ, List, take, get_or, sym, subst}
use Rattle.std.proofs.lemmas.List.{take_more}
use Rattle.replay_journal.specs.Disks.{Torn}
use Rattle.replay_journal.specs.Images.{MayLeave}
use Rattle.replay_journal.specs.declared.memory.Range.{Range}
use Rattle.replay_journal.proofs.Stages.{more-leaves}
use Rattle.replay_journal.proofs.memory.image_of.Goals as goal

pub loop-range-preserved : goal.loop-range-preserved
loop-range-preserved c =
    let none : Range = record { at = 0; count = 0 } in
    let range : Range = get_or c.args.ranges.now c.loop-range.range-index none in
    subst (λ (rs : List Range). MayLeave c.args.base.now rs c.in_ok-torn.torn.items) (sym (take_more c.args.ranges.now c.loop-range.range-index none c.loop-range-test.true))
    (more-leaves c.args.base.now (take c.loop-range.range-index c.args.ranges.now) range c.loop-range.image.items c.in_ok-torn.torn.items c.loop-range.invariant
    (subst (λ (l : List ℕ). Torn range.at range.count l c.in_ok-torn.torn.items) c.deref.ensures.value c.in_ok-torn.ensures))
