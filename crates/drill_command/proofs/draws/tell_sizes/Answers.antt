use Rattle.std.proofs.Common.{◌∙◌, ap, sym, arith, Some}
use Rattle.std.proofs.lemmas.Option.{slice_get-get_or}
use Rattle.drill_command.proofs.Counted.{sized-more, sized-all}
use Rattle.drill_command.proofs.draws.tell_sizes.Goals as goal

pub loop-one-preserved : goal.loop-one-preserved
loop-one-preserved c =
    sized-more c.args.kept.now c.loop-one.one-index c.one-item.result
    (slice_get-get_or c.args.kept.now c.loop-one.one-index c.one-item.result c.loop-one-test.true ∙ ap Some (sym c.one-item.is)) c.tell_size.ensures c.loop-one.invariant

pub returns : goal.returns
returns c = sized-all c.args.kept.now c.loop-one.one-index (omega (arith, c.loop-one-test.false, c.loop-one.auto.one-index-end)) c.loop-one.invariant
