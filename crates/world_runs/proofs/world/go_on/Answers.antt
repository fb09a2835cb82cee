use Rattle.std.proofs.Common.{rules, ap, sym, ◌∙◌, Some}
use Rattle.std.proofs.lemmas.Option.{slice_get-get_or}
use Rattle.world_runs.specs.Turning.{happened_of}
use Rattle.world_runs.proofs.Turns.{gone-on}
use Rattle.world_runs.proofs.world.go_on.Goals as goal

pub returns : goal.returns
returns c =
    rw (c.replace.ensures.after, c.replace-in-Some.ensures.after)
    (gone-on c.args.lanes.now.items c.args.lane c.args.taken (happened_of c.step-moves.result.happened) c.args.book.now c.in-Some.held c.step-moves.result.book c.take-before.result
    c.step-moves.result.lane c.take-before.new.self
    (slice_get-get_or c.args.lanes.now.items c.args.lane _ (search rules) ∙ ap (λ s. Some s) (sym (c.take-before.ensures.value ∙ c.index_mut.ensures.value)))
    (search rules)
    (rw (sym c.hand_or-hand.ensures) c.step-moves.ensures)
    c.log-log.ensures.replays)
