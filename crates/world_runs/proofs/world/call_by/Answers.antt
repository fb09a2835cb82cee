use Rattle.std.proofs.Common.{rules, ap, sym, ◌∙◌, Some}
use Rattle.std.proofs.lemmas.Option.{slice_get-get_or}
use Rattle.world_runs.specs.Objects.{stage_means}
use Rattle.world_runs.specs.ObjectMoves.{called_from}
use Rattle.world_runs.specs.Turning.{happened_of}
use Rattle.world_runs.proofs.Turns.{turned_at}
use Rattle.world_runs.proofs.world.call_by.Goals as goal

pub returns : goal.returns
returns g c =
    rw c.put.ensures
    (turned_at (λ s. stage_means s (λ b. (goal.Mech-dyn g b).meaning b.1)) (called_from c.args.procedure c.args.args.now) (happened_of c.call_from-moves.result.happened) c.args.stages.now.items c.args.i c.replace-stage.result c.call_from-moves.result.stage c.replace-stage.new.dest
    (slice_get-get_or c.args.stages.now.items c.args.i _ (search rules) ∙ ap (λ s. Some s) (sym (c.replace-stage.ensures.value ∙ c.index_mut.ensures.value)))
    c.call_from-moves.ensures)
