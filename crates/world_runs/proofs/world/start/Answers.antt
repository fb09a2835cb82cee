use Rattle.std.proofs.Common.{rules, ap, sym, ◌∙◌, option_map, Some}
use Rattle.std.proofs.lemmas.Option.{slice_get-get_or, slice_get-map}
use Rattle.world_runs.specs.Objects.{stage_means}
use Rattle.world_runs.specs.ObjectMoves.{started_from}
use Rattle.world_runs.specs.Turning.{happened_of}
use Rattle.world_runs.proofs.Turns.{turned_at}
use Rattle.world_runs.proofs.world.start.Goals as goal

pub start_from-moves-requires : goal.start_from-moves-requires
start_from-moves-requires g c =
    c.requires (stage_means c.replace-stage.result (λ b. (goal.Mech-dyn g b).meaning b.1)) (slice_get-map (λ s. stage_means s (λ b. (goal.Mech-dyn g b).meaning b.1)) c.args.stages.now.items c.args.i
    ∙ ap (option_map (λ s. stage_means s (λ b. (goal.Mech-dyn g b).meaning b.1))) (slice_get-get_or c.args.stages.now.items c.args.i _ (search rules) ∙ ap (λ s. Some s) (sym (c.replace-stage.ensures.value ∙ c.index_mut.ensures.value))))

pub returns : goal.returns
returns g c =
    rw c.put.ensures
    (turned_at (λ s. stage_means s (λ b. (goal.Mech-dyn g b).meaning b.1)) started_from (happened_of c.start_from-moves.result.happened) c.args.stages.now.items c.args.i c.replace-stage.result c.start_from-moves.result.stage c.replace-stage.new.dest
    (slice_get-get_or c.args.stages.now.items c.args.i _ (search rules) ∙ ap (λ s. Some s) (sym (c.replace-stage.ensures.value ∙ c.index_mut.ensures.value)))
    c.start_from-moves.ensures)
