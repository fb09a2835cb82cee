use Rattle.std.proofs.Common.{◌∙◌, ap}
use Rattle.clap.specs.Simple.{app_of, new_rule, with_rule}
use Rattle.cli_words.proofs.Turns.{folded}
use Rattle.cli_words.proofs.commands.with_places.Goals as goal

pub loop-id-preserved : goal.loop-id-preserved
loop-id-preserved c =
    let turn = c.in_ok-command.ensures.shape c.new.ensures.optional.1 ∙ ap (with_rule (app_of c.loop-id.command)) c.new.ensures.rule in
    folded (λ app id. with_rule app (new_rule id.now)) (app_of c.loop-id.command) (app_of c.in_ok-command.command) _ c.args.ids.now c.loop-id.id-index _ c.loop-id-test.true turn c.loop-id.invariant
