use Rattle.std.proofs.Common.{◌∙◌, ap}
use Rattle.clap.specs.Simple.{app_of, with_rule}
use Rattle.cli_words.specs.Commands.{option_rule}
use Rattle.cli_words.proofs.Turns.{folded, named}
use Rattle.cli_words.proofs.commands.with_options.Goals as goal

pub loop-option-preserved : goal.loop-option-preserved
loop-option-preserved c =
    let rule = named c.new.result c.long.result _ _ c.new.ensures.rule c.long.ensures in
    let turn = c.in_ok-command.ensures.shape (ap (λ a. a.global) c.long.ensures ∙ c.new.ensures.optional.1) ∙ ap (with_rule (app_of c.loop-option.command)) rule in
    folded (λ app option. with_rule app (option_rule option.0.now option.1.now)) (app_of c.loop-option.command) (app_of c.in_ok-command.command) _ c.args.options.now c.loop-option.option-index _ c.loop-option-test.true turn c.loop-option.invariant
