use Rattle.std.proofs.Common.{◌≡◌, drop, fold}
use Rattle.clap.specs.Simple.{app_of, with_rule}
use Rattle.cli_words.specs.Commands.{option_rule}
use Rattle.cli_words.proofs.commands.with_options.Given as goal

abbrev pub invariant-loop-option : goal.invariant-loop-option
invariant-loop-option l =
    fold (λ app option. with_rule app (option_rule option.0.now option.1.now)) (app_of l.command) (drop l.option-index l.options) ≡ fold (λ app option. with_rule app (option_rule option.0.now option.1.now)) (app_of l.fn.command) l.fn.options
