use Rattle.std.proofs.Common.{◌≡◌, drop, fold}
use Rattle.clap.specs.Simple.{app_of, new_rule, with_rule}
use Rattle.cli_words.proofs.commands.with_places.Given as goal

abbrev pub invariant-loop-id : goal.invariant-loop-id
invariant-loop-id l =
    fold (λ app id. with_rule app (new_rule id.now)) (app_of l.command) (drop l.id-index l.ids) ≡ fold (λ app id. with_rule app (new_rule id.now)) (app_of l.fn.command) l.fn.ids
