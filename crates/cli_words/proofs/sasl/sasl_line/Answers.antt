use Rattle.std.proofs.Common.{sym, subst}
use Rattle.clap.specs.Simple.{App}
use Rattle.cli_base.specs.Words.{texts}
use Rattle.cli_words.specs.Commands.{IsTaken}
use Rattle.cli_words.proofs.SaslProgram.{sasl-taken}
use Rattle.cli_words.proofs.sasl.sasl_line.Goals as goal

pub read-requires : goal.read-requires
read-requires c = subst (λ (command : App). IsTaken command (texts c.args.words.now)) (sym c.in_ok-command.ensures) (sasl-taken (texts c.args.words.now) c.requires)
