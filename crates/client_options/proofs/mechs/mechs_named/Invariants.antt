use Rattle.std.proofs.Common.{◌≡◌, drop}
use Rattle.cli_base.specs.Words.{texts}
use Rattle.client_options.specs.Mechs.{mechs_named}
use Rattle.client_options.proofs.Naming.{behind}
use Rattle.client_options.proofs.mechs.mechs_named.Given as goal

abbrev pub invariant-loop-word : goal.invariant-loop-word
invariant-loop-word l = behind l.list.items (mechs_named (texts (drop l.word-index l.words))) ≡ mechs_named (texts l.words)
