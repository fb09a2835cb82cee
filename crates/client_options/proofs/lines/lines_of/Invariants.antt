use Rattle.std.proofs.Common.{◌≡◌, ◌++◌, drop}
use Rattle.client_options.specs.Lines.{lines, result_lines}
use Rattle.client_options.proofs.lines.lines_of.Given as goal

abbrev pub invariant-loop-octets : goal.invariant-loop-octets
invariant-loop-octets l = l.text.items ++ result_lines l.command (drop l.octets-index l.results) ≡ lines l.command l.fn.outcome l.results
