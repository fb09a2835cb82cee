use Rattle.std.proofs.Common.{◌≡◌, ◌++◌, drop}
use Rattle.files_command.proofs.making.copies.Given as goal

abbrev pub invariant-loop-part : goal.invariant-loop-part
invariant-loop-part l = l.copies.items ++ drop l.part-index l.parts ≡ l.parts
