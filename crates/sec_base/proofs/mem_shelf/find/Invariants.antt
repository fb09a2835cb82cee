use Rattle.std.proofs.Common.{◌≡◌, drop}
use Rattle.sec_base.specs.Shelf.{content_of}
use Rattle.sec_base.proofs.mem_shelf.find.Given as goal

abbrev pub invariant-loop-file : goal.invariant-loop-file
invariant-loop-file l = content_of l.files l.name ≡ content_of (drop l.file-index l.files) l.name
