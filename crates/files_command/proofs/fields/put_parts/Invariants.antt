use Rattle.std.proofs.Common.{◌≡◌, ◌++◌, drop}
use Rattle.std.specs.List.{flat_map}
use Rattle.krb_files.specs.Names.{are_texts}
use Rattle.files_command.specs.Fields.{counted, AreShort}
use Rattle.files_command.proofs.fields.put_parts.Given as goal

abbrev pub invariant-loop-part : goal.invariant-loop-part
invariant-loop-part l = record {
  written : l.out.items ++ flat_map (counted l.size) (drop l.part-index l.parts) ≡ l.fn.out.items ++ flat_map (counted l.size) l.parts;
  texts : are_texts (drop l.part-index l.parts) ≡ are_texts l.parts;
  short : AreShort (drop l.part-index l.parts);
}
