use Rattle.std.proofs.Common.{◌≡◌, ◌++◌, drop}
use Rattle.krb_files.specs.Names.{are_texts}
use Rattle.krb_files.proofs.names.texts_in.Given as goal

abbrev pub invariant-loop-part : goal.invariant-loop-part
invariant-loop-part l = record {
  copied : l.texts.items ++ drop l.part-index l.parts ≡ l.parts;
  rest : are_texts (drop l.part-index l.parts) ≡ are_texts l.parts;
}
