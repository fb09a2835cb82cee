use Rattle.std.proofs.Common.{◌≡◌, ◌++◌, ℕ, List, true, arith, ap, ◌∙◌}
use Rattle.std.specs.Str.{is_utf8}
use Rattle.std.proofs.lemmas.Str.{is_utf8-from_IsUtf8}
use Rattle.files_command.specs.Fields.{counted}
use Rattle.files_command.proofs.PartSteps.{split, written_on, texts_on, short_on}
use Rattle.files_command.proofs.fields.put_parts.Goals as goal

pub put_counted-requires-clause-length : goal.put_counted-requires-clause-length
put_counted-requires-clause-length c =
    let part : List ℕ = c.part-item.result in
    let next = split c.args.parts.now c.loop-part.part-index part (omega arith) c.part-item.is in
    let short = (short_on _ _ part next c.loop-part.invariant.short).0 in
    rw (c.as_bytes.ensures.value, c.as_str.ensures) (omega (arith, short))

pub loop-part-preserved : goal.loop-part-preserved
loop-part-preserved c =
    let part : List ℕ = c.part-item.result in
    let next = split c.args.parts.now c.loop-part.part-index part (omega arith) c.part-item.is in
    let same : c.as_bytes.result.now ≡ part = c.as_bytes.ensures.value ∙ c.as_str.ensures in
    let text : is_utf8 part ≡ true = rw (← c.as_str.ensures) (is_utf8-from_IsUtf8 c.as_str.result.now c.as_str.utf8) in
    record {
      written = written_on c.args.size c.loop-part.out.items c.put_counted.new.out.items part _ _ _ next (c.in_ok-put_counted.ensures ∙ ap (λ (os : List ℕ). c.loop-part.out.items ++ counted c.args.size os) same) c.loop-part.invariant.written;
      texts = texts_on _ _ c.args.parts.now part next text c.loop-part.invariant.texts;
      short = (short_on _ _ part next c.loop-part.invariant.short).1;
    }
