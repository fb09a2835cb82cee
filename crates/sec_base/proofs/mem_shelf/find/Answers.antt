use Rattle.std.proofs.Common.{◌≡◌, ◌∙◌, sym, ap, arith, true, false, eqb, Some}
use lib.Pointwise.{pointwise}
use Rattle.sec_base.proofs.Shelves.{found, passed}
use Rattle.sec_base.proofs.mem_shelf.find.Goals as goal

pub returns-then-is_named : goal.returns-then-is_named
returns-then-is_named c =
    let file = c.file-item.result in
    let name = c.args.name.now in
    let same : pointwise eqb file.name name ≡ true = cc (c.is_named.ensures, c.if-is_named.true) in
    ap Some c.as_slice.ensures ∙ sym (c.loop-file.invariant ∙ found c.args.files.now name c.loop-file.file-index file (omega arith) c.file-item.is same)

pub loop-file-preserved : goal.loop-file-preserved
loop-file-preserved c =
    let file = c.file-item.result in
    let name = c.args.name.now in
    let other : pointwise eqb file.name name ≡ false = cc (c.is_named.ensures, c.if-is_named.false) in
    c.loop-file.invariant ∙ passed c.args.files.now name c.loop-file.file-index file (omega arith) c.file-item.is other
