use Rattle.std.proofs.Common.{◌<◌, ◌+◌, ◌∙◌, length, arith, sym}
use Rattle.std.proofs.lemmas.Result.{err_from_is_err_and}
use Rattle.scram_mech.proofs.Lines.{starts, is_done, is_full, fails, goes_on}
use Rattle.scram_mech.proofs.verifiers.read_lines.Goals as goal

pub loop-count-init : goal.loop-count-init
loop-count-init c = rw (c.new-lines.ensures.items, c.new-cursor.ensures) (starts (length c.args.bytes.now) 1 c.args.bytes.now)

pub returns-then-left-eq0 : goal.returns-then-left-eq0
returns-then-left-eq0 c =
    is_done _ _ c.loop-count.cursor c.loop-count.lines.items _ (sym c.left.ensures ∙ c.if-left-eq0.true) c.loop-count.invariant

pub returns-in_err-line : goal.returns-in_err-line
returns-in_err-line c =
    let p = err_from_is_err_and c.from_residual.result c.from_residual.ensures.1 in
    let some : 0 < length c.loop-count.cursor = omega (arith, c.left.ensures, c.if-left-eq0.false) in
    rw (p.1, p.2) (λ kept. fails (length c.args.bytes.now) c.loop-count.count (c.loop-count.count + 1) c.loop-count.cursor c.loop-count.lines.items _ c.in_err-line.field-0.0 c.loop-count-test.true some (c.in_err-line.ensures.read kept) c.loop-count.invariant)

pub loop-count-preserved : goal.loop-count-preserved
loop-count-preserved c =
    let some : 0 < length c.loop-count.cursor = omega (arith, c.left.ensures, c.if-left-eq0.false) in
    rw c.in_ok-push.ensures.items (goes_on (length c.args.bytes.now) c.loop-count.count (c.loop-count.count + 1) c.loop-count.cursor c.read_line.new.cursor c.loop-count.lines.items c.in_ok-line.line _ c.loop-count-test.true some c.in_ok-line.ensures.read c.loop-count.invariant)

pub returns : goal.returns
returns c = is_full _ _ c.loop-count.cursor c.loop-count.lines.items _ (omega (arith, c.loop-count-test.false)) c.loop-count.invariant
