use Rattle.std.proofs.Common.{sym, ◌∙◌, arith, ◌≡◌, ◌<◌, ◌-◌, suc, length}
use Rattle.std.proofs.lemmas.Bool.Decides.{nat_tests}
use Rattle.sec_base.proofs.GivenInMemory.{moment_after-within, moment_after-past}
use Rattle.sec_base.proofs.mem_clock.moment_at.Goals as goal

pub returns-then-count-moments : goal.returns-then-count-moments
returns-then-count-moments c =
    c.index-moments-count.is ∙ sym (moment_after-within c.args.moments.now 0 c.args.count c.index-moments-count.result (omega arith))

pub returns : goal.returns
returns c =
    let ms = c.args.moments.now in
    let some : 0 < length ms = grind (arith, nat_tests, c.is_empty.ensures, c.if-is_empty.false) in
    let last : suc (length ms - 1) ≡ length ms = omega arith in
    c.index-moments-moments.is ∙ sym (moment_after-past ms 0 c.args.count (length ms - 1) c.index-moments-moments.result last (omega arith))
