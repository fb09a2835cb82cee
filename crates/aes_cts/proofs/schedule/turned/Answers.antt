use Rattle.std.proofs.Common.{◌%◌, refl}
use Rattle.std.proofs.lemmas.Bool.{eq-eqb, ne_eqb, lt-ltb, le-ltb}
use Rattle.aes_cts.specs.Schedule.{turned}
use Rattle.aes_cts.proofs.schedule.turned.Goals as goal
use Rattle.aes_cts.proofs.schedule.turned.Goals.{else-size-gt6-via-then-size-gt6+else-i-size-eq4, else-size-gt6-via-else-size-gt6}

pub returns-then-i-size-eq0 : goal.returns-then-i-size-eq0
unfolding turned
returns-then-i-size-eq0 c = rw (eq-eqb (c.args.i % c.args.size) 0 c.if-i-size-eq0.true) c.turned_first.ensures

pub returns-then-i-size-eq4 : goal.returns-then-i-size-eq4
unfolding turned
returns-then-i-size-eq4 c =
    rw (ne_eqb (c.args.i % c.args.size) 0 c.if-i-size-eq0.false, lt-ltb 6 c.args.size c.if-size-gt6.true, eq-eqb (c.args.i % c.args.size) 4 c.if-i-size-eq4.true)
    c.substitute.ensures

pub returns-else-size-gt6 : goal.returns-else-size-gt6
unfolding turned
returns-else-size-gt6 c = elim c.else-size-gt6.branch [
  | else-size-gt6-via-then-size-gt6+else-i-size-eq4 w ↦
      rw (ne_eqb (c.args.i % c.args.size) 0 c.if-i-size-eq0.false, lt-ltb 6 c.args.size w.if-size-gt6.true, ne_eqb (c.args.i % c.args.size) 4 w.if-i-size-eq4.false) refl
  | else-size-gt6-via-else-size-gt6 w ↦
      rw (ne_eqb (c.args.i % c.args.size) 0 c.if-i-size-eq0.false, le-ltb 6 c.args.size w.if-size-gt6.false) refl
]
