use Rattle.std.proofs.Common.{refl, sym, ◌∙◌, arith}
use Rattle.server_desks.proofs.DeskRuns.{fresh-small}
use Rattle.server_desks.proofs.Ends.{begun-behind, names-one}
use Rattle.server_seating.proofs.Sides.{side-small}
use Rattle.server_seating.proofs.seating.run_book.Goals as goal

pub returns-in-Ok-clause-count : goal.returns-in-Ok-clause-count
returns-in-Ok-clause-count g c = omega (arith, c.in-Ok.ensures.served.count, c.run_at_seats.new.desks.ok, c.args.desks.now.ok)

pub returns-in-Ok-clause-named : goal.returns-in-Ok-clause-named
returns-in-Ok-clause-named g c = let one = c.in-Ok.ensures.served in names-one c.in-Ok.done.0.end _ one.ends (one.ends_count ∙ sym c.args.desks.now.ok.0) one.ended

pub returns-in-Ok-clause-begun : goal.returns-in-Ok-clause-begun
returns-in-Ok-clause-begun g c = let one = c.in-Ok.ensures.served in rw one.ended (begun-behind _ 1 one.ends (λ _. refl))

pub returns-in-Ok-clause-small : goal.returns-in-Ok-clause-small
returns-in-Ok-clause-small g c = side-small c.requires.most c.requires.fresh c.in-Ok.ensures.served

pub returns-in-Err-clause-small : goal.returns-in-Err-clause-small
returns-in-Err-clause-small g c = rw c.in-Err.ensures.none (fresh-small c.args.desks.now.items c.requires.fresh)
