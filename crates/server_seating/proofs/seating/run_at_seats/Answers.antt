use Rattle.server_seating.proofs.seating.run_at_seats.Goals as goal

pub returns-in-Ok-clause-served : goal.returns-in-Ok-clause-served
returns-in-Ok-clause-served g c = rw c.into_parts-setup.ensures c.run_noted-course.ensures.served

pub returns-in-Ok-clause-limits : goal.returns-in-Ok-clause-limits
returns-in-Ok-clause-limits g c = rw c.into_parts-setup.ensures c.run_noted-course.ensures.limits
