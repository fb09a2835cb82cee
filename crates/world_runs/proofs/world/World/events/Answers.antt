use Rattle.world_runs.proofs.world.World.events.Goals as goal

pub returns-clause-ran : goal.returns-clause-ran
returns-clause-ran g c = ∣ c.requires.ran ∣₁
