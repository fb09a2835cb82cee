use Rattle.std.proofs.Common.{rules, ap, ◌∙◌, List, map}
use Rattle.spnego_core.specs.Ends.{setup_of}
use Rattle.init_ends.specs.Ends.{SetupMeans}
use Rattle.world_runs.specs.Objects.{Ready, stage_means}
use Rattle.world_runs.proofs.Beginning.{each-over}
use Rattle.world_runs.proofs.AllAsCredentials.{shown-ready, new-world}
use Rattle.world_runs.proofs.world.World.new.Goals as goal

pub returns-in-Ok-parts_of-clause-world : goal.returns-in-Ok-parts_of-clause-world
returns-in-Ok-parts_of-clause-world g c =
    rw c.in-Ok-parts_of.ensures.book
    (new-world (map setup_of c.args.setup.facts.items) (map (λ s. stage_means s (λ b. (goal.Mech-dyn g b).meaning b.1)) c.in-Ok-parts_of.parts.stages.items) c.args.setup.book c.args.setup.lanes c.in-Ok-parts_of.parts.lanes.items c.new.result.items
    (c.in-Ok-parts_of.ensures.stages ∙ ap (λ (os : List SetupMeans). map (λ o. Ready o) os) c.requires.objects) c.in-Ok-parts_of.ensures.lanes c.new.ensures.items c.requires.empty c.log-log.ensures.replays (search rules) c.requires.lists
    (each-over (map setup_of c.as_slice.result.now) (map setup_of c.args.setup.facts.items) (ap (map setup_of) c.as_slice.ensures.value) c.in-Ok.ensures))

pub returns-in-Ok-parts_of-clause-stages : goal.returns-in-Ok-parts_of-clause-stages
returns-in-Ok-parts_of-clause-stages g c =
    shown-ready (map setup_of c.args.setup.facts.items) (map (λ s. stage_means s (λ b. (goal.Mech-dyn g b).meaning b.1)) c.in-Ok-parts_of.parts.stages.items)
    (c.in-Ok-parts_of.ensures.stages ∙ ap (λ (os : List SetupMeans). map (λ o. Ready o) os) c.requires.objects)
