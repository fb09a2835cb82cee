use Rattle.std.proofs.Common.{map, None, IsTrue}
use Rattle.sasl_gssapi.specs.Ends.{init_means}
use Rattle.sasl_command.specs.Turns.{seen}
use Rattle.sasl_command.specs.Asking.{Opens, Begun, Chosen, Asks}
use Rattle.sasl_command.proofs.Turning.{leads-one, leads-after}
use Rattle.sasl_command.proofs.AskTurns.{opened-did, opened-ended, spoke-at, spoke-after, spoke-as}
use Rattle.sasl_command.proofs.asking.ask.Goals as goal

pub returns-in-Ok-reach-clause-told : goal.returns-in-Ok-reach-clause-told
returns-in-Ok-reach-clause-told g c = λ t.
    let tells : IsTrue (g.L.Link.tells c.open.new.link) = rw c.in-Ok.ensures.tells t in
    let later : IsTrue (g.L.Link.tells c.reach.new.link) = rw c.in-Ok-reach.ensures.tells tells in
    spoke-after c.args.wish c.args.sending.now (Opens (map (λ b. (goal.Mech-dyn g (b.vtable, b.value)).meaning b.value) c.args.mechs.items)) (Chosen c.in-Ok-reach.layer) c.speak.result.facts c.speak.result.echo c.speak.result.end
    (leads-after (Asks c.args.wish c.args.sending.now) (Opens (map (λ b. (goal.Mech-dyn g (b.vtable, b.value)).meaning b.value) c.args.mechs.items)) (Begun (init_means (λ b. (goal.Mech-dyn g (b.vtable, b.value)).meaning b.value) c.in-Ok.end)) (Chosen c.in-Ok-reach.layer) (leads-one (Asks c.args.wish c.args.sending.now) (Opens (map (λ b. (goal.Mech-dyn g (b.vtable, b.value)).meaning b.value) c.args.mechs.items)) (Begun (init_means (λ b. (goal.Mech-dyn g (b.vtable, b.value)).meaning b.value) c.in-Ok.end)) (opened-did c.args.wish c.args.sending.now (map (λ b. (goal.Mech-dyn g (b.vtable, b.value)).meaning b.value) c.args.mechs.items) (init_means (λ b. (goal.Mech-dyn g (b.vtable, b.value)).meaning b.value) c.in-Ok.end) (c.in-Ok.ensures.told t))) (c.in-Ok-reach.ensures.told tells c.args.wish c.args.sending.now (seen g.L.Link g.C.Clock g.D.Draw c.open.new.link c.open.new.clock c.open.new.draw)))
    (c.speak.ensures.told later c.args.wish)

pub returns-in-Err-reach-clause-told : goal.returns-in-Err-reach-clause-told
returns-in-Err-reach-clause-told g c = λ t.
    let tells : IsTrue (g.L.Link.tells c.open.new.link) = rw c.in-Ok.ensures.tells t in
    spoke-as c.args.wish c.args.sending.now (Opens (map (λ b. (goal.Mech-dyn g (b.vtable, b.value)).meaning b.value) c.args.mechs.items)) c.unlayered.result c.unlayered.ensures
    (spoke-after c.args.wish c.args.sending.now (Opens (map (λ b. (goal.Mech-dyn g (b.vtable, b.value)).meaning b.value) c.args.mechs.items)) (Begun (init_means (λ b. (goal.Mech-dyn g (b.vtable, b.value)).meaning b.value) c.in-Ok.end)) None None c.in-Err-reach.end (leads-one (Asks c.args.wish c.args.sending.now) (Opens (map (λ b. (goal.Mech-dyn g (b.vtable, b.value)).meaning b.value) c.args.mechs.items)) (Begun (init_means (λ b. (goal.Mech-dyn g (b.vtable, b.value)).meaning b.value) c.in-Ok.end)) (opened-did c.args.wish c.args.sending.now (map (λ b. (goal.Mech-dyn g (b.vtable, b.value)).meaning b.value) c.args.mechs.items) (init_means (λ b. (goal.Mech-dyn g (b.vtable, b.value)).meaning b.value) c.in-Ok.end) (c.in-Ok.ensures.told t))) (c.in-Err-reach.ensures.told tells c.args.wish c.args.sending.now (seen g.L.Link g.C.Clock g.D.Draw c.open.new.link c.open.new.clock c.open.new.draw)))

pub returns-in-Err-clause-told : goal.returns-in-Err-clause-told
returns-in-Err-clause-told g c = λ t.
    spoke-as c.args.wish c.args.sending.now (Opens (map (λ b. (goal.Mech-dyn g (b.vtable, b.value)).meaning b.value) c.args.mechs.items)) c.unlayered-in-Err.result c.unlayered-in-Err.ensures
    (spoke-at c.args.wish c.args.sending.now (Opens (map (λ b. (goal.Mech-dyn g (b.vtable, b.value)).meaning b.value) c.args.mechs.items)) c.in-Err.end (opened-ended c.args.wish c.args.sending.now (map (λ b. (goal.Mech-dyn g (b.vtable, b.value)).meaning b.value) c.args.mechs.items) c.in-Err.end (c.in-Err.ensures.told t)))
