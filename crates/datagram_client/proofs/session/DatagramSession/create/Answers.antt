use Rattle.init_ends.specs.Ends.{end_by}
use Rattle.std.proofs.Common.{Ok, Err}
use Rattle.gss_client.specs.Start.{start_means}
use Rattle.datagram_client.proofs.Turns.{started, unstarted}
use Rattle.datagram_client.proofs.session.DatagramSession.create.Goals as goal

pub returns-in-Err-clause-told : goal.returns-in-Err-clause-told
returns-in-Err-clause-told g c = λ t. unstarted g.P.Post (start_means c.args.start (λ b. (goal.Mech-dyn g b).meaning b.1)) c.in-Err.refusal c.by_negotiation.result c.args.post.now c.in-Err.ensures.exact c.by_negotiation.ensures.negotiation c.by_negotiation.ensures.memory

pub returns-in-Ok-establish-clause-told : goal.returns-in-Ok-establish-clause-told
returns-in-Ok-establish-clause-told g c = λ t.
    started g.P.Post (start_means c.args.start (λ b. (goal.Mech-dyn g b).meaning b.1)) (end_by c.in-Ok.started.0 (λ b. (goal.Mech-dyn g b).meaning b.1)) c.in-Ok.started.1 c.args.post.now c.establish.new.post (Ok c.in-Ok-establish.session) c.in-Ok.ensures.exact
    (rw (c.from_vec-handle.ensures, c.new.ensures.items) at (c.in-Ok-establish.ensures.told t))

pub returns-in-Err-establish-clause-told : goal.returns-in-Err-establish-clause-told
returns-in-Err-establish-clause-told g c = λ t.
    started g.P.Post (start_means c.args.start (λ b. (goal.Mech-dyn g b).meaning b.1)) (end_by c.in-Ok.started.0 (λ b. (goal.Mech-dyn g b).meaning b.1)) c.in-Ok.started.1 c.args.post.now c.establish.new.post (Err c.in-Err-establish.refusal) c.in-Ok.ensures.exact
    (rw (c.from_vec-handle.ensures, c.new.ensures.items) at (c.in-Err-establish.ensures.told t))
