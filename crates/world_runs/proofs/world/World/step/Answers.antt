use Rattle.std.proofs.Common.{map}
use Rattle.spnego_core.specs.Ends.{setup_of}
use Rattle.world_runs.specs.Turning.{happened_of}
use Rattle.world_runs.specs.Worlds.{parts_means, world_means, shown, shown_by}
use Rattle.world_runs.proofs.AllAsCredentials.{world-with, stepped, may-all}
use Rattle.world_runs.proofs.Promising.{promised}
use Rattle.world_runs.proofs.Stepping.{ran-book, more-items, told-ok, told-err}
use Rattle.world_runs.proofs.world.World.step.Goals as goal

pub happen-happened-requires : goal.happen-happened-requires
happen-happened-requires g c = record {
  proper = c.requires.proper;
  ready = may-all c.tell_below.ensures c.prove_plain_law.ensures (world_means c.args.self.now (λ b. (goal.Mech-dyn g b).meaning b.1)) c.requires.world;
  there = ran-book (shown c.args.self.now (λ b. (goal.Mech-dyn g b).meaning b.1)) c.requires.world.ran;
}

pub returns-clause-world : goal.returns-clause-world
returns-clause-world g c =
    (stepped c.tell_below.ensures c.prove_plain_law.ensures c.prove_plain_creation.ensures c.args.event (happened_of c.happen-happened.result) (map setup_of c.args.self.now.facts.items)
    (parts_means c.args.self.now.parts (λ b. (goal.Mech-dyn g b).meaning b.1)) (parts_means c.happen-happened.new.parts (λ b. (goal.Mech-dyn g b).meaning b.1)) c.args.self.now.events.items c.push_reserved.new.self.items
    c.requires.proper c.tell_book.ensures c.requires.world c.happen-happened.ensures
    (more-items c.push_reserved.new.self.items c.reserve.new.self.items c.args.self.now.events.items c.in-Ok.kept c.args.event c.push_reserved.ensures.items c.reserve.ensures.items c.in-Ok.ensures)).world

pub returns-clause-happened : goal.returns-clause-happened
returns-clause-happened g c = told-ok c.args.event c.happen-happened.result (shown c.args.self.now (λ b. (goal.Mech-dyn g b).meaning b.1))
    (shown_by (world-with (map setup_of c.args.self.now.facts.items) (parts_means c.happen-happened.new.parts (λ b. (goal.Mech-dyn g b).meaning b.1)) c.push_reserved.new.self.items))
    (stepped c.tell_below.ensures c.prove_plain_law.ensures c.prove_plain_creation.ensures c.args.event (happened_of c.happen-happened.result) (map setup_of c.args.self.now.facts.items)
    (parts_means c.args.self.now.parts (λ b. (goal.Mech-dyn g b).meaning b.1)) (parts_means c.happen-happened.new.parts (λ b. (goal.Mech-dyn g b).meaning b.1)) c.args.self.now.events.items c.push_reserved.new.self.items
    c.requires.proper c.tell_book.ensures c.requires.world c.happen-happened.ensures
    (more-items c.push_reserved.new.self.items c.reserve.new.self.items c.args.self.now.events.items c.in-Ok.kept c.args.event c.push_reserved.ensures.items c.reserve.ensures.items c.in-Ok.ensures)).steps

pub returns-clause-memory : goal.returns-clause-memory
returns-clause-memory g c = told-err c.args.event c.happen-happened.result (shown c.args.self.now (λ b. (goal.Mech-dyn g b).meaning b.1))
    (shown_by (world-with (map setup_of c.args.self.now.facts.items) (parts_means c.happen-happened.new.parts (λ b. (goal.Mech-dyn g b).meaning b.1)) c.push_reserved.new.self.items))
    (stepped c.tell_below.ensures c.prove_plain_law.ensures c.prove_plain_creation.ensures c.args.event (happened_of c.happen-happened.result) (map setup_of c.args.self.now.facts.items)
    (parts_means c.args.self.now.parts (λ b. (goal.Mech-dyn g b).meaning b.1)) (parts_means c.happen-happened.new.parts (λ b. (goal.Mech-dyn g b).meaning b.1)) c.args.self.now.events.items c.push_reserved.new.self.items
    c.requires.proper c.tell_book.ensures c.requires.world c.happen-happened.ensures
    (more-items c.push_reserved.new.self.items c.reserve.new.self.items c.args.self.now.events.items c.in-Ok.kept c.args.event c.push_reserved.ensures.items c.reserve.ensures.items c.in-Ok.ensures)).steps

pub returns-then-is_err-clause-promised : goal.returns-then-is_err-clause-promised
returns-then-is_err-clause-promised g c = promised c.prove_agreement.ensures.agreement c.prove_origin.ensures _

pub returns-in-Err-clause-promised : goal.returns-in-Err-clause-promised
returns-in-Err-clause-promised g c = promised c.prove_agreement.ensures.agreement c.prove_origin.ensures _

pub returns-clause-promised : goal.returns-clause-promised
returns-clause-promised g c = promised c.prove_agreement.ensures.agreement c.prove_origin.ensures _
