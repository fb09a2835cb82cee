use Rattle.std.proofs.Common.{◌∙◌, ap, sym, subst, ℕ, List, IsTrue, Ok, Err}
use Rattle.sasl_frames.specs.Messages.{Hears}
use Rattle.sasl_options.specs.declared.ending.RunEnd.{RunEnd}
use Rattle.sasl_command.specs.Turns.{seen, beside, Ended, end_of_read}
use Rattle.sasl_command.specs.Serving.{limit, Serves, IsServed, IsBefore}
use Rattle.sasl_command.proofs.ServeTurns.{serve-turned, serve-stopped, serve-unread}
use Rattle.sasl_command.proofs.serving.turn.Goals as goal

pub returns-in-Ok-make-clause-told : goal.returns-in-Ok-make-clause-told
returns-in-Ok-make-clause-told g c = λ t.
    let tells : IsTrue (g.L.Link.tells c.next_message.new.link) = rw c.in-Ok.ensures.tells t in
    let h : Hears (limit c.args.stage) (g.L.Link.wire c.args.link.now) (g.L.Link.wire c.next_message.new.link) (Ok c.as_slice.result.now) = subst (λ (n : ℕ). Hears n (g.L.Link.wire c.args.link.now) (g.L.Link.wire c.next_message.new.link) (Ok c.as_slice.result.now)) c.limit.ensures (subst (λ (o : List ℕ). Hears c.limit.result (g.L.Link.wire c.args.link.now) (g.L.Link.wire c.next_message.new.link) (Ok o)) (sym c.as_slice.ensures) (c.in-Ok.ensures.told t)) in
    serve-turned c.args.setup.now c.args.stage c.in-Ok-make.next (seen g.L.Link g.C.Clock g.D.Draw c.args.link.now c.args.clock.now c.args.draw.now) (g.L.Link.wire c.next_message.new.link) (seen g.L.Link g.C.Clock g.D.Draw c.make.new.link c.make.new.clock c.make.new.draw) c.as_slice.result.now h (c.in-Ok-make.ensures.told tells)

pub returns-in-Ok-clause-told : goal.returns-in-Ok-clause-told
returns-in-Ok-clause-told g c = λ t.
    let tells : IsTrue (g.L.Link.tells c.next_message.new.link) = rw c.in-Ok.ensures.tells t in
    let h : Hears (limit c.args.stage) (g.L.Link.wire c.args.link.now) (g.L.Link.wire c.next_message.new.link) (Ok c.as_slice.result.now) = subst (λ (n : ℕ). Hears n (g.L.Link.wire c.args.link.now) (g.L.Link.wire c.next_message.new.link) (Ok c.as_slice.result.now)) c.limit.ensures (subst (λ (o : List ℕ). Hears c.limit.result (g.L.Link.wire c.args.link.now) (g.L.Link.wire c.next_message.new.link) (Ok o)) (sym c.as_slice.ensures) (c.in-Ok.ensures.told t)) in
    (serve-stopped c.args.setup.now c.args.stage c.in-Err-make.end (seen g.L.Link g.C.Clock g.D.Draw c.args.link.now c.args.clock.now c.args.draw.now) (g.L.Link.wire c.next_message.new.link) (seen g.L.Link g.C.Clock g.D.Draw c.make.new.link c.make.new.clock c.make.new.draw) c.as_slice.result.now h (c.in-Err-make.ensures.told tells), c.facts_of-facts.ensures)

pub returns-clause-told : goal.returns-clause-told
returns-clause-told g c = λ t.
    let h : Hears (limit c.args.stage) (g.L.Link.wire c.args.link.now) (g.L.Link.wire c.next_message.new.link) (Err c.in-Err.read) = subst (λ (n : ℕ). Hears n (g.L.Link.wire c.args.link.now) (g.L.Link.wire c.next_message.new.link) (Err c.in-Err.read)) c.limit.ensures (c.in-Err.ensures.told t) in
    (subst (λ (end : RunEnd). Ended (Serves c.args.setup.now) limit IsServed IsBefore c.args.stage (seen g.L.Link g.C.Clock g.D.Draw c.args.link.now c.args.clock.now c.args.draw.now) (beside (seen g.L.Link g.C.Clock g.D.Draw c.args.link.now c.args.clock.now c.args.draw.now) (g.L.Link.wire c.next_message.new.link)) end) (sym (c.end_of_read-end.ensures ∙ ap (end_of_read c.in-Err.read) c.ended_at-ended.ensures)) (serve-unread c.args.setup.now c.args.stage (seen g.L.Link g.C.Clock g.D.Draw c.args.link.now c.args.clock.now c.args.draw.now) (g.L.Link.wire c.next_message.new.link) c.in-Err.read h), c.facts_of-facts.ensures)
