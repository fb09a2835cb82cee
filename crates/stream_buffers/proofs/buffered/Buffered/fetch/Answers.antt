use Rattle.std.proofs.Common.{ℕ, List, ◌++◌, sym, subst, ◌∙◌}
use Rattle.stream_buffers.specs.Ahead.{AreLast, waiting_in}
use Rattle.stream_buffers.proofs.Giving.{still-last}
use Rattle.stream_buffers.proofs.buffered.Buffered.fetch.Goals as goal

pub returns-clause-drained : goal.returns-clause-drained
returns-clause-drained g c = λ none. c.drain.ensures.none none

pub returns-clause-written : goal.returns-clause-written
returns-clause-written g c = λ none. c.give.ensures.written ∙ c.in_ok-drain.ensures.written none

pub invariant_of-self-2 : goal.invariant_of-self-2
invariant_of-self-2 g c = record {
  unclosed = λ may. c.give.ensures.unclosed;
  idle = c.drain.new.self.idle;
  in_order = λ unclosed.
      subst (λ (xs : List ℕ). AreLast (xs ++ waiting_in c.give.new.ahead) (g.L.Link.wire c.give.new.link).taken) (sym c.then-self.ensures)
      (still-last (g.L.Link.wire c.drain.new.self.link) (g.L.Link.wire c.give.new.link) c.drain.new.self.taken.octets (waiting_in c.drain.new.self.ahead) (waiting_in c.give.new.ahead) _
      (c.drain.new.self.in_order c.drain.ensures.unclosed) c.in_ok-count.ensures.given);
}
