use Rattle.std.proofs.Common.{rules, arith, inl, Bool, IsTrue, sym, subst, ◌∙◌}
use Rattle.datagram_calls.proofs.Rows.{one-more}
use Rattle.datagram_calls.proofs.speaking.converse.Goals as goal

pub loop-number-preserved : goal.loop-number-preserved
loop-number-preserved g c =
    let l = c.loop-number in
    record {
      told = λ t. rw c.push_reserved.ensures.items
          (one-more g.P.Post g.D.Draw c.args.asks.now c.args.session l.results.items l.session c.in-Ok-call_once.next c.in-Ok-call_once.result c.args.post.now l.post c.call_once.new.post c.args.draw.now l.draw c.call_once.new.draw
          (l.invariant.told t) (c.in-Ok-call_once.ensures.answered (subst (λ (b : Bool). IsTrue b) (sym l.invariant.tells) t)));
      count = search rules;
      room = search rules;
      tells = c.call_once.ensures.tells ∙ l.invariant.tells;
      faults = omega (arith, c.call_once.ensures.faults, l.invariant.faults);
    }

pub returns-clause-told : goal.returns-clause-told
returns-clause-told g c = λ t.
    let l = c.loop-number in
    inl (
      l.session,
      record {
        middle = l.post;
        calls = l.invariant.told t;
        all = search rules;
        leaves = c.leave-end.ensures.left (subst (λ (b : Bool). IsTrue b) (sym l.invariant.tells) t);
      },
    )
