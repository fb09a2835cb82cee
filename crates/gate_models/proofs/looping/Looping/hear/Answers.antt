use Rattle.std.proofs.Common.{rules, ◌∙◌, ◌++◌, ℕ, List, ap, append_assoc}
use Rattle.accept_book.specs.RecordShown.{Asked}
use Rattle.accept_book.specs.declared.book_answer.Admitted.{Admitted}
use Rattle.gss_server.specs.Asking.{Asking}
use Rattle.gate_models.proofs.LoopTurns.{all-heard}
use Rattle.gss_server.specs.Hearing.{serving}
use Rattle.gate_models.proofs.looping.Looping.hear.Goals as goal

pub loop-self-preserved : goal.loop-self-preserved
loop-self-preserved g c =
    let before = c.loop-self.invariant.said in
    let then = c.in-Answered.ensures.said in record {
      looped = λ first p. c.in-Answered.ensures.looped first (c.loop-self.invariant.looped first p);
      said = (before.0 ++ then.0, then.1 ∙ (ap (λ (zs : List ℕ). zs ++ then.0) before.1 ∙ append_assoc c.args.self.now.said.items before.0 then.0));
      heard = search rules;
      drawn = λ b gave. c.in-Answered.ensures.drawn b (c.loop-self.invariant.drawn b gave);
      width = search rules;
      moment = search rules;
    }

pub returns-in-Rests-clause-looped : goal.returns-in-Rests-clause-looped
returns-in-Rests-clause-looped g c = λ first p. c.in-Rests.ensures.looped first (c.loop-self.invariant.looped first p)

pub returns-in-Starved-clause-looped : goal.returns-in-Starved-clause-looped
returns-in-Starved-clause-looped g c = λ first p. c.in-Starved.ensures.looped first (c.loop-self.invariant.looped first p)

pub returns-clause-looped : goal.returns-clause-looped
returns-clause-looped g c = λ first p.
    let s = c.loop-self.self in
    all-heard (λ (m : List (Asked Admitted)). Asking g.G.Gate.answers first m s.gate) (serving g.G.Gate.program s.width) s.now s.heard.items s.said.items s.kept.items s.cut (search rules) (c.loop-self.invariant.looped first p)
