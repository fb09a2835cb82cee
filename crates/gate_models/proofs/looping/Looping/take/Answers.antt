use Rattle.std.proofs.Common.{List}
use Rattle.accept_book.specs.RecordShown.{Asked}
use Rattle.accept_book.specs.declared.book_answer.Admitted.{Admitted}
use Rattle.gss_server.specs.Asking.{Asking}
use Rattle.gate_models.proofs.LoopTurns.{heard-so, heard-more}
use Rattle.gss_server.specs.Hearing.{serving}
use Rattle.gate_models.proofs.looping.Looping.take.Goals as goal

pub returns-in-Ok-clause-heard : goal.returns-in-Ok-clause-heard
returns-in-Ok-clause-heard g c = rw c.hear.ensures.heard (heard-so c.args.buf.now c.args.self.now.heard.items _ c.hear.result c.in-Ok.ensures.items)

pub returns-in-Ok-clause-looped : goal.returns-in-Ok-clause-looped
returns-in-Ok-clause-looped g c = λ first p.
    let s = c.args.self.now in
    c.hear.ensures.looped first (rw c.in-Ok.ensures.items (heard-more (λ (m : List (Asked Admitted)). Asking g.G.Gate.answers first m s.gate) (serving g.G.Gate.program s.width) s.now s.heard.items c.args.buf.now s.said.items s.kept.items s.cut p))
