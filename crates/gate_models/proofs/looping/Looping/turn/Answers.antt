use Rattle.std.proofs.Common.{List, ℕ, drop, subst}
use Rattle.accept_book.specs.RecordShown.{Asked}
use Rattle.accept_book.specs.declared.book_answer.Admitted.{Admitted}
use Rattle.gss_server.specs.Asking.{Asking}
use Rattle.gate_models.specs.Looping.{IsWholeAt}
use Rattle.gate_models.proofs.LoopTurns.{turned-so, further, said-more, sliced}
use Rattle.gss_server.proofs.Turning.{asking-more}
use Rattle.gss_server.specs.Hearing.{serving}
use Rattle.gate_models.proofs.looping.Looping.turn.Goals as goal

pub returns-in-Record-clause-looped : goal.returns-in-Record-clause-looped
returns-in-Record-clause-looped g c = λ first p.
    let s = c.args.self.now in
    let t = c.answer.new.self in
    let A = g.G.Gate.answers in
    let w : IsWholeAt (drop s.cut s.heard.items) c.as_slice.result.now c.in-Record.size =
    subst (λ (zs : List ℕ). IsWholeAt zs c.as_slice.result.now c.in-Record.size) (sliced s.cut s.heard.items c.deref.result.now c.deref.ensures.value) (rw c.as_slice.ensures c.in-Record.ensures.found) in
    rw (c.answer.ensures.width, c.answer.ensures.moment, c.answer.ensures.heard)
    (turned-so (λ (m : List (Asked Admitted)). Asking A first m s.gate) (λ (m : List (Asked Admitted)). Asking A s.gate m t.gate) (λ (m : List (Asked Admitted)). Asking A first m t.gate) (λ m o p q. asking-more A first s.gate t.gate m o p q) (serving g.G.Gate.program s.width) s.now s.heard.items s.kept.items t.kept.items s.said.items t.said.items s.cut t.cut c.as_slice.result.now c.in-Record.size c.answer.result p w c.answer.ensures.answered)

pub returns-in-Record-clause-further : goal.returns-in-Record-clause-further
returns-in-Record-clause-further g c = λ e.
    let s = c.args.self.now in
    let t = c.answer.new.self in
    let w : IsWholeAt (drop s.cut s.heard.items) c.as_slice.result.now c.in-Record.size =
    subst (λ (zs : List ℕ). IsWholeAt zs c.as_slice.result.now c.in-Record.size) (sliced s.cut s.heard.items c.deref.result.now c.deref.ensures.value) (rw c.as_slice.ensures c.in-Record.ensures.found) in
    further (λ (m : List (Asked Admitted)). Asking g.G.Gate.answers s.gate m t.gate) (serving g.G.Gate.program s.width) s.now s.kept.items t.kept.items s.said.items t.said.items s.cut t.cut (drop s.cut s.heard.items) c.as_slice.result.now c.in-Record.size c.answer.result w c.answer.ensures.answered e

pub returns-in-Record-clause-said : goal.returns-in-Record-clause-said
returns-in-Record-clause-said g c =
    let s = c.args.self.now in
    let t = c.answer.new.self in
    said-more (λ (m : List (Asked Admitted)). Asking g.G.Gate.answers s.gate m t.gate) (serving g.G.Gate.program s.width) s.now c.as_slice.result.now c.in-Record.size s.kept.items t.kept.items s.said.items t.said.items s.cut t.cut c.answer.result c.answer.ensures.answered
