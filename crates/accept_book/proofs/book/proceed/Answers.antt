use Rattle.std.proofs.Common.{rules, Some, refl}
use Rattle.accept_core.specs.History.{standing}
use Rattle.accept_book.proofs.Comings.{comes_left, comes_held}
use Rattle.accept_book.proofs.book.proceed.Goals as goal

pub returns-in-Err : goal.returns-in-Err
returns-in-Err c = record {
  size = search rules;
  comes = comes_left c.args.core.now (Some c.args.id) _ _ c.leave.result c.leave.ensures.answer c.leave.ensures.receipts (λ past is_past. search rules);
  keeps = search rules;
  fits = search rules;
}

pub returns-in-Ok-take : goal.returns-in-Ok-take
returns-in-Ok-take c =
    let e = c.in-Ok-take.ensures in record {
      size = search rules;
      comes = comes_held c.args.core.now c.take.new.self c.take_step.new.core c.args.setup.now c.args.id c.args.token.now c.args.now c.args.draws.now (standing c.args.id c.args.core.now.history) c.in-Ok-take.end c.take_step.result
          (c.in-Ok.ensures.places refl) e.answer e.history e.keeps.capacity e.keeps.greatest (e.held refl) e.others c.take_step.ensures.comes;
      keeps = search rules;
      fits = search rules;
    }
