use Rattle.std.proofs.Common.{rules, Some}
use Rattle.accept_book.proofs.Comings.{comes_left}
use Rattle.accept_book.proofs.book.continue_with.Goals as goal

pub returns-in-None : goal.returns-in-None
returns-in-None c = record {
  size = search rules;
  comes = comes_left c.args.core.now (Some c.args.id) _ _ c.leave.result c.leave.ensures.answer c.leave.ensures.receipts (λ past is_past. search rules);
  keeps = search rules;
  fits = search rules;
}

pub returns-in-Complete : goal.returns-in-Complete
returns-in-Complete c =
    let leave = c.leave-in-Complete in record {
      size = search rules;
      comes = comes_left c.args.core.now (Some c.args.id) _ _ leave.result leave.ensures.answer leave.ensures.receipts (λ past is_past. search rules);
      keeps = search rules;
      fits = search rules;
    }

pub proceed-requires-clause-negotiates : goal.proceed-requires-clause-negotiates
proceed-requires-clause-negotiates c = search rules

pub proceed-requires-clause-opened : goal.proceed-requires-clause-opened
proceed-requires-clause-opened c = search rules
