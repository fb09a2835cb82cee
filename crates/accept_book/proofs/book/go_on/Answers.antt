use Rattle.std.proofs.Common.{refl, subst, arith}
use Rattle.accept_core.specs.Replays.{Accepting, Keeps}
use Rattle.spnego_core.specs.declared.accept_end.AcceptEnd.{AcceptEnd}
use Rattle.spnego_core.specs.declared.outcome.Outcome.{Outcome}
use Rattle.spnego_core.specs.declared.accept_end.AcceptStep.TheVariants as steps
use Rattle.accept_core.specs.declared.answer.Next.TheVariants as nexts
use Rattle.accept_book.specs.declared.book_answer.NegAnswer.TheVariants as answers
use Rattle.accept_book.proofs.Contexts.{windows_entered}
use Rattle.accept_book.proofs.Fitting.{slot_fits, all_fit}
use Rattle.accept_book.proofs.Comings.{comes_taken, comes_refused}
use Rattle.accept_book.proofs.book.go_on.Goals as goal

pub returns-in-Ok-clause-took : goal.returns-in-Ok-clause-took
returns-in-Ok-clause-took c =
    let own = c.in-Ok.entered.id in record {
      size = c.requires.short;
      comes = comes_taken c.args.core.now c.enter.new.self c.args.id c.args.mark (steps.More c.args.end c.args.token) (nexts.Going c.args.end) own
          (record { answer = answers.Going own c.args.token; receipts = c.in-Ok.entered.receipts })
          c.in-Ok.ensures.taken c.in-Ok.ensures.id refl refl (λ none. cc) c.enter.ensures.history c.in-Ok.ensures.context c.in-Ok.ensures.others c.in-Ok.ensures.receipts
          (windows_entered c.args.core.now.table c.enter.new.self.table own c.in-Ok.ensures.window c.in-Ok.ensures.stays);
      keeps = c.enter.ensures.keeps;
      fits =
          all_fit c.args.core.now c.enter.new.self c.args.id c.in-Ok.entered.id c.in-Ok.ensures.id c.requires.ready.others
          (rw c.in-Ok.ensures.auth (slot_fits _ c.args.end _ _ c.in-Ok.ensures.context c.requires.fits)) c.in-Ok.ensures.stays c.in-Ok.ensures.auths;
    }

pub returns-in-Err-clause-took : goal.returns-in-Err-clause-took
returns-in-Err-clause-took c = record {
  size = rw c.refuse.ensures.answer (omega arith);
  comes = comes_refused c.args.core.now c.enter.new.self c.refuse.new.core c.args.id c.args.mark (steps.More c.args.end c.args.token) c.in-Err.refusal c.refusal_of_mark.result c.refuse.result
      c.in-Err.ensures.unchanged c.refusal_of_mark.ensures c.in-Err.ensures.refusal c.refuse.ensures.comes;
  keeps = subst (λ (s : Accepting AcceptEnd Outcome). Keeps s c.refuse.new.core) c.in-Err.ensures.unchanged c.refuse.ensures.keeps;
  fits = c.refuse.ensures.fits;
}
