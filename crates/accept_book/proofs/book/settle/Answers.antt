use Rattle.std.proofs.Common.{◌≡◌, ℕ, Bool, List, Option, None, Some, refl, sym, ap, subst, arith}
use Rattle.accept_core.specs.Replays.{Accepting, Keeps}
use Rattle.spnego_core.specs.declared.accept_end.AcceptEnd.{AcceptEnd}
use Rattle.spnego_core.specs.declared.outcome.Outcome.{Outcome}
use Rattle.context_table.specs.declared.slot.Slot.{Slot}
use Rattle.context_table.specs.declared.slot.SlotState.{SlotState}
use Rattle.context_table.specs.declared.slot.SlotState.TheVariants.{Complete}
use Rattle.accept_core.specs.Stepping.{Context, context_of}
use Rattle.accept_book.specs.Booking.{FitsState, FitsSlot}
use Rattle.accept_book.proofs.Fitting.{all_fit}
use Rattle.spnego_core.specs.declared.accept_end.AcceptStep.TheVariants as steps
use Rattle.accept_core.specs.declared.answer.Next.TheVariants as nexts
use Rattle.accept_book.specs.declared.book_answer.NegAnswer.TheVariants as answers
use Rattle.accept_book.proofs.Contexts.{windows_entered}
use Rattle.accept_book.proofs.Comings.{comes_taken, comes_refused}
use Rattle.accept_book.proofs.book.settle.Goals as goal

same_context : {x y : Context AcceptEnd Outcome} → ◌≡◌ {A = Option (Context AcceptEnd Outcome)} (Some x) (Some y) → x.state ≡ y.state
same_context e = cc

settled_fits : (o : Option (Slot AcceptEnd Outcome)) (outcome : Outcome) (until : ℕ) (auth : Bool)
    → context_of o ≡ Some (record { state = Complete outcome; ends = until }) → FitsSlot o auth
settled_fits None outcome until auth e = tt
settled_fits (Some slot) outcome until auth e = subst (λ (x : SlotState AcceptEnd Outcome). FitsState x auth) (sym (same_context e)) tt

pub returns-in-Ok-clause-took : goal.returns-in-Ok-clause-took
returns-in-Ok-clause-took c =
    let own = c.in-Ok.entered.id in record {
      size = c.requires.short;
      comes = comes_taken c.args.core.now c.enter.new.self c.args.id c.args.mark (steps.Done c.args.outcome c.args.ends c.args.token)
          (nexts.Settled c.args.outcome.mech c.names_of.result c.args.outcome c.args.ends) own
          (record { answer = answers.Settled (record { id = own; outcome = c.args.outcome; ends = c.args.ends }) c.args.token; receipts = c.in-Ok.entered.receipts })
          c.in-Ok.ensures.taken c.in-Ok.ensures.id (ap (λ (n : List ℕ). nexts.Settled c.args.outcome.mech n c.args.outcome c.args.ends) c.names_of.ensures) refl (λ none. cc) c.enter.ensures.history c.in-Ok.ensures.context c.in-Ok.ensures.others c.in-Ok.ensures.receipts
          (windows_entered c.args.core.now.table c.enter.new.self.table own c.in-Ok.ensures.window c.in-Ok.ensures.stays);
      keeps = c.enter.ensures.keeps;
      fits =
          all_fit c.args.core.now c.enter.new.self c.args.id own c.in-Ok.ensures.id c.requires.ready.others
          (settled_fits _ c.args.outcome _ _ c.in-Ok.ensures.context) c.in-Ok.ensures.stays c.in-Ok.ensures.auths;
    }

pub returns-in-Err-clause-took : goal.returns-in-Err-clause-took
returns-in-Err-clause-took c = record {
  size = rw c.refuse.ensures.answer (omega arith);
  comes = comes_refused c.args.core.now c.enter.new.self c.refuse.new.core c.args.id c.args.mark (steps.Done c.args.outcome c.args.ends c.args.token) c.in-Err.refusal c.refusal_of_mark.result c.refuse.result
      c.in-Err.ensures.unchanged c.refusal_of_mark.ensures c.in-Err.ensures.refusal c.refuse.ensures.comes;
  keeps = subst (λ (s : Accepting AcceptEnd Outcome). Keeps s c.refuse.new.core) c.in-Err.ensures.unchanged c.refuse.ensures.keeps;
  fits = c.refuse.ensures.fits;
}
