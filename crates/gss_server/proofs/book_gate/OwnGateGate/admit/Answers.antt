use Rattle.std.proofs.Common.{refl, subst, Some, Ok, Err}
use Rattle.rpc_program.specs.Programs.{CallerOf}
use Rattle.gss_server.specs.Programs.{Spelt}
use Rattle.gss_server.proofs.book_gate.OwnGateGate.admit.Goals as goal

pub returns-in-Ok-clause-answers : goal.returns-in-Ok-clause-answers
returns-in-Ok-clause-answers g c =
    let gate = c.args.self.now in
    record {
      book = rw c.args.call.now.same at c.in-Ok.ensures.admitted;
      acts = (
        Ok (c.in-Ok.receipt, Some c.enter-entered.result),
        record {
          has = rw gate.same at c.requires.has;
          takes = rw gate.same at c.requires.takes;
          gives = rw c.caller_of_lease-caller.ensures.caller at c.enter-entered.ensures.enters;
          kept = c.enter-entered.ensures.kept;
        },
        (
          refl,
          subst (λ (caller : CallerOf). Spelt g.S.Speller.spells gate.speller caller c.args.call.now.procedure c.args.call.now.args.now (Some c.enter-entered.result) c.spell_entered-outcome.result c.spell_entered-outcome.new.speller) c.caller_of_lease-caller.ensures.caller c.spell_entered-outcome.ensures.spelt,
        ),
      );
    }

pub returns-in-Err-clause-answers : goal.returns-in-Err-clause-answers
returns-in-Err-clause-answers g c = record {
  book = rw c.args.call.now.same at c.in-Err.ensures.admitted;
  acts = (Err c.in-Err.refusal, refl, (refl, refl));
}
