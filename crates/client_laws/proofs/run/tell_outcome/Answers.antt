use Rattle.std.proofs.Common.{◌≡◌, ◌∙◌, sym, subst, Some}
use Rattle.spnego_core.specs.declared.outcome.Outcome.{Outcome}
use Rattle.pair_laws.specs.Running.{RunLaw}
use Rattle.client_laws.proofs.run.tell_outcome.Goals as goal

some-is : (a b : Outcome) → Some a ≡ Some b → a ≡ b
some-is a b e = cc

pub returns-in-Some : goal.returns-in-Some
returns-in-Some c = λ o e. subst (λ (x : Outcome). RunLaw x.key) (some-is c.in-Some.outcome o (sym c.in-Some.is ∙ e)) c.prove_runs.ensures
