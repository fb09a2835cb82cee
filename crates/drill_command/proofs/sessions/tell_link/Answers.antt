use Rattle.std.proofs.Common.{◌≡◌, ◌∙◌, sym, subst, Some}
use Rattle.spnego_core.specs.declared.outcome.Outcome.{Outcome}
use Rattle.drill_command.specs.Rested.{LinkedTold}
use Rattle.drill_command.proofs.sessions.tell_link.Goals as goal

some-is : (a b : Outcome) → Some a ≡ Some b → a ≡ b
some-is a b e = cc

pub returns-in-Some : goal.returns-in-Some
returns-in-Some c = λ o e. subst (λ (x : Outcome). LinkedTold x) (some-is c.in-Some.outcome o (sym c.in-Some.is ∙ e)) (record { laws = c.prove_links.ensures; name = c.tell_name.ensures })
