use Rattle.std.proofs.Common.{ap}
use Rattle.sasl_gssapi.specs.Ends.{init_by, step_by}
use Rattle.sasl_command.specs.Asking.{Begun, Chosen, Asks}
use Rattle.sasl_command.proofs.Turning.{leads-one}
use Rattle.sasl_command.proofs.AskTurns.{replied-done, spoke-at}
use Rattle.sasl_command.proofs.asking.choose.Goals as goal

pub returns-in-Ok-Done-clause-told : goal.returns-in-Ok-Done-clause-told
returns-in-Ok-Done-clause-told g c = λ t wish sending a.
    leads-one (Asks wish sending) (Begun (init_by c.args.end (λ b. (goal.Mech-dyn g b).meaning b.1))) (Chosen c.in-Ok-Done.layer)
    (replied-done wish sending (init_by c.args.end (λ b. (goal.Mech-dyn g b).meaning b.1)) c.in-Ok-Done.layer _ (step_by c.in-Ok-Done.field-0 (λ b. (goal.Mech-dyn g b).meaning b.1)) (ap (λ s. step_by s (λ b. (goal.Mech-dyn g b).meaning b.1)) c.in-Ok-Done.field-0-is) (c.in-Ok-Done.ensures.told t wish sending a))

pub returns-in-Err-clause-told : goal.returns-in-Err-clause-told
returns-in-Err-clause-told g c = λ t wish sending a.
    spoke-at wish sending (Begun (init_by c.args.end (λ b. (goal.Mech-dyn g b).meaning b.1))) c.in-Err.end (c.in-Err.ensures.told t wish sending a)
