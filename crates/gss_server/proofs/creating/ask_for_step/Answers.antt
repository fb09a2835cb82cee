use Rattle.std.proofs.Common.{refl}
use Rattle.gss_server.proofs.Replying.{says-asking}
use Rattle.gss_server.proofs.creating.ask_for_step.Goals as goal

pub returns : goal.returns
returns g c =
    let step = c.negotiate-negotiated in
    let said = c.say_stepped-said in record {
      ruled = record {
        says = says-asking said.result.reply said.result.rule _ _ said.ensures.says.says;
        fits = said.ensures.says.fits;
        exact = rw (said.ensures.says.unasked, c.requires.unasked) refl;
        asked = record {
          answers = (step.new.self, rw c.step_draws-draws.ensures at step.ensures.answers, rw said.ensures.says.unasked refl);
          telling = λ tells room. rw said.ensures.says.unasked (rw c.step_draws-draws.ensures at step.ensures.told tells room);
        };
        tells = step.ensures.tells;
        limits = step.ensures.limits;
      };
    }
