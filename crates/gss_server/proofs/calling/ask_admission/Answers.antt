use Rattle.std.proofs.Common.{rules, refl}
use Rattle.gss_server.proofs.Replying.{says-asking}
use Rattle.gss_server.proofs.calling.ask_admission.Goals as goal

pub returns : goal.returns
returns g c =
    let said = c.say_admitted-said in record {
      ruled = record {
        ruled = record {
          says = says-asking said.result.reply said.result.rule _ _ said.ensures.says.says;
          fits = said.ensures.says.fits;
          exact = rw (said.ensures.says.unasked, c.requires.unasked) refl;
          asked = search rules;
          tells = search rules;
          limits = search rules;
        };
        unlooked = rw c.requires.unasked refl;
      };
    }
