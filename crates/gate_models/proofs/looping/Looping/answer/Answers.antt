use Rattle.std.proofs.Common.{◌∙◌, ap, ◌∷◌, ◌++◌, [], List, refl, inr}
use Rattle.gss_server.specs.declared.answer.Kept.{Kept}
use Rattle.gss_server.specs.Connections.{ruling_for}
use Rattle.gss_server.proofs.Replying.{reply-said}
use Rattle.gss_server.specs.Hearing.{serving}
use Rattle.gate_models.proofs.looping.Looping.answer.Goals as goal

pub returns-in-Answered-clause-answered : goal.returns-in-Answered-clause-answered
returns-in-Answered-clause-answered g c =
    let one = c.answer_record_by-answered.result.kept in
    let r = c.answer_record_by-answered.ensures in
    let d = c.in-Answered.ensures (ruling_for (serving g.G.Gate.program c.args.self.now.width) c.args.octets.now one) (reply-said _ _ c.answer_record_by-answered.result.reply r.ruled.says) in record {
      one = one;
      keeps = c.push_reserved.ensures.items ∙ ap (λ (ks : List Kept). ks ++ one ∷ []) c.reserve.ensures.items;
      exact = (r.ruled.exact, r.drawn);
      timed = r.now;
      decided = d.0;
      replied = d.1;
      place = refl;
      asked = r.ruled.asked.answers;
    }

pub returns-clause-answered : goal.returns-clause-answered
returns-clause-answered g c =
    let one = c.answer_record_by-answered.result.kept in
    let r = c.answer_record_by-answered.ensures in
    let d = c.in-Starved.ensures (ruling_for (serving g.G.Gate.program c.args.self.now.width) c.args.octets.now one) (reply-said _ _ c.answer_record_by-answered.result.reply r.ruled.says) in (
      d.0,
      refl,
      inr (record {
        one = one;
        keeps = c.push_reserved.ensures.items ∙ ap (λ (ks : List Kept). ks ++ one ∷ []) c.reserve.ensures.items;
        exact = (r.ruled.exact, r.drawn);
        timed = r.now;
        wanted = d.1;
        asked = r.ruled.asked.answers;
      }),
    )

pub returns-in-Rests-clause-answered : goal.returns-in-Rests-clause-answered
returns-in-Rests-clause-answered g c =
    absurd (c.in-Rests.ensures (ruling_for (serving g.G.Gate.program c.args.self.now.width) c.args.octets.now c.answer_record_by-answered.result.kept) (reply-said _ _ c.answer_record_by-answered.result.reply c.answer_record_by-answered.ensures.ruled.says))
