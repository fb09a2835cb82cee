use Rattle.std.proofs.Common.{◌∙◌, ◌++◌, ◌∷◌, [], ap, sym, refl, ℕ, List}
use Rattle.std.proofs.lemmas.List.{append-nil}
use Rattle.gss_server.proofs.Replying.{reply-said}
use Rattle.gss_server.proofs.connection.answer_and_keep.Goals as goal

pub returns-clause-answered : goal.returns-clause-answered
returns-clause-answered g c =
    let one = c.answer_record_by-answered.result.kept in
    let said = c.answer_record_by-answered.ensures in record {
      kept = one ∷ [];
      given = c.keep.ensures ∙ ap (λ us. g.K.Keeper.kept c.args.keeper.now ++ us) (sym (append-nil (g.K.Keeper.parts one)));
      timed = record {
        tells = c.now-now.ensures.kept;
        moments = λ t. c.now-now.ensures.told t ∙ ap (λ (k : ℕ). g.C.Clock.given c.args.clock.now ++ k ∷ []) (sym said.now);
      };
      drawn = record {
        tells = c.fill.ensures.kept;
        draws = λ t. c.fill.ensures.told t ∙ ap (λ (us : List ℕ). g.D.Draw.given c.args.draw.now ++ us) (sym said.draws ∙ sym (append-nil one.draws));
      };
      holds = record {
        one = one;
        only = refl;
        exact = (said.ruled.exact, said.drawn);
        ruled = reply-said _ _ c.answer_record_by-answered.result.reply said.ruled.says;
        asked = said.ruled.asked;
      };
    }
