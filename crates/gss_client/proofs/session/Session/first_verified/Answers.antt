use Rattle.std.proofs.Common.{◌≡◌, ◌∙◌, false, sym, ap, arith}
use Rattle.gss_client.specs.Judging.{answer_value, is_verified}
use Rattle.gss_client.specs.Session.{SessionState}
use Rattle.gss_client.proofs.Verifying.{fits-later}
use Rattle.gss_client.proofs.session.Session.first_verified.Goals as goal

pub loop-number-preserved : goal.loop-number-preserved
loop-number-preserved c =
    let own : c.self.inside.outcome ≡ c.args.self.now.outcome = ap (λ (s : SessionState). s.outcome) c.self.view_is in
    let not : is_verified c.args.self.now.outcome (answer_value c.args.answer.now) c.loop-number.number ≡ false = cc (c.is_verified.ensures, c.if-is_verified.false, own) in
    sym (fits-later c.args.self.now.outcome (answer_value c.args.answer.now) c.loop-number.number c.args.self.now.number (omega (arith, c.loop-number-test.true, ap (λ (s : SessionState). s.number) c.self.view_is)) not) ∙ c.loop-number.invariant
