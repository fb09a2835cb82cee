use Rattle.std.proofs.Common.{◌∙◌, IsTrue, suc, ◌+◌, ◌-◌, arith, refl, ap, sym, Err}
use Rattle.gss_client.specs.Session.{SessionState}
use Rattle.gss_client.proofs.InConversation.{not-begun, held-as, no-number, no-room, foreign-call, refused-call, one-call, all-called, is-end, is-no-end, by-number, by-number-refused}
use Rattle.gss_client.proofs.Counts.{no-less, rose-behind, not-spent, not-finished, not-foreign, not-memory, refused-as}
use Rattle.gss_client.proofs.session.Session.converse.Goals as goal

pub loop-number-init : goal.loop-number-init
loop-number-init g c = record {
  told = λ t. not-begun _ _ c.args.times (c.args.times - 0) (g.Q.Query.says c.args.query.now) c.args.args.now c.args.self _ c.new-results.result.items (omega arith) c.new-results.ensures.items;
  tells = refl;
  unclosed = c.requires.unclosed;
  faults = omega arith;
  drawing = λ t. t;
}

pub returns-then-session-clause-told : goal.returns-then-session-clause-told
returns-then-session-clause-told g c = λ t.
    let tells : IsTrue (g.L.Link.tells c.loop-number.link) = rw c.loop-number.invariant.tells t in
    no-number _ _ _ c.args.times (c.args.times - (c.loop-number.number + 1)) (g.Q.Query.says c.args.query.now) c.args.args.now c.args.self _ _ _ c.loop-number.session c.loop-number.results.items c.part-parting.result
    (is-end c.loop-number.session c.session.inside.number (ap (λ (s : SessionState). s.number) c.session.view_is) c.if-session.true)
    (held-as _ _ _ c.args.times (c.args.times - c.loop-number.number) (suc (c.args.times - (c.loop-number.number + 1))) (g.Q.Query.says c.args.query.now) c.args.args.now c.args.self _ _ c.loop-number.session _ _ (omega (arith, c.loop-number-test.true)) refl (c.loop-number.invariant.told t))
    (c.part-parting.ensures.told tells)

pub returns-then-is_err-clause-told : goal.returns-then-is_err-clause-told
returns-then-is_err-clause-told g c = λ t.
    no-room _ _ _ c.args.times (c.args.times - c.loop-number.number) (g.Q.Query.says c.args.query.now) c.args.args.now c.args.self _ _ c.loop-number.session c.reserve.new.self.items
    (held-as _ _ _ c.args.times (c.args.times - c.loop-number.number) (c.args.times - c.loop-number.number) (g.Q.Query.says c.args.query.now) c.args.args.now c.args.self _ _ c.loop-number.session _ _ refl (sym c.reserve.ensures.items) (c.loop-number.invariant.told t))

pub returns-then-not-is_result-clause-told : goal.returns-then-not-is_result-clause-told
returns-then-not-is_result-clause-told g c = λ t.
    let tells : IsTrue (g.L.Link.tells c.loop-number.link) = rw c.loop-number.invariant.tells t in
    foreign-call _ _ _ _ _ c.fill.new.out c.args.times (c.args.times - (c.loop-number.number + 1)) (g.Q.Query.says c.args.query.now) c.args.args.now c.args.self _ _ _ c.loop-number.session c.in-Ok.next c.reserve.new.self.items c.in-Ok.result
    c.fill.ensures.kept c.fill.ensures.told (omega (arith, c.fill.auto.out))
    (is-no-end c.loop-number.session c.session.inside.number (ap (λ (s : SessionState). s.number) c.session.view_is) c.if-session.false)
    (held-as _ _ _ c.args.times (c.args.times - c.loop-number.number) (suc (c.args.times - (c.loop-number.number + 1))) (g.Q.Query.says c.args.query.now) c.args.args.now c.args.self _ _ c.loop-number.session _ _ (omega (arith, c.loop-number-test.true)) (sym c.reserve.ensures.items) (c.loop-number.invariant.told t))
    (by-number c.loop-number.session c.args.args.now c.fill.new.out c.number.result (g.Q.Query.says c.args.query.now) _ _ (c.in-Ok.next, c.in-Ok.result) c.number.ensures (c.in-Ok.ensures.told tells))
    (sym (c.if-not-is_result.ensures ∙ ap (g.Q.Query.says c.args.query.now).is_result c.as_slice.ensures))

pub returns-in-Err-clause-told : goal.returns-in-Err-clause-told
returns-in-Err-clause-told g c = λ t.
    let tells : IsTrue (g.L.Link.tells c.loop-number.link) = rw c.loop-number.invariant.tells t in
    refused-call _ _ _ _ _ c.fill.new.out c.args.times (c.args.times - (c.loop-number.number + 1)) (g.Q.Query.says c.args.query.now) c.args.args.now c.args.self _ _ _ c.loop-number.session c.reserve.new.self.items c.in-Err.refusal
    c.fill.ensures.kept c.fill.ensures.told (omega (arith, c.fill.auto.out))
    (is-no-end c.loop-number.session c.session.inside.number (ap (λ (s : SessionState). s.number) c.session.view_is) c.if-session.false)
    (held-as _ _ _ c.args.times (c.args.times - c.loop-number.number) (suc (c.args.times - (c.loop-number.number + 1))) (g.Q.Query.says c.args.query.now) c.args.args.now c.args.self _ _ c.loop-number.session _ _ (omega (arith, c.loop-number-test.true)) (sym c.reserve.ensures.items) (c.loop-number.invariant.told t))
    (by-number-refused c.loop-number.session c.args.args.now c.fill.new.out c.number.result (g.Q.Query.says c.args.query.now) _ _ c.in-Err.refusal c.number.ensures (c.in-Err.ensures.told tells))

pub returns-clause-told : goal.returns-clause-told
returns-clause-told g c = λ t.
    let tells : IsTrue (g.L.Link.tells c.loop-number.link) = rw c.loop-number.invariant.tells t in
    all-called _ _ _ c.args.times (c.args.times - c.loop-number.number) (g.Q.Query.says c.args.query.now) c.args.args.now c.args.self _ _ _ c.loop-number.session c.loop-number.results.items c.part-parting-2.result (omega (arith, c.loop-number-test.false))
    (c.loop-number.invariant.told t) (c.part-parting-2.ensures.told tells)

pub loop-number-preserved : goal.loop-number-preserved
loop-number-preserved g c = record {
  told = λ t.
      let tells : IsTrue (g.L.Link.tells c.loop-number.link) = rw c.loop-number.invariant.tells t in
      held-as _ _ _ c.args.times (c.args.times - (c.loop-number.number + 1)) (c.args.times - (c.loop-number.number + 1)) (g.Q.Query.says c.args.query.now) c.args.args.now c.args.self _ _ c.in-Ok.next _ _ refl (sym c.add.ensures)
      (one-call _ _ _ _ _ c.fill.new.out c.args.times (c.args.times - (c.loop-number.number + 1)) (g.Q.Query.says c.args.query.now) c.args.args.now c.args.self _ _ _ c.loop-number.session c.in-Ok.next c.reserve.new.self.items c.in-Ok.result
      c.fill.ensures.kept c.fill.ensures.told (omega (arith, c.fill.auto.out))
      (is-no-end c.loop-number.session c.session.inside.number (ap (λ (s : SessionState). s.number) c.session.view_is) c.if-session.false)
      (held-as _ _ _ c.args.times (c.args.times - c.loop-number.number) (suc (c.args.times - (c.loop-number.number + 1))) (g.Q.Query.says c.args.query.now) c.args.args.now c.args.self _ _ c.loop-number.session _ _ (omega (arith, c.loop-number-test.true)) (sym c.reserve.ensures.items) (c.loop-number.invariant.told t))
      (by-number c.loop-number.session c.args.args.now c.fill.new.out c.number.result (g.Q.Query.says c.args.query.now) _ _ (c.in-Ok.next, c.in-Ok.result) c.number.ensures (c.in-Ok.ensures.told tells))
      (sym (c.if-not-is_result.ensures ∙ ap (g.Q.Query.says c.args.query.now).is_result c.as_slice.ensures)));
  tells = cc;
  unclosed = c.in-Ok.ensures.unclosed;
  faults = omega (arith, c.in-Ok.ensures.faults, c.loop-number.invariant.faults);
  drawing = λ t. c.loop-number.invariant.drawing (c.fill.ensures.kept t);
}

-- ---- what is kept of the link and the draw, and its faults

pub returns-then-session-clause-fault : goal.returns-then-session-clause-fault
returns-then-session-clause-fault g c = λ e. rose-behind c.loop-number.invariant.faults c.part-parting.ensures.faults (c.part-parting.ensures.fault e not-spent)

pub returns-then-session-clause-tells : goal.returns-then-session-clause-tells
returns-then-session-clause-tells g c = c.part-parting.ensures.tells ∙ c.loop-number.invariant.tells

pub returns-then-session-clause-faults : goal.returns-then-session-clause-faults
returns-then-session-clause-faults g c = no-less c.loop-number.invariant.faults c.part-parting.ensures.faults

pub returns-then-is_err-clause-fault : goal.returns-then-is_err-clause-fault
returns-then-is_err-clause-fault g c = λ e. absurd (not-memory e)

pub returns-then-not-is_result-clause-fault : goal.returns-then-not-is_result-clause-fault
returns-then-not-is_result-clause-fault g c = λ e. absurd (not-foreign e)

pub returns-then-not-is_result-clause-tells : goal.returns-then-not-is_result-clause-tells
returns-then-not-is_result-clause-tells g c = c.in-Ok.ensures.tells ∙ c.loop-number.invariant.tells

pub returns-then-not-is_result-clause-faults : goal.returns-then-not-is_result-clause-faults
returns-then-not-is_result-clause-faults g c = no-less c.loop-number.invariant.faults c.in-Ok.ensures.faults

pub returns-then-not-is_result-clause-drawing : goal.returns-then-not-is_result-clause-drawing
returns-then-not-is_result-clause-drawing g c = λ t. c.loop-number.invariant.drawing (c.fill.ensures.kept t)

pub returns-in-Err-clause-fault : goal.returns-in-Err-clause-fault
returns-in-Err-clause-fault g c = λ e. rose-behind c.loop-number.invariant.faults c.in-Err.ensures.faults (c.in-Err.ensures.fault (ap Err (refused-as e)))

pub returns-in-Err-clause-tells : goal.returns-in-Err-clause-tells
returns-in-Err-clause-tells g c = c.in-Err.ensures.tells ∙ c.loop-number.invariant.tells

pub returns-in-Err-clause-faults : goal.returns-in-Err-clause-faults
returns-in-Err-clause-faults g c = no-less c.loop-number.invariant.faults c.in-Err.ensures.faults

pub returns-in-Err-clause-drawing : goal.returns-in-Err-clause-drawing
returns-in-Err-clause-drawing g c = λ t. c.loop-number.invariant.drawing (c.fill.ensures.kept t)

pub returns-clause-fault : goal.returns-clause-fault
returns-clause-fault g c = λ e. rose-behind c.loop-number.invariant.faults c.part-parting-2.ensures.faults (c.part-parting-2.ensures.fault e not-finished)

pub returns-clause-tells : goal.returns-clause-tells
returns-clause-tells g c = c.part-parting-2.ensures.tells ∙ c.loop-number.invariant.tells

pub returns-clause-faults : goal.returns-clause-faults
returns-clause-faults g c = no-less c.loop-number.invariant.faults c.part-parting-2.ensures.faults
