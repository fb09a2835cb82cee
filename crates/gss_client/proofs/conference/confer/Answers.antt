use Rattle.std.proofs.Common.{◌∙◌, ◌+◌, IsTrue, List, ◌∷◌, drop, arith, refl, ap, sym}
use Rattle.gss_client.specs.Query.{QuerySays}
use Rattle.gss_client.specs.Conferring.{DueCall, call_of, calls_of}
use Rattle.gss_client.proofs.InConference.{not-begun, held-as, no-number, no-room, foreign-call, refused-call, one-call, all-called, is-end, is-no-end, by-due, by-due-refused, next-due, none-due}
use Rattle.gss_client.proofs.conference.confer.Goals as goal

pub loop-call-init : goal.loop-call-init
loop-call-init g c = record {
  told = λ t. not-begun _ _ (calls_of g.Q.Query.says c.args.due.now) (calls_of g.Q.Query.says c.args.due.now) c.args.session _ c.new-results.result.items refl c.new-results.ensures.items;
  tells = refl;
  unclosed = c.requires.unclosed;
  faults = omega arith;
  drawing = λ t. t;
}

pub returns-then-next_number-clause-told : goal.returns-then-next_number-clause-told
returns-then-next_number-clause-told g c = λ t.
    let tells : IsTrue (g.L.Link.tells c.loop-call.link) = rw c.loop-call.invariant.tells t in
    let later : List DueCall = calls_of g.Q.Query.says (drop (c.loop-call.call-index + 1) c.args.due.now) in
    no-number _ _ _ (calls_of g.Q.Query.says c.args.due.now) (call_of g.Q.Query.says c.call-item.result) later c.args.session _ _ _ c.loop-call.state c.loop-call.results.items c.part-parting.result
    (is-end c.loop-call.state c.next_number.result c.next_number.ensures.value c.if-next_number.true)
    (held-as _ _ _ (calls_of g.Q.Query.says c.args.due.now) (calls_of g.Q.Query.says (drop c.loop-call.call-index c.args.due.now)) (call_of g.Q.Query.says c.call-item.result ∷ later) c.args.session _ _ c.loop-call.state _ _ (next-due g.Q.Query.says c.args.due.now c.loop-call.call-index c.call-item.result c.loop-call-test.true c.call-item.is) refl (c.loop-call.invariant.told t))
    (c.part-parting.ensures.told tells)

pub returns-then-is_err-clause-told : goal.returns-then-is_err-clause-told
returns-then-is_err-clause-told g c = λ t.
    let left : List DueCall = calls_of g.Q.Query.says (drop c.loop-call.call-index c.args.due.now) in
    no-room _ _ _ (calls_of g.Q.Query.says c.args.due.now) left c.args.session _ _ c.loop-call.state c.reserve.new.self.items
    (held-as _ _ _ (calls_of g.Q.Query.says c.args.due.now) left left c.args.session _ _ c.loop-call.state _ _ refl (sym c.reserve.ensures.items) (c.loop-call.invariant.told t))

pub returns-then-not-is_result-clause-told : goal.returns-then-not-is_result-clause-told
returns-then-not-is_result-clause-told g c = λ t.
    let tells : IsTrue (g.L.Link.tells c.loop-call.link) = rw c.loop-call.invariant.tells t in
    let later : List DueCall = calls_of g.Q.Query.says (drop (c.loop-call.call-index + 1) c.args.due.now) in
    foreign-call _ _ _ _ _ c.fill.new.out (calls_of g.Q.Query.says c.args.due.now) (call_of g.Q.Query.says c.call-item.result) later c.args.session _ _ _ c.loop-call.state c.in-Ok.next c.reserve.new.self.items c.in-Ok.result
    c.fill.ensures.kept c.fill.ensures.told (omega (arith, c.fill.auto.out)) c.tell_octets.ensures
    (is-no-end c.loop-call.state c.next_number.result c.next_number.ensures.value c.if-next_number.false)
    (held-as _ _ _ (calls_of g.Q.Query.says c.args.due.now) (calls_of g.Q.Query.says (drop c.loop-call.call-index c.args.due.now)) (call_of g.Q.Query.says c.call-item.result ∷ later) c.args.session _ _ c.loop-call.state _ _ (next-due g.Q.Query.says c.args.due.now c.loop-call.call-index c.call-item.result c.loop-call-test.true c.call-item.is) (sym c.reserve.ensures.items) (c.loop-call.invariant.told t))
    (by-due c.loop-call.state (call_of g.Q.Query.says c.call-item.result) c.octets.result.now c.fill.new.out c.number.result (g.Q.Query.says c.query-query.result.now) _ _ (c.in-Ok.next, c.in-Ok.result) c.number.ensures (ap g.Q.Query.says c.query-query.ensures) c.octets.ensures.value (c.in-Ok.ensures.told tells))
    (sym (c.if-not-is_result.ensures ∙ (ap (g.Q.Query.says c.query-query.result.now).is_result c.as_slice.ensures ∙ ap (λ (q : QuerySays). q.is_result c.in-Ok.result) (ap g.Q.Query.says c.query-query.ensures))))

pub returns-in-Err-clause-told : goal.returns-in-Err-clause-told
returns-in-Err-clause-told g c = λ t.
    let tells : IsTrue (g.L.Link.tells c.loop-call.link) = rw c.loop-call.invariant.tells t in
    let later : List DueCall = calls_of g.Q.Query.says (drop (c.loop-call.call-index + 1) c.args.due.now) in
    refused-call _ _ _ _ _ c.fill.new.out (calls_of g.Q.Query.says c.args.due.now) (call_of g.Q.Query.says c.call-item.result) later c.args.session _ _ _ c.loop-call.state c.reserve.new.self.items c.in-Err.refusal
    c.fill.ensures.kept c.fill.ensures.told (omega (arith, c.fill.auto.out)) c.tell_octets.ensures
    (is-no-end c.loop-call.state c.next_number.result c.next_number.ensures.value c.if-next_number.false)
    (held-as _ _ _ (calls_of g.Q.Query.says c.args.due.now) (calls_of g.Q.Query.says (drop c.loop-call.call-index c.args.due.now)) (call_of g.Q.Query.says c.call-item.result ∷ later) c.args.session _ _ c.loop-call.state _ _ (next-due g.Q.Query.says c.args.due.now c.loop-call.call-index c.call-item.result c.loop-call-test.true c.call-item.is) (sym c.reserve.ensures.items) (c.loop-call.invariant.told t))
    (by-due-refused c.loop-call.state (call_of g.Q.Query.says c.call-item.result) c.octets.result.now c.fill.new.out c.number.result (g.Q.Query.says c.query-query.result.now) _ _ c.in-Err.refusal c.number.ensures (ap g.Q.Query.says c.query-query.ensures) c.octets.ensures.value (c.in-Err.ensures.told tells))

pub returns-clause-told : goal.returns-clause-told
returns-clause-told g c = λ t.
    let tells : IsTrue (g.L.Link.tells c.loop-call.link) = rw c.loop-call.invariant.tells t in
    all-called _ _ _ (calls_of g.Q.Query.says c.args.due.now) (calls_of g.Q.Query.says (drop c.loop-call.call-index c.args.due.now)) c.args.session _ _ _ c.loop-call.state c.loop-call.results.items c.part-parting-2.result (none-due g.Q.Query.says c.args.due.now c.loop-call.call-index c.loop-call-test.false)
    (c.loop-call.invariant.told t) (c.part-parting-2.ensures.told tells)

pub loop-call-preserved : goal.loop-call-preserved
loop-call-preserved g c = record {
  told = λ t.
      let tells : IsTrue (g.L.Link.tells c.loop-call.link) = rw c.loop-call.invariant.tells t in
      let later : List DueCall = calls_of g.Q.Query.says (drop (c.loop-call.call-index + 1) c.args.due.now) in
      held-as _ _ _ (calls_of g.Q.Query.says c.args.due.now) later later c.args.session _ _ c.in-Ok.next _ _ refl (sym c.add.ensures)
      (one-call _ _ _ _ _ c.fill.new.out (calls_of g.Q.Query.says c.args.due.now) (call_of g.Q.Query.says c.call-item.result) later c.args.session _ _ _ c.loop-call.state c.in-Ok.next c.reserve.new.self.items c.in-Ok.result
      c.fill.ensures.kept c.fill.ensures.told (omega (arith, c.fill.auto.out)) c.tell_octets.ensures
      (is-no-end c.loop-call.state c.next_number.result c.next_number.ensures.value c.if-next_number.false)
      (held-as _ _ _ (calls_of g.Q.Query.says c.args.due.now) (calls_of g.Q.Query.says (drop c.loop-call.call-index c.args.due.now)) (call_of g.Q.Query.says c.call-item.result ∷ later) c.args.session _ _ c.loop-call.state _ _ (next-due g.Q.Query.says c.args.due.now c.loop-call.call-index c.call-item.result c.loop-call-test.true c.call-item.is) (sym c.reserve.ensures.items) (c.loop-call.invariant.told t))
      (by-due c.loop-call.state (call_of g.Q.Query.says c.call-item.result) c.octets.result.now c.fill.new.out c.number.result (g.Q.Query.says c.query-query.result.now) _ _ (c.in-Ok.next, c.in-Ok.result) c.number.ensures (ap g.Q.Query.says c.query-query.ensures) c.octets.ensures.value (c.in-Ok.ensures.told tells))
      (sym (c.if-not-is_result.ensures ∙ (ap (g.Q.Query.says c.query-query.result.now).is_result c.as_slice.ensures ∙ ap (λ (q : QuerySays). q.is_result c.in-Ok.result) (ap g.Q.Query.says c.query-query.ensures)))));
  tells = cc;
  unclosed = c.in-Ok.ensures.unclosed;
  faults = omega (arith, c.in-Ok.ensures.faults, c.loop-call.invariant.faults);
  drawing = λ t. c.loop-call.invariant.drawing (c.fill.ensures.kept t);
}
