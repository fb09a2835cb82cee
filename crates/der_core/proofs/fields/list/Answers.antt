use Rattle.std.proofs.Common.{◌≡◌, ℕ, Ok, Err, subst, sym, ◌∙◌, arith}
use Rattle.std.proofs.lemmas.Result.{err_from_is_err_and}
use Rattle.der_core.specs.Fields.{many_of}
use Rattle.der_core.proofs.Lists.{starts, ends, trails, is_done, fails, goes_on}
use Rattle.der_core.proofs.fields.list.Goals as goal

pub returns-then-left-eq0 : goal.returns-then-left-eq0
returns-then-left-eq0 g c =
    subst (λ (n : ℕ). many_of g.T.Element.format n c.args.content.now ≡ Ok c.loop.list.items) c.left-count.ensures
    (is_done g.T.Element.format _ c.loop.content c.loop.list.items _ (omega arith) c.loop.invariant)

pub returns-in_err-value : goal.returns-in_err-value
returns-in_err-value g c =
    let p = err_from_is_err_and c.from_residual.result c.from_residual.ensures.1 in
    rw (p.1, p.2) (λ kept.
    subst (λ (n : ℕ). many_of g.T.Element.format n c.args.content.now ≡ Err c.in_err-value.field-0.0) c.left-count.ensures
    (fails g.T.Element.format c.left-count.result c.loop.counter c.loop.content c.loop.list.items _ c.in_err-value.field-0.0 (omega arith) (omega arith) (c.in_err-value.ensures kept) c.loop.invariant))

pub loop-preserved : goal.loop-preserved
loop-preserved g c =
    rw c.in_ok-push.ensures.items (goes_on g.T.Element.format c.left-count.result c.loop.counter c.loop.content c.read.new.reader c.loop.list.items c.in_ok-value.value _ (omega arith) (omega arith) c.in_ok-value.ensures c.loop.invariant)

pub returns : goal.returns
returns g c =
    subst (λ (n : ℕ). many_of g.T.Element.format n c.args.content.now ≡ Ok c.loop.list.items) c.left-count.ensures
    (ends g.T.Element.format c.left-count.result c.loop.counter c.loop.content c.loop.list.items _ c.loop-test.false (sym c.end.ensures ∙ c.in_ok-end.was) c.loop.invariant)

pub returns-in_err-end : goal.returns-in_err-end
returns-in_err-end g c =
    let p = err_from_is_err_and c.from_residual-in_err-end.result c.from_residual-in_err-end.ensures.1 in
    rw (p.1, p.2) (λ kept.
    subst (λ (n : ℕ). many_of g.T.Element.format n c.args.content.now ≡ Err c.in_err-end.field-0.0) c.left-count.ensures
    (trails g.T.Element.format c.left-count.result c.loop.counter c.loop.content c.loop.list.items _ c.in_err-end.field-0.0 c.loop-test.false (sym c.end.ensures ∙ c.in_err-end.was) c.loop.invariant))

pub returns-in_err-push : goal.returns-in_err-push
returns-in_err-push g c =
    let p = err_from_is_err_and c.from_residual-in_err-push.result c.from_residual-in_err-push.ensures.1 in
    rw p.1 (λ kept. absurd (kept p.2))

pub loop-init : goal.loop-init
loop-init g c = rw c.new-list.ensures.items (starts g.T.Element.format c.left-count.result c.args.content.now)
