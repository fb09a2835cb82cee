use Rattle.std.proofs.Common.{◌≡◌, ℕ, Ok, Err, subst, arith}
use Rattle.std.proofs.lemmas.Result.{err_from_is_err_and}
use Rattle.krb_files.specs.Pieces.{many_of}
use Rattle.krb_files.specs.Ccache.{next_at}
use Rattle.krb_files.proofs.Values.{is_done, fails, ends, passes, goes_on}
use Rattle.krb_files.proofs.ccache.credentials.Goals as goal
use Rattle.krb_files.proofs.ccache.credentials.Goals.{in-Other, in-Item+in_ok-push-in-Item}

pub returns-in_err-read_next : goal.returns-in_err-read_next
returns-in_err-read_next c =
    let p = err_from_is_err_and c.from_residual.result c.from_residual.ensures.1 in
    rw (p.1, p.2) (λ kept.
    subst (λ (n : ℕ). many_of next_at n c.args.fields.now ≡ Err c.in_err-read_next.field-0.0) c.left-count.ensures
    (fails next_at c.left-count.result c.loop.counter c.loop.fields c.loop.credentials.items _ c.in_err-read_next.field-0.0 (omega arith) (c.in_err-read_next.ensures kept) c.loop.invariant))

pub returns-in-End : goal.returns-in-End
returns-in-End c =
    subst (λ (n : ℕ). many_of next_at n c.args.fields.now ≡ Ok c.loop.credentials.items) c.left-count.ensures
    (ends next_at c.left-count.result c.loop.counter c.loop.fields c.read_next.new.fields c.loop.credentials.items _ (omega arith) (rw c.in-End.is at c.in_ok-read_next.ensures) c.loop.invariant)

pub loop-preserved : goal.loop-preserved
loop-preserved c =
    elim c.match-branch-2.branch [
      | in-Other w ↦ rw w.credentials-is (passes next_at c.left-count.result c.loop.counter c.loop.fields c.read_next.new.fields c.loop.credentials.items _ (omega arith) (rw w.in-Other.is at c.in_ok-read_next.ensures) c.loop.invariant)
      | in-Item+in_ok-push-in-Item w ↦ rw (w.credentials-is, w.in_ok-push-in-Item.ensures.items) (goes_on next_at c.left-count.result c.loop.counter c.loop.fields c.read_next.new.fields c.loop.credentials.items w.in-Item.credential _ (omega arith) (rw w.in-Item.is at c.in_ok-read_next.ensures) c.loop.invariant)
    ]

pub returns : goal.returns
returns c =
    subst (λ (n : ℕ). many_of next_at n c.args.fields.now ≡ Ok c.loop.credentials.items) c.left-count.ensures
    (is_done next_at _ c.loop.fields c.loop.credentials.items _ (omega arith) c.loop.invariant)
