use Rattle.std.proofs.Common.{◌≡◌, ℕ, Ok, Err, subst, arith}
use Rattle.std.proofs.lemmas.Result.{err_from_is_err_and}
use Rattle.krb_files.specs.Pieces.{many_of}
use Rattle.krb_files.specs.Keytab.{piece_at}
use Rattle.krb_files.proofs.Values.{is_done, fails, ends, passes, goes_on}
use Rattle.krb_files.proofs.keytab.entries.Goals as goal
use Rattle.krb_files.proofs.keytab.entries.Goals.{in-Other, in-Item+in_ok-push-in-Item}

pub returns-in_err-piece : goal.returns-in_err-piece
returns-in_err-piece c =
    let p = err_from_is_err_and c.from_residual.result c.from_residual.ensures.1 in
    rw (p.1, p.2) (λ kept.
    subst (λ (n : ℕ). many_of piece_at n c.args.fields.now ≡ Err c.in_err-piece.field-0.0) c.left-count.ensures
    (fails piece_at c.left-count.result c.loop.counter c.loop.fields c.loop.entries.items _ c.in_err-piece.field-0.0 (omega arith) (c.in_err-piece.ensures kept) c.loop.invariant))

pub returns-in-End : goal.returns-in-End
returns-in-End c =
    subst (λ (n : ℕ). many_of piece_at n c.args.fields.now ≡ Ok c.loop.entries.items) c.left-count.ensures
    (ends piece_at c.left-count.result c.loop.counter c.loop.fields c.piece.new.fields c.loop.entries.items _ (omega arith) (rw c.in-End.is at c.in_ok-piece.ensures) c.loop.invariant)

pub loop-preserved : goal.loop-preserved
loop-preserved c =
    elim c.match-branch-2.branch [
      | in-Other w ↦ rw w.entries-is (passes piece_at c.left-count.result c.loop.counter c.loop.fields c.piece.new.fields c.loop.entries.items _ (omega arith) (rw w.in-Other.is at c.in_ok-piece.ensures) c.loop.invariant)
      | in-Item+in_ok-push-in-Item w ↦ rw (w.entries-is, w.in_ok-push-in-Item.ensures.items) (goes_on piece_at c.left-count.result c.loop.counter c.loop.fields c.piece.new.fields c.loop.entries.items w.in-Item.entry _ (omega arith) (rw w.in-Item.is at c.in_ok-piece.ensures) c.loop.invariant)
    ]

pub returns : goal.returns
returns c =
    subst (λ (n : ℕ). many_of piece_at n c.args.fields.now ≡ Ok c.loop.entries.items) c.left-count.ensures
    (is_done piece_at _ c.loop.fields c.loop.entries.items _ (omega arith) c.loop.invariant)
