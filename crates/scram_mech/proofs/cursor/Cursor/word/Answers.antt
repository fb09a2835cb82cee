use Rattle.std.proofs.Common.{sym, ap, subst, ◌<◌, ◌∙◌, Err, List, ℕ, length}
use Rattle.scram_mech.proofs.Loops.{word-stuck}
use Rattle.scram_mech.proofs.cursor.Cursor.word.Goals as goal

pub returns-in-empty : goal.returns-in-empty
returns-in-empty c =
    let short : length c.loop-sign.self < 1 = subst (λ (os : List ℕ). length os < 1) c.self.view_is c.in-empty.len_below in
    sym c.loop-sign.invariant ∙ (word-stuck c.args.word.now c.loop-sign.self c.loop-sign.sign-index c.loop-sign-test.true short ∙ ap Err (sym c.stuck.ensures))
