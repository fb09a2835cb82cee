use Rattle.std.proofs.Common.{ap, sym, arith, List, ◌++◌, ◌∷◌, [], ◌∙◌}
use Rattle.accept_core.specs.declared.entry.Entry.{Entry}
use Rattle.accept_core.proofs.Recents.{log-added}
use Rattle.accept_core.proofs.log.Log.add.Goals as goal
use Rattle.accept_core.proofs.log.Log.add.Goals.{in-None, in-Some}

pub invariant_of-self : goal.invariant_of-self
invariant_of-self c =
    let less = rw (← c.self.view_is) at c.requires in
    elim c.match-self.branch [
      | in-None w ↦ rw w.self-inside-is (log-added _ _ _ _ _ _ _ _ _ _ _ c.self.invariant less c.then-self-inside.ensures c.digest_after-self-inside.ensures c.newest-self-inside.ensures (rw w.in-None.is tt) (rw w.in-None.is tt))
      | in-Some w ↦ rw w.self-inside-is (log-added _ _ _ _ _ _ _ _ _ _ _ c.self.invariant less c.then-self-inside.ensures c.digest_after-self-inside.ensures c.newest-self-inside.ensures (w.push_reserved.ensures.items ∙ ap (λ (l : List Entry). l ++ c.args.entry ∷ []) (rw w.in-Some.is at c.self.invariant.all) ∙ sym c.then-self-inside.ensures) (let r = rw w.in-Some.is at c.self.invariant.room in let k = w.push_reserved.ensures.capacity in omega (arith, r, k)))
    ]
