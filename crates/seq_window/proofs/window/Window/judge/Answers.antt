use Rattle.std.proofs.Common.{◌≡◌, ◌∙◌, sym, arith, true, false}
use Rattle.seq_window.specs.Words.{in_words}
use Rattle.seq_window.proofs.Marking.{marked-words, repeat-from, fresh-from}
use Rattle.seq_window.proofs.window.Window.judge.Goals as goal

pub returns-then-is_set-clause-verdict : goal.returns-then-is_set-clause-verdict
returns-then-is_set-clause-verdict c =
    let same : c.deref.result.now ≡ c.self.inside.words.items = c.deref.ensures.value in
    let told : in_words c.self.inside.words.items c.args.n ≡ true = rw (← same) (sym c.is_set.ensures ∙ c.if-is_set.true) in
    rw (← c.self.view_is) (λ numbers shows. repeat-from _ numbers c.args.n shows (omega arith) c.if-n-self-2.false
    (marked-words c.self.inside.width c.self.inside.last c.self.inside.words.items c.args.n c.if-n-self.false c.if-n-self-2.false ∙ told))

pub returns-clause-verdict : goal.returns-clause-verdict
returns-clause-verdict c =
    let same : c.deref.result.now ≡ c.self.inside.words.items = c.deref.ensures.value in
    let told : in_words c.self.inside.words.items c.args.n ≡ false = rw (← same) (sym c.is_set.ensures ∙ c.if-is_set.false) in
    rw (← c.self.view_is) (λ numbers shows. fresh-from _ numbers c.args.n shows (omega arith) c.if-n-self-2.false
    (marked-words c.self.inside.width c.self.inside.last c.self.inside.words.items c.args.n c.if-n-self.false c.if-n-self-2.false ∙ told))

pub returns-clause-fresh : goal.returns-clause-fresh
returns-clause-fresh c =
    let same : c.deref.result.now ≡ c.self.inside.words.items = c.deref.ensures.value in
    let told : in_words c.self.inside.words.items c.args.n ≡ false = rw (← same) (sym c.is_set.ensures ∙ c.if-is_set.false) in
    rw (← c.self.view_is) (λ _. record {
      small = omega arith;
      above = c.if-n-self-2.false;
      unmarked = marked-words c.self.inside.width c.self.inside.last c.self.inside.words.items c.args.n c.if-n-self.false c.if-n-self-2.false ∙ told;
    })
