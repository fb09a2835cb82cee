use Rattle.std.proofs.Common.{◌≡◌, ◌/◌, ◌%◌, get_or, List, ℕ, vec_len, ◌∙◌, ap, arith}
use Rattle.std.proofs.lemmas.List.{with_items_is}
use Rattle.std.specs.Vec.{with_items}
use Rattle.seq_window.specs.Words.{with_bit}
use Rattle.seq_window.proofs.Marking.{Moved, words-more, shows-more}
use Rattle.seq_window.proofs.window.Window.mark.Goals as goal

pub invariant_of-self : goal.invariant_of-self
invariant_of-self c =
    let ring : vec_len c.self.inside.words ≡ 17 = omega (arith, c.self.invariant.words_of) in
    let first : (with_items c.self.inside.words c.move_on.new.words).items ≡ c.move_on.new.words
    = with_items_is c.self.inside.words c.move_on.new.words (omega (arith, ring, c.move_on.ensures.ring)) in
    let second : (with_items (with_items c.self.inside.words c.move_on.new.words) c.set_bit.new.words).items ≡ c.set_bit.new.words
    = with_items_is (with_items c.self.inside.words c.move_on.new.words) c.set_bit.new.words (omega (arith, ring, c.set_bit.ensures.ring)) in
    let value : c.set_bit.new.words ≡ with_bit c.move_on.new.words c.args.n
    = c.set_bit.ensures.value ∙ ap (λ (ws : List ℕ). with_bit ws c.args.n) (c.deref_mut-2.ensures.value ∙ first) in
    let moved : Moved (c.self.inside.last / 64) (c.args.n / 64) c.self.inside.words.items c.move_on.new.words
    = record { ring = c.move_on.ensures.ring; kept = λ b low near. c.move_on.ensures.kept b low near ∙ ap (λ (ws : List ℕ). get_or ws (b % 17) 0) c.deref_mut.ensures.value; cleared = c.move_on.ensures.cleared } in
    let fresh = rw (← c.self.view_is) at c.requires in
    rw (second ∙ value, c.max-self-inside.ensures)
    (words-more c.self.inside.width c.self.inside.last c.args.n c.self.inside.words.items c.move_on.new.words c.self.invariant fresh.above moved)

pub returns-clause-shows : goal.returns-clause-shows
returns-clause-shows c =
    let ring : vec_len c.self.inside.words ≡ 17 = omega (arith, c.self.invariant.words_of) in
    let first : (with_items c.self.inside.words c.move_on.new.words).items ≡ c.move_on.new.words
    = with_items_is c.self.inside.words c.move_on.new.words (omega (arith, ring, c.move_on.ensures.ring)) in
    let second : (with_items (with_items c.self.inside.words c.move_on.new.words) c.set_bit.new.words).items ≡ c.set_bit.new.words
    = with_items_is (with_items c.self.inside.words c.move_on.new.words) c.set_bit.new.words (omega (arith, ring, c.set_bit.ensures.ring)) in
    let value : c.set_bit.new.words ≡ with_bit c.move_on.new.words c.args.n
    = c.set_bit.ensures.value ∙ ap (λ (ws : List ℕ). with_bit ws c.args.n) (c.deref_mut-2.ensures.value ∙ first) in
    let moved : Moved (c.self.inside.last / 64) (c.args.n / 64) c.self.inside.words.items c.move_on.new.words
    = record { ring = c.move_on.ensures.ring; kept = λ b low near. c.move_on.ensures.kept b low near ∙ ap (λ (ws : List ℕ). get_or ws (b % 17) 0) c.deref_mut.ensures.value; cleared = c.move_on.ensures.cleared } in
    rw (second ∙ value, c.max-self-inside.ensures, ← c.self.view_is) (λ numbers shows.
    shows-more c.self.inside.width c.self.inside.last c.args.n c.self.inside.words.items c.move_on.new.words numbers c.self.invariant
    (rw (← c.self.view_is) at c.requires) moved shows)
