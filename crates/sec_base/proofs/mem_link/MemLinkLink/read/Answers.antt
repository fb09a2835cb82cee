use Rattle.std.proofs.Common.{rules, arith, ◌∙◌, ap, ◌≡◌, List, ℕ, take, drop}
use Rattle.sec_base.proofs.Pieces.{given-taken, given-coming, given-ended}
use Rattle.sec_base.proofs.mem_link.MemLinkLink.read.Goals as goal

pub returns-clause-told : goal.returns-clause-told
returns-clause-told c =
    let input = c.args.self.now.input.items in
    let at = c.args.self.now.at in
    let held : c.deref-3.result.now ≡ input = c.deref-3.ensures.value in
    let copied : take c.piece-count.result c.copy_out.new.buf ≡ take c.piece-count.result (drop at input) = c.copy_out.ensures ∙ ap (λ (xs : List ℕ). take c.piece-count.result (drop at xs)) held in (
      record {
        taken = given-taken input _ at c.piece-count.result copied;
        coming = λ t. given-coming input _ at c.piece-count.result copied;
        written = search rules;
      },
      λ room none t. given-ended input at (grind (arith, c.piece-count.ensures.some, c.min-most.ensures, c.len.ensures, c.copy_out.auto.buf)),
    )
