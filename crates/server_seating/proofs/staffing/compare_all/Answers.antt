use Rattle.std.proofs.Common.{rules, refl, sym, ap, ◌∙◌}
use Rattle.book_seats.specs.Notes.{noted_by}
use Rattle.server_desks.proofs.InStep.{moves-more}
use Rattle.server_seating.proofs.staffing.compare_all.Goals as goal

pub loop-one-preserved : goal.loop-one-preserved
loop-one-preserved g c =
    let i = c.loop-one.invariant in
    record {
      can_next = tt;
      finite = tt;
      moves = moves-more _ _ _ _ _ _ c.in-Some.one c.in-Some.one.desk i.moves c.in-Some.ensures.steps.0 c.push_reserved.ensures.items (refl, ap (λ w. noted_by c.in-Some.one.clerk.desk w.all) (sym i.writer) ∙ c.compare.ensures.mine, λ some. rw (sym (c.audit.ensures.same ∙ i.journal)) (c.audit.ensures.rose some));
      writer = c.compare.ensures.same ∙ i.writer;
      journal = c.audit.ensures.same ∙ i.journal;
      room = search rules;
    }
