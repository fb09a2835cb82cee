use Rattle.std.proofs.Common.{rules, ◌≡◌, ◌+◌, [], length, length-append, refl, sym, ap, ◌∙◌}
use Rattle.server_desks.proofs.InStep.{moves-more}
use Rattle.server_seating.proofs.staffing.hire_all.Goals as goal

pub loop-desk-preserved : goal.loop-desk-preserved
loop-desk-preserved g c =
    let i = c.loop-desk.invariant in
    let n : length c.push_reserved.new.self.items ≡ length c.loop-desk.staffed.items + 1 = ap length c.push_reserved.ensures.items ∙ length-append c.loop-desk.staffed.items _ in
    record {
      can_next = tt;
      finite = tt;
      moves = moves-more _ _ _ _ _ _ c.in-Some.desk (record { desk = c.in-Some.desk; clerk = c.hire-clerk.result }) i.moves c.in-Some.ensures.steps.0 c.push_reserved.ensures.items
          (refl, c.hire-clerk.ensures.clerk ∙ (λ k. record { desk = (i.writer k).made; seen = (i.writer k).all }));
      writer = c.hire-clerk.ensures.writer ∙ (λ k. record { made = (i.writer k).made + 1; all = (i.writer k).all }) ∙ (λ k. record { made = sym n k; all = [] });
      room = search rules;
    }
