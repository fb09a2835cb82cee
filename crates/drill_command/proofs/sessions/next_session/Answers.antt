use Rattle.std.proofs.Common.{ℕ, ap, refl, sym, ◌∙◌}
use Rattle.gss_client.specs.Conferring.{calls_of}
use Rattle.posts_client.specs.Procedure.{query_of}
use Rattle.gss_client.specs.Start.{StartSays, objects_start}
use Rattle.drill_plan.specs.Generator.{octets_from}
use Rattle.drill_plan.specs.declared.generator.Generator.{Generator}
use Rattle.drill_plan.specs.Setting.{drill_start}
use Rattle.drill_command.proofs.Rested.{next-of, pairs-of}
use Rattle.drill_command.proofs.sessions.next_session.Goals as goal

pub returns-in-Ok-prove_paired-clause-next : goal.returns-in-Ok-prove_paired-clause-next
returns-in-Ok-prove_paired-clause-next g c = λ fed client.
    let h = c.in_ok-held.held in
    let e = c.in_ok-held.ensures in
    let now = c.moment_of-now.ensures in
    let draws = octets_from 66 c.args.generators.now.client.value in
    let start : StartSays = drill_start c.args.number c.moment_of-now.result draws in
    let same = c.in-Ok.ensures.start ∙ ap (λ (m : ℕ). objects_start (drill_start c.args.number m draws)) (sym now) in
    next-of c.args.number c.args.count _ c.moment_of-now.result _ c.args.generators.now.server.value _ _ start (calls_of query_of c.as_slice.result.now) c.args.book.inner.seat h.book.inner.seat h.kept.items h.session
    c.requires.number c.requires.limits now refl refl refl (ap (calls_of query_of) c.as_slice.ensures.value ∙ c.in-Ok.ensures.calls)
    (pairs-of c.args.number c.moment_of-now.result _ start c.as_slice-2.result.now h.kept.items now refl e.moments e.octets c.as_slice-2.ensures.value c.in-Ok-prove_paired.ensures)
    c.in-Ok.ensures.client (ap (λ (s : Generator). s.value) c.due_of.ensures.server) (e.fed start same fed c.requires.counted)
    (λ tokens kind before fits. e.rests start same fed client tokens kind before fits c.requires.counted)

pub returns-in-Ok-prove_paired-clause-counted : goal.returns-in-Ok-prove_paired-clause-counted
returns-in-Ok-prove_paired-clause-counted g c = c.in_ok-held.ensures.counted c.requires.counted
