use Rattle.std.proofs.Common.{◌∙◌, ap, sym}
use Rattle.posts_program.specs.declared.posts.Posts.{Posts}
use Rattle.accept_book.specs.Booking.{BookOf}
use Rattle.pair_laws.specs.Posts.{posts_in}
use Rattle.drill_plan.specs.declared.generator.Generator.{Generator}
use Rattle.drill_command.proofs.Chained.{added-of}
use Rattle.drill_command.proofs.sessions.go_on.Goals as goal

pub returns-clause-added : goal.returns-clause-added
returns-clause-added g c =
    added-of _ _ _ _ _ _ c.in_ok-held.held.book.inner.seat _ _ _ c.in_ok-held.held.kept.items c.in_ok-held.held.session
    c.in_ok-course.ensures.book (c.in_ok-held.ensures.next c.in_ok-course.ensures.fed c.in_ok-course.ensures.remembered)
    (ap (λ (s : Generator). s.value) c.in_ok-course.ensures.server ∙ c.in_ok-held.ensures.server) c.in_ok-course.ensures.sessions

pub returns-clause-counted : goal.returns-clause-counted
returns-clause-counted g c =
    ap (λ (p : Posts). p.posts) c.in_ok-course.ensures.program ∙ (c.in_ok-held.ensures.counted ∙ sym (ap (λ (b : BookOf). posts_in b.core.history) c.in_ok-course.ensures.book))
