use Rattle.std.proofs.Common.{inl, inr, ⊎_elim, refl, sym, ap, subst, ◌∙◌, ◌≡◌, length}
use Rattle.book_seats.specs.Both.{BothOf}
use Rattle.server_command.specs.Through.{Begin}
use Rattle.server_desks.specs.Desks.{run_limit}
use Rattle.server_desks.proofs.DeskRuns.{fresh-small}
use Rattle.journal_gate.specs.Withheld.{journal_faults}
use Rattle.server_command.proofs.Disks.{carried}
use Rattle.server_command.proofs.Sides.{began-as, limits-as}
use Rattle.server_command.proofs.server.open_and_serve.Goals as goal

pub returns-in-Ok-clause-booked : goal.returns-in-Ok-clause-booked
returns-in-Ok-clause-booked g c = λ before counted.
    let limit : c.run_limit-connections.result ≡ run_limit c.args.options.connections (length c.args.desks.now.items) = c.run_limit-connections.ensures.value ∙ ap (run_limit c.args.options.connections) (c.len.ensures ∙ c.args.desks.now.ok.0) in
    ⊎_elim (λ none. inl none) (λ one. inr (began-as (λ both e. subst (λ (b : BothOf g.row.V.Denot). Begin c.args.options c.args.keys c.args.start c.args.program b) (sym e) (record { opened = c.in-Ok.ensures.opened; handed = refl }))
    (carried g.M.Disk.faults c.run_book-course.result.2 c.put_back.new.disk (journal_faults g.M.Disk.faults c.args.journal) before (λ some. counted (sym c.run_book-course.ensures.disk ∙ some)) c.put_back.ensures.some) c.requires.journaled limit one)) c.run_book-course.ensures.served

pub returns-in-Ok-clause-limits : goal.returns-in-Ok-clause-limits
returns-in-Ok-clause-limits g c = λ begun. limits-as c.in-Ok.book c.in-Ok.ensures.opened (c.run_book-course.ensures.limits begun)

pub returns-in-Err-clause-small : goal.returns-in-Err-clause-small
returns-in-Err-clause-small g c = fresh-small c.args.desks.now.items c.requires.fresh
