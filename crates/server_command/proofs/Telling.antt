-- The one history is told by the log.
use Rattle.std.proofs.Common.{◌∙◌, ℕ, List, length, reverse, sym, subst}
use Rattle.sec_base.specs.declared.port.Port as ports
use Rattle.sec_base.specs.declared.link.Link as links
use Rattle.sec_base.specs.declared.clock.Clock as clocks
use Rattle.sec_base.specs.declared.draw.Draw as draws
use Rattle.rpc_program.specs.declared.program.Program as programs
use Rattle.rpc_program.specs.declared.program.Speller as spellers
use Rattle.accept_core.specs.Entering.{gained}
use Rattle.accept_core.specs.Legal.{Legal}
use Rattle.accept_core.specs.Logs.{LogOf}
use Rattle.accept_core.specs.declared.entry.Entry.{Entry}
use Rattle.gss_server.specs.Telling.{limits_of}
use Rattle.gss_server.specs.declared.answer.Kept.{Kept}
use Rattle.gss_server.specs.declared.connection.Served.{Served}
use Rattle.gss_server.specs.declared.keeper.Keeper as keepers
use Rattle.book_seats.specs.Notes.{noted_in, questions_of}
use Rattle.book_seats.proofs.Books.{books-asked}
use Rattle.history_laws.specs.Seen.{AllSeen, IsEmpty}
use Rattle.history_laws.proofs.Chain.{seen-law}
use Rattle.history_laws.proofs.InPlace.{in-place}
use Rattle.server_command.specs.Through.{OneHistory}
use Rattle.server_command.specs.Told.{ToldByLog}
use Rattle.server_command.proofs.Lending.{lent}
use Rattle.server_desks.specs.declared.desk.Desk.{Desk}
use Rattle.server_options.specs.declared.ending.RunEnd.{RunEnd}
use Rattle.server_options.specs.declared.keys.Keys.{Keys}
use Rattle.server_options.specs.declared.options.Options.{Options}

pub told : {V P C D K M T W L Q R : Type 0} (served : programs.Ghosts V T) (spelling : spellers.Ghosts W T) (options : Options) (keys : Keys) (start faults faults' : ℕ) (port : ports.Ghosts P L) (link : links.Ghosts L) (clock : clocks.Ghosts C) (draw : draws.Ghosts D)
    (keeper : keepers.Ghosts K Kept Q) (kept : keepers.Ghosts M (Served L) R) (olds : List (Desk P C D K M W)) (before : V) (end : RunEnd) (news : List (Desk P C D K M W)) (after : V) (log : LogOf)
    → OneHistory served spelling options keys start faults faults' port link clock draw keeper kept olds before end news after log → Legal log.width (reverse log.entries)
    → ToldByLog served spelling options keys start faults faults' port link clock draw keeper kept olds before end news after log
told served spelling options keys start faults faults' port link clock draw keeper kept olds before end news after log one legal =
    let asked = questions_of one.all in
    let opened = one.opened.opened in
    let chain = books-asked served (noted_in one.all) one.first one.last one.chain in
    let empty : IsEmpty one.first.book = record { history = opened.history; slots = opened.empty } in
    let last : Legal one.last.book.core.width one.last.book.core.history =
    subst (λ (w : ℕ). Legal w one.last.book.core.history) one.closed.width (subst (λ (h : List Entry). Legal log.width h) one.closed.entries legal) in
    record {
      history = one;
      legal = legal;
      in_place = in-place asked one.first.book one.last.book chain ∙ (λ i. gained (length (opened.history i)) (sym one.closed.entries i));
      seen = subst (λ (n : ℕ). AllSeen one.first.book.setup (limits_of one.first.book.core) n asked) opened.greatest
          (seen-law one.first.book one.last.book asked empty chain last);
      lent = lent served spelling options keys start faults faults' port link clock draw keeper kept olds before end news after log one;
    }
