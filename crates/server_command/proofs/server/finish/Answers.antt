use Rattle.std.proofs.Common.{List, [], ℕ, sym, subst}
use Rattle.cli_base.specs.Lines.{Says}
use Rattle.server_options.proofs.StatusLines.{end-line}
use Rattle.server_command.proofs.server.finish.Goals as goal

pub returns-clause-said : goal.returns-clause-said
returns-clause-said g c = λ t names.
    rw (sym c.count_connections.ensures) (rw (sym c.count_records.ensures) (rw (sym c.len.ensures.count) (rw (sym c.digest.ensures)
    (subst (λ (line : List ℕ). Says (g.O.Sink.written c.args.err.now) (g.O.Sink.written c.say_end-status.new.err) c.say_end-status.result line)
    (end-line c.args.course.end (record { keytab = []; verifiers = []; journal = []; own = [] }) names _ c.requires.begun) (c.say_end-status.ensures.said t)))))
