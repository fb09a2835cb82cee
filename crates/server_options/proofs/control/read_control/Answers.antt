use Rattle.std.proofs.Common.{sym}
use Rattle.server_options.proofs.Formed.{is-line}
use Rattle.server_options.proofs.control.read_control.Goals as goal

pub server_line-requires : goal.server_line-requires
server_line-requires c = rw (c.as_slice.ensures.value, c.in_ok-texts.ensures) (is-line c.args.words.now (sym c.in_ok-demand_form.ensures))
