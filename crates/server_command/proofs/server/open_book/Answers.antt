use Rattle.std.proofs.Common.{rules}
use Rattle.server_command.proofs.server.open_book.Goals as goal

pub returns : goal.returns
returns c = search rules
