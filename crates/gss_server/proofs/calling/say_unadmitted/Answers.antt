use Rattle.std.proofs.Common.{rules}
use Rattle.gss_server.proofs.calling.say_unadmitted.Goals as goal

pub returns-in-Repeat : goal.returns-in-Repeat
returns-in-Repeat g c = search rules
