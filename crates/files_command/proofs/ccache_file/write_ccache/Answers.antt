use Rattle.std.proofs.Common.{arith}
use Rattle.files_command.proofs.SpelledCcache.{ccache_whole, ccache_back}
use Rattle.files_command.proofs.ccache_file.write_ccache.Goals as goal

pub returns-clause-spelled : goal.returns-clause-spelled
returns-clause-spelled c = ccache_whole c.ccache_octets.result c.args.times c.args.credential.now (omega arith) c.ccache_octets.ensures.written c.ccache_octets.ensures.writable

pub returns-clause-found : goal.returns-clause-found
returns-clause-found c = ccache_back c.ccache_octets.result c.args.times c.args.credential.now (omega arith) c.ccache_octets.ensures.written c.ccache_octets.ensures.writable
