use Rattle.krb_files.specs.Ccache.{ccache_of}
use Rattle.krb_files.specs.CcacheGrammar.{SpellsCcache}
use Rattle.krb_files.proofs.WholeLaws.{reads_whole}
use Rattle.krb_files.proofs.CcacheLaws.{ccache_found, ccache_only}
use Rattle.krb_files.proofs.ccache.read_ccache.Goals as goal

pub returns-clause-spelled : goal.returns-clause-spelled
returns-clause-spelled c =
    reads_whole (λ k. k) SpellsCcache c.args.bytes.now c.ccache_in.result (ccache_of c.args.bytes.now)
    (λ v e. ccache_found c.args.bytes.now v e) (λ v spelled. ccache_only c.args.bytes.now v spelled) c.ccache_in.ensures
