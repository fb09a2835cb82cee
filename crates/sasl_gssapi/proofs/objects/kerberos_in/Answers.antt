use Rattle.std.proofs.Common.{rules}
use Rattle.sasl_gssapi.proofs.objects.kerberos_in.Goals as goal

pub loop-object-preserved : goal.loop-object-preserved
loop-object-preserved g c = search rules

pub returns-then-found-clause-exact : goal.returns-then-found-clause-exact
returns-then-found-clause-exact g c = search rules
