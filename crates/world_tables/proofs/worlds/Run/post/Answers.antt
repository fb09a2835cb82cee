use Rattle.std.proofs.Common.{refl}
use Rattle.rpc_msgs.specs.Opaque.{opaque_alone}
use Rattle.rpc_msgs.specs.Xdr.{octets_at, word_at, zeros_in, opaque_at, end_at}
use Rattle.world_tables.proofs.worlds.Run.post.Goals as goal

pub call-requires-clause-own : goal.call-requires-clause-own
unfolding opaque_alone octets_at word_at zeros_in opaque_at end_at
call-requires-clause-own g c = refl
