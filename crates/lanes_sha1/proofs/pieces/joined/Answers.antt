use Rattle.std.proofs.lemmas.List.{take_rest}
use Rattle.lanes_sha1.proofs.Joining.{joined_is}
use Rattle.lanes_sha1.proofs.pieces.joined.Goals as goal

pub returns-clause-octets : goal.returns-clause-octets
returns-clause-octets c =
    joined_is c.args.first.now c.args.second.now _ c.copy_from_slice.new.self c.copy_from_slice-2.new.self _ c.args.taken _
    (take_rest c.args.first.now c.args.taken) c.copy_from_slice.ensures.after c.copy_from_slice-2.ensures.after
