use Rattle.std.proofs.Common.{◌≡◌, ◌*◌, length, take}
use Rattle.sha1.specs.Sha1.{digest_bytes}
use Rattle.lanes_sha1.proofs.blocks.octets_of.Given as goal

abbrev pub invariant-words : goal.invariant-words
invariant-words l = (length l.octets ≡ 20) × (take (4 * l.i) l.octets ≡ digest_bytes l.h l.i)
