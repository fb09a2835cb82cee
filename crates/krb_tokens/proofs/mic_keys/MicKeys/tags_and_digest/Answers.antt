use Rattle.std.proofs.Common.{length}
use Rattle.krb_tokens.proofs.Sums.{beside_by, tag_by}
use Rattle.krb_tokens.proofs.mic_keys.MicKeys.tags_and_digest.Goals as goal

pub checksums_and_digest-requires : goal.checksums_and_digest-requires
checksums_and_digest-requires c = record {
  size = c.requires.size;
  first = beside_by c.args.self.now.end.key c.args.first.now c.check_for.result (length c.args.octets.now) c.check_for.ensures c.requires.first;
  second = beside_by c.args.self.now.end.key c.args.second.now c.check_for-2.result (length c.args.octets.now) c.check_for-2.ensures c.requires.second;
}

pub returns-clause-first : goal.returns-clause-first
returns-clause-first c =
    tag_by c.args.self.now.end.key c.args.first.now c.check_for.result _ c.check_for.ensures c.checksums_and_digest.ensures.first

pub returns-clause-second : goal.returns-clause-second
returns-clause-second c =
    tag_by c.args.self.now.end.key c.args.second.now c.check_for-2.result _ c.check_for-2.ensures c.checksums_and_digest.ensures.second
