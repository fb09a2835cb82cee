use Rattle.std.proofs.Common.{length}
use Rattle.krb_derive.proofs.Codes.{checksum_by, beside_by}
use Rattle.krb_derive.proofs.side_by_side.checksums_and_digest.Goals as goal

pub codes_and_digest-requires : goal.codes_and_digest-requires
codes_and_digest-requires c = record {
  size = c.requires.size;
  first = beside_by (length c.args.message.now) c.code_for.result c.args.first.now c.code_for.ensures c.requires.first;
  second = beside_by (length c.args.message.now) c.code_for-2.result c.args.second.now c.code_for-2.ensures c.requires.second;
}

pub returns-clause-first : goal.returns-clause-first
returns-clause-first c =
    checksum_by c.code_for.result c.args.first.now _ _ c.code_for.ensures c.codes_and_digest.ensures.first c.tag_of.ensures

pub returns-clause-second : goal.returns-clause-second
returns-clause-second c =
    checksum_by c.code_for-2.result c.args.second.now _ _ c.code_for-2.ensures c.codes_and_digest.ensures.second c.tag_of-2.ensures
