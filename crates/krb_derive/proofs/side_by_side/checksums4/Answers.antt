use Rattle.krb_derive.proofs.Codes.{checksum_by, short_by}
use Rattle.krb_derive.proofs.side_by_side.checksums4.Goals as goal

pub codes4-requires : goal.codes4-requires
codes4-requires c = record {
  first = short_by c.code_for.result c.args.first.now c.code_for.ensures c.requires.first;
  second = short_by c.code_for-2.result c.args.second.now c.code_for-2.ensures c.requires.second;
  third = short_by c.code_for-3.result c.args.third.now c.code_for-3.ensures c.requires.third;
  fourth = short_by c.code_for-4.result c.args.fourth.now c.code_for-4.ensures c.requires.fourth;
}

pub returns-clause-first : goal.returns-clause-first
returns-clause-first c =
    checksum_by c.code_for.result c.args.first.now _ _ c.code_for.ensures c.codes4.ensures.first c.tag_of.ensures

pub returns-clause-second : goal.returns-clause-second
returns-clause-second c =
    checksum_by c.code_for-2.result c.args.second.now _ _ c.code_for-2.ensures c.codes4.ensures.second c.tag_of-2.ensures

pub returns-clause-third : goal.returns-clause-third
returns-clause-third c =
    checksum_by c.code_for-3.result c.args.third.now _ _ c.code_for-3.ensures c.codes4.ensures.third c.tag_of-3.ensures

pub returns-clause-fourth : goal.returns-clause-fourth
returns-clause-fourth c =
    checksum_by c.code_for-4.result c.args.fourth.now _ _ c.code_for-4.ensures c.codes4.ensures.fourth c.tag_of-4.ensures
