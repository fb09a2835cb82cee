use Rattle.krb_tokens.proofs.Sums.{short_by, tag_by}
use Rattle.krb_tokens.proofs.mic_keys.MicKeys.tags4.Goals as goal

pub checksums4-requires : goal.checksums4-requires
checksums4-requires c = record {
  first = short_by c.args.self.now.end.key c.args.first.now c.check_for.result c.check_for.ensures c.requires.first;
  second = short_by c.args.self.now.end.key c.args.second.now c.check_for-2.result c.check_for-2.ensures c.requires.second;
  third = short_by c.args.self.now.end.key c.args.third.now c.check_for-3.result c.check_for-3.ensures c.requires.third;
  fourth = short_by c.args.self.now.end.key c.args.fourth.now c.check_for-4.result c.check_for-4.ensures c.requires.fourth;
}

pub returns-clause-first : goal.returns-clause-first
returns-clause-first c =
    tag_by c.args.self.now.end.key c.args.first.now c.check_for.result _ c.check_for.ensures c.checksums4.ensures.first

pub returns-clause-second : goal.returns-clause-second
returns-clause-second c =
    tag_by c.args.self.now.end.key c.args.second.now c.check_for-2.result _ c.check_for-2.ensures c.checksums4.ensures.second

pub returns-clause-third : goal.returns-clause-third
returns-clause-third c =
    tag_by c.args.self.now.end.key c.args.third.now c.check_for-3.result _ c.check_for-3.ensures c.checksums4.ensures.third

pub returns-clause-fourth : goal.returns-clause-fourth
returns-clause-fourth c =
    tag_by c.args.self.now.end.key c.args.fourth.now c.check_for-4.result _ c.check_for-4.ensures c.checksums4.ensures.fourth
