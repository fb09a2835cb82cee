use Rattle.pair_laws.proofs.Resting.{rests-begin, rests-on, rests-give, rests-open, rests-again, marks-give}
use Rattle.pair_laws.proofs.laws.prove_rests.Goals as goal

pub returns : goal.returns
returns c = record {
  begins = rests-begin;
  stays = rests-on;
  gives = rests-give;
  opens = rests-open;
  ends = rests-again;
  marks_give = marks-give;
}
