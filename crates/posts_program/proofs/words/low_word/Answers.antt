use Rattle.posts_program.proofs.LowWords.{low-octets}
use Rattle.posts_program.proofs.words.low_word.Goals as goal

pub returns : goal.returns
returns c = low-octets c.args.count
