use Rattle.std.proofs.Common.{refl}
use Rattle.aes_cts.specs.State.{state_from}
use Rattle.aes_cts.specs.Words.{state_of}
use Rattle.aes_cts.proofs.columns.state_words.Goals as goal

pub returns : goal.returns
unfolding state_of state_from
returns c = rw (c.word_at.ensures, c.word_at-2.ensures, c.word_at-3.ensures, c.word_at-4.ensures) refl
