use Rattle.std.proofs.Common.{◌∙◌, sym}
use Rattle.client_options.proofs.Refused.{words-refused}
use Rattle.client_options.proofs.words.read_words.Goals as goal

pub returns-else-is_line-clause-value : goal.returns-else-is_line-clause-value
returns-else-is_line-clause-value c = λ _. words-refused c.args.words.now (sym c.is_line.ensures ∙ c.if-is_line.false)
