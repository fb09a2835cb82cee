use Rattle.server_options.specs.Options.{options_in}
use Rattle.server_options.proofs.Numbers.{words-given, ok-of, err-of, ranged}
use Rattle.server_options.proofs.options.options_in.Goals as goal

pub returns-in-Ok-clause-value : goal.returns-in-Ok-clause-value
returns-in-Ok-clause-value c =
    ok-of c.both-2.result (options_in c.args.line.now) c.in-Ok.parts c.options_by.result
    (words-given c.args.line.now c.files_given.result c.name_given.result c.bindings_given.result c.offer_given.result c.numbers_given.result c.both-keys.result c.both-offered.result c.both.result c.both-2.result c.files_given.ensures c.name_given.ensures c.bindings_given.ensures c.offer_given.ensures c.numbers_given.ensures.value c.both-keys.ensures c.both-offered.ensures c.both.ensures c.both-2.ensures)
    c.in-Ok.is c.options_by.ensures

pub returns-in-Ok-clause-range : goal.returns-in-Ok-clause-range
returns-in-Ok-clause-range c =
    ranged c.both.result c.numbers_given.result c.both-2.result c.in-Ok.parts c.options_by.result c.both-2.ensures c.in-Ok.is c.numbers_given.ensures.range c.options_by.ensures

pub returns-in-Err-clause-value : goal.returns-in-Err-clause-value
returns-in-Err-clause-value c =
    err-of c.both-2.result (options_in c.args.line.now) c.in-Err.refusal
    (words-given c.args.line.now c.files_given.result c.name_given.result c.bindings_given.result c.offer_given.result c.numbers_given.result c.both-keys.result c.both-offered.result c.both.result c.both-2.result c.files_given.ensures c.name_given.ensures c.bindings_given.ensures c.offer_given.ensures c.numbers_given.ensures.value c.both-keys.ensures c.both-offered.ensures c.both.ensures c.both-2.ensures)
    c.in-Err.is
