use Rattle.std.proofs.Common.{◌∙◌, sym, ap, arith}
use Rattle.std.proofs.lemmas.Str.Pattern.{strip_suffix_char}
use Rattle.std.proofs.Common.{Some, None}
use Rattle.client_command.specs.Credentials.{less_feed}
use Rattle.client_command.proofs.Password.{fed, unfed}
use Rattle.client_command.proofs.files.less_feed.Goals as goal

pub returns-in-Some : goal.returns-in-Some
returns-in-Some c =
    let split = strip_suffix_char 10 c.args.text.now (Some c.in-Some.front) c.in-Some.ensures.cases (omega arith) in
    sym (ap less_feed split ∙ fed c.in-Some.front.now)

pub returns-in-None : goal.returns-in-None
returns-in-None c = sym (unfed c.args.text.now (strip_suffix_char 10 c.args.text.now None c.in-None.ensures.cases (omega arith)))
