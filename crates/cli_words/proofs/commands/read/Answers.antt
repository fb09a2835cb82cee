use Rattle.std.proofs.Common.{◌≡◌, true, List, sym, subst}
use Rattle.clap.specs.Walk.{Row}
use Rattle.clap.specs.Simple.{app_of, built, is_simple, argument_words}
use Rattle.clap.specs.Takes.{built_takes}
use Rattle.clap.specs.Walk.{nothing_held}
use Rattle.clap.proofs.WalkLemmas.{both}
use Rattle.cli_base.specs.Words.{texts}
use Rattle.cli_words.specs.Line.{IsRead}
use Rattle.cli_words.proofs.commands.read.Goals as goal

pub invariant_of-result : goal.invariant_of-result
invariant_of-result c =
    let words = texts c.args.words.now in
    let simple : is_simple (app_of c.args.command) ≡ true = (both (is_simple (app_of c.args.command)) (built_takes (built (app_of c.args.command)) nothing_held (argument_words (app_of c.args.command) words)) c.requires.taken).0 in
    subst (λ (rows : List Row). IsRead rows words) (sym (c.in-Ok.ensures.matches simple).0) c.requires.found
