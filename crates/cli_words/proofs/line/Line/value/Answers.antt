use Rattle.std.proofs.Common.{◌∙◌, ℕ, List, ap}
use Rattle.clap.specs.Matches.{found_of}
use Rattle.clap.proofs.WalkLemmas.{first_value-rows}
use Rattle.cli_base.specs.Words.{value_of}
use Rattle.cli_words.proofs.line.Line.value.Goals as goal

pub returns : goal.returns
returns c =
    c.get_str.ensures ∙ (first_value-rows (found_of c.self.inside.matches) c.args.name.now ∙ (c.self.invariant.values c.args.name.now c.requires ∙ ap (λ (words : List (List ℕ)). value_of c.args.name.now words) c.self.view_is))
