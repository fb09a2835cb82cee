use Rattle.std.proofs.Common.{◌∙◌, ◌≤◌, sym, arith, codes, length}
use Rattle.clap.specs.Matches.{found_of}
use Rattle.clap.proofs.WalkLemmas.{first_value-rows}
use Rattle.cli_base.specs.Words.{plain_of}
use Rattle.cli_words.proofs.Counting.{past}
use Rattle.cli_words.proofs.line.Line.plain.Goals as goal

pub returns-in-0 : goal.returns-in-0
returns-in-0 c = rw (c.in-0.is, ← c.self.view_is) (c.get_str.ensures ∙ (first_value-rows (found_of c.self.inside.matches) (codes "address") ∙ c.self.invariant.address))

pub returns-in-1 : goal.returns-in-1
returns-in-1 c = rw (c.in-1.is, ← c.self.view_is) (c.get_str-in-1.ensures ∙ (first_value-rows (found_of c.self.inside.matches) (codes "command") ∙ c.self.invariant.command))

pub returns-in-2 : goal.returns-in-2
returns-in-2 c = rw (c.in-2.is, ← c.self.view_is) (c.get_str-in-2.ensures ∙ (first_value-rows (found_of c.self.inside.matches) (codes "argument") ∙ c.self.invariant.argument))

pub returns-in-3 : goal.returns-in-3
returns-in-3 c = rw (c.in-3.is, ← c.self.view_is) (c.get_str-in-3.ensures ∙ (first_value-rows (found_of c.self.inside.matches) (codes "second") ∙ c.self.invariant.second))

pub returns-in-4 : goal.returns-in-4
returns-in-4 c = rw (c.in-4.is, ← c.self.view_is) (c.get_str-in-4.ensures ∙ (first_value-rows (found_of c.self.inside.matches) (codes "third") ∙ c.self.invariant.third))

pub returns-in-5 : goal.returns-in-5
returns-in-5 c = rw (c.in-5.is, ← c.self.view_is) (c.get_str-in-5.ensures ∙ (first_value-rows (found_of c.self.inside.matches) (codes "fourth") ∙ c.self.invariant.fourth))

pub returns-in_default : goal.returns-in_default
returns-in_default c =
    let few : length (plain_of c.args.self.now) ≤ 6 = rw c.self.view_is at c.self.invariant.few in
    sym (past (plain_of c.args.self.now) c.args.number (omega (arith, few)))
