use Rattle.std.proofs.Common.{◌∙◌, [], Ok, sym, ap, rules}
use Rattle.client_options.proofs.Naming.{next-name, no-name, all-names}
use Rattle.client_options.proofs.mechs.mechs_named.Goals as goal

pub loop-word-preserved : goal.loop-word-preserved
loop-word-preserved c =
    next-name c.args.words.now c.loop-word.word-index (record { ref_ptr = (0, 0); now = [] }) c.loop-word.list.items
    c.loop-word-test.true (sym c.mech_named.ensures ∙ c.in_ok-name.was) c.in-Ok.ensures.items c.loop-word.invariant

pub returns : goal.returns
returns c = all-names c.args.words.now c.loop-word.word-index c.loop-word.list.items c.loop-word-test.false c.loop-word.invariant ∙ ap Ok (sym c.of.ensures)

pub returns-in_err-name : goal.returns-in_err-name
returns-in_err-name c =
    let due = no-name c.args.words.now c.loop-word.word-index (record { ref_ptr = (0, 0); now = [] }) c.loop-word.list.items c.loop-word-test.true (sym c.mech_named.ensures ∙ c.in_err-name.was) c.loop-word.invariant in
    search rules
