use Rattle.std.proofs.Common.{arith, ◌∙◌, ap, sym, map, option_map, Some}
use Rattle.std.proofs.lemmas.List.{length-map}
use Rattle.std.proofs.lemmas.Option.{slice_get-get_or, slice_get-map}
use Rattle.spnego_core.specs.Ends.{PlainSetup, setup_of}
use Rattle.world_laws.specs.Setups.{IsSetup}
use Rattle.world_runs.proofs.Told.{one-more, each-one}
use Rattle.world_runs.proofs.setups.tell_setups.Goals as goal

pub loop-own-preserved : goal.loop-own-preserved
loop-own-preserved c =
    one-more (λ (own : PlainSetup). IsSetup own) (map setup_of c.args.facts.now) c.loop-own.own-index (setup_of c.own-item.result) c.loop-own.invariant
    (slice_get-map setup_of c.args.facts.now c.loop-own.own-index
    ∙ ap (option_map setup_of) (slice_get-get_or c.args.facts.now c.loop-own.own-index c.own-item.result c.loop-own-test.true ∙ ap (λ s. Some s) (sym c.own-item.is))) c.in_ok-tell_setup.ensures

pub returns : goal.returns
returns c =
    each-one (λ (own : PlainSetup). IsSetup own) (map setup_of c.args.facts.now) c.loop-own.own-index c.loop-own.invariant
    (length-map c.args.facts.now setup_of ∙ omega (arith, c.loop-own-test.false, c.loop-own.auto.own-index-end))
