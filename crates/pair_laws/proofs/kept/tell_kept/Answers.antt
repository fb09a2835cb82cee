use Rattle.std.proofs.Common.{◌∙◌, ap, sym, arith, Some}
use Rattle.std.proofs.lemmas.Option.{slice_get-get_or}
use Rattle.accept_book.specs.Honest.{IsOctets}
use Rattle.gss_server.specs.declared.answer.Kept.{Kept}
use Rattle.pair_laws.proofs.Linked.{each-drawn}
use Rattle.pair_laws.proofs.Meetings.{one-more, each-one}
use Rattle.pair_laws.proofs.kept.tell_kept.Goals as goal

pub loop-one-preserved : goal.loop-one-preserved
loop-one-preserved c =
    one-more (λ (kept : Kept). IsOctets kept.draws) c.args.kept.now c.loop-one.one-index c.one-item.result c.loop-one.invariant
    (slice_get-get_or c.args.kept.now c.loop-one.one-index c.one-item.result c.loop-one-test.true ∙ ap Some (sym c.one-item.is)) c.tell_octets.ensures

pub returns : goal.returns
returns c =
    each-drawn c.args.kept.now (each-one (λ (kept : Kept). IsOctets kept.draws) c.args.kept.now c.loop-one.one-index c.loop-one.invariant (omega (arith, c.loop-one-test.false, c.loop-one.auto.one-index-end)))
