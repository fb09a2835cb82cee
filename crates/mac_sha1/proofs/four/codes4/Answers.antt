use Rattle.std.proofs.Common.{◌∙◌, arith, lit<}
use Rattle.lanes_sha1.proofs.LaneLemmas.{below_four}
use Rattle.mac_sha1.specs.Mac.{inner_pad, outer_pad}
use Rattle.mac_sha1.specs.Four.{octets_of}
use Rattle.mac_sha1.proofs.Pads.{length-pad, coded}
use Rattle.mac_sha1.proofs.four.codes4.Goals as goal

pub finish4_of_pieces-requires : goal.finish4_of_pieces-requires
finish4_of_pieces-requires c = record {
  before = below_four _ (lit< tt) (lit< tt) (lit< tt) (lit< tt);
  count = lit< tt;
  whole = λ j lt. omega arith;
  left =
      below_four _ (omega (arith, c.requires.first)) (omega (arith, c.requires.second))
      (omega (arith, c.requires.third)) (omega (arith, c.requires.fourth));
}

pub returns-clause-first : goal.returns-clause-first
returns-clause-first c = λ key ready.
    coded key (octets_of c.args.first.now) _ _
    (c.finish4_of_pieces.ensures 0 (lit< tt) (inner_pad key) (length-pad 0x36 key) (c.lanes_of-inner.ensures 0 (lit< tt) ∙ ready.inner))
    (c.finish4.ensures 0 (lit< tt) (outer_pad key) (length-pad 0x5c key) (c.lanes_of-outer.ensures 0 (lit< tt) ∙ ready.outer))

pub returns-clause-second : goal.returns-clause-second
returns-clause-second c = λ key ready.
    coded key (octets_of c.args.second.now) _ _
    (c.finish4_of_pieces.ensures 1 (lit< tt) (inner_pad key) (length-pad 0x36 key) (c.lanes_of-inner.ensures 1 (lit< tt) ∙ ready.inner))
    (c.finish4.ensures 1 (lit< tt) (outer_pad key) (length-pad 0x5c key) (c.lanes_of-outer.ensures 1 (lit< tt) ∙ ready.outer))

pub returns-clause-third : goal.returns-clause-third
returns-clause-third c = λ key ready.
    coded key (octets_of c.args.third.now) _ _
    (c.finish4_of_pieces.ensures 2 (lit< tt) (inner_pad key) (length-pad 0x36 key) (c.lanes_of-inner.ensures 2 (lit< tt) ∙ ready.inner))
    (c.finish4.ensures 2 (lit< tt) (outer_pad key) (length-pad 0x5c key) (c.lanes_of-outer.ensures 2 (lit< tt) ∙ ready.outer))

pub returns-clause-fourth : goal.returns-clause-fourth
returns-clause-fourth c = λ key ready.
    coded key (octets_of c.args.fourth.now) _ _
    (c.finish4_of_pieces.ensures 3 (lit< tt) (inner_pad key) (length-pad 0x36 key) (c.lanes_of-inner.ensures 3 (lit< tt) ∙ ready.inner))
    (c.finish4.ensures 3 (lit< tt) (outer_pad key) (length-pad 0x5c key) (c.lanes_of-outer.ensures 3 (lit< tt) ∙ ready.outer))
