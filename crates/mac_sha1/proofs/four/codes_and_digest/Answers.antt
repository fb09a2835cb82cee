use Rattle.std.proofs.Common.{◌∙◌, ap, arith, lit<, refl, []}
use Rattle.std.proofs.lemmas.List.{append-nil}
use Rattle.sha1.specs.Sha1.{hash_after, sha1}
use Rattle.lanes_sha1.proofs.LaneLemmas.{below_four}
use Rattle.mac_sha1.specs.Mac.{inner_pad, outer_pad}
use Rattle.mac_sha1.specs.Four.{octets_of}
use Rattle.mac_sha1.proofs.Pads.{length-pad, coded}
use Rattle.mac_sha1.proofs.four.codes_and_digest.Goals as goal

pub finish4_of_pieces-requires : goal.finish4_of_pieces-requires
finish4_of_pieces-requires c =
    let first = c.requires.first in
    let second = c.requires.second in
    record {
      before = below_four _ (lit< tt) (lit< tt) (lit< tt) (lit< tt);
      count = omega arith;
      whole = below_four _ (omega (arith, first.least)) (omega (arith, second.least)) (omega arith) (omega arith);
      left = below_four _ (omega (arith, first.most)) (omega (arith, second.most)) (omega arith) (omega arith);
    }

pub returns-clause-first : goal.returns-clause-first
returns-clause-first c = λ key ready.
    coded key (octets_of c.args.first.now) _ _
    (c.finish4_of_pieces.ensures 0 (lit< tt) (inner_pad key) (length-pad 0x36 key) (c.lanes_of-inner.ensures 0 (lit< tt) ∙ ready.inner))
    (c.finish4.ensures 0 (lit< tt) (outer_pad key) (length-pad 0x5c key) (c.lanes_of-outer.ensures 0 (lit< tt) ∙ ready.outer))

pub returns-clause-second : goal.returns-clause-second
returns-clause-second c = λ key ready.
    coded key (octets_of c.args.second.now) _ _
    (c.finish4_of_pieces.ensures 1 (lit< tt) (inner_pad key) (length-pad 0x36 key) (c.lanes_of-inner.ensures 1 (lit< tt) ∙ ready.inner))
    (c.finish4.ensures 1 (lit< tt) (outer_pad key) (length-pad 0x5c key) (c.lanes_of-outer.ensures 1 (lit< tt) ∙ ready.outer))

pub returns-clause-digest : goal.returns-clause-digest
unfolding hash_after
returns-clause-digest c =
    let start = c.lane_words-none.ensures ∙ c.first_states.ensures 0 (lit< tt) in
    c.finish4_of_pieces.ensures 2 (lit< tt) [] refl (c.lanes_of-inner.ensures 2 (lit< tt) ∙ start)
    ∙ ap sha1 (append-nil c.args.message.now)
