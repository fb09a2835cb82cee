use Rattle.std.proofs.Common.{rules, ◌∙◌, ap, lit<}
use Rattle.mac_sha1.specs.Mac.{added}
use Rattle.lanes_sha1.proofs.LaneLemmas.{below_four}
use Rattle.mac_sha1.proofs.Pads.{after_pad}
use Rattle.mac_sha1.proofs.ready.MacKey.new.Goals as goal

pub compress4-requires : goal.compress4-requires
compress4-requires c =
    below_four _ (search rules) (search rules) (search rules) (search rules)

pub returns : goal.returns
returns c = record {
  inner =
      after_pad 0x36 c.args.key.now _ _ _ (c.add_each-inner.ensures ∙ ap (added 0x36) c.block_of-block.ensures) (c.first_states-states.ensures 0 (lit< tt))
      (c.lane_words.ensures ∙ c.compress4.ensures 0 (lit< tt));
  outer =
      after_pad 0x5c c.args.key.now _ _ _ (c.add_each-outer.ensures ∙ ap (added 0x5c) c.block_of-block.ensures) (c.first_states-states.ensures 1 (lit< tt))
      (c.lane_words-2.ensures ∙ c.compress4.ensures 1 (lit< tt));
}
