use Rattle.std.proofs.Common.{◌∙◌, ◌≤◌, true, false, sym, length, slice_get}
use Rattle.cli_base.specs.Words.{plain_of}
use Rattle.cli_words.proofs.Counting.{counts, some-of}
use Rattle.cli_words.proofs.line.Line.count_plain.Goals as goal

pub returns-then-is_some : goal.returns-then-is_some
returns-then-is_some c =
    let plain = plain_of c.args.self.now in
    let few : length plain ≤ 6 = rw c.self.view_is at c.self.invariant.few in
    let sixth = some-of c.plain.result (slice_get plain 5) true c.plain.ensures (sym c.is_some.ensures ∙ c.if-is_some.true) in
    rw sixth at (counts plain few)

pub returns-then-is_some-2 : goal.returns-then-is_some-2
returns-then-is_some-2 c =
    let plain = plain_of c.args.self.now in
    let few : length plain ≤ 6 = rw c.self.view_is at c.self.invariant.few in
    let sixth = some-of c.plain.result (slice_get plain 5) false c.plain.ensures (sym c.is_some.ensures ∙ c.if-is_some.false) in
    let fifth = some-of c.plain-2.result (slice_get plain 4) true c.plain-2.ensures (sym c.is_some-2.ensures ∙ c.if-is_some-2.true) in
    rw (sixth, fifth) at (counts plain few)

pub returns-then-is_some-3 : goal.returns-then-is_some-3
returns-then-is_some-3 c =
    let plain = plain_of c.args.self.now in
    let few : length plain ≤ 6 = rw c.self.view_is at c.self.invariant.few in
    let sixth = some-of c.plain.result (slice_get plain 5) false c.plain.ensures (sym c.is_some.ensures ∙ c.if-is_some.false) in
    let fifth = some-of c.plain-2.result (slice_get plain 4) false c.plain-2.ensures (sym c.is_some-2.ensures ∙ c.if-is_some-2.false) in
    let fourth = some-of c.plain-3.result (slice_get plain 3) true c.plain-3.ensures (sym c.is_some-3.ensures ∙ c.if-is_some-3.true) in
    rw (sixth, fifth, fourth) at (counts plain few)

pub returns-then-is_some-4 : goal.returns-then-is_some-4
returns-then-is_some-4 c =
    let plain = plain_of c.args.self.now in
    let few : length plain ≤ 6 = rw c.self.view_is at c.self.invariant.few in
    let sixth = some-of c.plain.result (slice_get plain 5) false c.plain.ensures (sym c.is_some.ensures ∙ c.if-is_some.false) in
    let fifth = some-of c.plain-2.result (slice_get plain 4) false c.plain-2.ensures (sym c.is_some-2.ensures ∙ c.if-is_some-2.false) in
    let fourth = some-of c.plain-3.result (slice_get plain 3) false c.plain-3.ensures (sym c.is_some-3.ensures ∙ c.if-is_some-3.false) in
    let third = some-of c.plain-4.result (slice_get plain 2) true c.plain-4.ensures (sym c.is_some-4.ensures ∙ c.if-is_some-4.true) in
    rw (sixth, fifth, fourth, third) at (counts plain few)

pub returns-then-is_some-5 : goal.returns-then-is_some-5
returns-then-is_some-5 c =
    let plain = plain_of c.args.self.now in
    let few : length plain ≤ 6 = rw c.self.view_is at c.self.invariant.few in
    let sixth = some-of c.plain.result (slice_get plain 5) false c.plain.ensures (sym c.is_some.ensures ∙ c.if-is_some.false) in
    let fifth = some-of c.plain-2.result (slice_get plain 4) false c.plain-2.ensures (sym c.is_some-2.ensures ∙ c.if-is_some-2.false) in
    let fourth = some-of c.plain-3.result (slice_get plain 3) false c.plain-3.ensures (sym c.is_some-3.ensures ∙ c.if-is_some-3.false) in
    let third = some-of c.plain-4.result (slice_get plain 2) false c.plain-4.ensures (sym c.is_some-4.ensures ∙ c.if-is_some-4.false) in
    let second = some-of c.plain-5.result (slice_get plain 1) true c.plain-5.ensures (sym c.is_some-5.ensures ∙ c.if-is_some-5.true) in
    rw (sixth, fifth, fourth, third, second) at (counts plain few)

pub returns-then-is_some-6 : goal.returns-then-is_some-6
returns-then-is_some-6 c =
    let plain = plain_of c.args.self.now in
    let few : length plain ≤ 6 = rw c.self.view_is at c.self.invariant.few in
    let sixth = some-of c.plain.result (slice_get plain 5) false c.plain.ensures (sym c.is_some.ensures ∙ c.if-is_some.false) in
    let fifth = some-of c.plain-2.result (slice_get plain 4) false c.plain-2.ensures (sym c.is_some-2.ensures ∙ c.if-is_some-2.false) in
    let fourth = some-of c.plain-3.result (slice_get plain 3) false c.plain-3.ensures (sym c.is_some-3.ensures ∙ c.if-is_some-3.false) in
    let third = some-of c.plain-4.result (slice_get plain 2) false c.plain-4.ensures (sym c.is_some-4.ensures ∙ c.if-is_some-4.false) in
    let second = some-of c.plain-5.result (slice_get plain 1) false c.plain-5.ensures (sym c.is_some-5.ensures ∙ c.if-is_some-5.false) in
    let first = some-of c.plain-6.result (slice_get plain 0) true c.plain-6.ensures (sym c.is_some-6.ensures ∙ c.if-is_some-6.true) in
    rw (sixth, fifth, fourth, third, second, first) at (counts plain few)

pub returns : goal.returns
returns c =
    let plain = plain_of c.args.self.now in
    let few : length plain ≤ 6 = rw c.self.view_is at c.self.invariant.few in
    let sixth = some-of c.plain.result (slice_get plain 5) false c.plain.ensures (sym c.is_some.ensures ∙ c.if-is_some.false) in
    let fifth = some-of c.plain-2.result (slice_get plain 4) false c.plain-2.ensures (sym c.is_some-2.ensures ∙ c.if-is_some-2.false) in
    let fourth = some-of c.plain-3.result (slice_get plain 3) false c.plain-3.ensures (sym c.is_some-3.ensures ∙ c.if-is_some-3.false) in
    let third = some-of c.plain-4.result (slice_get plain 2) false c.plain-4.ensures (sym c.is_some-4.ensures ∙ c.if-is_some-4.false) in
    let second = some-of c.plain-5.result (slice_get plain 1) false c.plain-5.ensures (sym c.is_some-5.ensures ∙ c.if-is_some-5.false) in
    let first = some-of c.plain-6.result (slice_get plain 0) false c.plain-6.ensures (sym c.is_some-6.ensures ∙ c.if-is_some-6.false) in
    rw (sixth, fifth, fourth, third, second, first) at (counts plain few)
