use Rattle.std.proofs.Common.{◌+◌, ◌-◌, ◌++◌, ◌≤◌, ◌≡◌, ◌∙◌, ap, ℕ, List, length, take, vec_len, arith}
use Rattle.std.proofs.lemmas.Grind.{common_steps}
use Rattle.sec_base.proofs.ContentSteps.{piece-filled, read-behind}
use Rattle.sec_base.proofs.transfer.fill_from.Goals as goal

pub returns-in-Ok-clause-told : goal.returns-in-Ok-clause-told
returns-in-Ok-clause-told g c =
    let octets = c.args.octets.now in
    let was = c.deref_mut.result.now in
    let buffer = c.fill.new.buf in
    let size : length buffer ≡ vec_len octets - c.args.at = grind (arith, common_steps) in
    let fits : c.in-Ok.count ≤ length buffer = grind (arith, common_steps, c.in-Ok.ensures.count, c.fill.auto.buf) in
    let within : c.args.at ≤ length was = omega (arith, c.requires.within, c.deref_mut.ensures.len) in
    let room : c.args.at + length buffer ≤ vec_len octets = omega (arith, size, c.requires.within) in
    piece-filled (g.L.Link.tells c.args.link.now) (g.L.Link.wire c.args.link.now) (g.L.Link.wire c.fill.new.link) (take c.args.at octets.items) c.truncate.new.self.items buffer c.in-Ok.count (vec_len octets - c.args.at) size fits
    (c.truncate.ensures.items ∙ (read-behind was buffer _ _ c.args.at c.in-Ok.count (vec_len octets) within fits room ∙ ap (λ (zs : List ℕ). take c.args.at zs ++ take c.in-Ok.count buffer) c.deref_mut.ensures.value))
    c.in-Ok.ensures.told

-- what the link keeps, by what was called last
pub returns-in-Ok-clause-tells : goal.returns-in-Ok-clause-tells
returns-in-Ok-clause-tells g c = c.in-Ok.ensures.tells

pub returns-in-Ok-clause-unclosed : goal.returns-in-Ok-clause-unclosed
returns-in-Ok-clause-unclosed g c = c.in-Ok.ensures.unclosed

pub returns-in-Ok-clause-faults : goal.returns-in-Ok-clause-faults
returns-in-Ok-clause-faults g c = c.in-Ok.ensures.faults

pub returns-in-Err-clause-tells : goal.returns-in-Err-clause-tells
returns-in-Err-clause-tells g c = c.in-Err.ensures.tells

pub returns-in-Err-clause-unclosed : goal.returns-in-Err-clause-unclosed
returns-in-Err-clause-unclosed g c = c.in-Err.ensures.unclosed

pub returns-in-Err-clause-faults : goal.returns-in-Err-clause-faults
returns-in-Err-clause-faults g c = c.in-Err.ensures.faults

-- what stays of the octets
pub returns-in-Ok-clause-size : goal.returns-in-Ok-clause-size
returns-in-Ok-clause-size g c =
    let octets = c.args.octets.now in
    let buffer = c.fill.new.buf in
    let size : length buffer ≡ vec_len octets - c.args.at = grind (arith, common_steps) in
    let fits : c.in-Ok.count ≤ length buffer = grind (arith, common_steps, c.in-Ok.ensures.count, c.fill.auto.buf) in
    let within : c.args.at + c.in-Ok.count ≤ vec_len octets = omega (arith, size, fits, c.requires.within) in
    (within, omega (arith, within, c.truncate.ensures.len))
